-- `shift::records::put_record` meets its contract: its head, the words that stand once, its entries, one behind the other.
use mathlib.Core.Path.{◌∙◌}
use Rattle.shift.proofs.RaisedRecords.{head-ask, once-ask, entries-ask, record-put}
use Rattle.shift.proofs.records.put_record.Goals as goal

pub raise_head-requires : goal.raise_head-requires
raise_head-requires c = head-ask c.requires c.read-info.ensures c.kind_of-kind.ensures

pub raise_group-requires : goal.raise_group-requires
raise_group-requires c =
    once-ask c.requires c.read-info.ensures c.kind_of-kind.ensures c.once_of-once.ensures
    c.raise_head.auto.out

pub raise_entries-requires : goal.raise_entries-requires
raise_entries-requires c =
    entries-ask c.requires c.read-info.ensures c.kind_of-kind.ensures c.once_of-once.ensures
    c.entry_of-entry.ensures c.vlen_of-v.ensures
    (c.raise_group.auto.out ∙ c.raise_head.auto.out)

pub returns : goal.returns
returns c =
    record-put c.requires c.read-info.ensures c.kind_of-kind.ensures c.vlen_of-v.ensures
    c.once_of-once.ensures c.entry_of-entry.ensures
    c.raise_head.ensures c.raise_group.ensures c.raise_entries.ensures
