-- `groups::records::judge_entry` meets its contract: its names, then its types.
use mathlib.Core.Bool.{not}
use mathlib.Core.Path.{ap}
use mathlib.Core.List.{[]}
use Rattle.groups.proofs.Rows.{entry_named, entry-typed, entry-sound}
use Rattle.views.specs.Shown.{table_by}
use Rattle.groups.proofs.records.judge_entry.Goals as goal

pub returns-then-not-names_ok : goal.returns-then-not-names_ok
returns-then-not-names_ok c =
    let a = c.args in
    entry_named (table_by [] a.b.now a.index.now a.view) a.strings a.s.now a.sort a.at c.row_of-row.ensures c.blob_word-u.ensures
    c.blob_word-v.ensures c.blob_word-w.ensures c.names_ok.ensures (ap not c.if-not-names_ok.true)

pub returns-then-not-types_ok : goal.returns-then-not-types_ok
returns-then-not-types_ok c =
    let a = c.args in
    entry-typed (table_by [] a.b.now a.index.now a.view) a.strings a.s.now a.sort a.at c.row_of-row.ensures c.blob_word-u.ensures
    c.blob_word-v.ensures c.blob_word-w.ensures c.names_ok.ensures (ap not c.if-not-names_ok.false) c.types_ok.ensures (ap not c.if-not-types_ok.true)

pub returns : goal.returns
returns c =
    let a = c.args in
    entry-sound (table_by [] a.b.now a.index.now a.view) a.strings a.s.now a.sort a.at c.row_of-row.ensures c.blob_word-u.ensures
    c.blob_word-v.ensures c.blob_word-w.ensures c.names_ok.ensures (ap not c.if-not-names_ok.false) c.types_ok.ensures (ap not c.if-not-types_ok.false)
