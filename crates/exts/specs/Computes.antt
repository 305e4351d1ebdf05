-- All that a computed check of a section has to see through, in one name.
use Rattle.exts.specs.Entries.{is_whole, part_entries, record_asked}
use Rattle.exts.specs.Ext.{head_length_bad, part_ok, parts_bad, entry_rules, section_fault, ext_refusal, extend}
use Rattle.exts.specs.Items.{head_length, part_offset, part_length, entry_at, group_ok, part_items, parts, items}
use Rattle.exts.specs.Sorts.{size_ok}
use Rattle.paper.specs.rules.Header.{order_of, length_bad, opening_bad}
use Rattle.paper.specs.rules.Word.{word_at}

unfoldable pub section_computes : Unit {0}
unfolding is_whole part_entries record_asked head_length_bad part_ok parts_bad entry_rules section_fault ext_refusal extend head_length part_offset part_length
    entry_at group_ok part_items parts items size_ok order_of length_bad opening_bad word_at
section_computes = tt
