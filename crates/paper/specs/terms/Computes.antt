-- All that a computed check has to see through, in one name: a proof that says `unfolding computes` runs the definitions.
use Rattle.paper.specs.rules.Answer.{report_as_paper, checked_as_paper, sized_as_paper, joined_as_paper}
use Rattle.paper.specs.rules.Word.{word_at, put_word}
use Rattle.paper.specs.rules.Kind.{rows, row_of}
use Rattle.paper.specs.rules.Table.{tail_length, tail_roles}
use Rattle.paper.specs.rules.Header.{order_of, type_off, type_len, str_off, str_len, strings_in}
use Rattle.paper.specs.rules.Header.{length_bad, opening_bad, header_length_bad, sections_bad, strings_bad, header_report}
use Rattle.paper.specs.rules.Walk.{walk_record, type_words, walk, table_of, bytes_of, places_of, place_at}
use Rattle.paper.specs.terms.Reading.{record_in, roled}
use Rattle.paper.specs.rules.Name.{name_in, nameless, name_at, is_digit, is_letter, is_section_name}
use Rattle.paper.specs.rules.Heads.{spare_zero, head_ok, head_bad}
use Rattle.paper.specs.rules.Names.{name_ok, names_ok, name_bad}
use Rattle.paper.specs.rules.Tails.{int_word_ok, linkage_word_ok, is_last00, tail_ok, tail_bad}
use Rattle.paper.specs.rules.References.{is_plain, ref_ok, refs_ok, ref_bad}
use Rattle.paper.specs.rules.Chain.{held_by, pointed_by, endless}
use Rattle.paper.specs.rules.Size.{step_in, exact_size, has_size, small_size, has_small_size, step_at_place, step_at, size_asked, size_of}
use Rattle.paper.specs.rules.Span.{base_of, is_regular_word, is_regular, whole_span, plain_span, field_span, span_of}
use Rattle.paper.specs.rules.Section.{entry_covers, section_ok}
use Rattle.paper.specs.rules.Layout.{member_ok, offsets_ok, members_ok, array_ok, function_ok, components_of, tag_ok, layout_ok, layout_bad}
use Rattle.paper.specs.rules.Gate.{phase1, phase2, short_slices, phase3, phase4, phase5, phase6, over_types, table_report, refusal, index_of, gate}
use Rattle.paper.specs.rules.Rename.{rename}
use Rattle.paper.specs.rules.Join.{join_tables, joined_bytes, limit_report, join_refusal, join}

unfoldable pub computes : Unit {0}
unfolding report_as_paper checked_as_paper sized_as_paper joined_as_paper word_at put_word rows row_of tail_length tail_roles order_of type_off type_len str_off
    str_len strings_in length_bad opening_bad header_length_bad sections_bad strings_bad header_report walk_record type_words walk table_of
    bytes_of places_of place_at record_in roled name_in nameless name_at is_digit is_letter is_section_name spare_zero head_ok head_bad name_ok names_ok name_bad int_word_ok
    linkage_word_ok is_last00 tail_ok tail_bad is_plain ref_ok refs_ok ref_bad held_by pointed_by endless step_in exact_size has_size small_size has_small_size
    step_at_place step_at size_asked size_of base_of is_regular_word is_regular whole_span plain_span field_span span_of entry_covers section_ok
    member_ok offsets_ok members_ok array_ok function_ok components_of tag_ok layout_ok layout_bad phase1 phase2 short_slices phase3 phase4 phase5
    phase6 over_types table_report refusal index_of gate rename join_tables joined_bytes limit_report join_refusal join
computes = tt
