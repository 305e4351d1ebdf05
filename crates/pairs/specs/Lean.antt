-- Order 7: a table that leans on a base. "paper 01's rules over both together": the rules are those of one table that has the base's records
-- and then its own, the base's strings and then its own. Here stands what a leaning table is read by, and no rule of phases 3 to 6.
use Rattle.std.specs.Prelude.{ℕ, zero, suc, ◌+◌, ◌-◌, Bool, true, not, cond, ◌&&◌, ◌||◌, List, [], ◌∷◌, ◌++◌, leb, ltb, length, get_or, take}
use Rattle.std.proofs.Math.Option.{Option, none, some}
use Rattle.paper.specs.rules.Answer.{Answer, accepted}
use Rattle.paper.specs.rules.Choice.{differ, same, is_some, Rule, ◌when◌, first_due, or_else}
use Rattle.paper.specs.rules.Gate.{naming, walk_report, short_slices, phase3, phase4, phase5, phase6, first_of, refusal, zeros, Outcome}
use Rattle.paper.specs.rules.Header.{header_length, magic_first, magic_second, order_of, type_len, str_len, strings_in}
use Rattle.paper.specs.rules.Header.{opening_bad, header_length_bad, sections_bad, header_report}
use Rattle.paper.specs.rules.Join.{refused_inside}
use Rattle.paper.specs.rules.Kind.{NameRule, Role, names, refers, holds, number}
use Rattle.paper.specs.rules.Limits.{type_limit, byte_limit}
use Rattle.paper.specs.rules.Name.{name_in}
use Rattle.paper.specs.rules.Names.{name_fits}
use Rattle.paper.specs.rules.Size.{Step, size_by, step_at, size_answer}
use Rattle.paper.specs.rules.Table.{Record, Table, count, every_word}
use Rattle.paper.specs.rules.Walk.{Walked, walk_from, type_words, table_of, records_in, places_of, places_from}

-- ── phases 1 and 2 of a table behind a base of so many bytes and so many types ──

-- 1: under 24 bytes, or over the limit together: "the limits count both blobs' types and bytes"
unfoldable pub length_bad_behind : ℕ → List ℕ → Bool
length_bad_behind before own = ltb (length own) header_length || ltb byte_limit (before + length own)

-- 5: "may be empty or lack the leading zero byte, but ends in zero if not empty"
unfoldable pub end_bad : List ℕ → Bool
end_bad own = differ (str_len own) 0 && differ (get_or (strings_in own) (str_len own - 1) 0) 0

abbrev pub behind_rules : ℕ → List ℕ → List Rule
behind_rules before own =
    1 when length_bad_behind before own
    ∷ 2 when opening_bad own
    ∷ 3 when header_length_bad own
    ∷ 4 when sections_bad own
    ∷ 5 when end_bad own
    ∷ []

unfoldable pub behind_report : ℕ → List ℕ → Option ℕ
behind_report before own = first_due (behind_rules before own)

-- "numbers begin after a base table's types"
unfoldable pub walk_behind : ℕ → List ℕ → Walked
walk_behind n own = walk_from (type_limit - n) (suc n) header_length (type_words own)

-- ── both together ──

-- 26: "the module's table begins with the other order's two bytes", which are the base's turned round
unfoldable pub other_opening : List ℕ → List ℕ → Bool
other_opening base own = same (take 2 own) (magic_second (order_of base) ∷ magic_first (order_of base) ∷ [])

module _ (base own : List ℕ) where
  -- the records that a leaning table adds
  unfoldable pub own_records : List Record
  own_records = records_in (walk_behind (count (table_of base)) own)

  -- the table that both hold
  unfoldable pub table_over : Table
  table_over =
      record {
        records = (table_of base).records ++ own_records;
        strings = (table_of base).strings ++ strings_in own;
      }

  -- "each place counts in the blob that holds the record"
  unfoldable pub places_over : List ℕ
  places_over = places_of (table_of base) ++ places_from header_length own_records

  unfoldable pub place_over : ℕ → ℕ
  place_over t = get_or (0 ∷ places_over) t 0

  -- "the smallest type, then the smallest number", over the types of both
  unfoldable pub over_both : (Table → ℕ → List Rule) → Option Answer
  over_both phase = first_of place_over (phase table_over) (count table_over) 1

  unfoldable pub lean_table_report : Option Answer
  lean_table_report = or_else (over_both phase3) (or_else (over_both phase4) (or_else (over_both phase5) (over_both phase6)))

  -- what is said of a pair and the places lent: "25 with its report inside, before all else", "26 next"; none where it is accepted
  unfoldable pub lean_refusal : ℕ → ℕ → Option Answer
  lean_refusal places work_places =
      or_else (refused_inside 25 (refusal base places work_places))
      (or_else (naming 0 (first_due (26 when other_opening base own ∷ [])))
      (or_else (naming 0 (behind_report (length base) own))
      (or_else (walk_report (walk_behind (count (table_of base)) own))
      (or_else (short_slices (count table_over) places work_places) lean_table_report))))

  unfoldable pub index_over : ℕ → List ℕ
  index_over places = 0 ∷ places_over ++ zeros (places - (count table_over + 1))

  abbrev pub lean_outcome : ℕ → ℕ → Option Answer → Outcome
  lean_outcome places work_places none =
      record { answer = accepted (count table_over); index = index_over places; work = zeros work_places }
  lean_outcome places work_places (some a) =
      record { answer = a; index = zeros places; work = zeros work_places }

  -- the check: the answer, and both lent slices afterwards
  unfoldable pub lean_gate : ℕ → ℕ → Outcome
  lean_gate places work_places = lean_outcome places work_places (lean_refusal places work_places)

-- ── sizes ──

-- "Its size question also takes the base's count, up to which it reads the base"; each blob in its own order
module _ (base : List ℕ) (n : ℕ) (own index : List ℕ) where
  unfoldable pub step_over : ℕ → Step
  step_over t = cond (leb t n) (step_at base index t) (step_at own index t)

  unfoldable pub size_over : ℕ → Answer
  size_over t = size_answer (size_by step_over (length index) t)

-- ── names ──

-- the name at an offset of two string sections, one behind the other: "a part of the base or of the module's table, whichever holds it"
unfoldable pub name_over : List ℕ → List ℕ → ℕ → List ℕ
name_over before strings off = cond (ltb off (length before)) (name_in before off) (name_in strings (off - length before))

-- report 11 of a word, and of a record, by two sections
unfoldable pub name_ok_over : List ℕ → List ℕ → NameRule → ℕ → Bool
name_ok_over before strings rule off = ltb off (length before + length strings) && name_fits rule off (name_over before strings off)

abbrev pub name_word_over : List ℕ → List ℕ → Role → ℕ → Bool
name_word_over before strings (names rule) w = name_ok_over before strings rule w
name_word_over before strings (refers rule) w = true
name_word_over before strings (holds rule) w = true
name_word_over before strings number w = true

unfoldable pub names_over : List ℕ → List ℕ → Record → Bool
names_over before strings r = every_word (name_word_over before strings) r

module _ (base own : List ℕ) where
  -- "empty if either blob has a report below 6 or 26, or the offset is past both"
  unfoldable pub nameless_over : ℕ → Bool
  nameless_over off =
      is_some (header_report base)
      || other_opening base own
      || is_some (behind_report (length base) own)
      || not (ltb off (str_len base + str_len own))

  unfoldable pub name_at_over : ℕ → List ℕ
  name_at_over off = cond (nameless_over off) [] (name_over (strings_in base) (strings_in own) off)

  -- the name lies in the base
  unfoldable pub in_base : ℕ → Bool
  in_base off = ltb off (str_len base)

  -- where it begins in the blob that holds it; 0 where there is none
  unfoldable pub name_start_over : ℕ → ℕ
  name_start_over off =
      cond (nameless_over off) 0
      (cond (in_base off) (header_length + type_len base + off) (header_length + type_len own + (off - str_len base)))
