-- The gate: the answer to a check, and both lent slices afterwards, of any bytes and any slices.
use Rattle.std.specs.Prelude.{ℕ, zero, suc, ◌+◌, ◌-◌, ◌||◌, List, [], ◌∷◌, ◌++◌, ltb, replicate}
use Rattle.std.proofs.Math.Option.{Option, none, some}
use Rattle.paper.specs.rules.Answer.{Answer, report_at, accepted}
use Rattle.paper.specs.rules.Chain.{endless}
use Rattle.paper.specs.rules.Choice.{Rule, ◌when◌, first_due, or_else}
use Rattle.paper.specs.rules.Header.{header_report}
use Rattle.paper.specs.rules.Heads.{head_bad}
use Rattle.paper.specs.rules.Layout.{layout_bad}
use Rattle.paper.specs.rules.Names.{name_bad}
use Rattle.paper.specs.rules.References.{ref_bad}
use Rattle.paper.specs.rules.Table.{Table, count}
use Rattle.paper.specs.rules.Tails.{tail_bad}
use Rattle.paper.specs.rules.Walk.{Walked, records, stopped, walk, table_of, places_of, place_at}

-- a report's number, at the type that it names and the place of that type's record
abbrev pub naming_at : ℕ → ℕ → Option ℕ → Option Answer
naming_at t p none = none
naming_at t p (some n) = some (report_at n t p)

-- and with no place
abbrev pub naming : ℕ → Option ℕ → Option Answer
naming t o = naming_at t 0 o

unfoldable pub phase1 : List ℕ → Option Answer
phase1 b = naming 0 (header_report b)

abbrev pub walk_report : Walked → Option Answer
walk_report (records rs) = none
walk_report (stopped n t p) = some (report_at n t p)

-- "in phase 2 the walk stops at its first fault"
unfoldable pub phase2 : List ℕ → Option Answer
phase2 b = walk_report (walk b)

-- 9: "walk done, index or work slice has under n + 1 places"
abbrev pub slice_rules : ℕ → ℕ → ℕ → List Rule
slice_rules n places work_places = 9 when (ltb places (n + 1) || ltb work_places (n + 1)) ∷ []

unfoldable pub short_slices : ℕ → ℕ → ℕ → Option Answer
short_slices n places work_places = naming 0 (first_due (slice_rules n places work_places))

-- the phases over a table's types: what each asks of a type, smallest number first
unfoldable pub phase3 : Table → ℕ → List Rule
phase3 T t = 10 when head_bad T t ∷ 11 when name_bad T t ∷ 12 when tail_bad T t ∷ []

unfoldable pub phase4 : Table → ℕ → List Rule
phase4 T t = 13 when ref_bad T t ∷ []

unfoldable pub phase5 : Table → ℕ → List Rule
phase5 T t = 14 when endless T t ∷ []

unfoldable pub phase6 : Table → ℕ → List Rule
phase6 T t = 15 when layout_bad T t ∷ []

-- "the smallest type, then the smallest number", of so many types from t on, which stand at these places
abbrev pub first_of : (ℕ → ℕ) → (ℕ → List Rule) → ℕ → ℕ → Option Answer
first_of place rules zero t = none
first_of place rules (suc left) t =
    let later = first_of place rules left (suc t) in or_else (naming_at t (place t) (first_due (rules t))) later

unfoldable pub over_types : (Table → ℕ → List Rule) → Table → Option Answer
over_types phase T = first_of (place_at T) (phase T) (count T) 1

-- what phases 3 to 6 say of a table; "The earliest phase speaks"
unfoldable pub table_report : Table → Option Answer
table_report T =
    or_else (over_types phase3 T) (or_else (over_types phase4 T) (or_else (over_types phase5 T) (over_types phase6 T)))

-- what is said of a blob and the places lent; none where it is accepted
unfoldable pub refusal : List ℕ → ℕ → ℕ → Option Answer
refusal b places work_places =
    let T = table_of b in
    or_else (phase1 b) (or_else (phase2 b) (or_else (short_slices (count T) places work_places) (table_report T)))

-- n places of 0
abbrev pub zeros : ℕ → List ℕ
zeros n = replicate n 0

-- "index place 0 holds 0, place k the byte place of record k in the blob, the rest 0"
unfoldable pub index_of : Table → ℕ → List ℕ
index_of T places = 0 ∷ places_of T ++ zeros (places - (count T + 1))

pub record Outcome : Type 0 where
  pub answer : Answer
  pub index : List ℕ
  pub work : List ℕ

abbrev pub outcome : Table → ℕ → ℕ → Option Answer → Outcome
outcome T places work_places none =
    record { answer = accepted (count T); index = index_of T places; work = zeros work_places }
outcome T places work_places (some a) =
    record { answer = a; index = zeros places; work = zeros work_places }

-- "After any report the whole index is 0. The work slice is all 0 after every call"
unfoldable pub gate : List ℕ → ℕ → ℕ → Outcome
gate b places work_places = outcome (table_of b) places work_places (refusal b places work_places)
