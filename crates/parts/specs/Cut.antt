-- Order 14: "Given a joined table, a type count and a string length, give back the two tables." Of tables, then of any blob and any slices.
use Rattle.parts.specs.declared.SplitError.TheVariants.{NoCut, OutputShort, Refused}
use Rattle.parts.specs.declared.SplitError.{SplitError}
use Rattle.std.specs.Prelude.{ℕ, ◌-◌, Bool, true, not, cond, ◌||◌, List, [], ◌∷◌, ◌++◌, map, eqb, leb, ltb, length, get_or, take, drop, Err, Ok, Result}
use Rattle.std.proofs.Math.Option.{Option, none, some}
use Rattle.paper.specs.rules.Answer.{Answer, report, report_as_paper}
use Rattle.paper.specs.rules.Choice.{every, Rule, ◌when◌, first_due, or_else}
use Rattle.paper.specs.rules.Gate.{Outcome, gate, naming, refusal}
use Rattle.paper.specs.rules.Header.{order_of}
use Rattle.paper.specs.rules.Kind.{Role, names, refers, holds, number}
use Rattle.paper.specs.rules.Rename.{rename}
use Rattle.paper.specs.rules.Table.{Record, Table, count, every_word}
use Rattle.paper.specs.rules.Walk.{table_of, bytes_of}

-- ── a cut behind n types and s bytes of strings ──

module _ (n s : ℕ) where
  -- a word of an earlier record that points at an earlier type or name
  abbrev pub points_before : Role → ℕ → Bool
  points_before (names rule) w = ltb w s
  points_before (refers rule) w = leb w n
  points_before (holds rule) w = leb w n
  points_before number w = true

  -- a name and a type behind the cut, or none
  abbrev pub name_behind : ℕ → Bool
  name_behind w = eqb w 0 || leb s w

  abbrev pub type_behind : ℕ → Bool
  type_behind w = eqb w 0 || ltb n w

  -- a word of a later record that points at one of these
  abbrev pub points_behind : Role → ℕ → Bool
  points_behind (names rule) w = name_behind w
  points_behind (refers rule) w = type_behind w
  points_behind (holds rule) w = type_behind w
  points_behind number w = true

  -- a word of a record on either side
  abbrev pub points : Bool → Role → ℕ → Bool
  points behind ρ w = cond behind (points_behind ρ w) (points_before ρ w)

  -- there are so many types and so many bytes of strings, "the byte before the cut in the strings is zero", and nothing crosses it
  abbrev pub cut_tests : Table → List Bool
  cut_tests T =
      leb n (count T)
      ∷ leb 1 s
      ∷ leb s (length T.strings)
      ∷ eqb (get_or T.strings (s - 1) 0) 0
      ∷ every (every_word points_before) (take n T.records)
      ∷ every (every_word points_behind) (drop n T.records)
      ∷ []

  unfoldable pub cut_ok : Table → Bool
  cut_ok T = every (λ (passes : Bool). passes) (cut_tests T)

  -- the first's records and strings stand as they are
  unfoldable pub first_part : Table → Table
  first_part T = record { records = take n T.records; strings = take s T.strings }

  -- the second's are lowered by what the join raised them by; 0 stays 0
  unfoldable pub lowered : Record → Record
  lowered r = rename (λ w. w - n) (λ w. w - (s - 1)) r

  -- and its strings get their first byte back
  unfoldable pub second_part : Table → Table
  second_part T = record { records = map lowered (drop n T.records); strings = 0 ∷ drop s T.strings }

-- ── any blob ──

module _ (b : List ℕ) (n s : ℕ) where
  unfoldable pub first_bytes : List ℕ
  first_bytes = bytes_of (order_of b) (first_part n s (table_of b))

  unfoldable pub second_bytes : List ℕ
  second_bytes = bytes_of (order_of b) (second_part n s (table_of b))

  -- what an accepted table is still refused for: 60; "either output too short is 61, after 60"
  abbrev pub cut_rules : ℕ → ℕ → List Rule
  cut_rules room room' =
      60 when not (cut_ok n s (table_of b))
      ∷ 61 when (ltb room (length first_bytes) || ltb room' (length second_bytes))
      ∷ []

  -- "Checks of the blob come first with its own report"
  unfoldable pub cut_refusal : ℕ → ℕ → ℕ → ℕ → Option Answer
  cut_refusal places work_places room room' = or_else (refusal b places work_places) (naming 0 (first_due (cut_rules room room')))

  -- both lengths
  abbrev pub lengths : Answer
  lengths = record { number = 0; inner = 0; t = length first_bytes; p = length second_bytes }

pub record CutOutcome : Type 0 where
  pub answer : Answer
  pub first : List ℕ
  pub second : List ℕ
  pub index : List ℕ
  pub work : List ℕ

-- "no refusal touches either output"; success "changes no output byte past" either length; the u32 slices end as the check leaves them
abbrev pub cut_outcome : List ℕ → ℕ → ℕ → Outcome → List ℕ → List ℕ → Option Answer → CutOutcome
cut_outcome b n s checked out out' none =
    record {
      answer = lengths b n s;
      first = first_bytes b n s ++ drop (length (first_bytes b n s)) out;
      second = second_bytes b n s ++ drop (length (second_bytes b n s)) out';
      index = checked.index;
      work = checked.work;
    }
cut_outcome b n s checked out out' (some a) =
    record { answer = a; first = out; second = out'; index = checked.index; work = checked.work }

unfoldable pub cut : List ℕ → ℕ → ℕ → ℕ → ℕ → List ℕ → List ℕ → CutOutcome
cut b n s places work_places out out' =
    cut_outcome b n s (gate b places work_places) out out' (cut_refusal b n s places work_places (length out) (length out'))

-- ── the answer in the paper's numbers ──

unfoldable pub parted_as_paper : Result (ℕ × ℕ) SplitError → Answer
parted_as_paper (Ok (m, k)) = record { number = 0; inner = 0; t = m; p = k }
parted_as_paper (Err (Refused r)) = report_as_paper r
parted_as_paper (Err NoCut) = report 60 0
parted_as_paper (Err OutputShort) = report 61 0
