-- Demands 1 and 2 of the code: what it means that `check` has answered, in the person's words. Each from its contract alone.
-- Assumes nothing.
use Rattle.std.specs.Prelude.{Err, Ok, Result, ℕ}
use Prim.Native.Nat.{ℕ, ◌*◌, ◌%◌, ◌≤◌, ◌<◌}
use mathlib.Core.Path.{◌≡◌, sym, ap, ◌∙◌}
use mathlib.Core.List.{List}
use mathlib.Core.Logic.{◌⊎◌}
use mathlib.Core.Option.{none, some}
use native.Mathlib.Omega.{arith}
use lib.ListN.{length, get_or, take, drop}
use Rattle.gate.proofs.Checks.{gate-work}
use Rattle.gate.specs.Check.{CheckOf}
use Rattle.paper.proofs.gates.Acceptance.{accepted-meets, meets-accepted}
use Rattle.paper.proofs.gates.Answered.{checked-accepted, checked_refused}
use Rattle.paper.proofs.basics.Answers.{checked-one}
use Rattle.paper.proofs.Demands.{accepted-ends}
use Rattle.paper.proofs.Outcomes.{gate-refused, gate-accepted, index-place, whole-size}
use Rattle.paper.proofs.gates.Earlies.{refusal-early}
use Rattle.paper.proofs.gates.Reports.{refusal-spoken, report-14}
use Rattle.paper.proofs.gates.Wheres.{report-stands, report-inside, report-bytes}
use Rattle.paper.specs.rules.Answer.{report_as_paper, checked_as_paper, sized_as_paper}
use Rattle.paper.specs.rules.Chain.{held_by, pointed_by, Chain}
use Rattle.paper.specs.terms.Early.{SpokenEarly}
use Rattle.paper.specs.terms.Fit.{Bytes}
use Rattle.paper.specs.rules.Gate.{refusal, zeros, Outcome, gate}
use Rattle.paper.specs.terms.Good.{Readable, Meets}
use Rattle.paper.specs.rules.Header.{order_of}
use Rattle.paper.specs.rules.Size.{exact_size, answer_of, size_of}
use Rattle.paper.specs.terms.Smallest.{Spoken}
use Rattle.paper.specs.rules.Table.{count, record_at, words_of}
use Rattle.paper.specs.rules.Walk.{table_of}
use Rattle.paper.specs.terms.Where.{StandsAt}
use Rattle.paper.specs.rules.Word.{bytes_of_words}
use Rattle.paper.specs.declared.Report.{Report}
use Rattle.paper.specs.declared.Sized.{Sized}

module _ {c : Result ℕ Report} {b : List ℕ} {places work : ℕ} {index left : List ℕ} (h : CheckOf c b places work index left) where
  answers : checked_as_paper c ≡ (gate b places work).answer
  answers = h.told.answers

  -- the work slice is all 0 after every call
  pub check-work : left ≡ zeros work
  check-work = h.cleared ∙ sym (gate-work b places work)

  -- ── a refused table ──

  module _ (r : Report) (p : c ≡ Err r) where
    -- it gets its number, type and place
    pub refused-report : refusal b places work ≡ some (report_as_paper r)
    refused-report = checked_refused b places work r (ap checked_as_paper (sym p) ∙ answers)

    -- and its index is left all zero
    pub refused-index : index ≡ zeros places
    refused-index = h.told.indexes ∙ ap (λ (o : Outcome). o.index) (gate-refused b places work refused-report)

    -- a report below 10 is the smallest number of the header's rules that is due, or is of the first record at fault, behind whole ones, or
    -- tells that the walk is done and places are missing
    pub refused-early : (report_as_paper r).number < 10 → SpokenEarly b places work (report_as_paper r)
    refused-early early = refusal-early b places work (report_as_paper r) refused-report early

    -- a report of 10 or more is the smallest of the earliest phase
    pub refused-smallest : 10 ≤ (report_as_paper r).number → Readable b places work × Spoken (table_of b) (report_as_paper r)
    refused-smallest late = refusal-spoken b places work (report_as_paper r) refused-report late

    -- its place is where the record that it names stands: below the blob's end, and at a multiple of 4
    pub refused-place : 6 ≤ (report_as_paper r).number → ((report_as_paper r).number ≡ 9 → ⊥)
        → StandsAt b (report_as_paper r).t (report_as_paper r).p × ((report_as_paper r).p < length b) × ((report_as_paper r).p % 4 ≡ 0)
    refused-place low not-9 =
        let inside = report-inside b places work (report_as_paper r) refused-report low not-9 in
        (report-stands b places work (report_as_paper r) refused-report low not-9, inside.0, inside.1)

    -- from 10 on the bytes there are that record's
    pub refused-bytes : Bytes b → 10 ≤ (report_as_paper r).number → let ws = words_of (record_at (table_of b) (report_as_paper r).t) in
        take (4 * length ws) (drop (report_as_paper r).p b) ≡ bytes_of_words (order_of b) ws
    refused-bytes bytes late = report-bytes b places work (report_as_paper r) refused-report bytes late

    -- report 14 names a type from which a chain of one of the two sorts can be followed for ever
    pub refused-endless : (report_as_paper r).number ≡ 14 → Chain (held_by (table_of b)) (report_as_paper r).t ⊎ Chain (pointed_by (table_of b)) (report_as_paper r).t
    refused-endless e = report-14 b places work (report_as_paper r) refused-report e

  -- ── an accepted one ──

  module _ (n : ℕ) (p : c ≡ Ok n) where
    told : (refusal b places work ≡ none) × (n ≡ count (table_of b))
    told = checked-accepted b places work (ap checked_as_paper (sym p) ∙ answers)

    -- it meets the paper, and n is its count of types
    pub accepted-paper : Meets b places work
    accepted-paper = accepted-meets b places work told.0

    pub accepted-count : n ≡ count (table_of b)
    accepted-count = told.1

    -- no chain can be followed for ever, by value or over pointers, typedefs, qualifiers and tags
    pub accepted-finite : Bytes b → (t : ℕ) → Chain (held_by (table_of b)) t ⊎ Chain (pointed_by (table_of b)) t → ⊥
    accepted-finite bytes = accepted-ends b bytes places work told.0

    -- the index gives every type's place: there stand the bytes of its record
    pub accepted-places : Bytes b → (k : ℕ) → 1 ≤ k → k ≤ n
        → take (4 * length (words_of (record_at (table_of b) k))) (drop (get_or index k 0) b) ≡ bytes_of_words (order_of b) (words_of (record_at (table_of b) k))
    accepted-places bytes k low high =
        ap (λ (i : List ℕ). take (4 * length (words_of (record_at (table_of b) k))) (drop (get_or i k 0) b)) h.told.indexes
        ∙ index-place b bytes places work told.0 k low (omega (arith, told.1))

    -- what `size` then answers of a type is its exact size, no size, or that it passes 4,294,967,295
    pub accepted-sizes : Bytes b → (t : ℕ) → t ≤ n → (s : Sized) → sized_as_paper s ≡ size_of b index t → sized_as_paper s ≡ answer_of (exact_size (table_of b) t)
    accepted-sizes bytes t high s e =
        e ∙ ap (λ (i : List ℕ). size_of b i t) h.told.indexes ∙ whole-size b bytes places work told.0 t (omega (arith, told.1))

  -- ── exactly ──

  -- a table that meets the paper is accepted, with its count
  pub paper-accepted : Meets b places work → c ≡ Ok (count (table_of b))
  unfolding checked_as_paper
  paper-accepted m =
      checked-one c (Ok (count (table_of b)))
      (answers ∙ ap (λ (o : Outcome). o.answer) (gate-accepted b places work (meets-accepted b places work m)))

-- any two results that the contract allows are the same, slice by slice
pub check-one : {c c' : Result ℕ Report} {b : List ℕ} {places work : ℕ} {index index' left left' : List ℕ} → CheckOf c b places work index left
    → CheckOf c' b places work index' left'
    → (c ≡ c') × (index ≡ index') × (left ≡ left')
check-one {c} {c'} h k =
    (checked-one c c' (h.told.answers ∙ sym k.told.answers), h.told.indexes ∙ sym k.told.indexes, h.cleared ∙ sym k.cleared)
