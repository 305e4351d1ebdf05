-- Laws of the answers: 53 or the list, and the whole by what the check says.
-- Assumes nothing.
use Rattle.std.specs.Prelude.{Err, Ok, Result, ℕ}
use Rattle.lists.specs.declared.WriteError.TheVariants.{OutputShort, Refused}
use Rattle.lists.specs.declared.WriteError.{WriteError}
use Prim.Native.Nat.{ℕ, ◌≤◌, ◌<◌}
use mathlib.Core.Path.{◌≡◌, refl, sym, ap, ap₂, ◌∙◌}
use mathlib.Core.Bool.{Bool}
use mathlib.Core.List.{List, [], ◌∷◌, ◌++◌}
use mathlib.Core.Option.{Option, none, some}
use borrow.Author.Tests.{le-ltb, lt-ltb}
use lib.Dec.{ltb}
use lib.ListN.{length, drop}
use Rattle.gate.specs.Check.{CheckOf}
use Rattle.list.proofs.Walking.{walking_start}
use Rattle.list.specs.Listing.{ListAsk, ListedOf, WriteOf, listed_outcome}
use Rattle.lists.specs.Kept.{WriteOutcome, list_in, write_list, write_outcome, write_refusal, wrote_as_paper}
use Rattle.paper.proofs.gates.Answered.{checked-accepted, checked_refused}
use Rattle.paper.specs.declared.Report.{Report}
use Rattle.paper.specs.rules.Answer.{Answer, accepted, checked_as_paper, value}
use Rattle.paper.specs.rules.Choice.{◌when◌, first_due, or_else}
use Rattle.paper.specs.rules.Gate.{Outcome, gate, naming, refusal}
use Rattle.paper.specs.rules.Join.{refused_inside}
use Rattle.paper.specs.terms.Fit.{Bytes}

-- ── 53, or the list ──

-- its length is a 32-bit number
pub list-short : {b : List ℕ} → ListAsk b → length (list_in b) ≤ 1000000
list-short a = (walking_start a refl refl).few

abbrev due : Bool → Option Answer
due z = naming 0 (first_due (53 when z ∷ []))

abbrev none_left : Outcome
none_left = record { answer = accepted 0; index = []; work = [] }

module _ (b out : List ℕ) where
  by-rule : {z : Bool} → ltb (length out) (length (list_in b)) ≡ z → listed_outcome b out ≡ write_outcome b none_left out (due z)
  unfolding listed_outcome
  by-rule e = ap (λ (z : Bool). write_outcome b none_left out (due z)) e

  pub listed-short : length out < length (list_in b) → ListedOf (Err OutputShort) b out out
  unfolding wrote_as_paper
  listed-short h =
      let e = by-rule (lt-ltb _ _ h) in
      record { answers = sym (ap (λ (o : WriteOutcome). o.answer) e); outputs = sym (ap (λ (o : WriteOutcome). o.output) e) }

  pub listed-made : length (list_in b) ≤ length out → {n : ℕ} → n ≡ length (list_in b) → {made : List ℕ} → made ≡ list_in b
      → ListedOf (Ok n) b out (made ++ drop n out)
  unfolding wrote_as_paper
  listed-made h long is =
      let e = by-rule (le-ltb _ _ h) in
      record {
        answers = ap value long ∙ sym (ap (λ (o : WriteOutcome). o.answer) e);
        outputs = ap₂ (λ (s : List ℕ) (k : ℕ). s ++ drop k out) is long ∙ sym (ap (λ (o : WriteOutcome). o.output) e);
      }

-- ── the whole, by what the check says ──

module _ {c : Result ℕ Report} {b : List ℕ} {places work : ℕ} {index left : List ℕ} (h : CheckOf c b places work index left) (out : List ℕ) where
  slices : (o : Option Answer) → let x = write_outcome b (gate b places work) out o in (index ≡ x.index) × (left ≡ x.work)
  slices none = (h.told.indexes, h.cleared)
  slices (some a) = (h.told.indexes, h.cleared)

  -- what stands where the refusals come to one answer or none
  told : (r : Result ℕ WriteError) {output : List ℕ} (o : Option Answer) → write_refusal b places work (length out) ≡ o
      → wrote_as_paper r ≡ (write_outcome b (gate b places work) out o).answer → output ≡ (write_outcome b (gate b places work) out o).output
      → WriteOf r b places work out index left output
  unfolding write_list
  told r o e answer bytes =
      let end = slices (write_refusal b places work (length out)) in
      record {
        answers = answer ∙ sym (ap (λ (x : Option Answer). (write_outcome b (gate b places work) out x).answer) e);
        indexes = end.0;
        works = end.1;
        outputs = bytes ∙ sym (ap (λ (x : Option Answer). (write_outcome b (gate b places work) out x).output) e);
      }

  abbrev rest : Option Answer
  rest = due (ltb (length out) (length (list_in b)))

  pub write-refused : (r : Report) → c ≡ Err r → WriteOf (Err (Refused r)) b places work out index left out
  unfolding write_refusal wrote_as_paper
  write-refused r p =
      let e = checked_refused b places work r (ap checked_as_paper (sym p) ∙ h.told.answers) in
      told (Err (Refused r)) _ (ap (λ (o : Option Answer). or_else (refused_inside 54 o) rest) e) refl refl

  module _ {m : ℕ} (p : c ≡ Ok m) where
    no-refusal : refusal b places work ≡ none
    no-refusal = (checked-accepted b places work (ap checked_as_paper (sym p) ∙ h.told.answers)).0

    pub write-accepted : Bytes b → ListAsk b
    write-accepted bytes = record { places = places; work = work; accepted = no-refusal; bytes = bytes }

    pub write-listed : {r : Result ℕ WriteError} {output : List ℕ} → ListedOf r b out output → WriteOf r b places work out index left output
    unfolding write_refusal listed_outcome
    write-listed {r} a =
        told r rest (ap (λ (o : Option Answer). or_else (refused_inside 54 o) rest) no-refusal) (a.answers ∙ same_answer rest) (a.outputs ∙ same-output rest)
      where
        same_answer : (o : Option Answer) → (write_outcome b none_left out o).answer ≡ (write_outcome b (gate b places work) out o).answer
        same_answer none = refl
        same_answer (some x) = refl

        same-output : (o : Option Answer) → (write_outcome b none_left out o).output ≡ (write_outcome b (gate b places work) out o).output
        same-output none = refl
        same-output (some x) = refl
