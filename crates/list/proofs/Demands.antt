-- Order 10 of the code: what it means that `write` has answered, in the request's words. Each from the contract alone.
-- Assumes nothing.
use Rattle.std.specs.Prelude.{Result, ℕ}
use Rattle.lists.specs.declared.WriteError.{WriteError}
use Prim.Native.Nat.{ℕ, ◌≤◌}
use mathlib.Core.Path.{◌≡◌, refl, sym, ap, ◌∙◌}
use mathlib.Core.Bool.{Bool}
use mathlib.Core.List.{List, [], ◌∷◌, ◌++◌}
use mathlib.Core.Option.{Option, none, some}
use borrow.Author.Tests.{le-ltb}
use lib.Dec.{ltb}
use lib.ListN.{length, take, drop}
use lib.Seq.{take_at}
use Rattle.list.specs.Listing.{WriteOf}
use Rattle.lists.proofs.Written.{read_list-list_of}
use Rattle.lists.proofs.Wrotes.{wrote_one}
use Rattle.lists.specs.Kept.{WriteOutcome, list_in, write_list, write_outcome, write_refusal, wrote_as_paper}
use Rattle.lists.specs.List.{read_list, table}
use Rattle.paper.proofs.gates.Acceptance.{accepted-fits}
use Rattle.paper.specs.rules.Answer.{Answer, value}
use Rattle.paper.specs.rules.Choice.{◌when◌, first_due, or_else}
use Rattle.paper.specs.rules.Gate.{gate, naming, refusal}
use Rattle.paper.specs.rules.Header.{order_of}
use Rattle.paper.specs.rules.Join.{refused_inside}
use Rattle.paper.specs.rules.Walk.{table_of}
use Rattle.paper.specs.terms.Fit.{Bytes}

module _ {r : Result ℕ WriteError} {b : List ℕ} {places work : ℕ} {out index left output : List ℕ} (h : WriteOf r b places work out index left output) where
  abbrev ground : Option Answer
  ground = write_refusal b places work (length out)

  by-ground : (o : Option Answer) → ground ≡ o → write_list b places work out ≡ write_outcome b (gate b places work) out o
  unfolding write_list
  by-ground o e = ap (write_outcome b (gate b places work) out) e

  -- both u32 slices end as the check of the table leaves them, whatever is answered
  pub write-slices : (index ≡ (gate b places work).index) × (left ≡ (gate b places work).work)
  unfolding write_list
  write-slices = (h.indexes ∙ (ended ground).0, h.works ∙ (ended ground).1)
    where
      ended : (o : Option Answer) → let x = write_outcome b (gate b places work) out o in
          (x.index ≡ (gate b places work).index) × (x.work ≡ (gate b places work).work)
      ended none = (refl, refl)
      ended (some a) = (refl, refl)

  -- "no refusal touches the output"
  pub refused-output : ((wrote_as_paper r).number ≡ 0 → ⊥) → output ≡ out
  refused-output other = go ground refl
    where
      go : (o : Option Answer) → ground ≡ o → output ≡ out
      go none e = absurd (other (ap (λ (a : Answer). a.number) (h.answers ∙ ap (λ (x : WriteOutcome). x.answer) (by-ground none e))))
      go (some a) e = h.outputs ∙ ap (λ (x : WriteOutcome). x.output) (by-ground (some a) e)

  module _ (accepted : refusal b places work ≡ none) (room : length (list_in b) ≤ length out) where
    no-ground : write_refusal b places work (length out) ≡ none
    unfolding write_refusal
    no-ground =
        ap (λ (o : Option Answer). or_else (refused_inside 54 o) (naming 0 (first_due (53 when ltb (length out) (length (list_in b)) ∷ [])))) accepted
        ∙ ap (λ (z : Bool). naming 0 (first_due (53 when z ∷ []))) (le-ltb (length out) (length (list_in b)) room)

    -- an accepted table is written where there is room, and no byte behind its list changes
    pub accepted-written : (wrote_as_paper r ≡ value (length (list_in b))) × (output ≡ list_in b ++ drop (length (list_in b)) out)
    accepted-written =
        let x = by-ground none no-ground in
        (h.answers ∙ ap (λ (o : WriteOutcome). o.answer) x, h.outputs ∙ ap (λ (o : WriteOutcome). o.output) x)

    -- what is written is read back as the table, in its byte order
    pub written_read : Bytes b → read_list (take (length (list_in b)) output) ≡ table (order_of b) (table_of b)
    unfolding list_in
    written_read bytes =
        let f = accepted-fits b places work accepted bytes in
        ap read_list (ap (take (length (list_in b))) accepted-written.1 ∙ take_at (list_in b) (drop (length (list_in b)) out) (length (list_in b)) refl)
        ∙ read_list-list_of (order_of b) (table_of b) f.whole f.words-fit

-- any two results that the contract allows are the same, slice by slice
pub write-one : {r r' : Result ℕ WriteError} {b : List ℕ} {places work : ℕ} {out index left output index' left' output' : List ℕ}
    → WriteOf r b places work out index left output → WriteOf r' b places work out index' left' output'
    → (r ≡ r') × (index ≡ index') × (left ≡ left') × (output ≡ output')
write-one {r} {r'} h k = (
  wrote_one r r' (h.answers ∙ sym k.answers),
  h.indexes ∙ sym k.indexes,
  h.works ∙ sym k.works,
  h.outputs ∙ sym k.outputs,
)
