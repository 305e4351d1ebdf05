-- Laws of `Over`: what is seen of the ops over a base.
-- Assumes nothing.
use Prim.Native.Nat.{ℕ, ◌-◌}
use mathlib.Core.Path.{◌≡◌, refl, ap, ap₂, ◌∙◌}
use mathlib.Core.Bool.{Bool}
use mathlib.Core.List.{List}
use lib.ListN.{length, take, drop}
use Rattle.pairs.specs.Lean.{lean_gate, size_over, name_at_over}
use Rattle.paper.proofs.bytes.Bytes.{part-rest}
use Rattle.paper.specs.declared.Order.TheVariants.{LowFirst}
use Rattle.paper.specs.rules.Answer.{Answer}
use Rattle.paper.specs.rules.Word.{words, bytes_of_words}
use Rattle.replay.proofs.Runs.{ran-as}
use Rattle.replay.specs.Case.{plainly, seen_sums}
use Rattle.replay.specs.Over.{lean_seen, size_over_seen, size_cut_seen, CutAt, name_over_seen}
use Rattle.replay.specs.Run.{Ran, ran_of, RanAs}
use Rattle.replay.specs.declared.cases.Seen.{Seen}
use Rattle.sums.specs.Sum.{sum_of, lent_bytes}

-- op 9: the answer and both slices are those of the check
pub lean-seen : (a b : List ℕ) (places work_places bytes : ℕ) {seen : Seen} {r : Answer} {i w : List ℕ} {x y z : ℕ} → seen ≡ seen_sums r x y z
    → x ≡ sum_of (bytes_of_words LowFirst i) → y ≡ sum_of (bytes_of_words LowFirst w) → z ≡ sum_of (lent_bytes bytes)
    → {p q : ℕ} → p ≡ places → q ≡ work_places → r ≡ (lean_gate a b p q).answer → i ≡ (lean_gate a b p q).index → w ≡ (lean_gate a b p q).work
    → seen ≡ lean_seen a b places work_places (lent_bytes bytes)
lean-seen a b places work_places bytes e ex ey ez ep eq er ei ew = rw (e, ex, ey, ez, er, ei, ew, ep, eq) refl

-- as many places are lent as a case says
pub lean-cut : (a b : List ℕ) (bytes : ℕ) {seen : Seen} {p q places work_places : ℕ} → p ≡ places → q ≡ work_places
    → seen ≡ lean_seen a b p q (lent_bytes bytes) → seen ≡ lean_seen a b places work_places (lent_bytes bytes)
lean-cut a b bytes ep eq e = e ∙ ap₂ (λ (p q : ℕ). lean_seen a b p q (lent_bytes bytes)) ep eq

-- op 10: nothing is lent
pub size-over-seen : (a own index : List ℕ) (x y : ℕ) {seen : Seen} {r : Answer} → seen ≡ seen_sums r 1 1 1 → {given : List ℕ} → given ≡ words LowFirst index
    → r ≡ size_over a y own given x → seen ≡ size_over_seen x y a own index
unfolding sum_of
size-over-seen a own index x y e eg er = rw (e, er, eg) refl

-- b is cut where the index begins
pub size-cut : (x y k : ℕ) (a b : List ℕ) {from : ℕ} → CutAt from (length b) k → (fits : Bool) {r : Ran}
    → r ≡ ran_of fits (size_over_seen x y a (take from b) (take (length b - from) (drop from b))) → RanAs r (size_cut_seen x y a b k)
size-cut x y k a b {from} c fits e =
    ran-as _ fits
    (e
    ∙ ap (ran_of fits)
    (ap (size_over_seen x y a (take from b)) (part-rest b from) ∙ ap (λ (p : ℕ). size_over_seen x y a (take p b) (drop p b)) c.is))

-- op 11: the part is the name
pub name-over-seen : (a b : List ℕ) (x : ℕ) {seen : Seen} {r : Answer} {so : ℕ} {part : List ℕ} → seen ≡ seen_sums r 1 1 so → so ≡ sum_of part
    → part ≡ name_at_over a b x → r ≡ plainly 0 (length part) → seen ≡ name_over_seen x a b
unfolding sum_of
name-over-seen a b x e eo ep er = rw (e, eo, er, ep) refl
