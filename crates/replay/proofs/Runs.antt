-- Laws of `Run`: what running a case gives, by its op.
-- Assumes nothing.
use Prim.Native.Nat.{ℕ, ◌≤◌, ◌<◌}
use mathlib.Core.Path.{◌≡◌, refl, sym, ap, ap₂, subst, ◌∙◌}
use mathlib.Core.Bool.{Bool, true, false, cond, ◌&&◌}
use mathlib.Core.List.{List}
use borrow.Author.Tests.{ne_eqb, le-leb, lt-leb}
use lib.Dec.{leb}
use lib.ListN.{length}
use Rattle.paper.specs.rules.Answer.{Answer}
use Rattle.paper.specs.rules.Gate.{gate}
use Rattle.paper.specs.rules.Join.{join}
use Rattle.paper.specs.rules.Name.{nameless, name_at}
use Rattle.paper.specs.rules.Size.{size_of}
use Rattle.paper.specs.declared.Order.TheVariants.{LowFirst}
use Rattle.paper.specs.rules.Word.{words, bytes_of_words}
use Rattle.handed.specs.Handed.{numbers_of, sixteen_of}
use Rattle.record.specs.Gives.{MemberOf}
use Rattle.sums.specs.Sum.{sum_of, lent_places, lent_bytes}
use Rattle.values.specs.Given.{given_as_paper}
use Rattle.values.specs.declared.MemberValue.{MemberValue}
use Rattle.replay.specs.Apart.{apart_seen}
use Rattle.replay.specs.Case.{check_seen, size_seen, name_seen, join_seen, member_seen, plainly, seen_sums}
use Rattle.replay.specs.Kept.{read_seen, write_seen}
use Rattle.replay.specs.Over.{lean_seen, size_cut_seen, name_over_seen}
use Rattle.replay.specs.Run.{Ran, ran_of, RanAs, RunOf}
use Rattle.replay.specs.declared.cases.Head.{Head}
use Rattle.replay.specs.declared.cases.Seen.{Seen}
use Rattle.replay.specs.declared.ops.Unrun.TheVariants.{Unknown, Large}
use Rattle.std.specs.Prelude.{Ok, Err}

-- what is seen with the gate's answer and the sums of the gate's slices is what is seen of a check
pub check-seen : (a : List ℕ) (places work_places bytes : ℕ) {seen : Seen} {r : Answer} {i w : List ℕ} {x y z : ℕ} → seen ≡ seen_sums r x y z
    → x ≡ sum_of (bytes_of_words LowFirst i) → y ≡ sum_of (bytes_of_words LowFirst w) → z ≡ sum_of (lent_bytes bytes)
    → {p q : ℕ} → p ≡ places → q ≡ work_places → r ≡ (gate a p q).answer → i ≡ (gate a p q).index → w ≡ (gate a p q).work
    → seen ≡ check_seen a places work_places (lent_bytes bytes)
check-seen a places work_places bytes e ex ey ez ep eq er ei ew = rw (e, ex, ey, ez, er, ei, ew, ep, eq) refl

-- what is seen with the join's answer and the sums of the join's slices is what is seen of a join
pub join-seen : (a b : List ℕ) (places work_places bytes : ℕ) {seen : Seen} {r : Answer} {i w o : List ℕ} {x y z : ℕ} → seen ≡ seen_sums r x y z
    → x ≡ sum_of (bytes_of_words LowFirst i) → y ≡ sum_of (bytes_of_words LowFirst w) → z ≡ sum_of o
    → {p q : ℕ} {out : List ℕ} → p ≡ places → q ≡ work_places → out ≡ lent_bytes bytes
    → r ≡ (join a b p q out).answer → i ≡ (join a b p q out).index → w ≡ (join a b p q out).work → o ≡ (join a b p q out).output
    → seen ≡ join_seen a b places work_places (lent_bytes bytes)
join-seen a b places work_places bytes e ex ey ez ep eq eo er ei ew ez' = rw (e, ex, ey, ez, er, ei, ew, ez', ep, eq, eo) refl

-- and of the size question and the name
pub size-seen : (a b : List ℕ) (x i w o : ℕ) {seen : Seen} {r : Answer} {si sw so : ℕ} → seen ≡ seen_sums r si sw so
    → si ≡ sum_of (bytes_of_words LowFirst (lent_places i)) → sw ≡ sum_of (bytes_of_words LowFirst (lent_places w)) → so ≡ sum_of (lent_bytes o)
    → {given : List ℕ} → given ≡ words LowFirst b → r ≡ size_of a given x → seen ≡ size_seen x a (words LowFirst b) i w o
size-seen a b x i w o e ei ew eo eg er = rw (e, ei, ew, eo, er, eg) refl

pub name-seen : (a : List ℕ) (x i w : ℕ) {seen : Seen} {r : Answer} {si sw so n : ℕ} {part : List ℕ} {t : Bool} → seen ≡ seen_sums r si sw so
    → si ≡ sum_of (bytes_of_words LowFirst (lent_places i)) → sw ≡ sum_of (bytes_of_words LowFirst (lent_places w)) → so ≡ sum_of part → part ≡ name_at a x
    → t ≡ nameless a x → n ≡ cond t 1 0 → r ≡ plainly n (length part) → seen ≡ name_seen x a i w
name-seen a x i w e ei ew eo ep et en er = rw (e, ei, ew, eo, er, en, et, ep) refl

-- and of a member of a record
pub member-seen : (a b : List ℕ) (t m places work_places : ℕ) {seen : Seen} {r : Answer} {i w o : List ℕ} {x y z : ℕ} → seen ≡ seen_sums r x y z
    → x ≡ sum_of (bytes_of_words LowFirst i) → y ≡ sum_of (bytes_of_words LowFirst w) → z ≡ sum_of o
    → {p q : ℕ} → p ≡ places → q ≡ work_places → {v : MemberValue} → r ≡ numbers_of (given_as_paper v) → o ≡ sixteen_of (given_as_paper v)
    → MemberOf v a p q t m b i w → seen ≡ member_seen t m a b places work_places
member-seen a b t m places work_places e ex ey ez ep eq er eo k = rw (e, ex, ey, ez, er, eo, k.answers, k.indexes, k.works, ep, eq) refl

-- as many places and bytes are lent as a case says
pub check-cut : (a : List ℕ) (bytes : ℕ) {seen : Seen} {p q places work_places : ℕ} → p ≡ places → q ≡ work_places
    → seen ≡ check_seen a p q (lent_bytes bytes) → seen ≡ check_seen a places work_places (lent_bytes bytes)
check-cut a bytes ep eq e = e ∙ ap₂ (λ (p q : ℕ). check_seen a p q (lent_bytes bytes)) ep eq

pub member-cut : (a b : List ℕ) (t m : ℕ) {seen : Seen} {p q places work_places : ℕ} → p ≡ places → q ≡ work_places
    → seen ≡ member_seen t m a b p q → seen ≡ member_seen t m a b places work_places
member-cut a b t m ep eq e = e ∙ ap₂ (member_seen t m a b) ep eq

pub join-cut : (a b : List ℕ) {seen : Seen} {p q o places work_places bytes : ℕ} → p ≡ places → q ≡ work_places → o ≡ bytes
    → seen ≡ join_seen a b p q (lent_bytes o) → seen ≡ join_seen a b places work_places (lent_bytes bytes)
join-cut a b ep eq eo e = e ∙ (λ i. join_seen a b (ep i) (eq i) (lent_bytes (eo i)))

-- ── all that a case lends fits, or the first thing that does not is told ──

module _ (must : Seen) where
  -- of arrays whose length is not said
  pub ran-as : (fits : Bool) {r : Ran} → r ≡ ran_of fits must → RanAs r must
  unfolding ran_of
  ran-as true e = subst (λ (r : Ran). RanAs r must) (sym e) refl
  ran-as false e = subst (λ (r : Ran). RanAs r must) (sym e) tt

  module _ {m n : ℕ} where
    pub ran-large : n < m → Err Large ≡ ran_of (leb m n) must
    unfolding ran_of
    ran-large h = ap (λ (t : Bool). ran_of t must) (sym (lt-leb m n h))

    pub ran-whole : m ≤ n → {seen : Seen} → seen ≡ must → Ok seen ≡ ran_of (leb m n) must
    unfolding ran_of
    ran-whole h e = ap {B = Ran} Ok e ∙ ap (λ (t : Bool). ran_of t must) (sym (le-leb m n h))

    -- one more thing that is lent
    pub ran-large-and : (later : Bool) → n < m → Err Large ≡ ran_of (leb m n && later) must
    unfolding ran_of
    ran-large-and later h = ap (λ (t : Bool). ran_of (t && later) must) (sym (lt-leb m n h))

    pub ran-and : (later : Bool) → m ≤ n → {r : Ran} → r ≡ ran_of later must → r ≡ ran_of (leb m n && later) must
    unfolding ran_of
    ran-and later h e = e ∙ ap (λ (t : Bool). ran_of (t && later) must) (sym (le-leb m n h))

module _ (h : Head) (a b : List ℕ) where
  pub run-unknown : (h.op ≡ 1 → ⊥) → (h.op ≡ 2 → ⊥) → (h.op ≡ 3 → ⊥) → (h.op ≡ 4 → ⊥) → (h.op ≡ 5 → ⊥)
      → (h.op ≡ 6 → ⊥) → (h.op ≡ 7 → ⊥) → (h.op ≡ 8 → ⊥) → (h.op ≡ 9 → ⊥) → (h.op ≡ 10 → ⊥) → (h.op ≡ 11 → ⊥) → RunOf (Err Unknown) h a b
  unfolding RunOf
  run-unknown one two three four five six seven eight nine ten eleven =
      rw (ne_eqb _ _ one, ne_eqb _ _ two, ne_eqb _ _ three, ne_eqb _ _ four, ne_eqb _ _ five)
      (rw (ne_eqb _ _ six, ne_eqb _ _ seven, ne_eqb _ _ eight, ne_eqb _ _ nine, ne_eqb _ _ ten, ne_eqb _ _ eleven) refl)

  pub run-check : (r : Ran) → h.op ≡ 1 → RanAs r (check_seen a h.index h.work (lent_bytes h.output)) → RunOf r h a b
  unfolding RunOf
  run-check r op e = rw op e

  pub run-size : (r : Ran) → h.op ≡ 2 → RanAs r (size_seen h.x a (words LowFirst b) h.index h.work h.output) → RunOf r h a b
  unfolding RunOf
  run-size r op e = rw op e

  pub run-name : (r : Ran) → h.op ≡ 3 → RanAs r (name_seen h.x a h.index h.work) → RunOf r h a b
  unfolding RunOf
  run-name r op e = rw op e

  pub run_join : (r : Ran) → h.op ≡ 4 → RanAs r (join_seen a b h.index h.work (lent_bytes h.output)) → RunOf r h a b
  unfolding RunOf
  run_join r op e = rw op e

  pub run-member : (r : Ran) → h.op ≡ 5 → RanAs r (member_seen h.x h.y a b h.index h.work) → RunOf r h a b
  unfolding RunOf
  run-member r op e = rw op e

  pub run-apart : (r : Ran) → h.op ≡ 6 → RanAs r (apart_seen h.x h.y a h.index h.work h.output (length b)) → RunOf r h a b
  unfolding RunOf
  run-apart r op e = rw op e

  -- a list, read and written
  pub run-read : (r : Ran) → h.op ≡ 7 → RanAs r (read_seen a h.index h.work h.output (length b)) → RunOf r h a b
  unfolding RunOf
  run-read r op e = rw op e

  pub run-write : (r : Ran) → h.op ≡ 8 → RanAs r (write_seen a h.index h.work h.output) → RunOf r h a b
  unfolding RunOf
  run-write r op e = rw op e

  -- over a base
  pub run-check-over : (r : Ran) → h.op ≡ 9 → RanAs r (lean_seen a b h.index h.work (lent_bytes h.output)) → RunOf r h a b
  unfolding RunOf
  run-check-over r op e = rw op e

  pub run-size-over : (r : Ran) → h.op ≡ 10 → RanAs r (size_cut_seen h.x h.y a b h.output) → RunOf r h a b
  unfolding RunOf
  run-size-over r op e = rw op e

  pub run-name-over : (r : Ran) → h.op ≡ 11 → RanAs r (name_over_seen h.x a b) → RunOf r h a b
  unfolding RunOf
  run-name-over r op e = rw op e
