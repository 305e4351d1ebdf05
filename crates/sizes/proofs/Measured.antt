-- Laws of `Measures`: what an answer says of the exact size of a type.
-- Assumes nothing.
use Prim.Native.Nat.{ℕ, ◌≤◌}
use mathlib.Core.Path.{◌≡◌, refl, sym, ap, ◌∙◌}
use mathlib.Core.Bool.{Bool, true, false, cond, false≢true}
use mathlib.Core.Option.{Option, none, some}
use native.Mathlib.Omega.{arith}
use borrow.Author.Tests.{leb-false, lt-leb, lt-ltb, ltb-true}
use lib.Dec.{leb, ltb}
use Rattle.sizes.specs.Measure.{Measures}
use Rattle.paper.specs.rules.Answer.{Answer, report, value, sized_as_paper}
use Rattle.paper.specs.rules.Choice.{is_some}
use Rattle.paper.specs.rules.Limits.{size_limit}
use Rattle.paper.specs.rules.Section.{covers_size}
use Rattle.paper.specs.rules.Size.{exact_size, within, small_size, answer_of}
use Rattle.paper.specs.rules.Table.{Table}
use Rattle.paper.specs.declared.Sized.{Sized}
use Rattle.paper.specs.declared.Sized.TheVariants.{Exact, NoSize, Overflow, Lost, TooFar}

-- ── an answer and an exact size ──

-- an answer's number and value, where it says an exact size
abbrev said : Bool → ℕ → Answer
said b s = cond b (value s) (report 2 0)

answer-small : (s m : ℕ) (b : Bool) → leb m size_limit ≡ b → value s ≡ said b m → (m ≡ s) × (leb m size_limit ≡ true)
answer-small s m true e p = (sym (ap (λ (a : Answer). a.p) p), e)
answer-small s m false e p = absurd (let z = ap (λ (a : Answer). a.number) p in omega arith)

answer-large : (m : ℕ) (b : Bool) → leb m size_limit ≡ b → report 2 0 ≡ said b m → ltb size_limit m ≡ true
answer-large m true e p = absurd (let z = ap (λ (a : Answer). a.number) p in omega arith)
answer-large m false e p = lt-ltb size_limit m (leb-false m size_limit e)

-- no other number is answered
answer-else : (k m : ℕ) (b : Bool) → (k ≡ 0 → ⊥) → (k ≡ 2 → ⊥) → report k 0 ≡ said b m → ⊥
answer-else k m true n0 n2 p = n0 (ap (λ (a : Answer). a.number) p)
answer-else k m false n0 n2 p = n2 (ap (λ (a : Answer). a.number) p)

pub measures : (r : Sized) (x : Option ℕ) → sized_as_paper r ≡ answer_of x → Measures r x
unfolding sized_as_paper
measures (Exact s) none e = absurd (let z = ap (λ (a : Answer). a.number) e in omega arith)
measures (Exact s) (some m) e =
    let f = answer-small s m (leb m size_limit) refl e in
    (ap some f.0, rw f.1 (ap some f.0))
measures NoSize none e = refl
measures NoSize (some m) e = absurd (answer-else 1 m (leb m size_limit) (λ z. omega arith) (λ z. omega arith) e)
measures Overflow none e = absurd (let z = ap (λ (a : Answer). a.number) e in omega arith)
measures Overflow (some m) e = answer-large m (leb m size_limit) refl e
measures Lost none e = absurd (let z = ap (λ (a : Answer). a.number) e in omega arith)
measures Lost (some m) e = answer-else 21 m (leb m size_limit) (λ z. omega arith) (λ z. omega arith) e
measures TooFar none e = absurd (let z = ap (λ (a : Answer). a.number) e in omega arith)
measures TooFar (some m) e = answer-else 22 m (leb m size_limit) (λ z. omega arith) (λ z. omega arith) e

-- ── what phase 6 asks ──

-- what each answer says of a size that does not overflow, of any size, and of so many bytes
abbrev pub small_in : Sized → Option ℕ
small_in (Exact s) = some s
small_in NoSize = none
small_in Overflow = none
small_in Lost = none
small_in TooFar = none

abbrev pub is_sized : Sized → Bool
is_sized (Exact s) = true
is_sized NoSize = false
is_sized Overflow = true
is_sized Lost = false
is_sized TooFar = false

abbrev pub reaches : ℕ → Sized → Bool
reaches size (Exact s) = leb s size
reaches size NoSize = true
reaches size Overflow = false
reaches size Lost = false
reaches size TooFar = false

pub told-sized : (r : Sized) (x : Option ℕ) → Measures r x → is_sized r ≡ is_some x
told-sized (Exact s) x m = sym (ap is_some m.0)
told-sized NoSize x m = sym (ap is_some m)
told-sized Overflow none m = absurd (false≢true m)
told-sized Overflow (some s) m = refl
told-sized Lost x m = absurd m
told-sized TooFar x m = absurd m

pub told-small : (r : Sized) (x : Option ℕ) → Measures r x → small_in r ≡ within x
told-small (Exact s) x m = sym m.1
told-small NoSize x m = sym (ap within m)
told-small Overflow none m = refl
told-small Overflow (some s) m = rw (lt-leb s size_limit (ltb-true size_limit s m)) refl
told-small Lost x m = absurd m
told-small TooFar x m = absurd m

pub told-reaches : (size : ℕ) → size ≤ size_limit → (r : Sized) (x : Option ℕ) → Measures r x → reaches size r ≡ covers_size size x
told-reaches size h (Exact s) x m = sym (ap (covers_size size) m.0)
told-reaches size h NoSize x m = sym (ap (covers_size size) m)
told-reaches size h Overflow none m = absurd (false≢true m)
told-reaches size h Overflow (some s) m = let l = ltb-true size_limit s m in sym (lt-leb s size (omega arith))
told-reaches size h Lost x m = absurd m
told-reaches size h TooFar x m = absurd m

pub small_size-told : (T : Table) (t : ℕ) {r r' : Sized} → r ≡ r' → Measures r (exact_size T t) → small_in r' ≡ small_size T t
unfolding small_size
small_size-told T t {r} is m = sym (ap small_in is) ∙ told-small r (exact_size T t) m
