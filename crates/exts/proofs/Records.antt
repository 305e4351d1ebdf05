-- Laws of the records among some items: element k of a list, the records of a group one by one, and where they stand.
-- Assumes nothing.
use Prim.Native.Nat.{ℕ, zero, suc, ◌+◌, ◌-◌, ◌*◌, ◌≤◌, ◌<◌}
use mathlib.Core.Path.{◌≡◌, refl, sym, ap, ◌∙◌}
use mathlib.Core.List.{List, [], ◌∷◌, ◌++◌}
use mathlib.Core.Option.{Option, none, some}
use native.Mathlib.Nat.{suc-mul}
use native.Mathlib.Omega.{arith}
use lib.ListN.{length}
use Rattle.exts.specs.Entries.{nth, entries_in}
use Rattle.exts.specs.Items.{Entry, entry_at, entries_from}
use Rattle.exts.specs.declared.Sort.{Sort}

-- ── element k of a list ──

module _ {A : Type 0} where
  pub nth-front : (xs ys : List A) (k : ℕ) → k < length xs → nth (xs ++ ys) k ≡ nth xs k
  nth-front [] ys k h = absurd (omega arith)
  nth-front (x ∷ xs) ys zero h = refl
  nth-front (x ∷ xs) ys (suc k) h = nth-front xs ys k (omega arith)

  pub nth-behind : (xs ys : List A) (k : ℕ) → length xs ≤ k → nth (xs ++ ys) k ≡ nth ys (k - length xs)
  nth-behind [] ys k h = let e : k - 0 ≡ k = omega arith in ap (nth ys) (sym e)
  nth-behind (x ∷ xs) ys zero h = absurd (omega arith)
  nth-behind (x ∷ xs) ys (suc k) h = let e : suc k - suc (length xs) ≡ k - length xs = omega arith in nth-behind xs ys k (omega arith) ∙ ap (nth ys) (sym e)

  -- there is an element exactly below the length
  pub nth-none : (xs : List A) (k : ℕ) → length xs ≤ k → nth xs k ≡ none
  nth-none [] k h = refl
  nth-none (x ∷ xs) zero h = absurd (omega arith)
  nth-none (x ∷ xs) (suc k) h = nth-none xs k (omega arith)

  pub nth-below : (xs : List A) (k : ℕ) {x : A} → nth xs k ≡ some x → k < length xs
  nth-below [] k {x} e = absurd (let z : ◌≡◌ {A = ℕ} 0 1 = cc in omega arith)
  nth-below (y ∷ xs) zero e = omega arith
  nth-below (y ∷ xs) (suc k) e = let h = nth-below xs k e in omega arith

-- ── the records of a group ──

module _ (s : List ℕ) (sort : Sort) (size name : ℕ) where
  pub length-entries_from : (n p : ℕ) → length (entries_in (entries_from s sort size name n p)) ≡ n
  length-entries_from zero p = refl
  length-entries_from (suc n) p = ap suc (length-entries_from n (p + size))

  pub nth-entries_from : (n p k : ℕ) → k < n → nth (entries_in (entries_from s sort size name n p)) k ≡ some (entry_at s sort name (p + k * size))
  nth-entries_from zero p k h = absurd (omega arith)
  nth-entries_from (suc n) p zero h = let e : p ≡ p + 0 * size = omega arith in ap {B = Option Entry} (λ (q : ℕ). some (entry_at s sort name q)) e
  nth-entries_from (suc n) p (suc k) h =
      let e : p + size + k * size ≡ p + suc k * size = omega (arith, suc-mul k size) in
      nth-entries_from n (p + size) k (omega arith) ∙ ap {B = Option Entry} (λ (q : ℕ). some (entry_at s sort name q)) e
