-- Laws of names in a string section that begins and ends with a zero byte: a longer section has the same names.
-- Assumes nothing.
use Prim.Native.Nat.{ℕ, suc, ◌+◌, ◌-◌, ◌≤◌, ◌<◌}
use mathlib.Core.Path.{◌≡◌, refl, sym, ap, ◌∙◌}
use mathlib.Core.Bool.{Bool, cond}
use mathlib.Core.List.{List, [], ◌∷◌, ◌++◌}
use native.Mathlib.Omega.{arith}
use borrow.Author.Tests.{eq-eqb}
use lib.Dec.{eqb}
use lib.ListN.{length, get_or, drop, length-drop, get_or-append}
use lib.Seq.{drop-append-le, drop-append-add, drop-drop, get_or-drop}
use Rattle.paper.specs.terms.Good.{Closed}
use Rattle.paper.specs.rules.Name.{until_zero, name_in}

-- a run that begins with a zero byte names nothing
until_zero-first : (s : List ℕ) → get_or s 0 0 ≡ 0 → until_zero s ≡ []
until_zero-first [] e = refl
until_zero-first (c ∷ cs) e = ap (λ (t : Bool). cond t [] (c ∷ until_zero cs)) (eq-eqb c 0 e)

-- what stands behind a run that ends in a zero byte is not looked at
until_zero-append : (s u : List ℕ) → 1 ≤ length s → get_or s (length s - 1) 0 ≡ 0 → until_zero (s ++ u) ≡ until_zero s
until_zero-append [] u h e = absurd (omega arith)
until_zero-append (c ∷ []) u h e = until_zero-first (c ∷ u) e ∙ sym (until_zero-first (c ∷ []) e)
until_zero-append (c ∷ d ∷ s) u h e =
    let at : suc (length (d ∷ s) - 1) ≡ length (c ∷ d ∷ s) - 1 = omega arith in
    ap (λ (r : List ℕ). cond (eqb c 0) [] (c ∷ r))
    (until_zero-append (d ∷ s) u (omega arith) (ap (λ (i : ℕ). get_or (c ∷ d ∷ s) i 0) at ∙ e))

-- the names of a section that ends in a zero byte are the same with more strings behind it
pub name_in-ended : (s u : List ℕ) → get_or s (length s - 1) 0 ≡ 0 → (n : ℕ) → n < length s → name_in (s ++ u) n ≡ name_in s n
unfolding name_in
name_in-ended s u last n h =
    ap until_zero (drop-append-le n s u (omega arith))
    ∙ until_zero-append (drop n s) u (simp length-drop (omega arith))
    (get_or-drop n s (length (drop n s) - 1) 0 ∙ ap (λ (i : ℕ). get_or s i 0) last-place ∙ last)
  where
    last-place : n + (length (drop n s) - 1) ≡ length s - 1
    last-place = simp length-drop (omega arith)

-- and those behind it are its own
pub name_in-past : (s u : List ℕ) (n : ℕ) → length s ≤ n → name_in (s ++ u) n ≡ name_in u (n - length s)
unfolding name_in
name_in-past s u n h =
    let at : n ≡ length s + (n - length s) = omega arith in
    ap until_zero (ap (λ (i : ℕ). drop i (s ++ u)) at ∙ drop-append-add s u (n - length s))

module _ (s : List ℕ) (c : Closed s) (u : List ℕ) where
  pub name_in-append : (n : ℕ) → n < length s → name_in (s ++ u) n ≡ name_in s n
  name_in-append = name_in-ended s u c.last

-- and those of the section behind, all but its first byte kept, are raised by the length less one
module _ (s : List ℕ) (c : Closed s) (u : List ℕ) (d : Closed u) where
  pub name_in-behind : (k : ℕ) → name_in (s ++ drop 1 u) (suc k + (length s - 1)) ≡ name_in u (suc k)
  unfolding name_in
  name_in-behind k =
      let filled = c.filled in
      let at : suc k + (length s - 1) ≡ length s + k = omega arith in
      let one : 1 + k ≡ suc k = omega arith in
      ap until_zero
      (ap (λ (i : ℕ). drop i (s ++ drop 1 u)) at ∙ drop-append-add s (drop 1 u) k ∙ drop-drop k 1 u ∙ ap (λ (i : ℕ). drop i u) one)

  pub name_in-zero : name_in (s ++ drop 1 u) 0 ≡ name_in u 0
  unfolding name_in
  name_in-zero =
      until_zero-first (s ++ drop 1 u) (get_or-append s (drop 1 u) 0 0 c.filled ∙ c.first) ∙ sym (until_zero-first u d.first)
