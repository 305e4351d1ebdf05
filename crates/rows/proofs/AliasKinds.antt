-- Laws of the kinds of an alias: TYPE_TAG stands apart, the others in a row.
-- Assumes nothing.
use Prim.Native.Nat.{ℕ, zero, suc, ◌+◌, ◌-◌, ◌<◌, ◌≤◌}
use mathlib.Core.Path.{◌≡◌, refl, sym, ap, ◌∙◌}
use mathlib.Core.Bool.{true, false}
use native.Mathlib.Omega.{arith}
use borrow.Author.Tests.{ne_eqb, lt-leb}
use lib.Dec.{leb}
use Rattle.paper.specs.rules.Span.{is_alias}

pub alias-tag : {k : ℕ} → k ≡ 18 → true ≡ is_alias k
alias-tag e = sym (ap is_alias e)

not-alias : (k : ℕ) → (k ≡ 8 → ⊥) → (k ≡ 9 → ⊥) → (k ≡ 10 → ⊥) → (k ≡ 11 → ⊥) → (k ≡ 18 → ⊥) → false ≡ is_alias k
not-alias k a b c d e = rw (ne_eqb k 8 a, ne_eqb k 9 b, ne_eqb k 10 c, ne_eqb k 11 d, ne_eqb k 18 e) refl

pub alias-low : (k : ℕ) → k < 8 → false ≡ is_alias k
alias-low k h = not-alias k (λ z. omega arith) (λ z. omega arith) (λ z. omega arith) (λ z. omega arith) (λ z. omega arith)

from-8 : (j : ℕ) → (8 + j ≡ 18 → ⊥) → leb (8 + j) 11 ≡ is_alias (8 + j)
from-8 zero n = refl
from-8 (suc zero) n = refl
from-8 (suc (suc zero)) n = refl
from-8 (suc (suc (suc zero))) n = refl
from-8 (suc (suc (suc (suc j)))) n =
    lt-leb (8 + suc (suc (suc (suc j)))) 11 (omega arith)
    ∙ not-alias (8 + suc (suc (suc (suc j)))) (λ z. omega arith) (λ z. omega arith) (λ z. omega arith) (λ z. omega arith) n

pub alias-rest : (k : ℕ) → (k ≡ 18 → ⊥) → 8 ≤ k → leb k 11 ≡ is_alias k
alias-rest k n h =
    let e : 8 + (k - 8) ≡ k = omega arith in
    ap (λ (i : ℕ). leb i 11) (sym e) ∙ from-8 (k - 8) (λ z. n (sym e ∙ z)) ∙ ap is_alias e
