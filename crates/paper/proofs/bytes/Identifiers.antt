-- Laws of `identifier_length`: the length that it answers is the name's own, and between 1 and 127.
-- Assumes nothing.
use Prim.Native.Nat.{ℕ, ◌≤◌}
use mathlib.Core.Path.{◌≡◌, refl}
use mathlib.Core.Bool.{false, ◌&&◌, false≢true}
use mathlib.Core.List.{List, [], ◌∷◌}
use mathlib.Core.Option.{none, some}
use native.Mathlib.Omega.{arith}
use borrow.Author.Tests.{leb-true}
use lib.Dec.{leb}
use lib.ListN.{length}
use Rattle.paper.proofs.basics.Choices.{cond-some}
use Rattle.paper.specs.rules.Choice.{every, times}
use Rattle.paper.specs.rules.Name.{is_letter, identifier_length}

-- 127 letters are one, 128 are none
pub identifier_length-longest : (identifier_length (times 127 (97 ∷ [])) ≡ some 127) × (identifier_length (times 128 (97 ∷ [])) ≡ none)
unfolding is_letter
identifier_length-longest = (refl, refl)

pub identifier_length-own : (cs : List ℕ) {n : ℕ} → identifier_length cs ≡ some n → n ≡ length cs
identifier_length-own [] e = (cond-some false false e).0
identifier_length-own (c ∷ cs) e = (cond-some (is_letter c && every _ cs) (leb (length (c ∷ cs)) 127) e).0

pub identifier_length-range : (cs : List ℕ) {n : ℕ} → identifier_length cs ≡ some n → (1 ≤ n) × (n ≤ 127)
identifier_length-range [] e = absurd (false≢true (cond-some false false {k = 0} e).1)
identifier_length-range (c ∷ cs) {n} e =
    let own : n ≡ length (c ∷ cs) = identifier_length-own (c ∷ cs) e in
    let small = leb-true (length (c ∷ cs)) 127 (cond-some (is_letter c && every _ cs) _ e).1 in
    (omega arith, omega arith)
