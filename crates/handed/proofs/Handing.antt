-- Laws of what is handed out, by the case of a member's answer.
-- Assumes nothing.
use mathlib.Core.Path.{◌≡◌, sym, ap, ◌∙◌}
use mathlib.Core.List.{List}
use Prim.Native.Nat.{ℕ}
use Rattle.handed.specs.Handed.{numbers_of, sixteen_of}
use Rattle.paper.specs.rules.Answer.{Answer}
use Rattle.values.specs.Given.{given_as_paper}
use Rattle.values.specs.declared.MemberValue.{MemberValue}
use Rattle.values.specs.declared.Valued.{Valued}

module _ (v : MemberValue) {w : Valued} (is : v.value ≡ w) where
  abbrev so : Valued → MemberValue
  so x = record { value = x; from = v.from; bits = v.bits; bytes = v.bytes }

  -- what is handed out of a case is handed out of the answer that is this case
  pub numbers-by : {n : Answer} → n ≡ numbers_of (given_as_paper (so w)) → n ≡ numbers_of (given_as_paper v)
  numbers-by d = d ∙ ap (λ (x : Valued). numbers_of (given_as_paper (so x))) (sym is)

  pub bytes-by : {s : List ℕ} → s ≡ sixteen_of (given_as_paper (so w)) → s ≡ sixteen_of (given_as_paper v)
  bytes-by d = d ∙ ap (λ (x : Valued). sixteen_of (given_as_paper (so x))) (sym is)
