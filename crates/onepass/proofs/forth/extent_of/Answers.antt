-- `onepass::forth::extent_of` meets its contract.
use mathlib.Core.Bool.{not}
use mathlib.Core.Logic.{inl, inr}
use mathlib.Core.Path.{refl, sym, ap, ◌∙◌}
use native.Mathlib.Omega.{arith}
use borrow.Author.Tests.{not-false}
use Prim.Native.Nat.{ℕ, ◌+◌, ◌*◌}
use Rattle.paper.specs.rules.Walk.{known}
use Rattle.rows.proofs.RoleCodes.{tail_length-few}
use Rattle.onepass.proofs.forth.extent_of.Goals as goal

pub returns-then-not-is_known : goal.returns-then-not-is_known
returns-then-not-is_known c = inl refl

pub overflow_mul-result : goal.overflow_mul-result
overflow_mul-result c = omega (arith, c.tail_words.ensures, tail_length-few c.args.info)

pub overflow_add-result : goal.overflow_add-result
overflow_add-result c = omega (arith, c.tail_words.ensures, tail_length-few c.args.info)

pub returns : goal.returns
returns c =
    inr (
      sym (c.is_known.ensures ∙ ap known c.kind_of.ensures) ∙ not-false _ (ap not c.if-not-is_known.false),
      ap (λ (n : ℕ). 12 + 4 * n) c.tail_words.ensures,
    )
