-- `abi::give` meets its contract.
use Prim.Native.Nat.{ℕ}
use mathlib.Core.Path.{ap, ap₂, ◌∙◌}
use Rattle.abi.specs.Told.{told_wide}
use Rattle.paper.specs.rules.Answer.{Answer}
use Rattle.paper.specs.terms.Put.{laid}
use Rattle.abi.proofs.give.Goals as goal

pub returns : goal.returns
returns c =
    let a = c.args in
    record {
      answers =
          c.tell_wide.ensures
          ∙ ap₂ (λ (r : Answer) (high : ℕ). told_wide r high a.answer.now) c.numbers_of.ensures c.high_of.ensures;
      values = c.lay.ensures ∙ ap (laid a.value.now 0) c.sixteen_of-bytes.ensures;
    }
