-- `abi::put_span` meets its contract.
use Prim.Native.Nat.{ℕ}
use mathlib.Core.Path.{ap₂, ◌∙◌}
use Rattle.abi.specs.Told.{told_wide}
use Rattle.paper.specs.rules.Answer.{Answer}
use Rattle.abi.proofs.put_span.Goals as goal

pub returns : goal.returns
returns c =
    let a = c.args in
    c.tell_wide.ensures ∙ ap₂ (λ (r : Answer) (high : ℕ). told_wide r high a.span.now) c.span_numbers.ensures c.high_of.ensures
