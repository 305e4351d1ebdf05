-- `abi::scrieve_value` meets its contract: the value of the span that the places hold, told.
use mathlib.Core.Path.{ap, ◌∙◌}
use Rattle.abi.proofs.Spanning.{told_same}
use Rattle.values.specs.Given.{Finding, read_found, given}
use Rattle.abi.proofs.scrieve_value.Goals as goal

pub returns : goal.returns
returns c =
    let a = c.args in
    told_same
    (c.value_of.ensures ∙ ap (λ (f : Finding). given (read_found f a.bytes.now)) c.span_in.ensures) c.give.ensures
