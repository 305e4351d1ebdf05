-- `abi::scrieve_span` meets its contract: what is found of the member, told.
use mathlib.Core.Path.{ap, ◌∙◌}
use Rattle.abi.specs.Told.{span_in}
use Rattle.values.specs.Given.{Finding}
use Rattle.abi.proofs.scrieve_span.Goals as goal

pub returns : goal.returns
returns c = c.put_span.ensures ∙ ap (λ (x : Finding). span_in x c.args.span.now) c.span_of.ensures
