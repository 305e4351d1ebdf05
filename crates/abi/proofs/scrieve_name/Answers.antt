-- `abi::scrieve_name` meets its contract: where the name lies, told.
use mathlib.Core.Path.{ap, ◌∙◌}
use Rattle.abi.specs.Told.{told_in}
use Rattle.paper.specs.rules.Answer.{Answer}
use Rattle.abi.proofs.scrieve_name.Goals as goal

pub returns : goal.returns
returns c = c.tell.ensures ∙ ap (λ (r : Answer). told_in r c.args.answer.now) c.named.ensures
