-- `abi::scrieve_size_leaning` meets its contract: what the size question over a base answers, told.
use mathlib.Core.Path.{ap, ◌∙◌}
use Rattle.abi.specs.Told.{told_in}
use Rattle.paper.specs.rules.Answer.{Answer}
use Rattle.abi.proofs.scrieve_size_leaning.Goals as goal

pub returns : goal.returns
returns c =
    c.tell.ensures
    ∙ ap (λ (r : Answer). told_in r c.args.answer.now) (c.of_sized.ensures ∙ c.size_leaning-told.ensures)
