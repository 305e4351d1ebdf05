-- `abi::scrieve_check` meets its contract: the gate's answer, told.
use mathlib.Core.Path.{ap, ◌∙◌}
use Rattle.abi.specs.Told.{told_in}
use Rattle.paper.specs.rules.Answer.{Answer}
use Rattle.abi.proofs.scrieve_check.Goals as goal

pub returns : goal.returns
returns c =
    let told = c.args.answer.now in
    record {
      indexes = c.check.ensures.told.indexes;
      works = c.check.ensures.cleared;
      answers = c.tell.ensures ∙ ap (λ (r : Answer). told_in r told) (c.of_checked.ensures ∙ c.check.ensures.told.answers);
    }
