-- `abi::scrieve_check_leaning` meets its contract: the answer of the check of both, told.
use mathlib.Core.Path.{ap, ◌∙◌}
use Rattle.abi.specs.Told.{told_in}
use Rattle.paper.specs.rules.Answer.{Answer}
use Rattle.abi.proofs.scrieve_check_leaning.Goals as goal

pub returns : goal.returns
returns c =
    let told = c.args.answer.now in
    let h = c.check_leaning.ensures in
    record {
      indexes = h.told.indexes;
      works = h.cleared;
      answers = c.tell.ensures ∙ ap (λ (r : Answer). told_in r told) (c.of_leaned.ensures ∙ h.told.answers);
    }
