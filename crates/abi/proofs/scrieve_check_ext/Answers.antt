-- `abi::scrieve_check_ext` meets its contract: the answer of the check beside the table, told.
use mathlib.Core.Path.{ap, ◌∙◌}
use Rattle.abi.specs.Told.{told_in}
use Rattle.paper.specs.rules.Answer.{Answer}
use Rattle.abi.proofs.scrieve_check_ext.Goals as goal

pub returns : goal.returns
returns c =
    let told = c.args.answer.now in
    let h = c.check_ext.ensures in
    record {
      indexes = h.indexes;
      works = h.works;
      answers = c.tell.ensures ∙ ap (λ (r : Answer). told_in r told) (c.of_extended.ensures ∙ h.answers);
    }
