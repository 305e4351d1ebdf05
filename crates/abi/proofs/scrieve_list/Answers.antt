-- `abi::scrieve_list` meets its contract: what writing a list answers, told.
use mathlib.Core.Path.{ap, ◌∙◌}
use Rattle.abi.specs.Told.{told_in}
use Rattle.paper.specs.rules.Answer.{Answer}
use Rattle.abi.proofs.scrieve_list.Goals as goal

pub returns : goal.returns
returns c =
    let told = c.args.answer.now in
    let h = c.write.ensures in
    record {
      indexes = h.indexes;
      works = h.works;
      outputs = h.outputs;
      answers = c.tell.ensures ∙ ap (λ (r : Answer). told_in r told) (c.of_wrote.ensures ∙ h.answers);
    }
