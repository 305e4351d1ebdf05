-- `abi::scrieve_make` meets its contract: what reading a list answers, told.
use mathlib.Core.Path.{ap, ◌∙◌}
use Rattle.abi.specs.Told.{told_in}
use Rattle.paper.specs.rules.Answer.{Answer}
use Rattle.abi.proofs.scrieve_make.Goals as goal

pub returns : goal.returns
returns c =
    let told = c.args.answer.now in
    let h = c.read.ensures.told in
    record {
      indexes = h.indexes;
      works = h.works;
      blanks = c.read.ensures.blanks;
      outputs = h.outputs;
      answers = c.tell.ensures ∙ ap (λ (r : Answer). told_in r told) (c.of_made.ensures ∙ h.answers);
    }
