-- `abi::scrieve_split` meets its contract: what taking apart answers, told.
use mathlib.Core.Path.{ap, ◌∙◌}
use Rattle.abi.specs.Told.{told_in}
use Rattle.paper.specs.rules.Answer.{Answer}
use Rattle.abi.proofs.scrieve_split.Goals as goal

pub returns : goal.returns
returns c =
    let told = c.args.answer.now in
    let h = c.split-parted.ensures in
    record {
      indexes = h.indexes;
      works = h.works;
      firsts = h.firsts;
      seconds = h.seconds;
      answers = c.tell.ensures ∙ ap (λ (r : Answer). told_in r told) (c.of_parted.ensures ∙ h.answers);
    }
