-- `abi::scrieve_join` meets its contract: what the join answers, told.
use mathlib.Core.Path.{ap, ◌∙◌}
use Rattle.abi.specs.Told.{told_in}
use Rattle.paper.specs.rules.Answer.{Answer}
use Rattle.abi.proofs.scrieve_join.Goals as goal

pub returns : goal.returns
returns c =
    let told = c.args.answer.now in
    record {
      indexes = c.join.ensures.indexes;
      works = c.join.ensures.works;
      outputs = c.join.ensures.outputs;
      answers = c.tell.ensures ∙ ap (λ (r : Answer). told_in r told) (c.of_joined.ensures ∙ c.join.ensures.answers);
    }
