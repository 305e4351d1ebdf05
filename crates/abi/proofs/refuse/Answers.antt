-- `abi::refuse` meets its contract: 34 has no span and no value.
use mathlib.Core.Path.{ap, ◌∙◌}
use Rattle.abi.specs.Told.{told_wide}
use Rattle.handed.specs.Handed.{numbers_of, sixteen_of}
use Rattle.paper.specs.rules.Answer.{Answer, inside}
use Rattle.abi.proofs.refuse.Goals as goal

pub returns : goal.returns
unfolding numbers_of sixteen_of
returns c =
    let a = c.args in
    record {
      answers = c.tell_wide.ensures ∙ ap (λ (r : Answer). told_wide r 0 a.answer.now) (c.within_34.ensures ∙ ap (inside 34) c.of_report.ensures);
      values = c.lay.ensures;
    }
