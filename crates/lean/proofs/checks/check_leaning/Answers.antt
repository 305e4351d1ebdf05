-- `lean::checks::check_leaning` meets its contract: the work slice is cleared after the answer.
use mathlib.Core.Path.{ap, ◌∙◌}
use lib.ListN.{length}
use Rattle.lean.proofs.Leans.{lean-work}
use Rattle.paper.specs.rules.Gate.{zeros}
use Rattle.lean.proofs.checks.check_leaning.Goals as goal

pub returns : goal.returns
returns c =
    let a = c.args in
    record {
      told = c.answer-told.ensures;
      cleared =
          c.clear.ensures
          ∙ ap zeros c.answer-told.auto.work
          ∙ lean-work a.base.now a.own.now (length a.index.now) (length a.work.now);
    }
