-- `gate::whole::check` meets its contract: the work slice is cleared after the answer.
use mathlib.Core.Path.{ap, ◌∙◌}
use lib.ListN.{length}
use Rattle.gate.proofs.Checks.{gate-work}
use Rattle.paper.specs.rules.Gate.{zeros}
use Rattle.gate.proofs.whole.check.Goals as goal

pub returns : goal.returns
returns c =
    let a = c.args in
    record {
      told = c.answer-told.ensures;
      cleared = c.clear.ensures ∙ ap zeros c.answer-told.auto.work ∙ gate-work a.b.now (length a.index.now) (length a.work.now);
    }
