-- `phases::judged::judge` meets its contract.
use mathlib.Core.Path.{sym, ap, ◌∙◌}
use Rattle.paper.specs.rules.Gate.{zeros}
use Rattle.phases.specs.Said.{said_as_paper}
use Rattle.phases.proofs.Glanced.{behind-glance}
use Rattle.phases.proofs.Judging.{judge-third, judge-glance, judge-later}
use Rattle.phases.proofs.judged.judge.Goals as goal

pub returns-in-Err : goal.returns-in-Err
returns-in-Err c = record { says = sym (ap said_as_paper c.in-Err.is) ∙ judge-third _ _ _ _ _ c.third.result c.third.ensures c.in-Err.is; cleared = c.clear.ensures }

pub returns-then-glance : goal.returns-then-glance
returns-then-glance c =
    record {
      says =
          judge-glance _ _ _ _ _ c.third.result c.third.ensures c.in-Ok.is
          (behind-glance _ _ _ _ (c.glance.ensures c.if-glance.true));
      cleared = c.clear-then-glance.ensures ∙ ap zeros c.glance.auto.work;
    }

pub returns : goal.returns
returns c = judge-later _ _ _ _ _ c.third.result c.third.ensures c.in-Ok.is c.glance.auto.work c.later.ensures
