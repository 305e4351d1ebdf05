-- `phases::judged::later` meets its contract.
use mathlib.Core.Path.{ap, ◌∙◌}
use Rattle.paper.specs.rules.Gate.{zeros}
use Rattle.phases.proofs.Judging.{later-many, later-short, later-behind}
use Rattle.phases.proofs.judged.later.Goals as goal

pub returns-then-n-gt-TYPE_LIMIT : goal.returns-then-n-gt-TYPE_LIMIT
returns-then-n-gt-TYPE_LIMIT c = record { says = later-many _ _ _ _ _ c.if-n-gt-TYPE_LIMIT.true; cleared = c.clear.ensures }

pub returns-then-work-n : goal.returns-then-work-n
returns-then-work-n c = record { says = later-short _ _ _ _ _ c.if-n-gt-TYPE_LIMIT.false c.if-work-n.true; cleared = c.clear-then-work-n.ensures }

pub returns : goal.returns
returns c =
    record {
      says = later-behind _ _ _ _ _ c.if-n-gt-TYPE_LIMIT.false c.if-work-n.false c.behind-said.ensures;
      cleared = c.clear-2.ensures ∙ ap zeros c.behind-said.auto.work;
    }
