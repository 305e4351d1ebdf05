-- `scan::found::count_behind` meets its contract: the first of the count before, the walk and the places that has a report.
use Rattle.paper.proofs.basics.Exits.{exit-same}
use Rattle.paper.specs.rules.Answer.{report_as_paper}
use Rattle.scan.proofs.Rests.{rest-full, rest-stopped, rest-places, rest-work, rest-count}
use Rattle.scan.proofs.found.count_behind.Goals as goal

pub returns-then-first-gt-TYPE_LIMIT : goal.returns-then-first-gt-TYPE_LIMIT
unfolding report_as_paper
returns-then-first-gt-TYPE_LIMIT c = rest-full _ _ _ _ c.if-first-gt-TYPE_LIMIT.true

pub walk-requires : goal.walk-requires
walk-requires c = record { section = c.requires; few = c.if-first-gt-TYPE_LIMIT.false }

pub returns-then-places-n : goal.returns-then-places-n
unfolding report_as_paper
returns-then-places-n c = rest-places _ _ _ _ c.if-first-gt-TYPE_LIMIT.false c.walk.result c.walk.ensures c.in_ok-n.was c.if-places-n.true

pub returns-then-work-n : goal.returns-then-work-n
unfolding report_as_paper
returns-then-work-n c = rest-work _ _ _ _ c.if-first-gt-TYPE_LIMIT.false c.walk.result c.walk.ensures c.in_ok-n.was c.if-work-n.true

pub returns-in_err-n : goal.returns-in_err-n
returns-in_err-n c =
    rw (exit-same c.from_residual.result c.from_residual.ensures.1)
    (rest-stopped _ _ _ _ c.if-first-gt-TYPE_LIMIT.false c.walk.result c.walk.ensures c.in_err-n.was)

pub returns : goal.returns
returns c = rest-count _ _ _ _ c.if-first-gt-TYPE_LIMIT.false c.walk.result c.walk.ensures c.in_ok-n.was c.if-places-n.false c.if-work-n.false
