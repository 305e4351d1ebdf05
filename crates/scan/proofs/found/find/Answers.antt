-- `scan::found::find` meets its contract: the first of the header, the walk and the places that has a report.
use Rattle.paper.proofs.basics.Exits.{exit-same}
use Rattle.scan.proofs.Founds.{found-header, found-section, found-rest}
use Rattle.scan.proofs.found.find.Goals as goal

pub count_behind-requires : goal.count_behind-requires
count_behind-requires c = found-section _ 0 0 c.read.ensures c.in_ok-s.was

pub returns-in_err-s : goal.returns-in_err-s
returns-in_err-s c =
    rw (exit-same c.from_residual.result c.from_residual.ensures.1)
    (found-header _ _ _ c.read.ensures c.in_err-s.was)

pub returns : goal.returns
returns c = found-rest _ _ _ c.read.ensures c.in_ok-s.was c.count_behind.result c.count_behind.ensures
