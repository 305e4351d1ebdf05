-- `scan::found::find_behind` meets its contract: the first of the header, the walk and the places that has a report.
use Rattle.paper.proofs.basics.Exits.{exit-same}
use Rattle.scan.proofs.Behinds.{behind-header, behind-section, behind-rest}
use Rattle.scan.proofs.found.find_behind.Goals as goal

pub count_behind-requires : goal.count_behind-requires
count_behind-requires c = behind-section _ 0 _ 0 0 c.read_behind.ensures c.in_ok-s.was

pub returns-in_err-s : goal.returns-in_err-s
returns-in_err-s c =
    rw (exit-same c.from_residual.result c.from_residual.ensures.1)
    (behind-header _ _ _ _ _ c.read_behind.ensures c.in_err-s.was)

pub returns : goal.returns
returns c = behind-rest _ _ _ _ _ c.read_behind.ensures c.in_ok-s.was c.count_behind.result c.count_behind.ensures
