-- `header::names::nameless_by` meets its contract, by what the header is.
use Rattle.header.proofs.Scans.{nameless_by-good, nameless_by-bad}
use Rattle.header.proofs.names.nameless_by.Goals as goal

pub returns-in-Ok : goal.returns-in-Ok
returns-in-Ok c = nameless_by-good _ c.in-Ok.is

pub returns-in-Err : goal.returns-in-Err
returns-in-Err c = nameless_by-bad _ c.in-Err.is
