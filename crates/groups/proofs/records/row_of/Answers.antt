-- `groups::records::row_of` meets its contract: each line is the row of its sort.
use mathlib.Core.Path.{sym, ap}
use Rattle.groups.specs.Walking.{row_for}
use Rattle.groups.proofs.records.row_of.Goals as goal

pub returns-in-Function : goal.returns-in-Function
returns-in-Function c = sym (ap row_for c.in-Function.is)

pub returns-in-Line : goal.returns-in-Line
returns-in-Line c = sym (ap row_for c.in-Line.is)

pub returns-in-Relocation : goal.returns-in-Relocation
returns-in-Relocation c = sym (ap row_for c.in-Relocation.is)
