-- `answers::sections::number_of` meets its contract: by its case.
use mathlib.Core.Path.{sym, ap}
use Rattle.exts.specs.Ext.{fault_number}
use Rattle.answers.proofs.sections.number_of.Goals as goal

pub returns-in-Length : goal.returns-in-Length
unfolding fault_number
returns-in-Length c = sym (ap fault_number c.in-Length.is)

pub returns-in-Opening : goal.returns-in-Opening
unfolding fault_number
returns-in-Opening c = sym (ap fault_number c.in-Opening.is)

pub returns-in-HeaderLength : goal.returns-in-HeaderLength
unfolding fault_number
returns-in-HeaderLength c = sym (ap fault_number c.in-HeaderLength.is)

pub returns-in-Parts : goal.returns-in-Parts
unfolding fault_number
returns-in-Parts c = sym (ap fault_number c.in-Parts.is)

pub returns-in-RecordSize : goal.returns-in-RecordSize
unfolding fault_number
returns-in-RecordSize c = sym (ap fault_number c.in-RecordSize.is)

pub returns-in-Group : goal.returns-in-Group
unfolding fault_number
returns-in-Group c = sym (ap fault_number c.in-Group.is)

pub returns-in-Named : goal.returns-in-Named
unfolding fault_number
returns-in-Named c = sym (ap fault_number c.in-Named.is)

pub returns-in-Typed : goal.returns-in-Typed
unfolding fault_number
returns-in-Typed c = sym (ap fault_number c.in-Typed.is)
