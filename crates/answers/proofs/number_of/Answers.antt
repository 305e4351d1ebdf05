-- `answers::number_of` meets its contract: by its case.
use mathlib.Core.Path.{sym, ap}
use Rattle.lists.specs.Kept.{fault_number}
use Rattle.answers.proofs.number_of.Goals as goal

pub returns-in-UnknownTag : goal.returns-in-UnknownTag
unfolding fault_number
returns-in-UnknownTag c = sym (ap fault_number c.in-UnknownTag.is)

pub returns-in-CutShort : goal.returns-in-CutShort
unfolding fault_number
returns-in-CutShort c = sym (ap fault_number c.in-CutShort.is)

pub returns-in-OutOfPlace : goal.returns-in-OutOfPlace
unfolding fault_number
returns-in-OutOfPlace c = sym (ap fault_number c.in-OutOfPlace.is)
