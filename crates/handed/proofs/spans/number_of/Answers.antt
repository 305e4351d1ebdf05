-- `handed::spans::number_of` meets its contract, case by case.
use mathlib.Core.Path.{sym, ap}
use Rattle.values.specs.Given.{sort_number}
use Rattle.handed.proofs.spans.number_of.Goals as goal

pub returns-in-Unsigned : goal.returns-in-Unsigned
unfolding sort_number
returns-in-Unsigned c = sym (ap sort_number c.in-Unsigned.is)

pub returns-in-Signed : goal.returns-in-Signed
unfolding sort_number
returns-in-Signed c = sym (ap sort_number c.in-Signed.is)

pub returns-in-HighFirst : goal.returns-in-HighFirst
unfolding sort_number
returns-in-HighFirst c = sym (ap sort_number c.in-HighFirst.is)

pub returns-in-NoType : goal.returns-in-NoType
unfolding sort_number
returns-in-NoType c = sym (ap sort_number c.in-NoType.is)

pub returns-in-NoStruct : goal.returns-in-NoStruct
unfolding sort_number
returns-in-NoStruct c = sym (ap sort_number c.in-NoStruct.is)

pub returns-in-NoMember : goal.returns-in-NoMember
unfolding sort_number
returns-in-NoMember c = sym (ap sort_number c.in-NoMember.is)

pub returns-in-NoNumber : goal.returns-in-NoNumber
unfolding sort_number
returns-in-NoNumber c = sym (ap sort_number c.in-NoNumber.is)
