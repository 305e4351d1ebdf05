-- `handed::numbers_of` meets its contract, case by case.
use mathlib.Core.Path.{ap, ◌∙◌}
use Rattle.handed.specs.Handed.{numbers_of}
use Rattle.paper.specs.rules.Answer.{inside}
use Rattle.values.specs.Given.{valued_answer}
use Rattle.handed.proofs.Handing.{numbers-by}
use Rattle.handed.proofs.numbers_of.Goals as goal

pub returns-in-Unsigned : goal.returns-in-Unsigned
unfolding numbers_of valued_answer
returns-in-Unsigned c = numbers-by c.args.v c.in-Unsigned.is c.spanned.ensures

pub returns-in-Signed : goal.returns-in-Signed
unfolding numbers_of valued_answer
returns-in-Signed c = numbers-by c.args.v c.in-Signed.is c.spanned-in-Signed.ensures

pub returns-in-Longer : goal.returns-in-Longer
unfolding numbers_of valued_answer
returns-in-Longer c = numbers-by c.args.v c.in-Longer.is c.spanned-in-Longer.ensures

pub returns-in-TableRefused : goal.returns-in-TableRefused
unfolding numbers_of valued_answer
returns-in-TableRefused c = numbers-by c.args.v c.in-TableRefused.is (c.within_34.ensures ∙ ap (inside 34) c.of_report.ensures)

pub returns-in-HighFirst : goal.returns-in-HighFirst
unfolding numbers_of valued_answer
returns-in-HighFirst c = numbers-by c.args.v c.in-HighFirst.is c.bare.ensures

pub returns-in-NoType : goal.returns-in-NoType
unfolding numbers_of valued_answer
returns-in-NoType c = numbers-by c.args.v c.in-NoType.is c.bare-in-NoType.ensures

pub returns-in-NoStruct : goal.returns-in-NoStruct
unfolding numbers_of valued_answer
returns-in-NoStruct c = numbers-by c.args.v c.in-NoStruct.is c.bare-in-NoStruct.ensures

pub returns-in-RecordShort : goal.returns-in-RecordShort
unfolding numbers_of valued_answer
returns-in-RecordShort c = numbers-by c.args.v c.in-RecordShort.is c.bare-in-RecordShort.ensures

pub returns-in-NoMember : goal.returns-in-NoMember
unfolding numbers_of valued_answer
returns-in-NoMember c = numbers-by c.args.v c.in-NoMember.is c.bare-in-NoMember.ensures

pub returns-in-NoNumber : goal.returns-in-NoNumber
unfolding numbers_of valued_answer
returns-in-NoNumber c = numbers-by c.args.v c.in-NoNumber.is c.bare-in-NoNumber.ensures
