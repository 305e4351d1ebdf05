-- `handed::sixteen_of` meets its contract, case by case.
use mathlib.Core.Path.{refl, ap, ◌∙◌}
use Rattle.handed.specs.Handed.{int_bytes, sixteen_of}
use Rattle.values.specs.Given.{valued_answer, valued_number}
use Rattle.handed.proofs.Handing.{bytes-by}
use Rattle.handed.proofs.Signs.{held-is}
use Rattle.handed.proofs.sixteen_of.Goals as goal

pub returns-in-Unsigned : goal.returns-in-Unsigned
unfolding sixteen_of valued_answer valued_number
returns-in-Unsigned c = bytes-by c.args.v c.in-Unsigned.is c.sixteen.ensures

pub returns-in-Signed : goal.returns-in-Signed
unfolding sixteen_of valued_answer valued_number
returns-in-Signed c = bytes-by c.args.v c.in-Signed.is (c.of_int.ensures ∙ ap int_bytes (held-is c.in-Signed.z c.in-Signed.known_told-in-Signed-1-own.given.0.1))

pub returns-in-Longer : goal.returns-in-Longer
unfolding sixteen_of valued_answer valued_number
returns-in-Longer c = bytes-by c.args.v c.in-Longer.is refl

pub returns-in-TableRefused : goal.returns-in-TableRefused
unfolding sixteen_of valued_answer valued_number
returns-in-TableRefused c = bytes-by c.args.v c.in-TableRefused.is refl

pub returns-in-HighFirst : goal.returns-in-HighFirst
unfolding sixteen_of valued_answer valued_number
returns-in-HighFirst c = bytes-by c.args.v c.in-HighFirst.is refl

pub returns-in-NoType : goal.returns-in-NoType
unfolding sixteen_of valued_answer valued_number
returns-in-NoType c = bytes-by c.args.v c.in-NoType.is refl

pub returns-in-NoStruct : goal.returns-in-NoStruct
unfolding sixteen_of valued_answer valued_number
returns-in-NoStruct c = bytes-by c.args.v c.in-NoStruct.is refl

pub returns-in-RecordShort : goal.returns-in-RecordShort
unfolding sixteen_of valued_answer valued_number
returns-in-RecordShort c = bytes-by c.args.v c.in-RecordShort.is refl

pub returns-in-NoMember : goal.returns-in-NoMember
unfolding sixteen_of valued_answer valued_number
returns-in-NoMember c = bytes-by c.args.v c.in-NoMember.is refl

pub returns-in-NoNumber : goal.returns-in-NoNumber
unfolding sixteen_of valued_answer valued_number
returns-in-NoNumber c = bytes-by c.args.v c.in-NoNumber.is refl
