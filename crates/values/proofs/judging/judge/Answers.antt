-- `values::judging::judge` meets its contract: by the sort.
use mathlib.Core.Path.{refl}
use Rattle.values.proofs.FoundRules.{sort-unsigned, sort-signed, sort-high, sort-type, sort-struct, sort-member, sort-number}
use Rattle.values.proofs.judging.judge.Goals as goal

pub judge_span-requires : goal.judge_span-requires
judge_span-requires c = refl

pub judge_span-requires-in-Signed : goal.judge_span-requires-in-Signed
judge_span-requires-in-Signed c = refl

pub judge_span-requires-in-NoMember : goal.judge_span-requires-in-NoMember
judge_span-requires-in-NoMember c = refl

pub judge_span-requires-in-NoNumber : goal.judge_span-requires-in-NoNumber
judge_span-requires-in-NoNumber c = refl

pub returns-in-Unsigned : goal.returns-in-Unsigned
returns-in-Unsigned c = let a = c.args in sort-unsigned a.size a.from a.bits a.len c.in-Unsigned.is c.judge_span.ensures

pub returns-in-Signed : goal.returns-in-Signed
returns-in-Signed c = let a = c.args in sort-signed a.size a.from a.bits a.len c.in-Signed.is c.judge_span-in-Signed.ensures

pub returns-in-HighFirst : goal.returns-in-HighFirst
returns-in-HighFirst c = let a = c.args in sort-high a.size a.from a.bits a.len c.in-HighFirst.is

pub returns-in-NoType : goal.returns-in-NoType
returns-in-NoType c = let a = c.args in sort-type a.size a.from a.bits a.len c.in-NoType.is

pub returns-in-NoStruct : goal.returns-in-NoStruct
returns-in-NoStruct c = let a = c.args in sort-struct a.size a.from a.bits a.len c.in-NoStruct.is

pub returns-in-NoMember : goal.returns-in-NoMember
returns-in-NoMember c = let a = c.args in sort-member a.size a.from a.bits a.len c.in-NoMember.is c.judge_span-in-NoMember.ensures

pub returns-in-NoNumber : goal.returns-in-NoNumber
returns-in-NoNumber c = let a = c.args in sort-number a.size a.from a.bits a.len c.in-NoNumber.is c.judge_span-in-NoNumber.ensures
