-- `shift::groups::raised` meets its contract: by the code of the role.
use native.Mathlib.Omega.{arith}
use Rattle.shift.proofs.RaisedWords.{raised-number, raised-name, raised-type}
use Rattle.shift.proofs.groups.raised.Goals as goal

pub returns-then-is_name : goal.returns-then-is_name
returns-then-is_name c = raised-name _ c.is_name.ensures c.if-is_name.true c.raise_name.ensures

pub returns-then-is_reference : goal.returns-then-is_reference
returns-then-is_reference c = raised-type _ c.is_reference.ensures c.if-is_reference.true c.raise_type.ensures

pub returns : goal.returns
returns c = raised-number _ c.is_name.ensures c.if-is_name.false c.is_reference.ensures c.if-is_reference.false (omega arith)
