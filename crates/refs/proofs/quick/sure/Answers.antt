-- `refs::quick::sure` meets its contract: an arm for each sort of info word.
use mathlib.Core.Bool.{false≢true}
use Rattle.refs.proofs.SureRefs.{sure-none, sure-third, sure-members}
use Rattle.refs.proofs.quick.sure.Goals as goal

pub returns-in-16777216 : goal.returns-in-16777216
returns-in-16777216 c = λ e. sure-none _ _ _ c.read-info.ensures c.in-16777216.is

pub returns-in-33554432 : goal.returns-in-33554432
returns-in-33554432 c = sure-third _ _ _ c.read-info.ensures c.in-33554432.is c.third_plain.ensures

pub returns-in-1024 : goal.returns-in-1024
returns-in-1024 c = sure-members _ _ _ c.read-info.ensures c.in-1024.is c.members_plain.ensures

pub returns-in_default-2 : goal.returns-in_default-2
returns-in_default-2 c = λ e. absurd (false≢true e)
