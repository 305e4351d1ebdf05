-- `list::making::put_front` meets its contract: in either order the twelve bytes are the opening and two words.
use mathlib.Core.Path.{refl}
use native.Mathlib.Omega.{arith}
use Rattle.list.proofs.Makings.{front-put}
use Rattle.list.proofs.making.put_front.Goals as goal

pub returns-in-LowFirst : goal.returns-in-LowFirst
returns-in-LowFirst c = front-put c.in-LowFirst.is _ _ _ _ c.put_header.ensures refl (omega arith) c.requires

pub returns-in-HighFirst : goal.returns-in-HighFirst
returns-in-HighFirst c = front-put c.in-HighFirst.is _ _ _ _ c.put_header-in-HighFirst.ensures refl (omega arith) c.requires
