-- `words::turn` meets its contract: the four bytes change places.
use mathlib.Core.Path.{refl}
use native.Mathlib.Omega.{arith}
use Rattle.words.proofs.Orders.{turned-word}
use Rattle.words.proofs.turn.Goals as goal

pub returns : goal.returns
returns c = turned-word _ (omega arith) refl
