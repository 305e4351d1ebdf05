-- `sums::add_place` meets its contract: the four bytes one after the other.
use native.Mathlib.Nat.{div-one}
use borrow.Author.Rules.{rules}
use Rattle.sums.proofs.add_place.Goals as goal

pub returns : goal.returns
returns c = (search rules, cc (div-one c.args.place))
