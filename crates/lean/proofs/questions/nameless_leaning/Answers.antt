-- `lean::questions::nameless_leaning` meets its contract: neither side holds the offset.
use Rattle.lean.proofs.Askings.{side-none}
use Rattle.lean.proofs.questions.nameless_leaning.Goals as goal

pub returns : goal.returns
returns c = let a = c.args in side-none a.base.now a.own.now a.at.0 c.side_of.result c.side_of.ensures c.is_none.result c.is_none.ensures
