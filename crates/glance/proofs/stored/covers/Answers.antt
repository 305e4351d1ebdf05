-- `glance::stored::covers` meets its contract.
use Rattle.glance.proofs.EntriesFit.{covers-not, covers-by}
use Rattle.glance.proofs.stored.covers.Goals as goal

pub returns-then-s-ne-STORED : goal.returns-then-s-ne-STORED
returns-then-s-ne-STORED c = covers-not _ c.args.size c.if-s-ne-STORED.true

pub returns : goal.returns
returns c = covers-by _ _ c.if-s-ne-STORED.false
