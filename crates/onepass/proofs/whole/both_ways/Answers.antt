-- `onepass::whole::both_ways` meets its contract.
use Rattle.onepass.proofs.Backing.{settled-good, through-good, through_read}
use Rattle.onepass.proofs.Ways.{ran_open, ran_settled, through-lengths}
use Rattle.onepass.proofs.whole.both_ways.Goals as goal

pub back-requires : goal.back-requires
back-requires c = (through-lengths (ran_open c.forth.ensures c.in-Open.is) c.forth.auto.index c.forth.auto.work, c.requires.ordered)

pub returns-then-back : goal.returns-then-back
returns-then-back c = through-good (ran_open c.forth.ensures c.in-Open.is) (c.back.ensures c.if-back.true)

pub returns-in-Settled : goal.returns-in-Settled
returns-in-Settled c =
    let told = ran_settled c.forth.ensures c.in-Settled.is in
    settled-good told.0 told.1

pub returns-else-back : goal.returns-else-back
returns-else-back c = through_read (ran_open c.forth.ensures c.in-Open.is)
