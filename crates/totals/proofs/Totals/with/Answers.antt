use Rattle.totals.proofs.Carried.{later-made}
use Rattle.totals.proofs.Totals.with.Goals as goal

-- the record is made of both sums
pub returns : goal.returns
returns c = later-made c.args.self c.args.bytes c.wrapping_add_usize.ensures.value c.wrapping_add_usize-2.ensures.value
