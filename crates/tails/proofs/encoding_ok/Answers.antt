-- `tails::encoding_ok` meets its contract: up to 2, or 4.
use Rattle.tails.proofs.TailKinds.{encoding-low, encoding-high}
use Rattle.tails.proofs.encoding_ok.Goals as goal

pub returns-then-e-le2 : goal.returns-then-e-le2
returns-then-e-le2 c = encoding-low c.args.e c.if-e-le2.true

pub returns : goal.returns
returns c = encoding-high c.args.e c.if-e-le2.false
