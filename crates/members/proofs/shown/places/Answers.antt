-- `members::shown::places` meets its contract.
use Rattle.members.proofs.Places.{places-few, places-many}
use Rattle.members.proofs.shown.places.Goals as goal

pub returns-then-n-lt4294967296 : goal.returns-then-n-lt4294967296
returns-then-n-lt4294967296 c = places-few c.args.index.now c.if-n-lt4294967296.true

pub returns : goal.returns
returns c = places-many c.args.index.now c.if-n-lt4294967296.false
