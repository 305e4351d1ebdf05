-- `values::signs::sixteen` meets its contract.
use mathlib.Core.Path.{refl}
use Rattle.values.proofs.LongBytes.{read-16}
use Rattle.values.proofs.signs.sixteen.Goals as goal

pub slice_bounds-write-end : goal.slice_bounds-write-end
slice_bounds-write-end c = refl

pub write-requires : goal.write-requires
write-requires c = tt

pub write-requires-2 : goal.write-requires-2
write-requires-2 c = tt

pub write-requires-3 : goal.write-requires-3
write-requires-3 c = tt

pub write-requires-4 : goal.write-requires-4
write-requires-4 c = tt

pub returns : goal.returns
returns c = read-16 c.args.a c.args.b c.write.ensures c.write-2.ensures c.write-3.ensures c.write-4.ensures
