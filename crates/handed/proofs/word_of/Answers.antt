-- `handed::word_of` meets its contract.
use Rattle.handed.proofs.Signs.{plus-fits, turned-fits, over-fits, over-low, word-minus, held_fits, word-plus}
use Rattle.handed.proofs.word_of.Goals as goal

pub overflow_add-k : goal.overflow_add-k
overflow_add-k c = plus-fits c.args.z c.well_formed.0 c.if-z-lt0.true

pub overflow_sub-k : goal.overflow_sub-k
overflow_sub-k c = turned-fits c.args.z c.well_formed.0 c.if-z-lt0.true

pub overflow_cast-result : goal.overflow_cast-result
overflow_cast-result c = over-fits c.args.z c.well_formed.0 c.if-z-lt0.true

pub overflow_sub-result : goal.overflow_sub-result
overflow_sub-result c = over-low c.args.z c.well_formed.0 c.if-z-lt0.true

pub returns-then-z-lt0 : goal.returns-then-z-lt0
returns-then-z-lt0 c = word-minus c.args.z c.well_formed.0 c.if-z-lt0.true

pub overflow_cast-result-2 : goal.overflow_cast-result-2
overflow_cast-result-2 c = held_fits c.args.z c.well_formed.0 c.if-z-lt0.false

pub returns : goal.returns
returns c = word-plus c.args.z c.well_formed.0 c.if-z-lt0.false
