-- `shift::records::raise_records` meets its contract: a record behind the other, until none is left or one does not fit.
use native.Mathlib.Omega.{arith}
use Rattle.paper.proofs.bytes.Bytes.{part-rest}
use Rattle.shift.proofs.RaisedRecords.{running-start, running-done, running-stopped, running-on, running-fits}
use Rattle.shift.proofs.records.raise_records.Goals as goal

pub loop-init : goal.loop-init
loop-init c = (_, omega arith, running-start)

pub slice_bounds-raise_record-count : goal.slice_bounds-raise_record-count
slice_bounds-raise_record-count c = c.loop.invariant.2.inside

pub slice_bounds-raise_record-start : goal.slice_bounds-raise_record-start
slice_bounds-raise_record-start c = omega (arith, c.loop.invariant.2.inside)

pub returns-then-size-eq0 : goal.returns-then-size-eq0
returns-then-size-eq0 c =
    running-done
    (running-stopped c.loop.invariant.2 c.raise_record-size.ensures c.rest_from.ensures.bytes (part-rest c.loop.out c.loop.p)
    (omega arith) c.if-size-eq0.true)
    (omega arith)

pub overflow_add-p : goal.overflow_add-p
overflow_add-p c =
    omega (
      arith,
      running-fits c.loop.invariant.2 c.raise_record-size.ensures c.rest_from.ensures.bytes (part-rest c.loop.out c.loop.p)
          (omega arith) c.if-size-eq0.false,
      c.loop.invariant.2.same_length,
      c.well_formed.1.1.1.0.0,
    )

pub loop-preserved : goal.loop-preserved
loop-preserved c = (
  _,
  omega arith,
  running-on c.loop.invariant.2 c.raise_record-size.ensures c.rest_from.ensures.bytes (part-rest c.loop.out c.loop.p)
      (omega arith) c.if-size-eq0.false,
)

pub returns : goal.returns
returns c = running-done c.loop.invariant.2 (omega arith)
