-- `quotes::escapes::quote` meets its contract. The loop's invariant: what is written behind the first quote is what is passed, escaped.
use native.Mathlib.Omega.{arith}
use lib.ListN.{length-set}
use Rattle.quotes.proofs.Quotes.{quoting-start, quoting-next, quoting-done}
use Rattle.quotes.proofs.escapes.quote.Goals as goal

pub loop-b-init : goal.loop-b-init
loop-b-init c = quoting-start _ _

pub escape_byte-at-requires : goal.escape_byte-at-requires
escape_byte-at-requires c = let k = simp length-set at c.loop-b.invariant.kept in omega arith

pub loop-b-preserved : goal.loop-b-preserved
loop-b-preserved c =
    quoting-next
    c.loop-b.invariant
    (omega arith)
    (simp length-set c.requires)
    c.escape_byte-at.ensures
    c.escape_byte-at.auto.out

pub bounds-out-at : goal.bounds-out-at
bounds-out-at c = let k = simp length-set at c.loop-b.invariant.kept in omega arith

pub overflow_add-result : goal.overflow_add-result
overflow_add-result c = let k = simp length-set at c.loop-b.invariant.kept in omega arith

pub returns : goal.returns
returns c = quoting-done c.loop-b.invariant (omega arith) c.requires
