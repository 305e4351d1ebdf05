-- `places::places` meets its contract: the places passed are written, and those of the records to come are as they were.
use Prim.Native.Nat.{◌+◌, ◌*◌, ◌≤◌}
use mathlib.Core.Path.{◌≡◌, ap, ◌∙◌}
use native.Mathlib.Omega.{arith}
use Rattle.paper.specs.rules.Header.{order_of}
use Rattle.paper.specs.rules.Limits.{byte_limit}
use Rattle.paper.specs.rules.Table.{tail_length}
use Rattle.paper.specs.rules.Word.{word_at}
use Rattle.scan.proofs.Placing.{placing-start, placing-inside, placing-room, placing-step, placing-done}
use Rattle.scan.proofs.places.places.Goals as goal

-- the tail that was asked for is that of the record at the place
tail-here : (c : goal.After-tail_words) →
    let a = c.args in
    c.tail_words.result ≡ tail_length (word_at (order_of a.b.now) a.b.now (c.loop-k.at + 4))
tail-here c = c.tail_words.ensures ∙ ap tail_length c.blob_word.ensures

-- so that what is added stays small
inside : (c : goal.After-tail_words) → c.loop-k.at + (12 + 4 * c.tail_words.result) ≤ byte_limit
inside c = rw (tail-here c) (placing-inside c.loop-k.invariant c.loop-k-test.true)

pub loop-k-init : goal.loop-k-init
loop-k-init c = placing-start c.requires

pub bounds-index-k : goal.bounds-index-k
bounds-index-k c = placing-room c.loop-k.invariant c.loop-k-test.true

pub overflow_add-at : goal.overflow_add-at
overflow_add-at c = omega (arith, placing-inside c.loop-k.invariant c.loop-k-test.true)

pub overflow_mul-at : goal.overflow_mul-at
overflow_mul-at c = omega (arith, inside c)

pub overflow_add-at-in-loop-k : goal.overflow_add-at-in-loop-k
overflow_add-at-in-loop-k c = omega (arith, inside c)

pub overflow_add-at-in-loop-k-2 : goal.overflow_add-at-in-loop-k-2
overflow_add-at-in-loop-k-2 c = omega (arith, inside c)

pub loop-k-preserved : goal.loop-k-preserved
loop-k-preserved c = rw (tail-here c) (placing-step c.loop-k.invariant c.loop-k-test.true)

pub returns : goal.returns
returns c = placing-done c.loop-k.invariant c.loop-k-test.false
