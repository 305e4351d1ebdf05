-- `texts::numbers::parse` meets its contract. The loop's invariant: the digits so far have this value.
use native.Mathlib.Omega.{arith}
use Rattle.texts.proofs.Decimals.{number-empty, reading-start, reading-low, reading-high, reading-large, reading-next, reading-done}
use Rattle.texts.proofs.numbers.parse.Goals as goal

pub returns-then-s-eq0 : goal.returns-then-s-eq0
returns-then-s-eq0 c = number-empty _ c.if-s-eq0.true

pub loop-c-init : goal.loop-c-init
loop-c-init c = reading-start _ (omega arith)

pub returns-then-c-lt48 : goal.returns-then-c-lt48
returns-then-c-lt48 c = reading-low c.loop-c.invariant c.loop-c-test.true c.if-c-lt48.true

pub returns-then-c-gt57 : goal.returns-then-c-gt57
returns-then-c-gt57 c = reading-high c.loop-c.invariant c.loop-c-test.true c.if-c-lt48.false c.if-c-gt57.true

pub returns-then-value-gt4294967295 : goal.returns-then-value-gt4294967295
returns-then-value-gt4294967295 c = reading-large c.loop-c.invariant c.loop-c-test.true c.if-value-gt4294967295.true

pub loop-c-preserved : goal.loop-c-preserved
loop-c-preserved c =
    reading-next c.loop-c.invariant c.loop-c-test.true c.if-c-lt48.false
    c.if-c-gt57.false c.if-value-gt4294967295.false

pub returns : goal.returns
returns c = reading-done c.loop-c.invariant c.loop-c-test.false
