-- `abi::tell` meets its contract: as many numbers as there are places.
use native.Mathlib.Omega.{arith}
use lib.ListN.{length-set}
use Rattle.abi.proofs.Telling.{told_none, told-one, told-two, told-three, told-four}
use Rattle.answers.specs.Numbers.{as_paper}
use Rattle.abi.proofs.tell.Goals as goal

pub returns-then-places-eq0 : goal.returns-then-places-eq0
returns-then-places-eq0 c = let a = c.args in told_none (as_paper a.n) a.answer.now c.if-places-eq0.true

pub returns-then-places-eq1 : goal.returns-then-places-eq1
returns-then-places-eq1 c = let a = c.args in told-one (as_paper a.n) a.answer.now c.if-places-eq1.true

pub bounds-answer-1 : goal.bounds-answer-1
bounds-answer-1 c = simp length-set (omega (arith, c.if-places-eq0.false, c.if-places-eq1.false))

pub returns-then-places-eq2 : goal.returns-then-places-eq2
returns-then-places-eq2 c = let a = c.args in told-two (as_paper a.n) a.answer.now c.if-places-eq2.true

pub bounds-answer-2 : goal.bounds-answer-2
bounds-answer-2 c = simp length-set (omega (arith, c.if-places-eq0.false, c.if-places-eq1.false, c.if-places-eq2.false))

pub returns-then-places-eq3 : goal.returns-then-places-eq3
returns-then-places-eq3 c = let a = c.args in told-three (as_paper a.n) a.answer.now c.if-places-eq3.true

pub bounds-answer-3 : goal.bounds-answer-3
bounds-answer-3 c = simp length-set (omega (arith, c.if-places-eq0.false, c.if-places-eq1.false, c.if-places-eq2.false, c.if-places-eq3.false))

pub returns : goal.returns
returns c =
    let a = c.args in
    told-four (as_paper a.n) a.answer.now
    (omega (arith, c.if-places-eq0.false, c.if-places-eq1.false, c.if-places-eq2.false, c.if-places-eq3.false))
