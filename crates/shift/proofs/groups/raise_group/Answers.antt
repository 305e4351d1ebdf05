-- `shift::groups::raise_group` meets its contract: a word behind the other, as many as there are.
use native.Mathlib.Omega.{arith}
use Rattle.shift.proofs.RaisedWords.{sofar-none, sofar-more, sofar-all}
use Rattle.shift.proofs.groups.raise_group.Goals as goal

pub returns-then-n-eq0 : goal.returns-then-n-eq0
returns-then-n-eq0 c = sofar-all sofar-none c.if-n-eq0.true

pub returns-then-n-eq1 : goal.returns-then-n-eq1
returns-then-n-eq1 c =
    let pre = c.requires in
    sofar-all (sofar-more sofar-none pre.fits (omega (arith, c.if-n-eq0.false)) (omega arith) (λ ρs h. h.first_role) c.raise_word.ensures)
    c.if-n-eq1.true

pub returns-then-n-eq2 : goal.returns-then-n-eq2
returns-then-n-eq2 c =
    let pre = c.requires in
    sofar-all
    (sofar-more
    (sofar-more sofar-none pre.fits (omega (arith, c.if-n-eq0.false)) (omega arith) (λ ρs h. h.first_role) c.raise_word.ensures)
    pre.fits (omega (arith, c.if-n-eq0.false, c.if-n-eq1.false)) (omega arith) (λ ρs h. h.second_role) c.raise_word-2.ensures)
    c.if-n-eq2.true

pub returns : goal.returns
returns c =
    let pre = c.requires in
    sofar-all
    (sofar-more
    (sofar-more
    (sofar-more sofar-none pre.fits (omega (arith, c.if-n-eq0.false)) (omega arith) (λ ρs h. h.first_role) c.raise_word.ensures)
    pre.fits (omega (arith, c.if-n-eq0.false, c.if-n-eq1.false)) (omega arith) (λ ρs h. h.second_role) c.raise_word-2.ensures)
    pre.fits (omega (arith, c.if-n-eq0.false, c.if-n-eq1.false, c.if-n-eq2.false)) (omega arith) (λ ρs h. h.third-role) c.raise_word-3.ensures)
    (omega (arith, pre.few, c.if-n-eq0.false, c.if-n-eq1.false, c.if-n-eq2.false))
