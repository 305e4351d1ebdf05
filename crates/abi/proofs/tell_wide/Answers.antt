-- `abi::tell_wide` meets its contract.
use Prim.Native.Nat.{ℕ}
use mathlib.Core.Path.{ap, ◌∙◌}
use mathlib.Core.List.{List}
use native.Mathlib.Omega.{arith}
use lib.ListN.{set}
use Rattle.abi.proofs.Telling.{wide-few, wide-full}
use Rattle.answers.specs.Numbers.{as_paper}
use Rattle.abi.proofs.tell_wide.Goals as goal

pub returns-then-answer-lt5 : goal.returns-then-answer-lt5
returns-then-answer-lt5 c =
    let a = c.args in
    c.tell.ensures ∙ wide-few (as_paper a.n) a.high a.answer.now (omega (arith, c.if-answer-lt5.true, c.tell.auto.answer))

pub returns : goal.returns
returns c =
    let a = c.args in
    ap (λ (s : List ℕ). set s 4 a.high) c.tell.ensures
    ∙ wide-full (as_paper a.n) a.high a.answer.now (omega (arith, c.if-answer-lt5.false, c.tell.auto.answer))
