-- `idents::past` meets its contract: up to each turn the bytes pass.
use mathlib.Core.Bool.{not}
use mathlib.Core.Path.{◌≡◌, ap, sym, ◌∙◌}
use native.Mathlib.Omega.{arith}
use borrow.Author.Tests.{not-true, not-false}
use Rattle.idents.proofs.Passes.{passing-start, passing-next}
use Rattle.idents.proofs.past.Goals as goal

pub loop-i-init : goal.loop-i-init
loop-i-init c = passing-start (omega arith)

pub returns-then-not-is_among : goal.returns-then-not-is_among
returns-then-not-is_among c =
    record {
      passing = c.loop-i.invariant;
      within = omega arith;
      stops = λ b l. sym c.is_among.ensures ∙ not-true c.is_among.result (ap not c.if-not-is_among.true);
    }

pub loop-i-preserved : goal.loop-i-preserved
loop-i-preserved c =
    passing-next c.loop-i.invariant (omega arith) (omega arith) (sym c.is_among.ensures ∙ not-false c.is_among.result (ap not c.if-not-is_among.false))

pub returns : goal.returns
returns c =
    let all : c.loop-i.i ≡ c.args.to = omega arith in
    record { passing = rw all at c.loop-i.invariant; within = omega arith; stops = λ b l. absurd (omega arith) }
