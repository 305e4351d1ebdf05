-- `idents::ahead` meets its contract: each turn adds sixteen bytes that are an identifier's.
use Prim.Native.Nat.{◌+◌, ◌*◌, ◌/◌, ◌-◌}
use mathlib.Core.Bool.{not}
use mathlib.Core.Path.{◌≡◌, ap, subst}
use native.Mathlib.Omega.{arith}
use borrow.Author.Tests.{not-false}
use Rattle.idents.specs.Spelling.{Passing, identifier_byte}
use Rattle.idents.proofs.Passes.{passing-start, passing-join}
use Rattle.idents.proofs.ahead.Goals as goal

pub loop-k-init : goal.loop-k-init
loop-k-init c =
    let first : c.args.from ≡ c.args.from + 16 * 0 = omega arith in
    subst (Passing identifier_byte c.args.s.now c.args.from) first (passing-start (omega arith))

pub returns-then-not-sixteen : goal.returns-then-not-sixteen
returns-then-not-sixteen c = (c.loop-k.invariant, omega arith)

pub loop-k-preserved : goal.loop-k-preserved
loop-k-preserved c =
    let next : c.args.from + 16 * c.loop-k.k + 16 ≡ c.args.from + 16 * (c.loop-k.k + 1) = omega arith in
    rw next at (passing-join c.loop-k.invariant (c.sixteen.ensures.passing (not-false c.sixteen.result (ap not c.if-not-sixteen.false))))

pub returns : goal.returns
returns c =
    let all : c.loop-k.k ≡ (c.args.to - c.args.from) / 16 = omega arith in
    (rw all at c.loop-k.invariant, omega arith)
