-- `values::signs::signed_of` meets its contract.
use Prim.Native.Nat.{◌-◌, ◌^◌, ◌<◌}
use native.Mathlib.Omega.{arith}
use mir.Facts.{to_z_pos}
use mir.Syntax.{w64}
use Rattle.values.proofs.Negative.{negated_fits, lowered-fits, lowered_is}
use Rattle.values.proofs.SignNumbers.{value-plus, value-minus}
use Rattle.values.proofs.signs.signed_of.Goals as goal

-- what is negated is below 2^63
k-fits : (c : goal.Else-x-lt9223372036854775808) → 2 ^ 64 - 1 - c.filled-x.result < 2 ^ 63
k-fits c = omega arith

pub returns-then-x-lt9223372036854775808 : goal.returns-then-x-lt9223372036854775808
returns-then-x-lt9223372036854775808 c =
    let p = c.requires in
    value-plus p.0 p.1 p.2 c.filled-x.ensures c.if-x-lt9223372036854775808.true (to_z_pos w64 c.if-x-lt9223372036854775808.true)

pub overflow_sub-result : goal.overflow_sub-result
overflow_sub-result c = negated_fits (k-fits c)

pub overflow_sub-result-2 : goal.overflow_sub-result-2
overflow_sub-result-2 c = lowered-fits (k-fits c)

pub returns : goal.returns
returns c =
    let p = c.requires in
    value-minus p.0 p.1 p.2 c.filled-x.ensures c.if-x-lt9223372036854775808.false (lowered_is (k-fits c))
