-- `values::signs::long_bytes` meets its contract.
use Prim.Native.Nat.{ℕ, ◌-◌, ◌^◌, ◌<◌}
use mathlib.Core.Path.{sym, subst}
use Rattle.values.proofs.BitNumbers.{number-below}
use Rattle.values.proofs.LongBytes.{read-long}
use borrow.Author.Rules.{rules}
use Rattle.values.proofs.signs.long_bytes.Goals as goal

pub filled-requires : goal.filled-requires
filled-requires c =
    let a = c.args in
    (search rules, search rules, subst (λ (n : ℕ). n < 2 ^ (a.bits - 64)) (sym c.number_at-high.ensures) (number-below a.from (a.bits - 64) _))

pub sixteen-requires : goal.sixteen-requires
sixteen-requires c = tt

pub returns : goal.returns
returns c =
    let a = c.args in
    let p = c.requires in
    read-long a.s.now a.from a.bits a.signed p.0 p.1 p.2 c.number_at-low.ensures c.number_at-high.ensures c.filled.ensures c.sixteen.ensures
