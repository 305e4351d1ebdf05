-- `values::reading::value_at` meets its contract.
use Prim.Native.Nat.{ℕ, ◌^◌, ◌<◌}
use mathlib.Core.Path.{sym, ◌∙◌, subst}
use native.Mathlib.Omega.{arith}
use mir.Facts.{to_z-of_z}
use mir.Syntax.{w64}
use Rattle.values.proofs.BitNumbers.{number-below}
use Rattle.values.proofs.GivenValues.{longer-value, unsigned-value, signed-value}
use Rattle.values.proofs.reading.value_at.Goals as goal

pub returns-then-bits-gt64 : goal.returns-then-bits-gt64
returns-then-bits-gt64 c = let a = c.args in longer-value a.s.now a.from a.bits a.signed c.if-bits-gt64.true

pub signed_of-requires : goal.signed_of-requires
signed_of-requires c =
    let a = c.args in
    (omega arith, omega arith, subst (λ (k : ℕ). k < 2 ^ a.bits) (sym c.number_at-n.ensures) (number-below a.from a.bits a.s.now))

pub returns-then-signed : goal.returns-then-signed
returns-then-signed c =
    let a = c.args in
    signed-value a.s.now a.from a.bits (omega arith) a.signed c.if-signed.true c.requires.0 c.requires.2 c.number_at-n.ensures
    (to_z-of_z {w = w64} (record { sfits = c.signed_of.type_inv }) ∙ c.signed_of.ensures)

pub returns : goal.returns
returns c =
    let a = c.args in
    unsigned-value a.s.now a.from a.bits (omega arith) a.signed c.if-signed.false c.number_at-n.ensures
