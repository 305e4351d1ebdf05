-- `onepass::forth::long` meets its contract: a struct or a union, or any other.
use mathlib.Core.Logic.{inl}
use mathlib.Core.Path.{refl, sym, ap, ◌∙◌}
use mathlib.Core.List.{[], ◌∷◌}
use native.Mathlib.Omega.{arith}
use Prim.Native.Nat.{ℕ, ◌/◌}
use Rattle.onepass.proofs.Extents.{half-key, long-group, long-known, stepped}
use Rattle.paper.specs.rules.Choice.{member}
use Rattle.onepass.proofs.forth.long.Goals as goal

pub returns-then-room-size : goal.returns-then-room-size
returns-then-room-size c = inl refl

pub group-s-requires : goal.group-s-requires
group-s-requires c = ap (λ (w : ℕ). member (w / 65536) (1024 ∷ 1280 ∷ [])) (sym c.read-info.ensures) ∙ half-key _ c.in-1024.is

pub returns-then-size-eq0 : goal.returns-then-size-eq0
returns-then-size-eq0 c = inl refl

pub returns-then-room-size-2 : goal.returns-then-room-size-2
returns-then-room-size-2 c = inl refl

pub returns-else-room-size : goal.returns-else-room-size
returns-else-room-size c = stepped c.read-info.ensures (long-group _ c.in-1024.is c.vlen_of.ensures) (omega (arith, c.if-room-size.false)) c.group-s.ensures c.put.ensures

pub returns-else-room-size-2 : goal.returns-else-room-size-2
returns-else-room-size-2 c = stepped c.read-info.ensures (long-known c.extent_of-size.ensures c.if-size-eq0.false) (omega (arith, c.if-room-size-2.false)) c.other-s.ensures c.put-in_default.ensures
