-- `onepass::seen::group` meets its contract.
use mathlib.Core.Bool.{not}
use Prim.Native.Nat.{ℕ, ◌/◌}
use mathlib.Core.List.{[], ◌∷◌}
use mathlib.Core.Logic.{inl}
use mathlib.Core.Path.{refl, ap, ◌∙◌}
use Rattle.onepass.proofs.ByKind.{told-group}
use Rattle.paper.specs.rules.Choice.{member}
use Rattle.onepass.proofs.seen.group.Goals as goal

pub returns-then-not-optional_ok : goal.returns-then-not-optional_ok
returns-then-not-optional_ok c = inl refl

pub members-requires : goal.members-requires
members-requires c = (c.read-info.ensures, ap (λ (w : ℕ). member (w / 65536) (1024 ∷ 1280 ∷ [])) c.read-info.ensures ∙ c.requires, c.read-size.ensures)

pub returns : goal.returns
returns c =
    told-group _ _ _ _ _ c.read.ensures c.optional_ok.ensures (ap not c.if-not-optional_ok.false) c.read-info.ensures c.requires
    c.members.ensures
