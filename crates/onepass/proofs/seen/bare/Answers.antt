-- `onepass::seen::bare` meets its contract: an arm for each sort of info word.
use Prim.Native.Nat.{ℕ}
use mathlib.Core.Logic.{inl}
use mathlib.Core.List.{List, [], ◌∷◌}
use mathlib.Core.Path.{refl, sym, ap, ◌∙◌}
use Rattle.paper.specs.rules.Choice.{member}
use Rattle.rows.proofs.Members.{member-key}
use Rattle.onepass.proofs.seen.bare.Goals as goal

pub qualifier-requires : goal.qualifier-requires
qualifier-requires c =
    let keys : List ℕ = 167772160 ∷ 184549376 ∷ [] in
    sym (member-key _ 150994944 keys c.in-150994944.is ∙ ap (λ (w : ℕ). member w (150994944 ∷ keys)) c.read.ensures)

pub returns-in_default : goal.returns-in_default
returns-in_default c = inl refl
