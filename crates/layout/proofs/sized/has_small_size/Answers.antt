-- `layout::sized::has_small_size` meets its contract: an exact size, and no other answer.
use Rattle.layout.specs.Told.{recalled}
use Rattle.layout.proofs.SizesTold.{small-none, variable-told}
use Rattle.layout.proofs.sized.has_small_size.Goals as goal
use mathlib.Core.Path.{refl, ◌∙◌}

pub returns-in-Exact : goal.returns-in-Exact
returns-in-Exact c =
    variable-told (recalled c.args.base.now c.args.b.now c.args.index.now c.args.view c.args.memo.now) c.args.t.0
    c.in-Exact.is c.size_of.ensures

pub returns-in_default : goal.returns-in_default
returns-in_default c =
    small-none c.size_of.result c.in_default.not-Exact
    ∙ variable-told (recalled c.args.base.now c.args.b.now c.args.index.now c.args.view c.args.memo.now) c.args.t.0 refl c.size_of.ensures
