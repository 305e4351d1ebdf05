-- `rules::quick::quiet` meets its contract: an arm for each sort of info word.
use mathlib.Core.Path.{sym}
use mathlib.Core.List.{[], ◌∷◌}
use Rattle.rows.proofs.Members.{member-key}
use Rattle.rules.proofs.Quiet.{quiet-nameless, quiet-int, quiet-array}
use Rattle.rules.proofs.quick.quiet.Goals as goal

pub returns-in-33554432 : goal.returns-in-33554432
returns-in-33554432 c =
    let one = member-key c.info_of-info.result 33554432 (150994944 ∷ 167772160 ∷ 184549376 ∷ []) c.in-33554432.is in
    quiet-nameless _ _ _ _ c.info_of-info.ensures (sym one) c.nameless.ensures

pub returns-in-16777216 : goal.returns-in-16777216
returns-in-16777216 c = λ e. quiet-int _ _ _ _ c.info_of-info.ensures c.in-16777216.is (c.int_good.ensures e)

pub returns-in-50331648 : goal.returns-in-50331648
returns-in-50331648 c =
    λ e.
    let good = c.array_good.ensures e in
    quiet-array _ _ _ _ c.info_of-info.ensures c.in-50331648.is good.0 good.1
