-- `handed::of_int` meets its contract: zeros above a number, ones above a negative one.
use Prim.Native.Nat.{ℕ}
use mathlib.Core.Path.{ap, ◌∙◌}
use mathlib.Core.List.{◌++◌}
use mir.Syntax.{w64}
use mir.Val.{of_z}
use Rattle.handed.proofs.Signs.{held-is, bytes-minus, bytes-plus}
use Rattle.values.specs.Promised.{bytes_from}
use Rattle.handed.proofs.of_int.Goals as goal

pub returns-then-z-lt0 : goal.returns-then-z-lt0
returns-then-z-lt0 c =
    c.sixteen.ensures
    ∙ ap (λ (n : ℕ). bytes_from 8 0 n ++ bytes_from 8 0 18446744073709551615) (c.word_of.ensures ∙ ap (of_z w64) (held-is c.args.z c.well_formed.0))
    ∙ bytes-minus c.args.z c.well_formed.0 c.if-z-lt0.true

pub returns : goal.returns
returns c =
    c.sixteen-2.ensures
    ∙ ap (λ (n : ℕ). bytes_from 8 0 n ++ bytes_from 8 0 0) (c.word_of-2.ensures ∙ ap (of_z w64) (held-is c.args.z c.well_formed.0))
    ∙ bytes-plus c.args.z c.well_formed.0 c.if-z-lt0.false
