-- Report 10 by the words that it is asked of.
use Rattle.std.specs.Prelude.{ℕ, Bool, ◌&&◌}
use Rattle.paper.specs.rules.Heads.{allowed, spare_zero}
use Rattle.paper.specs.rules.Kind.{row_of}
use Rattle.paper.specs.rules.Table.{kind_in, vlen_in, flag_in}

-- report 10 by the info word and the third word
abbrev pub head_by : ℕ → ℕ → Bool
head_by info third =
    let row = row_of (kind_in info) in
    spare_zero info
    && allowed row.flag (flag_in info)
    && allowed row.vlen (vlen_in info)
    && allowed row.third_values third
