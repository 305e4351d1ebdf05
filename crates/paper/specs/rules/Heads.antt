-- Report 10: "head words break the list below".
use Rattle.std.specs.Prelude.{ℕ, Bool, true, not, ◌&&◌, eqb}
use Rattle.paper.specs.rules.Choice.{member}
use Rattle.paper.specs.rules.Kind.{Values, free, one_of}
use Rattle.paper.specs.rules.Table.{Record, Table, record_at, bits, vlen_of, flag_of, row_in}

abbrev pub allowed : Values → ℕ → Bool
allowed free w = true
allowed (one_of ws) w = member w ws

-- bits 16 to 23, 29 and 30 of the info word: "the others 0, else 10"
unfoldable pub spare_zero : ℕ → Bool
spare_zero info = eqb (bits 16 23 info) 0 && eqb (bits 29 30 info) 0

unfoldable pub head_ok : Record → Bool
head_ok r =
    spare_zero r.info
    && allowed (row_in r).flag (flag_of r)
    && allowed (row_in r).vlen (vlen_of r)
    && allowed (row_in r).third_values r.third

unfoldable pub head_bad : Table → ℕ → Bool
head_bad T t = not (head_ok (record_at T t))
