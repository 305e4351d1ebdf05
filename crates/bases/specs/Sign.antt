-- How a record's numbers are read: 0 where it has none, else one more than an INT's encoding (0 unsigned, 1 signed, 2 char, 4 bool)
-- or an enum's kind_flag (0 unsigned, 1 signed). No size has a say in it.
use Rattle.std.specs.Prelude.{ℕ, ◌+◌, cond, ◌||◌, eqb}
use Rattle.paper.specs.rules.KindNo.{ENUM, ENUM64, INT}
use Rattle.paper.specs.rules.Table.{Record, flag_of, kind_of}
use Rattle.paper.specs.rules.Tails.{encoding_in, int_word}

unfoldable pub sign_of : Record → ℕ
sign_of r =
    cond (eqb (kind_of r) INT) (encoding_in (int_word r) + 1)
    (cond (eqb (kind_of r) ENUM || eqb (kind_of r) ENUM64) (flag_of r + 1) 0)
