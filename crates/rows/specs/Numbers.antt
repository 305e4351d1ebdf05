-- Tails of plain numbers, of which phases 3 and 4 ask nothing.
use Rattle.std.specs.Prelude.{Bool, true, false, ◌&&◌}
use Rattle.paper.specs.rules.Choice.{every}
use Rattle.paper.specs.rules.Kind.{Role, names, refers, holds, number, Row}

abbrev pub is_number : Role → Bool
is_number number = true
is_number (names rule) = false
is_number (refers rule) = false
is_number (holds rule) = false

-- no word of a tail is a name or a reference
abbrev pub only_numbers : Row → Bool
only_numbers r = every is_number r.once && every is_number r.each
