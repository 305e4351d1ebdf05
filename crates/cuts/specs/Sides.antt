-- A word's side of a cut, and the end of the first part's strings, as the code asks for them.
use Rattle.std.specs.Prelude.{ℕ, ◌-◌, Bool, not, cond, ◌&&◌, ◌||◌, List, eqb, leb, length, get_or}
use Rattle.cuts.specs.declared.records.Cut.{Cut}
use Rattle.paper.specs.rules.Kind.{Role}
use Rattle.parts.specs.Cut.{points}

-- a number that lies below the cut or not, of a record behind it or not
abbrev pub sided : Bool → Bool → ℕ → Bool
sided behind below w = cond below (not behind || eqb w 0) behind

-- a word by its role, of a record on the side that a cut says
abbrev pub keeps_to : Cut → Role → ℕ → Bool
keeps_to cut ρ w = points cut.types.0 cut.strings.0 cut.behind ρ w

-- there are so many bytes, and the last of them is a zero byte
unfoldable pub ends_at : List ℕ → ℕ → Bool
ends_at strings s = leb 1 s && leb s (length strings) && eqb (get_or strings (s - 1) 0) 0
