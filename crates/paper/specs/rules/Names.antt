-- Report 11: "a name breaks the list".
use Rattle.std.specs.Prelude.{ℕ, Bool, true, not, ◌&&◌, ◌||◌, List, eqb, ltb, length}
use Rattle.paper.specs.rules.Choice.{is_empty}
use Rattle.paper.specs.rules.Kind.{NameRule, offset0, any_name, offset0_or_identifier, identifier, non_empty, section_name, Role, names, refers, holds, number}
use Rattle.paper.specs.rules.Name.{name_in, is_identifier, is_section_name}
use Rattle.paper.specs.rules.Table.{Record, Table, record_at, every_word}

-- what a rule asks of an offset and the name that stands there
abbrev pub name_fits : NameRule → ℕ → List ℕ → Bool
name_fits offset0 off cs = eqb off 0
name_fits any_name off cs = true
name_fits offset0_or_identifier off cs = eqb off 0 || is_identifier cs
name_fits identifier off cs = is_identifier cs
name_fits non_empty off cs = not (is_empty cs)
name_fits section_name off cs = is_section_name cs

-- "Each offset is below the string length"
unfoldable pub name_ok : List ℕ → NameRule → ℕ → Bool
name_ok strings rule off = ltb off (length strings) && name_fits rule off (name_in strings off)

abbrev pub name_word_ok : List ℕ → Role → ℕ → Bool
name_word_ok strings (names rule) w = name_ok strings rule w
name_word_ok strings (refers rule) w = true
name_word_ok strings (holds rule) w = true
name_word_ok strings number w = true

unfoldable pub names_ok : List ℕ → Record → Bool
names_ok strings r = every_word (name_word_ok strings) r

unfoldable pub name_bad : Table → ℕ → Bool
name_bad T t = not (names_ok T.strings (record_at T t))
