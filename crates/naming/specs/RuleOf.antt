-- The rule of a name by its code.
use Rattle.std.specs.Prelude.{ℕ, [], ◌∷◌, get_or}
use Rattle.paper.specs.rules.Kind.{NameRule, offset0, any_name, offset0_or_identifier, identifier, non_empty, section_name}

-- the rule of a name's code; every other code has the last
abbrev pub name_rule_of : ℕ → NameRule
name_rule_of code =
    get_or (section_name ∷ offset0 ∷ any_name ∷ offset0_or_identifier ∷ identifier ∷ non_empty ∷ []) code section_name
