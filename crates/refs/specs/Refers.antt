-- What the parts of phase 4 in code are promised to answer, in the paper's words.
use Rattle.std.specs.Prelude.{ℕ, Bool, ◌&&◌, ◌||◌, [], ◌∷◌, eqb, get_or}
use Rattle.paper.specs.rules.Kind.{RefRule, void_or_plain, plain, an_int, a_proto, a_var, taggable}
use Rattle.paper.specs.rules.References.{may_be_void, may_be_kind}

-- a rule, asked of a type number and its kind
abbrev pub ref_by : RefRule → ℕ → ℕ → Bool
ref_by rule t kind = (may_be_void rule && eqb t 0) || may_be_kind rule kind

-- the rule of a number; every other number has the last
abbrev pub ref_rule_of : ℕ → RefRule
ref_rule_of code = get_or (void_or_plain ∷ plain ∷ an_int ∷ a_proto ∷ a_var ∷ []) code taggable
