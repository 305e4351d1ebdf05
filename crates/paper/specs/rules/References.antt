-- Report 13: "a reference above n or to a forbidden kind".
use Rattle.std.specs.Prelude.{ℕ, Bool, true, false, not, ◌&&◌, ◌||◌, [], ◌∷◌, eqb}
use Rattle.paper.specs.rules.Choice.{member}
use Rattle.paper.specs.rules.Kind.{RefRule, void_or_plain, plain, an_int, a_proto, a_var, taggable, Role, names, refers, holds, number}
use Rattle.paper.specs.rules.KindNo.{INT, STRUCT, UNION, TYPEDEF, FUNC, FUNC_PROTO, VAR, DATASEC, DECL_TAG}
use Rattle.paper.specs.rules.Table.{Record, Table, record_at, kind_at, every_word}
use Rattle.paper.specs.rules.Walk.{known}

-- "Plain kinds are all but FUNC, VAR, DATASEC, DECL_TAG"
unfoldable pub is_plain : ℕ → Bool
is_plain k = known k && not (member k (FUNC ∷ VAR ∷ DATASEC ∷ DECL_TAG ∷ []))

abbrev pub may_be_void : RefRule → Bool
may_be_void void_or_plain = true
may_be_void plain = false
may_be_void an_int = false
may_be_void a_proto = false
may_be_void a_var = false
may_be_void taggable = false

abbrev pub may_be_kind : RefRule → ℕ → Bool
may_be_kind void_or_plain k = is_plain k
may_be_kind plain k = is_plain k
may_be_kind an_int k = eqb k INT
may_be_kind a_proto k = eqb k FUNC_PROTO
may_be_kind a_var k = eqb k VAR
may_be_kind taggable k = member k (STRUCT ∷ UNION ∷ FUNC ∷ VAR ∷ TYPEDEF ∷ [])

-- void and what is above n have kind 0, which no rule takes
unfoldable pub ref_ok : Table → RefRule → ℕ → Bool
ref_ok T rule t = (may_be_void rule && eqb t 0) || may_be_kind rule (kind_at T t)

abbrev pub ref_word_ok : Table → Role → ℕ → Bool
ref_word_ok T (names rule) w = true
ref_word_ok T (refers rule) w = ref_ok T rule w
ref_word_ok T (holds rule) w = ref_ok T rule w
ref_word_ok T number w = true

unfoldable pub refs_ok : Table → Record → Bool
refs_ok T r = every_word (ref_word_ok T) r

unfoldable pub ref_bad : Table → ℕ → Bool
ref_bad T t = not (refs_ok T (record_at T t))
