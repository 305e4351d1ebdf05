-- Report 15, "Layout": members and their spans, arrays, variables, functions and tags. Sections are in `Section`.
use Rattle.std.specs.Prelude.{ℕ, ◌*◌, Bool, true, not, cond, ◌&&◌, ◌||◌, List, [], ◌∷◌, map, leb, ltb, eqb, get_or}
use Rattle.paper.specs.rules.Choice.{member, differ, every}
use Rattle.paper.specs.rules.KindNo.{ARRAY, STRUCT, UNION, FUNC, VAR, DATASEC, DECL_TAG}
use Rattle.paper.specs.rules.Section.{section_ok}
use Rattle.paper.specs.rules.Size.{has_size, has_small_size}
use Rattle.paper.specs.rules.Span.{Member, members_of, span_of, bit_offset, ends_by, is_regular}
use Rattle.paper.specs.rules.Table.{Record, Table, record_at, kind_of, vlen_of, flag_of}
use Rattle.paper.specs.rules.Tails.{Parameter, parameters_of, is_last00}

-- "Every span ends by 8 times the struct's size"
unfoldable pub member_ok : Table → Record → Member → Bool
member_ok T r m = ends_by (8 * r.third) (span_of T (flag_of r) m)

-- "Bit offsets don't fall in a struct"
abbrev pub not_falling : ℕ → List ℕ → Bool
not_falling before [] = true
not_falling before (o ∷ os) = leb before o && not_falling o os

-- "and are 0 in a union (house)"
unfoldable pub offsets_ok : Record → Bool
offsets_ok r =
    let offsets = map (bit_offset (flag_of r)) (members_of r) in
    cond (eqb (kind_of r) UNION) (every (eqb 0) offsets) (not_falling 0 offsets)

unfoldable pub members_ok : Table → Record → Bool
members_ok T r = every (member_ok T r) (members_of r) && offsets_ok r

-- "An array element must have a size; an element may overflow"; "An array index INT is regular"
unfoldable pub array_ok : Table → Record → Bool
array_ok T r = has_size T (get_or r.tail 0 0) && is_regular (record_at T (get_or r.tail 1 0))

-- "A FUNC's prototype names every parameter but a last 0/0"
abbrev pub all_named : List Parameter → Bool
all_named [] = true
all_named (p ∷ ps) = (differ p.name 0 || is_last00 p ps) && all_named ps

unfoldable pub function_ok : Table → Record → Bool
function_ok T r = all_named (parameters_of (record_at T r.third))

-- how many components a tag can point at: a struct's or union's members, a FUNC's parameters, none of a VAR or TYPEDEF
unfoldable pub components_of : Table → Record → ℕ
components_of T target =
    cond (member (kind_of target) (STRUCT ∷ UNION ∷ [])) (vlen_of target)
    (cond (eqb (kind_of target) FUNC) (vlen_of (record_at T target.third)) 0)

-- "DECL_TAG component: all ones, or below the member count, or below a FUNC's parameter count"
unfoldable pub tag_ok : Table → Record → Bool
tag_ok T r =
    let component = get_or r.tail 0 0 in
    eqb component 4294967295 || ltb component (components_of T (record_at T r.third))

-- which rule speaks of which kinds
unfoldable pub layout_ok : Table → Record → Bool
layout_ok T r =
    (not (member (kind_of r) (STRUCT ∷ UNION ∷ [])) || members_ok T r)
    && (differ (kind_of r) ARRAY || array_ok T r)
    && (differ (kind_of r) VAR || has_small_size T r.third)
    && (differ (kind_of r) FUNC || function_ok T r)
    && (differ (kind_of r) DECL_TAG || tag_ok T r)
    && (differ (kind_of r) DATASEC || section_ok T r)

unfoldable pub layout_bad : Table → ℕ → Bool
layout_bad T t = not (layout_ok T (record_at T t))
