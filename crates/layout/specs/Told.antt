-- Report 15 as phase 6 asks it: the paper's rules, with bases, sizes and prototypes as the work slice tells them. Of any table and any slice.
use Rattle.std.specs.Prelude.{ℕ, ◌*◌, Bool, not, cond, ◌&&◌, ◌||◌, List, [], ◌∷◌, eqb, get_or}
use Rattle.std.proofs.Math.Option.{Option, none, some}
use Rattle.paper.specs.rules.Choice.{differ, every, is_some, member}
use Rattle.paper.specs.rules.KindNo.{ARRAY, STRUCT, UNION, FUNC, FUNC_PROTO, VAR, DATASEC, DECL_TAG}
use Rattle.paper.specs.rules.Layout.{all_named, offsets_ok, tag_ok}
use Rattle.paper.specs.rules.Section.{Entry, entries_of, covers_size, placed_from}
use Rattle.paper.specs.rules.Size.{within}
use Rattle.paper.specs.rules.Span.{Member, Span, members_of, field_span, plain_span, ends_by, is_regular}
use Rattle.paper.specs.rules.Table.{Record, Table, record_at, kind_of, flag_of}
use Rattle.paper.specs.rules.Tails.{parameters_of}
use Rattle.recall.specs.Recall.{told, base_told, size_told}
use Rattle.views.specs.Shown.{table_by}
use Rattle.views.specs.declared.View.{View}

-- a table, and a slice that tells of its types
pub record Recalled : Type 0 where
  pub table : Table
  pub memo : List ℕ

-- the table that an index shows, and a slice
abbrev pub recalled : List ℕ → List ℕ → List ℕ → View → List ℕ → Recalled
recalled base b index v memo = record { table = table_by base b index v; memo = memo }

module _ (X : Recalled) where
  abbrev pub sized : ℕ → Option ℕ
  sized t = size_told X.memo X.table t

  abbrev pub base_record : ℕ → Record
  base_record t = record_at X.table (base_told X.memo X.table t)

  abbrev pub span_sized : ℕ → Member → Option ℕ → Option Span
  span_sized flag m none = none
  span_sized flag m (some size) =
      let base = base_record m.type in
      cond (eqb flag 1) (field_span base m size) (plain_span base m size)

  unfoldable pub span_told : ℕ → Member → Option Span
  span_told flag m = span_sized flag m (within (sized m.type))

  unfoldable pub member_told : Record → Member → Bool
  member_told r m = ends_by (8 * r.third) (span_told (flag_of r) m)

  unfoldable pub members_told : Record → Bool
  members_told r = every (member_told r) (members_of r) && offsets_ok r

  unfoldable pub array_told : Record → Bool
  array_told r = is_some (sized (get_or r.tail 0 0)) && is_regular (record_at X.table (get_or r.tail 1 0))

  unfoldable pub variable_told : ℕ → Bool
  variable_told t = is_some (within (sized t))

  -- a prototype was judged when it was remembered
  abbrev pub named_told : ℕ → Bool
  named_told t =
      let r = record_at X.table t in
      cond (eqb (kind_of r) FUNC_PROTO) (eqb (told X.memo t) 0) (all_named (parameters_of r))

  unfoldable pub function_told : Record → Bool
  function_told r = named_told r.third

  unfoldable pub entry_told : Entry → Bool
  entry_told e = covers_size e.size (sized e.variable)

  unfoldable pub section_told : Record → Bool
  section_told r = every entry_told (entries_of r) && (eqb r.third 0 || placed_from r.third 0 (entries_of r))

  unfoldable pub layout_told : Record → Bool
  layout_told r =
      (not (member (kind_of r) (STRUCT ∷ UNION ∷ [])) || members_told r)
      && (differ (kind_of r) ARRAY || array_told r)
      && (differ (kind_of r) VAR || variable_told r.third)
      && (differ (kind_of r) FUNC || function_told r)
      && (differ (kind_of r) DECL_TAG || tag_ok X.table r)
      && (differ (kind_of r) DATASEC || section_told r)
