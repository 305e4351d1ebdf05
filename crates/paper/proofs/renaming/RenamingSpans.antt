-- The renaming law for members and their spans, and for the entries of a section (15).
-- Assumes nothing.
use Prim.Native.Nat.{ℕ, zero, suc, ◌+◌, ◌*◌, ◌≤◌}
use mathlib.Core.Path.{◌≡◌, refl, ap, ap₂, ◌∙◌}
use mathlib.Core.Bool.{Bool, true, false, not, cond, ◌&&◌, ◌||◌}
use mathlib.Core.List.{List, [], ◌∷◌, map}
use mathlib.Core.Option.{Option, none, some}
use native.Mathlib.Omega.{arith}
use borrow.Author.Tests.{eqb-true, leb-true}
use lib.Dec.{eqb, leb, ltb}
use lib.ListN.{length}
use Rattle.paper.proofs.basics.Choices.{and_left, and_right, and-cong, cond-cong}
use Rattle.paper.proofs.renaming.Renaming.{Renaming, inside}
use Rattle.paper.proofs.renaming.RenamingBases.{base_of-rename}
use Rattle.paper.proofs.renaming.RenamingSizes.{exact_size-rename}
use Rattle.paper.proofs.renaming.RenamingTails.{int_word-rename}
use Rattle.paper.specs.rules.Chain.{endless}
use Rattle.paper.specs.rules.Choice.{times, every, member}
use Rattle.paper.specs.rules.Kind.{Role, refers, number, a_var, rows, row_of}
use Rattle.paper.specs.rules.KindNo.{INT, STRUCT, ENUM, ENUM64}
use Rattle.paper.specs.rules.References.{refs_ok}
use Rattle.paper.specs.rules.Rename.{rename_words, rename}
use Rattle.paper.specs.rules.Section.{Entry, entries_in, covers_size, entry_covers, placed_from}
use Rattle.paper.specs.rules.Size.{exact_size, within, small_size}
use Rattle.paper.specs.rules.Span.{Member, members_in, is_regular_word, is_regular, bit_offset, field_width}
use Rattle.paper.specs.rules.Span.{span_if, whole_span, plain_span, field_span, span_of_size, span_of, base_of}
use Rattle.paper.specs.rules.Table.{Record, Table, count, record_at, kind_of, every_roled}
use Rattle.paper.specs.rules.Tails.{offset_in, width_in}

abbrev pub rename_member : (ℕ → ℕ) → (ℕ → ℕ) → Member → Member
rename_member type name m = record { name = name m.name; type = type m.type; offset = m.offset }

abbrev pub rename_entry : (ℕ → ℕ) → Entry → Entry
rename_entry type e = record { variable = type e.variable; offset = e.offset; size = e.size }

-- a member's roles, as the row of a STRUCT has them, and that of a UNION
unfoldable pub member_roles : List Role
member_roles = (row_of STRUCT).each

abbrev pub entry_roles : List Role
entry_roles = refers a_var ∷ number ∷ number ∷ []

-- ── entries, one by one ──

module _ (type name : ℕ → ℕ) where
  pub members_in-rename : (v : ℕ) (ws : List ℕ) → length ws ≤ v * 3
      → members_in (rename_words type name (times v member_roles) ws) ≡ map (rename_member type name) (members_in ws)
  unfolding member_roles row_of rows
  members_in-rename zero [] h = refl
  members_in-rename zero (n ∷ ws) h = absurd (omega arith)
  members_in-rename (suc v) [] h = refl
  members_in-rename (suc v) (n ∷ []) h = refl
  members_in-rename (suc v) (n ∷ t ∷ []) h = refl
  members_in-rename (suc v) (n ∷ t ∷ o ∷ ws) h =
      ap {B = List Member} (λ ms. record { name = name n; type = type t; offset = o } ∷ ms) (members_in-rename v ws (omega arith))

  pub entries_in-rename : (v : ℕ) (ws : List ℕ) → length ws ≤ v * 3
      → entries_in (rename_words type name (times v entry_roles) ws) ≡ map (rename_entry type) (entries_in ws)
  entries_in-rename zero [] h = refl
  entries_in-rename zero (u ∷ ws) h = absurd (omega arith)
  entries_in-rename (suc v) [] h = refl
  entries_in-rename (suc v) (u ∷ []) h = refl
  entries_in-rename (suc v) (u ∷ o ∷ []) h = refl
  entries_in-rename (suc v) (u ∷ o ∷ s ∷ ws) h =
      ap {B = List Entry} (λ es. record { variable = type u; offset = o; size = s } ∷ es) (entries_in-rename v ws (omega arith))

-- two tests that agree at members, or entries, whose type is inside the table agree at all of a record's
module _ (A : Table) where
  pub members-every : (f g : Member → Bool) → ((m : Member) → m.type ≤ count A → g m ≡ f m) → (v : ℕ) (ws : List ℕ) → length ws ≤ v * 3
      → every_roled (inside A) (times v member_roles) ws ≡ true → every g (members_in ws) ≡ every f (members_in ws)
  unfolding member_roles row_of rows
  members-every f g h v [] l e = refl
  members-every f g h v (n ∷ []) l e = refl
  members-every f g h v (n ∷ t ∷ []) l e = refl
  members-every f g h zero (n ∷ t ∷ o ∷ ws) l e = absurd (omega arith)
  members-every f g h (suc v) (n ∷ t ∷ o ∷ ws) l e =
      let e' = and_right (ltb n (length A.strings)) _ e in
      ap₂ ◌&&◌ (h (record { name = n; type = t; offset = o }) (leb-true t (count A) (and_left (leb t (count A)) _ e')))
      (members-every f g h v ws (omega arith) (and_right (leb t (count A)) _ e'))

  pub entries-every : (f g : Entry → Bool) → ((x : Entry) → x.variable ≤ count A → g x ≡ f x) → (v : ℕ) (ws : List ℕ) → length ws ≤ v * 3
      → every_roled (inside A) (times v entry_roles) ws ≡ true → every g (entries_in ws) ≡ every f (entries_in ws)
  entries-every f g h v [] l e = refl
  entries-every f g h v (u ∷ []) l e = refl
  entries-every f g h v (u ∷ o ∷ []) l e = refl
  entries-every f g h zero (u ∷ o ∷ s ∷ ws) l e = absurd (omega arith)
  entries-every f g h (suc v) (u ∷ o ∷ s ∷ ws) l e =
      ap₂ ◌&&◌ (h (record { variable = u; offset = o; size = s }) (leb-true u (count A) (and_left (leb u (count A)) _ e)))
      (entries-every f g h v ws (omega arith) (and_right (leb u (count A)) _ e))

pub placed_from-rename : (type : ℕ → ℕ) (end free : ℕ) (es : List Entry) → placed_from end free (map (rename_entry type) es) ≡ placed_from end free es
placed_from-rename type end free [] = refl
placed_from-rename type end free (e ∷ es) =
    ap (λ (t : Bool). leb free e.offset && leb (e.offset + e.size) end && t) (placed_from-rename type end (e.offset + e.size) es)

pub offsets-rename : (type name : ℕ → ℕ) (flag : ℕ) (ms : List Member)
    → map (bit_offset flag) (map (rename_member type name) ms) ≡ map (bit_offset flag) ms
offsets-rename type name flag [] = refl
offsets-rename type name flag (m ∷ ms) = ap {B = List ℕ} (λ os. bit_offset flag m ∷ os) (offsets-rename type name flag ms)

-- ── spans ──

module _ {A B : Table} {type name : ℕ → ℕ} (R : Renaming A B type name) where
  pub is_regular-rename : (r : Record) → is_regular (rename type name r) ≡ is_regular r
  unfolding is_regular rename
  is_regular-rename r = and-cong (eqb (kind_of r) INT) (λ e. ap is_regular_word (int_word-rename R r (eqb-true _ _ e)))

  plain_span-rename : (base : Record) (m : Member) (size : ℕ)
      → plain_span (rename type name base) (rename_member type name m) size ≡ plain_span base m size
  unfolding plain_span rename
  plain_span-rename base m size =
      cond-cong (eqb (kind_of base) INT) (whole_span (bit_offset 0 m) size)
      (λ e. ap (λ (w : ℕ). span_if true (bit_offset 0 m + offset_in w) (width_in w)) (int_word-rename R base (eqb-true _ _ e)))

  field_span-rename : (base : Record) (m : Member) (size : ℕ)
      → field_span (rename type name base) (rename_member type name m) size ≡ field_span base m size
  unfolding field_span rename
  field_span-rename base m size =
      ap (λ (t : Bool). cond (not (eqb (kind_of base) INT) || t)
      (cond (eqb (field_width m) 0) (whole_span (bit_offset 1 m) size)
      (span_if (member (kind_of base) (INT ∷ ENUM ∷ ENUM64 ∷ []) && leb (field_width m) (8 * size)) (bit_offset 1 m) (field_width m)))
      none)
      (is_regular-rename base)

  module _ (refs : (t : ℕ) → 1 ≤ t → t ≤ count A → refs_ok A (record_at A t) ≡ true) (ends : (t : ℕ) → 1 ≤ t → t ≤ count A → endless A t ≡ false) where
    span_of_size-rename : (flag : ℕ) (m : Member) (s : Option ℕ) → m.type ≤ count A
        → span_of_size B flag (rename_member type name m) s ≡ span_of_size A flag m s
    span_of_size-rename flag m none h = refl
    span_of_size-rename flag m (some size) h =
        ap (λ (base : Record). cond (eqb flag 1) (field_span base (rename_member type name m) size) (plain_span base (rename_member type name m) size))
        (base_of-rename R refs ends m.type h)
        ∙ ap₂ (cond (eqb flag 1)) (field_span-rename (base_of A m.type) m size) (plain_span-rename (base_of A m.type) m size)

    -- a member and its renamed member take the same bits
    pub span_of-rename : (flag : ℕ) (m : Member) → m.type ≤ count A → span_of B flag (rename_member type name m) ≡ span_of A flag m
    unfolding span_of small_size
    span_of-rename flag m h =
        ap (λ (s : Option ℕ). span_of_size B flag (rename_member type name m) (within s)) (exact_size-rename R refs ends m.type h)
        ∙ span_of_size-rename flag m (within (exact_size A m.type)) h

    pub entry_covers-rename : (e : Entry) → e.variable ≤ count A → entry_covers B (rename_entry type e) ≡ entry_covers A e
    unfolding entry_covers
    entry_covers-rename e h = ap (covers_size e.size) (exact_size-rename R refs ends e.variable h)
