-- Where every type of a table has its state and no by-value walk is endless, no layout rule is broken.
-- Assumes nothing.
use Prim.Native.Nat.{ℕ, ◌*◌, ◌%◌, ◌≤◌, ◌<◌}
use native.Mathlib.Omega.{arith}
use mathlib.Core.Path.{◌≡◌, refl, ap, ◌∙◌}
use mathlib.Core.Bool.{Bool, true, false}
use mathlib.Core.List.{List, [], ◌∷◌, ◌++◌, Memᴰ}
use mathlib.Core.Logic.{◌⊎◌, inl, inr}
use borrow.Author.Tests.{eqb-true, eqb-false, leb-true, leb-false}
use lib.Dec.{eqb, leb}
use Rattle.glance.specs.Glance.{integer, named, is_sized, is_open, Open, state_of, member_fits, member_lies, entry_fits, section_fits, element_type_of, index_type_of}
use Rattle.glance.specs.Glance.{enum_kinds}
use Rattle.glance.specs.Glance.{Looks, alias, pointer, int, float, enumeration, group, fields, array, variable, section, forward, prototype}
use Rattle.glance.specs.Glance.{function, awaits}
use Rattle.glance.proofs.Entries.{entries-cover}
use Rattle.glance.proofs.Classes.{looks-integer, looks-named}
use Rattle.glance.proofs.Lists.{every-imp}
use Rattle.glance.proofs.SpansInside.{span-ends, field-ends}
use Rattle.glance.proofs.Opens.{fits_told, field_told, sized-told, integer-told, stored-told, named-told}
use Rattle.glance.proofs.States.{Says, says-small, says-stored, small-exact, says-size, says}
use Rattle.layout.proofs.LayoutKinds.{by_kind}
use Rattle.paper.proofs.basics.Choices.{and_left, and_right, and-true, member-each}
use Rattle.paper.specs.rules.Chain.{held_by}
use Rattle.paper.specs.rules.Choice.{every, is_some, member}
use Rattle.paper.specs.rules.KindNo.{INT, PTR, ARRAY, STRUCT, UNION, FWD, FUNC, FUNC_PROTO, VAR, DATASEC, FLOAT}
use Rattle.paper.specs.rules.Layout.{member_ok, members_ok, array_ok, function_ok, tag_ok, layout_ok}
use Rattle.paper.specs.rules.Section.{entries_of, section_ok}
use Rattle.paper.specs.rules.Size.{has_size, has_small_size}
use Rattle.paper.specs.rules.Span.{Member, bit_offset, field_width, members_of, aliases, span_of, ends_by}
use Rattle.paper.specs.rules.Table.{Record, Table, count, record_at, kind_of, flag_of}
use Rattle.recall.proofs.Steps.{Ends}

-- ── rules by kind ──

-- kinds of which no rule speaks
abbrev free_kinds : List ℕ
free_kinds = INT ∷ PTR ∷ FWD ∷ FUNC_PROTO ∷ FLOAT ∷ (enum_kinds ++ aliases)

module _ (T : Table) (r : Record) where
  abbrev by : ℕ → Bool
  by k = by_kind k (members_ok T r) (array_ok T r) (has_small_size T r.third) (function_ok T r) (tag_ok T r) (section_ok T r)

  layout-free : member (kind_of r) free_kinds ≡ true → layout_ok T r ≡ true
  unfolding layout_ok
  layout-free e =
      member-each (λ (k : ℕ). by k ≡ true) (kind_of r) free_kinds e
      (refl, (refl, (refl, (refl, (refl, (refl, (refl, (refl, (refl, (refl, (refl, (refl, tt))))))))))))

  layout-group : member (kind_of r) (STRUCT ∷ UNION ∷ []) ≡ true → members_ok T r ≡ true → layout_ok T r ≡ true
  unfolding layout_ok
  layout-group e ok =
      member-each (λ (k : ℕ). by k ≡ true) (kind_of r) (STRUCT ∷ UNION ∷ []) e (rw ok refl, (rw ok refl, tt))

  layout-array : kind_of r ≡ ARRAY → array_ok T r ≡ true → layout_ok T r ≡ true
  unfolding layout_ok
  layout-array e ok = ap by e ∙ rw ok refl

  layout-variable : kind_of r ≡ VAR → has_small_size T r.third ≡ true → layout_ok T r ≡ true
  unfolding layout_ok
  layout-variable e ok = ap by e ∙ rw ok refl

  layout-section : kind_of r ≡ DATASEC → section_ok T r ≡ true → layout_ok T r ≡ true
  unfolding layout_ok
  layout-section e ok = ap by e ∙ ok

  layout-function : kind_of r ≡ FUNC → function_ok T r ≡ true → layout_ok T r ≡ true
  unfolding layout_ok
  layout-function e ok = ap by e ∙ rw ok refl

-- ── every record ──

module _ (T : Table) (work : List ℕ) (ends : (t : ℕ) → 1 ≤ t → t ≤ count T → Ends T t)
    (looks : (t : ℕ) → 1 ≤ t → t ≤ count T → Looks work (record_at T t) (state_of work t))
    (inside : (t u : ℕ) → Memᴰ u (held_by T t) → (1 ≤ u) × (u ≤ count T))
    (outside : (x : ℕ) → (x ≡ 0) ⊎ (count T < x) → state_of work x ≡ 0) where
  -- a type that is settled is one of the table's
  told-type : (x : ℕ) → (Open (state_of work x) → ⊥) → (1 ≤ x) × (x ≤ count T)
  told-type x ne = go (eqb x 0) refl (leb x (count T)) refl
    where
      go : (a : Bool) → eqb x 0 ≡ a → (b : Bool) → leb x (count T) ≡ b → (1 ≤ x) × (x ≤ count T)
      go true p b q = absurd (ne (ap is_open (outside x (inl (eqb-true x 0 p)))))
      go false p true q = let n = eqb-false x 0 p in (omega arith, leb-true x (count T) q)
      go false p false q = absurd (ne (ap is_open (outside x (inr (leb-false x (count T) q)))))

  void : state_of work 0 ≡ 0
  void = outside 0 (inl refl)

  -- what the state of a type that has one says is so
  told-says : (u : ℕ) → (Open (state_of work u) → ⊥) → Says T u (state_of work u)
  told-says u ne = let h = told-type u ne in says T work ends looks inside void u h.0 h.1

  told-looks : (u : ℕ) → (Open (state_of work u) → ⊥) → Looks work (record_at T u) (state_of work u)
  told-looks u ne = let h = told-type u ne in looks u h.0 h.1

  member-good : (r : Record) → flag_of r ≡ 0 → (m : Member) → member_fits work r m ≡ true → member_ok T r m ≡ true
  unfolding member_ok
  member-good r flag m ok =
      ap (λ (f : ℕ). ends_by (8 * r.third) (span_of T f m)) flag
      ∙ span-ends T r.third m (told-says m.type (fits_told (state_of work m.type) m.offset r.third ok)) ok

  field-good : (r : Record) → flag_of r ≡ 1 → (m : Member) → member_lies work r m ≡ true → member_ok T r m ≡ true
  unfolding member_ok
  field-good r flag m ok =
      ap (λ (f : ℕ). ends_by (8 * r.third) (span_of T f m)) flag
      ∙ field-ends T r.third m (told-says m.type (field_told (state_of work m.type) (field_width m) (bit_offset 1 m) r.third ok)) ok

  array-good : (r : Record) → is_sized (state_of work (element_type_of r) % 16) ≡ true → state_of work (index_type_of r) % 16 ≡ integer → array_ok T r ≡ true
  unfolding array_ok has_size
  array-good r sized index =
      let u = element_type_of r in
      let i = index_type_of r in
      and-true (ap is_some (says-size sized (told-says u (sized-told (state_of work u) sized))))
      (looks-integer (told-looks i (integer-told (state_of work i) index)) index)

  variable-good : (u : ℕ) → is_sized (state_of work u % 16) ≡ true → has_small_size T u ≡ true
  unfolding has_small_size
  variable-good u sized = ap is_some (says-small sized (told-says u (sized-told (state_of work u) sized)))

  section-good : (r : Record) → section_fits work r ≡ true → section_ok T r ≡ true
  unfolding section_ok
  section-good r fit =
      let all = every (entry_fits work) (entries_of r) in
      and-true
      (entries-cover T work
      (λ u h. small-exact T u (says-stored h (told-says u (stored-told (state_of work u) h)))) (entries_of r) (and_left all _ fit))
      (and_right all _ fit)

  function-good : (r : Record) → state_of work r.third ≡ named → function_ok T r ≡ true
  unfolding function_ok
  function-good r h = (looks-named (told-looks r.third (named-told (state_of work r.third) h)) h).all

  look-good : (r : Record) {s : ℕ} → Looks work r s → (Open s → ⊥) → layout_ok T r ≡ true
  unfolding members_ok
  look-good r (alias a e) ne =
      layout-free T r (member-each (λ (k : ℕ). member k free_kinds ≡ true) (kind_of r) aliases a (refl, (refl, (refl, (refl, (refl, tt))))))
  look-good r (pointer k b e) ne = layout-free T r (ap (λ (k : ℕ). member k free_kinds) k)
  look-good r (int k o w h e) ne = layout-free T r (ap (λ (k : ℕ). member k free_kinds) k)
  look-good r (float k h e) ne = layout-free T r (ap (λ (k : ℕ). member k free_kinds) k)
  look-good r (enumeration k h e) ne =
      layout-free T r (member-each (λ (k : ℕ). member k free_kinds ≡ true) (kind_of r) enum_kinds k (refl, (refl, tt)))
  look-good r (group k f h o small e) ne = layout-group T r k (and-true (every-imp (member_fits work r) (member_ok T r) (member-good r f) (members_of r) h) o)
  look-good r (fields k f h o small e) ne =
      layout-group T r k (and-true (every-imp (member_lies work r) (member_ok T r) (field-good r f) (members_of r) h) o)
  look-good r (array k sized index small e) ne = layout-array T r k (array-good r sized index)
  look-good r (variable k sized e) ne = layout-variable T r k (variable-good r.third sized)
  look-good r (section k fit e) ne = layout-section T r k (section-good r fit)
  look-good r (forward k e) ne = layout-free T r (ap (λ (k : ℕ). member k free_kinds) k)
  look-good r (prototype k b h e) ne = layout-free T r (ap (λ (k : ℕ). member k free_kinds) k)
  look-good r (function k h e) ne = layout-function T r k (function-good r h)
  look-good r (awaits k e) ne = absurd (ne (ap is_open e))

  pub layout-good : (t : ℕ) → 1 ≤ t → t ≤ count T → (Open (state_of work t) → ⊥) → layout_ok T (record_at T t) ≡ true
  layout-good t low high ne = look-good (record_at T t) (looks t low high) ne
