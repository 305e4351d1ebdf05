-- The renaming law for layout (15), rule by rule, and so for every rule of phases 3, 4 and 6.
-- Assumes nothing.
use Prim.Native.Nat.{ℕ, zero, suc, ◌+◌, ◌*◌, ◌≤◌}
use mathlib.Core.Path.{◌≡◌, refl, sym, ap, ap₂, ◌∙◌}
use mathlib.Core.Bool.{Bool, true, false, not, cond, ◌&&◌, ◌||◌, false≢true}
use mathlib.Core.List.{List, [], ◌∷◌, ◌++◌, map}
use mathlib.Core.Option.{Option}
use native.Mathlib.Omega.{arith}
use borrow.Author.Tests.{eqb-true, leb-true}
use lib.Dec.{eqb, ltb}
use lib.ListN.{length, get_or}
use Rattle.paper.proofs.basics.Choices.{and_left, and_right, when-same, if-same, cond-cong, every_map, member-each}
use Rattle.paper.proofs.renaming.Renaming.{Renaming, inside, Inside}
use Rattle.paper.proofs.renaming.RenamingSizes.{type-0, name-0, get_d-rename, exact_size-rename}
use Rattle.paper.proofs.renaming.RenamingSpans.{rename_member, rename_entry, member_roles, entry_roles, members_in-rename, entries_in-rename, members-every}
use Rattle.paper.proofs.renaming.RenamingSpans.{entries-every, placed_from-rename, offsets-rename, is_regular-rename, span_of-rename, entry_covers-rename}
use Rattle.paper.proofs.renaming.RenamingTails.{rename_parameter, tail_roles-kind, tail-length, tail-number}
use Rattle.paper.proofs.renaming.RenamingTails.{third-role, parameters_of-rename, is_last00-rename}
use Rattle.paper.specs.rules.Chain.{endless}
use Rattle.paper.specs.rules.Choice.{times, every, member, is_some}
use Rattle.paper.specs.terms.Fit.{Whole}
use Rattle.paper.specs.rules.Kind.{Role, names, refers, holds, number, rows, row_of}
use Rattle.paper.specs.rules.KindNo.{ARRAY, STRUCT, UNION, FUNC, FUNC_PROTO, VAR, DATASEC, DECL_TAG}
use Rattle.paper.specs.rules.Layout.{member_ok, not_falling, offsets_ok, members_ok, array_ok, all_named, function_ok, components_of, tag_ok, layout_ok}
use Rattle.paper.specs.rules.References.{ref_ok, ref_word_ok, refs_ok}
use Rattle.paper.specs.rules.Rename.{rename_word, rename_words, rename}
use Rattle.paper.specs.rules.Section.{Entry, entries_in, entries_of, entry_covers, placed_from, section_ok}
use Rattle.paper.specs.rules.Size.{within, has_size, small_size, has_small_size}
use Rattle.paper.specs.rules.Span.{Member, Span, members_in, members_of, bit_offset, ends_by, is_regular}
use Rattle.paper.specs.rules.Table.{Record, Table, count, record_at, kind_at, kind_of, vlen_of, flag_of, tail_roles, roles_of, words_of, every_roled}
use Rattle.paper.specs.rules.Tails.{Parameter, parameters_of}

-- ── references, by their place in a record ──

abbrev is_ref : Role → Bool
is_ref (names rule) = false
is_ref (refers rule) = true
is_ref (holds rule) = true
is_ref number = false

inside-ref : (A : Table) (ρ : Role) (w : ℕ) → is_ref ρ ≡ true → inside A ρ w ≡ true → w ≤ count A
inside-ref A (names rule) w r e = absurd (false≢true r)
inside-ref A (refers rule) w r e = leb-true w (count A) e
inside-ref A (holds rule) w r e = leb-true w (count A) e
inside-ref A number w r e = absurd (false≢true r)

inside-at : (A : Table) (i : ℕ) (ρs : List Role) (ws : List ℕ) → every_roled (inside A) ρs ws ≡ true
    → is_ref (get_or ρs i number) ≡ true → get_or ws i 0 ≤ count A
inside-at A i [] ws e r = absurd (false≢true r)
inside-at A i (ρ ∷ ρs) [] e r = omega arith
inside-at A zero (ρ ∷ ρs) (w ∷ ws) e r = inside-ref A ρ w r (and_left (inside A ρ w) _ e)
inside-at A (suc i) (ρ ∷ ρs) (w ∷ ws) e r = inside-at A i ρs ws (and_right (inside A ρ w) _ e) r

-- the tail's words are inside too
inside-tail : (A : Table) (r : Record) → Inside A r → every_roled (inside A) (tail_roles r) r.tail ≡ true
inside-tail A r e =
    and_right (inside A (row_of (kind_of r)).third_role r.third) _ (and_right (inside A (names (row_of (kind_of r)).name) r.name_off) _ e)

module _ {A B : Table} {type name : ℕ → ℕ} (R : Renaming A B type name)
    (sound-refs : (t : ℕ) → 1 ≤ t → t ≤ count A → refs_ok A (record_at A t) ≡ true)
    (ends : (t : ℕ) → 1 ≤ t → t ≤ count A → endless A t ≡ false)
    (all-inside : (t : ℕ) → t ≤ count A → Inside A (record_at A t))
    (all_whole : (t : ℕ) → 1 ≤ t → t ≤ count A → Whole (record_at A t)) where
  -- a reference in the tail of a record of a kind
  tail-ref : (r : Record) (c i : ℕ) → kind_of r ≡ c → ((v : ℕ) → is_ref (get_or ((row_of c).once ++ times v (row_of c).each) i number) ≡ true)
      → Inside A r → (get_or (rename type name r).tail i 0 ≡ type (get_or r.tail i 0)) × (get_or r.tail i 0 ≤ count A)
  unfolding rename
  tail-ref r c i e h in-A = (
    get_d-rename type name (type-0 R) (name-0 R) i (tail_roles r) r.tail ∙ go (get_or (tail_roles r) i number) role,
    inside-at A i (tail_roles r) r.tail (inside-tail A r in-A) role,
  )
    where
      role : is_ref (get_or (tail_roles r) i number) ≡ true
      role = ap (λ (ρs : List Role). is_ref (get_or ρs i number)) (tail_roles-kind r c e) ∙ h (vlen_of r)

      go : (ρ : Role) → is_ref ρ ≡ true → rename_word type name ρ (get_or r.tail i 0) ≡ type (get_or r.tail i 0)
      go (names rule) x = absurd (false≢true x)
      go (refers rule) x = refl
      go (holds rule) x = refl
      go number x = absurd (false≢true x)

  -- the third word, where it is a reference in every record of a kind
  third-inside : (r : Record) (c : ℕ) → kind_of r ≡ c → is_ref (row_of c).third_role ≡ true → Inside A r → r.third ≤ count A
  third-inside r c e h in-A =
      inside-at A 2 (roles_of r) (words_of r) in-A (ap (λ (k : ℕ). is_ref (row_of k).third_role) e ∙ h)

  has_size-rename : (t : ℕ) → t ≤ count A → has_size B (type t) ≡ has_size A t
  unfolding has_size
  has_size-rename t h = ap is_some (exact_size-rename R sound-refs ends t h)

  has_small_size-rename : (t : ℕ) → t ≤ count A → has_small_size B (type t) ≡ has_small_size A t
  unfolding has_small_size small_size
  has_small_size-rename t h = ap (λ (s : Option ℕ). is_some (within s)) (exact_size-rename R sound-refs ends t h)

  -- ── arrays ──

  array_ok-rename : (r : Record) → Inside A r → kind_of r ≡ ARRAY → array_ok B (rename type name r) ≡ array_ok A r
  unfolding array_ok row_of rows
  array_ok-rename r in-A e =
      let element = tail-ref r ARRAY 0 e (λ v. refl) in-A in
      let index = tail-ref r ARRAY 1 e (λ v. refl) in-A in
      ap₂ ◌&&◌ (ap (has_size B) element.0 ∙ has_size-rename (get_or r.tail 0 0) element.1)
      (ap (λ (t : ℕ). is_regular (record_at B t)) index.0
      ∙ ap is_regular (R.same_record (get_or r.tail 1 0) index.1)
      ∙ is_regular-rename R (record_at A (get_or r.tail 1 0)))

  -- ── variables ──

  variable_ok-rename : (r : Record) → Inside A r → kind_of r ≡ VAR → has_small_size B (rename type name r).third ≡ has_small_size A r.third
  unfolding row_of rows
  variable_ok-rename r in-A e =
      ap (has_small_size B) (third-role R r VAR e refl) ∙ has_small_size-rename r.third (third-inside r VAR e refl in-A)

  -- ── members ──

  -- STRUCT and UNION are alike but for their offsets
  pub members-kind : (r : Record) → member (kind_of r) (STRUCT ∷ UNION ∷ []) ≡ true
      → ((rename type name r).third ≡ r.third) × (tail_roles r ≡ times (vlen_of r) member_roles) × (Whole r → length r.tail ≡ 0 + vlen_of r * 3)
  unfolding member_roles row_of rows
  members-kind r e =
      member-each (λ (c : ℕ). kind_of r ≡ c
      → ((rename type name r).third ≡ r.third) × (tail_roles r ≡ times (vlen_of r) member_roles) × (Whole r → length r.tail ≡ 0 + vlen_of r * 3))
      (kind_of r) (STRUCT ∷ UNION ∷ []) e (
        (λ k. (third-role R r STRUCT k refl, tail_roles-kind r STRUCT k, λ w. tail-length r STRUCT w k)),
        ((λ k. (third-role R r UNION k refl, tail_roles-kind r UNION k, λ w. tail-length r UNION w k)), tt),
      )
      refl

  member_ok-rename : (r : Record) (m : Member) → (rename type name r).third ≡ r.third → m.type ≤ count A
      → member_ok B (rename type name r) (rename_member type name m) ≡ member_ok A r m
  unfolding member_ok rename
  member_ok-rename r m third h =
      ap₂ (λ (n : ℕ) (s : Option Span). ends_by (8 * n) s) third (span_of-rename R sound-refs ends (flag_of r) m h)

  -- the members of a renamed record are its members renamed
  pub members-rename : (r : Record) → Whole r → member (kind_of r) (STRUCT ∷ UNION ∷ []) ≡ true
      → members_of (rename type name r) ≡ map (rename_member type name) (members_of r)
  unfolding rename
  members-rename r w e =
      let k = members-kind r e in
      let len = k.2 w in
      ap (λ (ρs : List Role). members_in (rename_words type name ρs r.tail)) k.1 ∙ members_in-rename type name (vlen_of r) r.tail (omega arith)

  -- two tests that agree at members whose type is inside the table agree at a record's
  pub members-agree : (r : Record) → Inside A r → Whole r → member (kind_of r) (STRUCT ∷ UNION ∷ []) ≡ true
      → (f g : Member → Bool) → ((m : Member) → m.type ≤ count A → g m ≡ f m) → every g (members_of r) ≡ every f (members_of r)
  members-agree r in-A w e f g h =
      let k = members-kind r e in
      let len = k.2 w in
      members-every A f g h (vlen_of r) r.tail (omega arith) (ap (λ (ρs : List Role). every_roled (inside A) ρs r.tail) (sym k.1) ∙ inside-tail A r in-A)

  members_ok-rename : (r : Record) → Inside A r → Whole r → member (kind_of r) (STRUCT ∷ UNION ∷ []) ≡ true
      → members_ok B (rename type name r) ≡ members_ok A r
  unfolding members_ok offsets_ok rename
  members_ok-rename r in-A w e =
      let same = members-rename r w e in
      ap₂ ◌&&◌
      (ap (every (member_ok B (rename type name r))) same
      ∙ every_map (member_ok B (rename type name r)) (rename_member type name) (members_of r)
      ∙ members-agree r in-A w e (member_ok A r) (λ (m : Member). member_ok B (rename type name r) (rename_member type name m))
      (λ m h. member_ok-rename r m (members-kind r e).0 h))
      (ap (λ (os : List ℕ). cond (eqb (kind_of r) UNION) (every (eqb 0) os) (not_falling 0 os))
      (ap (map (bit_offset (flag_of r))) same ∙ offsets-rename type name (flag_of r) (members_of r)))

  -- ── sections ──

  section_ok-rename : (r : Record) → Inside A r → Whole r → kind_of r ≡ DATASEC → section_ok B (rename type name r) ≡ section_ok A r
  unfolding section_ok rename row_of rows
  section_ok-rename r in-A w e =
      let len : length r.tail ≡ 0 + vlen_of r * 3 = tail-length r DATASEC w e in
      let short : length r.tail ≤ vlen_of r * 3 = omega arith in
      let roles : tail_roles r ≡ times (vlen_of r) entry_roles = tail_roles-kind r DATASEC e in
      let same : entries_of (rename type name r) ≡ map (rename_entry type) (entries_of r) =
      ap (λ (ρs : List Role). entries_in (rename_words type name ρs r.tail)) roles ∙ entries_in-rename type name (vlen_of r) r.tail short in
      ap₂ ◌&&◌
      (ap (every (entry_covers B)) same
      ∙ every_map (entry_covers B) (rename_entry type) (entries_of r)
      ∙ entries-every A (entry_covers A) (λ (x : Entry). entry_covers B (rename_entry type x)) (entry_covers-rename R sound-refs ends)
      (vlen_of r) r.tail short (ap (λ (ρs : List Role). every_roled (inside A) ρs r.tail) (sym roles) ∙ inside-tail A r in-A))
      (ap₂ (λ (n : ℕ) (es : List Entry). eqb n 0 || placed_from n 0 es) (third-role R r DATASEC e refl) same
      ∙ ap (λ (t : Bool). eqb r.third 0 || t) (placed_from-rename type r.third 0 (entries_of r)))

  -- ── functions ──

  all_named-rename : (ps : List Parameter) → all_named (map (rename_parameter type name) ps) ≡ all_named ps
  all_named-rename [] = refl
  all_named-rename (p ∷ ps) =
      ap₂ ◌&&◌ (ap₂ ◌||◌ (ap not (R.name_zero p.name)) (is_last00-rename R p ps)) (all_named-rename ps)

  -- 13 has seen to it that a FUNC refers to a prototype
  proto-of : (r : Record) → refs_ok A r ≡ true → kind_of r ≡ FUNC → kind_at A r.third ≡ FUNC_PROTO
  unfolding refs_ok ref_ok row_of rows
  proto-of r ok e =
      let third =
      and_left (ref_word_ok A (row_of (kind_of r)).third_role r.third) _ (and_right (ref_word_ok A (names (row_of (kind_of r)).name) r.name_off) _ ok) in
      eqb-true (kind_at A r.third) FUNC_PROTO (ap (λ (k : ℕ). ref_word_ok A (row_of k).third_role r.third) (sym e) ∙ third)

  function_ok-rename : (r : Record) → refs_ok A r ≡ true → Inside A r → kind_of r ≡ FUNC → function_ok B (rename type name r) ≡ function_ok A r
  unfolding function_ok row_of rows
  function_ok-rename r ok in-A e =
      let p = record_at A r.third in
      let high = third-inside r FUNC e refl in-A in
      ap (λ (t : ℕ). all_named (parameters_of (record_at B t))) (third-role R r FUNC e refl)
      ∙ ap (λ (q : Record). all_named (parameters_of q)) (R.same_record r.third high)
      ∙ ap all_named (parameters_of-rename R p (all_whole r.third (not-void r.third (proto-of r ok e)) high) (proto-of r ok e))
      ∙ all_named-rename (parameters_of p)
    where
      not-void : (t : ℕ) → kind_at A t ≡ FUNC_PROTO → 1 ≤ t
      not-void zero k = absurd (omega arith)
      not-void (suc t) k = omega arith

  -- ── tags ──

  components_of-rename : (target : Record) → Inside A target → components_of B (rename type name target) ≡ components_of A target
  unfolding components_of rename row_of rows
  components_of-rename target in-A =
      ap (cond (member (kind_of target) (STRUCT ∷ UNION ∷ [])) (vlen_of target))
      (cond-cong (eqb (kind_of target) FUNC) 0
      (λ x. let e = eqb-true (kind_of target) FUNC x in
      ap (λ (t : ℕ). vlen_of (record_at B t)) (third-role R target FUNC e refl)
      ∙ ap vlen_of (R.same_record target.third (third-inside target FUNC e refl in-A))))

  tag_ok-rename : (r : Record) → Inside A r → kind_of r ≡ DECL_TAG → tag_ok B (rename type name r) ≡ tag_ok A r
  unfolding tag_ok row_of rows
  tag_ok-rename r in-A e =
      let high = third-inside r DECL_TAG e refl in-A in
      ap₂ (λ (c : ℕ) (n : ℕ). eqb c 4294967295 || ltb c n) (tail-number R r DECL_TAG 0 e (λ v. refl))
      (ap (λ (t : ℕ). components_of B (record_at B t)) (third-role R r DECL_TAG e refl)
      ∙ ap (components_of B) (R.same_record r.third high)
      ∙ components_of-rename (record_at A r.third) (all-inside r.third high))

  -- ── layout (15) ──

  pub layout_ok-rename : (r : Record) → refs_ok A r ≡ true → Inside A r → Whole r → layout_ok B (rename type name r) ≡ layout_ok A r
  unfolding layout_ok rename
  layout_ok-rename r ok in-A w =
      ap₂ ◌&&◌ (ap₂ ◌&&◌ (ap₂ ◌&&◌ (ap₂ ◌&&◌ (ap₂ ◌&&◌
      (if-same (member (kind_of r) (STRUCT ∷ UNION ∷ [])) (members_ok-rename r in-A w))
      (when-same (kind_of r) ARRAY (array_ok-rename r in-A)))
      (when-same (kind_of r) VAR (variable_ok-rename r in-A)))
      (when-same (kind_of r) FUNC (function_ok-rename r ok in-A)))
      (when-same (kind_of r) DECL_TAG (tag_ok-rename r in-A)))
      (when-same (kind_of r) DATASEC (section_ok-rename r in-A w))
