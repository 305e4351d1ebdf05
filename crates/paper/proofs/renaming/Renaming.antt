-- The renaming law, rule by rule: a record of one table and its renamed record in another are judged alike. Heads, names and references.
-- Assumes nothing.
use Prim.Native.Nat.{ℕ, ◌≤◌, ◌<◌}
use mathlib.Core.Path.{◌≡◌, refl, sym, ap, ap₂, ◌∙◌}
use mathlib.Core.Bool.{Bool, true, ◌&&◌, ◌||◌}
use mathlib.Core.List.{List, [], ◌∷◌}
use borrow.Author.Tests.{ltb-true, leb-true, lt-ltb}
use lib.Dec.{eqb, leb, ltb}
use lib.ListN.{length}
use Rattle.paper.proofs.basics.Choices.{and_left, and_right}
use Rattle.paper.proofs.basics.Rows.{is_reference, each-reference, allowed-third}
use Rattle.paper.specs.rules.Heads.{allowed, spare_zero, head_ok}
use Rattle.paper.specs.rules.Kind.{NameRule, offset0, any_name, offset0_or_identifier, identifier, non_empty, section_name}
use Rattle.paper.specs.rules.Kind.{RefRule, Role, names, refers, holds, number}
use Rattle.paper.specs.rules.Name.{name_in, is_identifier}
use Rattle.paper.specs.rules.Names.{name_fits, name_ok, name_word_ok, names_ok}
use Rattle.paper.specs.rules.References.{may_be_void, may_be_kind, ref_ok, ref_word_ok, refs_ok}
use Rattle.paper.specs.rules.Rename.{rename_word, rename_words, rename}
use Rattle.paper.specs.rules.Table.{Record, Table, count, record_at, kind_of, kind_at, flag_of, vlen_of}
use Rattle.paper.specs.rules.Table.{row_in, tail_roles, roles_of, words_of, every_roled, every_word}

-- new numbers for the types and names of A, under which B has the renamed records and the same names
pub record Renaming (A B : Table) (type name : ℕ → ℕ) : Type 0 where
  pub type_zero : (t : ℕ) → eqb (type t) 0 ≡ eqb t 0
  pub name_zero : (n : ℕ) → eqb (name n) 0 ≡ eqb n 0
  pub same_record : (t : ℕ) → t ≤ count A → record_at B (type t) ≡ rename type name (record_at A t)
  pub name_inside : (n : ℕ) → n < length A.strings → name n < length B.strings
  pub same_name : (n : ℕ) → n < length A.strings → name_in B.strings (name n) ≡ name_in A.strings n
  pub fewer : count A ≤ count B

-- a word that points at a type or a name of the table, or at nothing
abbrev pub inside : Table → Role → ℕ → Bool
inside A (names rule) w = ltb w (length A.strings)
inside A (refers rule) w = leb w (count A)
inside A (holds rule) w = leb w (count A)
inside A number w = true

abbrev pub Inside : Table → Record → Type 0
Inside A r = every_word (inside A) r ≡ true

pub reference-inside : (A : Table) (ρ : Role) (w : ℕ) → is_reference ρ ≡ true → inside A ρ w ≡ true → w ≤ count A
reference-inside A ρ w = each-reference (λ (ρ : Role). inside A ρ w ≡ true → w ≤ count A) (λ rule e. leb-true _ _ e) (λ rule e. leb-true _ _ e) ρ

-- ── word by word ──

module _ (type name : ℕ → ℕ) where
  every_roled-rename : (p f g : Role → ℕ → Bool) → ((ρ : Role) (w : ℕ) → p ρ w ≡ true → g ρ (rename_word type name ρ w) ≡ f ρ w)
      → (ρs : List Role) (ws : List ℕ) → every_roled p ρs ws ≡ true → every_roled g ρs (rename_words type name ρs ws) ≡ every_roled f ρs ws
  every_roled-rename p f g h [] ws e = refl
  every_roled-rename p f g h (ρ ∷ ρs) [] e = refl
  every_roled-rename p f g h (ρ ∷ ρs) (w ∷ ws) e =
      ap₂ ◌&&◌ (h ρ w (and_left (p ρ w) (every_roled p ρs ws) e))
      (every_roled-rename p f g h ρs ws (and_right (p ρ w) (every_roled p ρs ws) e))

  -- ── heads (10) ──

  pub head_ok-rename : (r : Record) → head_ok (rename type name r) ≡ head_ok r
  unfolding head_ok rename
  head_ok-rename r =
      ap (λ (t : Bool). spare_zero r.info && allowed (row_in r).flag (flag_of r) && allowed (row_in r).vlen (vlen_of r) && t)
      (allowed-third type name (kind_of r) r.third)

module _ {A B : Table} {type name : ℕ → ℕ} (R : Renaming A B type name) where
  -- ── names (11) ──

  name_fits-rename : (rule : NameRule) (n : ℕ) (cs : List ℕ) → name_fits rule (name n) cs ≡ name_fits rule n cs
  name_fits-rename offset0 n cs = R.name_zero n
  name_fits-rename any_name n cs = refl
  name_fits-rename offset0_or_identifier n cs = ap (λ (t : Bool). t || is_identifier cs) (R.name_zero n)
  name_fits-rename identifier n cs = refl
  name_fits-rename non_empty n cs = refl
  name_fits-rename section_name n cs = refl

  name_ok-rename : (rule : NameRule) (n : ℕ) → n < length A.strings → name_ok B.strings rule (name n) ≡ name_ok A.strings rule n
  unfolding name_ok
  name_ok-rename rule n h =
      ap₂ ◌&&◌ (lt-ltb _ _ (R.name_inside n h) ∙ sym (lt-ltb _ _ h))
      (ap (name_fits rule (name n)) (R.same_name n h) ∙ name_fits-rename rule n (name_in A.strings n))

  name_word_ok-rename : (ρ : Role) (w : ℕ) → inside A ρ w ≡ true → name_word_ok B.strings ρ (rename_word type name ρ w) ≡ name_word_ok A.strings ρ w
  name_word_ok-rename (names rule) w h = name_ok-rename rule w (ltb-true _ _ h)
  name_word_ok-rename (refers rule) w h = refl
  name_word_ok-rename (holds rule) w h = refl
  name_word_ok-rename number w h = refl

  pub names_ok-rename : (r : Record) → Inside A r → names_ok B.strings (rename type name r) ≡ names_ok A.strings r
  unfolding names_ok rename tail_roles
  names_ok-rename r h =
      every_roled-rename type name (inside A) (name_word_ok A.strings) (name_word_ok B.strings) name_word_ok-rename (roles_of r) (words_of r) h

  -- ── references (13) ──

  pub kind_at-rename : (t : ℕ) → t ≤ count A → kind_at B (type t) ≡ kind_at A t
  unfolding rename
  kind_at-rename t h = ap kind_of (R.same_record t h)

  ref_ok-rename : (rule : RefRule) (t : ℕ) → t ≤ count A → ref_ok B rule (type t) ≡ ref_ok A rule t
  unfolding ref_ok
  ref_ok-rename rule t h =
      ap₂ ◌||◌ (ap (λ (z : Bool). may_be_void rule && z) (R.type_zero t)) (ap (may_be_kind rule) (kind_at-rename t h))

  ref_word_ok-rename : (ρ : Role) (w : ℕ) → inside A ρ w ≡ true → ref_word_ok B ρ (rename_word type name ρ w) ≡ ref_word_ok A ρ w
  ref_word_ok-rename (names rule) w h = refl
  ref_word_ok-rename (refers rule) w h = ref_ok-rename rule w (leb-true _ _ h)
  ref_word_ok-rename (holds rule) w h = ref_ok-rename rule w (leb-true _ _ h)
  ref_word_ok-rename number w h = refl

  pub refs_ok-rename : (r : Record) → Inside A r → refs_ok B (rename type name r) ≡ refs_ok A r
  unfolding refs_ok rename tail_roles
  refs_ok-rename r h =
      every_roled-rename type name (inside A) (ref_word_ok A) (ref_word_ok B) ref_word_ok-rename (roles_of r) (words_of r) h
