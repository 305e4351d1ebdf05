-- Laws of one record by the row of its sort: its words behind the instruction offset, 47 and 48.
-- Assumes nothing.
use Rattle.std.specs.Prelude.{Err, Ok}
use Prim.Native.Nat.{ℕ, ◌+◌, ◌%◌, ◌<◌, ◌≤◌}
use mathlib.Core.Path.{◌≡◌, refl, sym, ap, ap₂, ◌∙◌}
use mathlib.Core.Bool.{Bool, true, false, not, cond, ◌&&◌}
use mathlib.Core.List.{List, [], ◌∷◌}
use mathlib.Core.Option.{none, some}
use native.Mathlib.Omega.{arith}
use borrow.Author.Tests.{lt-leb, le-leb}
use lib.Dec.{eqb, leb, ltb}
use lib.ListN.{length}
use Rattle.exts.specs.Ext.{each_word, name_word_ok, type_word_ok, entry_rules, fault_number, judged_number}
use Rattle.exts.specs.Items.{entry_at}
use Rattle.exts.specs.Sorts.{roles_of, least_size, size_ok}
use Rattle.exts.specs.declared.Fault.TheVariants.{Named, Typed}
use Rattle.exts.specs.declared.Role.{Role}
use Rattle.exts.specs.declared.Role.TheVariants.{Plain, Name, FuncType, AnyType}
use Rattle.exts.specs.declared.Sort.{Sort}
use Rattle.exts.specs.declared.Sort.TheVariants.{Function, Line, Relocation}
use Rattle.groups.specs.Walking.{row_for, roles_in, entry_fault}
use Rattle.groups.specs.declared.records.Row.{Row}
use Rattle.paper.proofs.basics.Choices.{and-nothing}
use Rattle.paper.specs.declared.Order.{Order}
use Rattle.paper.specs.rules.Header.{order_of}
use Rattle.paper.specs.rules.Table.{Table, kind_at}
use Rattle.paper.specs.rules.Word.{word_at}
use Rattle.paper.specs.terms.Reading.{words_from}
use Rattle.views.proofs.Shows.{table_by-count}
use Rattle.views.specs.Shown.{table_by}
use Rattle.views.specs.declared.View.{View}

-- ── one word by its role ──

module _ {role : Role} (w : ℕ) where
  pub name-asked : (long : ℕ) → role ≡ Name → ltb w long ≡ name_word_ok long role w
  name-asked long e = sym (ap (λ (ρ : Role). name_word_ok long ρ w) e)

  pub func-asked : (T : Table) → role ≡ FuncType → {k : ℕ} → k ≡ kind_at T w → eqb k 12 ≡ type_word_ok T role w
  func-asked T e asked = ap (λ (k : ℕ). eqb k 12) asked ∙ sym (ap (λ (ρ : Role). type_word_ok T ρ w) e)

  pub type-asked : (b index : List ℕ) (v : View) → role ≡ AnyType → leb w v.n ≡ type_word_ok (table_by [] b index v) role w
  type-asked b index v e =
      ap (λ (n : ℕ). leb w n) (sym (table_by-count [] b index v)) ∙ sym (ap (λ (ρ : Role). type_word_ok (table_by [] b index v) ρ w) e)

-- three words, as code asks for them
pub each_three : {a b c x y z : Bool} → x ≡ a → y ≡ b → z ≡ c → (x && y) && z ≡ a && (b && (c && true))
each_three {a} {b} {c} e f g = (λ i. (e i && f i) && g i) ∙ regroup a b c
  where
    regroup : (a b c : Bool) → (a && b) && c ≡ a && (b && (c && true))
    regroup true true c = sym (and-nothing c)
    regroup true false c = refl
    regroup false b c = refl

-- ── the words of a record, by the three roles of its row ──

module _ (f : Role → ℕ → Bool) (plain : (w : ℕ) → f Plain w ≡ true) (order : Order) (s : List ℕ) (p : ℕ) where
  abbrev word : ℕ → ℕ
  word q = word_at order s q

  three : (a b c : Role) → each_word f (Plain ∷ a ∷ b ∷ c ∷ []) (words_from order s p 4) ≡ each_word f (a ∷ b ∷ c ∷ []) (word (p + 4) ∷ word (p + 8) ∷ word (p + 12) ∷ [])
  three a b c =
      let e : p + 4 + 4 ≡ p + 8 = omega arith in
      let d : p + 4 + 4 + 4 ≡ p + 12 = omega arith in
      ap (λ (z : Bool). z && each_word f (a ∷ b ∷ c ∷ []) (words_from order s (p + 4) 3)) (plain (word p))
      ∙ ap₂ (λ (i j : ℕ). each_word f (a ∷ b ∷ c ∷ []) (word (p + 4) ∷ word i ∷ word j ∷ [])) e d

  padded : (a : Role) (u v w : ℕ) → f a u && true ≡ each_word f (a ∷ Plain ∷ Plain ∷ []) (u ∷ v ∷ w ∷ [])
  padded a u v w = ap (λ (z : Bool). f a u && z) (sym (ap₂ (λ (x y : Bool). x && (y && true)) (plain v) (plain w)))

  pub row_words : (sort : Sort)
      → each_word f (roles_of sort) (words_from order s p (length (roles_of sort))) ≡ each_word f (roles_in (row_for sort)) (word (p + 4) ∷ word (p + 8) ∷ word (p + 12) ∷ [])
  row_words Function = ap (λ (z : Bool). z && (f FuncType (word (p + 4)) && true)) (plain (word p)) ∙ padded FuncType (word (p + 4)) (word (p + 8)) (word (p + 12))
  row_words Line = three Name Name Plain
  row_words Relocation = three AnyType Name Plain

-- ── 47 and 48 ──

module _ (T : Table) (long : ℕ) (s : List ℕ) (sort : Sort) (at : ℕ) {row : Row} {u v w : ℕ} (rows : row ≡ row_for sort)
    (second : u ≡ word_at (order_of s) s (at + 4)) (third : v ≡ word_at (order_of s) s (at + 8)) (fourth : w ≡ word_at (order_of s) s (at + 12)) where
  by_row : (f : Role → ℕ → Bool) → ((k : ℕ) → f Plain k ≡ true)
      → each_word f (roles_of sort) (words_from (order_of s) s at (length (roles_of sort))) ≡ each_word f (roles_in row) (u ∷ v ∷ w ∷ [])
  by_row f plain =
      row_words f plain (order_of s) s at sort
      ∙ (λ i. each_word f (roles_in (sym rows i)) (sym second i ∷ sym third i ∷ sym fourth i ∷ []))

  by-rules : {x y : Bool} → x ≡ each_word (name_word_ok long) (roles_in row) (u ∷ v ∷ w ∷ []) → each_word (type_word_ok T) (roles_in row) (u ∷ v ∷ w ∷ []) ≡ y
      → entry_fault T long s sort at ≡ cond (not x) (some 47) (cond (not y) (some 48) none)
  unfolding entry_rules entry_at
  by-rules e g =
      ap₂ (λ (x y : Bool). cond (not x) (some 47) (cond (not y) (some 48) none))
      (by_row (name_word_ok long) (λ (k : ℕ). refl) ∙ sym e)
      (by_row (type_word_ok T) (λ (k : ℕ). refl) ∙ g)

  module _ {x : Bool} (names : x ≡ each_word (name_word_ok long) (roles_in row) (u ∷ v ∷ w ∷ [])) where
    pub entry_named : not x ≡ true → judged_number (Err Named) ≡ entry_fault T long s sort at
    unfolding judged_number fault_number
    entry_named n =
        sym (by-rules names refl
        ∙ ap (λ (z : Bool). cond z (some 47) (cond (not (each_word (type_word_ok T) (roles_in row) (u ∷ v ∷ w ∷ []))) (some 48) none)) n)

    module _ (named : not x ≡ false) {y : Bool} (types : y ≡ each_word (type_word_ok T) (roles_in row) (u ∷ v ∷ w ∷ [])) where
      pub entry-typed : not y ≡ true → judged_number (Err Typed) ≡ entry_fault T long s sort at
      unfolding judged_number fault_number
      entry-typed n = sym (by-rules names (sym types) ∙ ap₂ (λ (a b : Bool). cond a (some 47) (cond b (some 48) none)) named n)

      pub entry-sound : not y ≡ false → judged_number (Ok (record {})) ≡ entry_fault T long s sort at
      unfolding judged_number
      entry-sound n = sym (by-rules names (sym types) ∙ ap₂ (λ (a b : Bool). cond a (some 47) (cond b (some 48) none)) named n)

-- ── the record size ──

module _ (sort : Sort) (size : ℕ) {row : Row} (rows : row ≡ row_for sort) where
  pub size_small : size < row.size → false ≡ size_ok sort size
  unfolding size_ok
  size_small h = let e : row.size ≡ least_size sort = ap (λ (r : Row). r.size) rows in sym (rw (lt-leb (least_size sort) size (omega arith)) refl)

  pub size-enough : row.size ≤ size → {x : Bool} → x ≡ eqb (size % 4) 0 → x ≡ size_ok sort size
  unfolding size_ok
  size-enough h e = let g : row.size ≡ least_size sort = ap (λ (r : Row). r.size) rows in e ∙ sym (rw (le-leb (least_size sort) size (omega arith)) refl)
