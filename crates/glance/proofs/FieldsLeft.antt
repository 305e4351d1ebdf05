-- Laws of a look at a struct or a union with bit fields: one member, and what is left of the members.
-- Assumes nothing.
use Prim.Native.Nat.{ℕ, suc, ◌+◌, ◌-◌, ◌*◌, ◌/◌, ◌%◌, ◌<◌, ◌≤◌}
use native.Mathlib.Omega.{arith}
use mathlib.Core.Path.{◌≡◌, refl, sym, ap, ◌∙◌}
use mathlib.Core.Bool.{Bool, true, false, not, cond, ◌&&◌}
use mathlib.Core.List.{List, [], ◌∷◌, map}
use mathlib.Core.Logic.{◌⊎◌, inl, inr, ⊎_elim}
use borrow.Author.Tests.{eq-eqb, ne_eqb, le-leb, not-false}
use lib.Dec.{eqb, leb}
use Rattle.glance.specs.Glance.{whole, integer, integer_alias, enumerated, is_number, is_sized, state_of, field_fits, member_lies, fields_fit}
use Rattle.glance.specs.Glance.{Stated, Looks, fields}
use Rattle.layout.proofs.MembersLeft.{offsets_from, offsets-none, offsets-first, members_from, members-few, members-first}
use Rattle.paper.proofs.basics.Choices.{and_left, and_right, and-true}
use Rattle.paper.specs.declared.Order.{Order}
use Rattle.paper.specs.rules.Choice.{every, member}
use Rattle.paper.specs.rules.KindNo.{STRUCT, UNION}
use Rattle.paper.specs.rules.Layout.{offsets_ok}
use Rattle.paper.specs.rules.Span.{Member, members_in, members_of, bit_offset}
use Rattle.paper.specs.rules.Table.{Record, kind_of, flag_of, flag_in, tail_length}
use Rattle.paper.specs.rules.Word.{word_at}
use Rattle.paper.specs.terms.Reading.{record_in}
use Rattle.rows.proofs.RecordWords.{tail-read, third-read}
use Rattle.rows.proofs.RoleCodes.{tail_length-few}
use Rattle.spans.specs.Spanned.{member_at}

-- ── one member ──

module _ {class : ℕ} where
  pub number-integer : class ≡ integer → true ≡ is_number class
  number-integer e = sym (ap is_number e)

  pub number-alias : class ≡ integer_alias → true ≡ is_number class
  number-alias e = sym (ap is_number e)

  pub number-other : (class ≡ integer → ⊥) → (class ≡ integer_alias → ⊥) → eqb class enumerated ≡ is_number class
  number-other a b = sym (rw (ne_eqb class integer a, ne_eqb class integer_alias b) refl)

module _ (s o z : ℕ) where
  pub whole-lies : {x : Bool} → x ≡ is_sized (s % 16) → not x ≡ false → o % 8 ≡ 0 → leb (o + 8 * (s / 16)) (8 * z) ≡ true → field_fits s 0 o z ≡ true
  whole-lies {x} d n byte ends = and-true (and-true (sym d ∙ not-false x n) (eq-eqb (o % 8) 0 byte)) ends

  module _ (w : ℕ) where
    pub field-whole : w ≡ 0 → {x : Bool} → (x ≡ true → field_fits s 0 o z ≡ true) → x ≡ true → field_fits s w o z ≡ true
    field-whole e lies x = ap (λ (w : ℕ). field_fits s w o z) e ∙ lies x

    pub field-bits : (w ≡ 0 → ⊥) → {x : Bool} → x ≡ is_number (s % 16) → not x ≡ false → w ≤ 8 * (s / 16) → leb (o + w) (8 * z) ≡ true
        → field_fits s w o z ≡ true
    field-bits some {x} d n few ends =
        ap (λ (b : Bool). cond b ((is_sized (s % 16) && eqb (o % 8) 0) && leb (o + 8 * (s / 16)) (8 * z))
        ((is_number (s % 16) && leb w (8 * (s / 16))) && leb (o + w) (8 * z))) (ne_eqb w 0 some)
        ∙ and-true (and-true (sym d ∙ not-false x n) (le-leb w (8 * (s / 16)) few)) ends

-- ── what is left of the members ──

-- both rules of some members behind an offset
abbrev lying : List ℕ → Record → ℕ → List Member → Bool
lying work r before ms = every (member_lies work r) ms && offsets_from (eqb (kind_of r) UNION) before (map (bit_offset 1) ms)

-- so many words of a tail are left, from a place on, behind an offset: where their members lie inside, all do
pub record Lying (work : List ℕ) (r : Record) (order : Order) (s : List ℕ) (p left before : ℕ) : Type 0 where
  pub near : p + 4 * left ≤ 786444
  pub rest : lying work r before (members_from order s p left) ≡ true → fields_fit work r ≡ true

pub lying-start : (work : List ℕ) (order : Order) (s : List ℕ) → flag_of (record_in order s) ≡ 1 → {w n : ℕ} → w ≡ word_at order s 4 → n ≡ tail_length w
    → Lying work (record_in order s) order s 12 n 0
unfolding offsets_ok
lying-start work order s flag {w} {n} e d =
    let r = record_in order s in
    let tail = tail-read order s e d in
    record {
      near = omega (arith, d, tail_length-few w);
      rest = λ h.
          (λ i. every (member_lies work r) (members_in (tail i))
          && offsets_from (eqb (kind_of r) UNION) 0 (map (bit_offset (flag i)) (members_in (tail i)))) ∙ h;
    }

module _ {work : List ℕ} {r : Record} {order : Order} {s : List ℕ} {p left before : ℕ} (now : Lying work r order s p left before) where
  pub lying-done : left < 3 → fields_fit work r ≡ true
  lying-done h = now.rest (ap (lying work r before) (members-few order s p left h) ∙ offsets-none (eqb (kind_of r) UNION) before)

  pub lying-next : 3 ≤ left → {z : ℕ} → z ≡ r.third → {o u v : ℕ} → o ≡ word_at order s (p + 8) → u ≡ word_at order s (p + 4) → v ≡ state_of work u
      → {x : Bool} → (x ≡ true → field_fits v (o / 16777216 % 256) (o % 16777216) z ≡ true) → not x ≡ false
      → {k : ℕ} → k ≡ kind_of r → {y : Bool} → y ≡ cond (eqb k UNION) (eqb 0 (o % 16777216)) (leb before (o % 16777216)) → not y ≡ false
      → Lying work r order s (p + 12) (left - 3) (o % 16777216)
  lying-next some {z} size {o} {u} {v} word type state {x} fits good {k} kind {y} test follows =
      record {
        near = omega (arith, now.near);
        rest = λ h. let later = ap (λ (n : ℕ). lying work r n behind) (sym from) ∙ h in
            now.rest (all ∙ and-true (and-true one (and_left others (offsets_from union (bit_offset 1 m) (map (bit_offset 1) behind)) later))
            (offsets-first union before (bit_offset 1 m) (map (bit_offset 1) behind)
            ∙ and-true two (and_right others (offsets_from union (bit_offset 1 m) (map (bit_offset 1) behind)) later)));
      }
    where
      m : Member
      m = member_at order s p

      behind : List Member
      behind = members_from order s (p + 12) (left - 3)

      union : Bool
      union = eqb (kind_of r) UNION

      others : Bool
      others = every (member_lies work r) behind

      all : lying work r before (members_from order s p left) ≡ lying work r before (m ∷ behind)
      all =
          let three : left ≡ suc (suc (suc (left - 3))) = omega arith in
          ap (λ (n : ℕ). lying work r before (members_from order s p n)) three ∙ ap (lying work r before) (members-first order s p (left - 3))

      from : o % 16777216 ≡ bit_offset 1 m
      from = let own : o % 16777216 ≡ o / 1 % 16777216 = omega arith in own ∙ ap (λ (o : ℕ). o / 1 % 16777216) word

      one : member_lies work r m ≡ true
      one =
          sym (λ i. field_fits ((state ∙ ap (state_of work) type) i) (word i / 16777216 % 256) (from i) (size i))
          ∙ fits (not-false x good)

      two : cond union (eqb 0 (bit_offset 1 m)) (leb before (bit_offset 1 m)) ≡ true
      two = sym (λ i. cond (eqb (kind i) UNION) (eqb 0 (from i)) (leb before (from i))) ∙ sym test ∙ not-false y follows

-- ── the record ──

pub flag_one : (w : ℕ) {f : ℕ} → f ≡ flag_in w → (f ≡ 0 → ⊥) → f ≡ 1
flag_one w d n = omega (arith, d)

module _ (order : Order) (s : List ℕ) (work : List ℕ) where
  abbrev r : Record
  r = record_in order s

  pub looks-fields : (kind_of r ≡ STRUCT) ⊎ (kind_of r ≡ UNION) → flag_of r ≡ 1 → {x : Bool} → (x ≡ true → fields_fit work r ≡ true) → not x ≡ false
      → {z : ℕ} → z ≡ word_at order s 8 → {v : ℕ} → Stated z whole v → (v ≡ 0) ⊎ Looks work r v
  looks-fields kind flag {x} fits n {z} third h =
      let size = third-read order s refl third in
      let all = fits (not-false x n) in
      ⊎_elim (λ e. inl e)
      (λ q. inr (fields (⊎_elim (λ e. ap grouped e) (λ e. ap grouped e) kind) flag (and_left (every (member_lies work r) (members_of r)) (offsets_ok r) all)
      (and_right (every (member_lies work r) (members_of r)) (offsets_ok r) all) (omega (arith, size, q.0)) (q.1 ∙ ap (λ (q : ℕ). 16 * q + whole) size)))
      h
    where
      grouped : ℕ → Bool
      grouped k = member k (STRUCT ∷ UNION ∷ [])
