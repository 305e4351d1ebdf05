-- Laws of members by their types' states: what is left of the members of a struct or a union without bit fields.
-- Assumes nothing.
use Prim.Native.Nat.{ℕ, suc, ◌+◌, ◌-◌, ◌*◌, ◌<◌, ◌≤◌}
use mathlib.Core.Path.{◌≡◌, sym, ap, ◌∙◌}
use mathlib.Core.Bool.{Bool, true, false, not, cond, ◌&&◌}
use mathlib.Core.List.{List, ◌∷◌, map}
use native.Mathlib.Omega.{arith}
use borrow.Author.Tests.{not-true, not-false}
use lib.Dec.{eqb, leb}
use Rattle.glance.specs.Glance.{state_of, fits, member_fits, members_fit}
use Rattle.layout.proofs.MembersLeft.{offsets_from, offsets-none, offsets-first, members_from, members-few, members-first}
use Rattle.paper.proofs.basics.Choices.{and-false}
use Rattle.paper.specs.declared.Order.{Order}
use Rattle.paper.specs.rules.Choice.{every}
use Rattle.paper.specs.rules.KindNo.{UNION}
use Rattle.paper.specs.rules.Layout.{offsets_ok}
use Rattle.paper.specs.rules.Span.{Member, members_in, bit_offset}
use Rattle.paper.specs.rules.Table.{Record, kind_of, flag_of, tail_length}
use Rattle.paper.specs.rules.Word.{word_at}
use Rattle.paper.specs.terms.Reading.{record_in}
use Rattle.rows.proofs.RecordWords.{tail-read}
use Rattle.rows.proofs.RoleCodes.{tail_length-few}
use Rattle.spans.specs.Spanned.{member_at}

module _ (work : List ℕ) (r : Record) where
  -- both rules of some members behind an offset
  abbrev laid : ℕ → List Member → Bool
  laid before ms = every (member_fits work r) ms && offsets_from (eqb (kind_of r) UNION) before (map (bit_offset 0) ms)

  abbrev follows : ℕ → ℕ → Bool
  follows before o = cond (eqb (kind_of r) UNION) (eqb 0 o) (leb before o)

  laid-first : (before : ℕ) (m : Member) (ms : List Member) →
      laid before (m ∷ ms)
      ≡ (member_fits work r m && every (member_fits work r) ms) && (follows before m.offset && offsets_from (eqb (kind_of r) UNION) m.offset (map (bit_offset 0) ms))
  laid-first before m ms =
      ap (λ (t : Bool). (member_fits work r m && every (member_fits work r) ms) && t)
      (offsets-first (eqb (kind_of r) UNION) before m.offset (map (bit_offset 0) ms))

-- so many words of a tail are left, from a place on, behind an offset
pub record Fitting (work : List ℕ) (r : Record) (order : Order) (s : List ℕ) (p left before : ℕ) : Type 0 where
  pub near : p + 4 * left ≤ 786444
  pub rest : members_fit work r ≡ laid work r before (members_from order s p left)

pub fitting-start : (work : List ℕ) (order : Order) (s : List ℕ) → flag_of (record_in order s) ≡ 0 → {w n : ℕ} → w ≡ word_at order s 4 → n ≡ tail_length w
    → Fitting work (record_in order s) order s 12 n 0
unfolding offsets_ok
fitting-start work order s flag {w} {n} e d =
    let r = record_in order s in
    let tail = tail-read order s e d in
    record {
      near = omega (arith, d, tail_length-few w);
      rest =
          (λ i. every (member_fits work r) (members_in (tail i))
          && offsets_from (eqb (kind_of r) UNION) 0 (map (bit_offset (flag i)) (members_in (tail i))));
    }

module _ {work : List ℕ} {r : Record} {order : Order} {s : List ℕ} {p left before : ℕ} (now : Fitting work r order s p left before) where
  pub fitting-done : left < 3 → true ≡ members_fit work r
  fitting-done h = sym (now.rest ∙ ap (laid work r before) (members-few order s p left h) ∙ offsets-none (eqb (kind_of r) UNION) before)

  module _ (some : 3 ≤ left) {z : ℕ} (size : z ≡ r.third) {o u v : ℕ} (offset : o ≡ word_at order s (p + 8)) (type : u ≡ word_at order s (p + 4))
      (state : v ≡ state_of work u) {x : Bool} (ends : x ≡ fits v o z) where
    abbrev behind : Bool
    behind = every (member_fits work r) (members_from order s (p + 12) (left - 3))

    abbrev offsets : Bool
    offsets = offsets_from (eqb (kind_of r) UNION) o (map (bit_offset 0) (members_from order s (p + 12) (left - 3)))

    -- the first of those that are left, by its two tests
    first : members_fit work r ≡ (x && behind) && (follows work r before o && offsets)
    first =
        let three : left ≡ suc (suc (suc (left - 3))) = omega arith in
        now.rest
        ∙ ap (λ (n : ℕ). laid work r before (members_from order s p n)) three
        ∙ ap (laid work r before) (members-first order s p (left - 3))
        ∙ laid-first work r before (member_at order s p) (members_from order s (p + 12) (left - 3))
        ∙ sym
        (λ i. ((ends ∙ (λ j. fits ((state ∙ ap (state_of work) type) j) (offset j) (size j))) i && behind)
        && (follows work r before (offset i)
        && offsets_from (eqb (kind_of r) UNION) (offset i) (map (bit_offset 0) (members_from order s (p + 12) (left - 3)))))

    pub fitting-bad : not x ≡ true → false ≡ members_fit work r
    fitting-bad e = sym (first ∙ ap (λ (t : Bool). (t && behind) && (follows work r before o && offsets)) (not-true x e))

    module _ (good : not x ≡ false) {k : ℕ} (kind : k ≡ kind_of r) {y : Bool} (test : y ≡ cond (eqb k UNION) (eqb 0 o) (leb before o)) where
      second : members_fit work r ≡ behind && (y && offsets)
      second =
          first
          ∙ ap (λ (t : Bool). (t && behind) && (follows work r before o && offsets)) (not-false x good)
          ∙ sym (ap (λ (t : Bool). behind && (t && offsets)) (test ∙ ap (λ (k : ℕ). cond (eqb k UNION) (eqb 0 o) (leb before o)) kind))

      pub fitting-falls : not y ≡ true → false ≡ members_fit work r
      fitting-falls e = sym (second ∙ ap (λ (t : Bool). behind && (t && offsets)) (not-true y e) ∙ and-false behind)

      pub fitting-next : not y ≡ false → Fitting work r order s (p + 12) (left - 3) o
      fitting-next e =
          record {
            near = omega (arith, now.near);
            rest = second ∙ ap (λ (t : Bool). behind && (t && offsets)) (not-false y e);
          }
