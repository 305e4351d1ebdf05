-- Which words of a struct's or a union's record a member's are.
-- Assumes nothing.
use Prim.Native.Nat.{ℕ, zero, suc, ◌+◌, ◌-◌, ◌*◌, ◌≤◌, ◌<◌}
use mathlib.Core.Path.{◌≡◌, refl, sym, ap, ◌∙◌}
use mathlib.Core.Bool.{true}
use mathlib.Core.List.{List, [], ◌∷◌}
use native.Mathlib.Omega.{arith}
use lib.ListN.{length, get_or}
use Rattle.paper.proofs.basics.Choices.{member-each}
use Rattle.paper.specs.rules.Choice.{member}
use Rattle.paper.specs.rules.Kind.{rows, row_of}
use Rattle.paper.specs.rules.KindNo.{STRUCT, UNION}
use Rattle.paper.specs.rules.Span.{Member, members_in}
use Rattle.paper.specs.rules.Table.{Record, kind_in, vlen_in, kind_of, vlen_of, tail_length}
use Rattle.paper.specs.rules.Word.{word_at}
use Rattle.paper.specs.declared.Order.{Order}
use Rattle.paper.specs.terms.Reading.{words_from, record_in}
use Rattle.spans.specs.Spanned.{member_at}
use Rattle.values.specs.Value.{no_member, member_of}

-- three words a member
pub members-words : (w : ℕ) → member (kind_in w) (STRUCT ∷ UNION ∷ []) ≡ true → tail_length w ≡ vlen_in w * 3
unfolding tail_length row_of rows
members-words w e =
    member-each (λ (c : ℕ). kind_in w ≡ c → tail_length w ≡ vlen_in w * 3) (kind_in w) (STRUCT ∷ UNION ∷ []) e (
      (λ k. ap (λ (k : ℕ). length (row_of k).once + vlen_in w * length (row_of k).each) k ∙ omega arith),
      ((λ k. ap (λ (k : ℕ). length (row_of k).once + vlen_in w * length (row_of k).each) k ∙ omega arith), tt),
    ) refl

module _ (order : Order) (s : List ℕ) where
  member-from : (m p n : ℕ) → 3 * m + 3 ≤ n → get_or (members_in (words_from order s p n)) m no_member ≡ member_at order s (p + 12 * m)
  member-from m p zero h = absurd (omega arith)
  member-from m p (suc zero) h = absurd (omega arith)
  member-from m p (suc (suc zero)) h = absurd (omega arith)
  member-from zero p (suc (suc (suc n))) h =
      let here : p ≡ p + 12 * 0 = omega arith in
      let third : p + 4 + 4 ≡ p + 8 = omega arith in
      (λ i. record { name = word_at order s p; type = word_at order s (p + 4); offset = word_at order s (third i) }) ∙ ap (member_at order s) here
  member-from (suc m) p (suc (suc (suc n))) h =
      let there : p + 4 + 4 + 4 + 12 * m ≡ p + 12 * suc m = omega arith in
      member-from m (p + 4 + 4 + 4) n (omega arith) ∙ ap (member_at order s) there

  -- the words of a member that is there
  module _ {r : Record} (is : record_in order s ≡ r) (struct : member (kind_of r) (STRUCT ∷ UNION ∷ []) ≡ true) (m : ℕ) (there : m < vlen_of r) where
    member-read : member_of r m ≡ member_at order s (12 + 12 * m)
    unfolding record_in
    member-read =
        let w = word_at order s 4 in
        let info : w ≡ r.info = ap (λ (x : Record). x.info) is in
        let many : tail_length w ≡ vlen_of r * 3 = ap tail_length info ∙ members-words r.info struct in
        ap (λ (x : Record). member_of x m) (sym is) ∙ member-from m 12 (tail_length w) (omega (arith, many))

    pub type-read : {w : ℕ} → w ≡ word_at order s (16 + 12 * m) → w ≡ (member_of r m).type
    type-read e =
        let at : 16 + 12 * m ≡ 12 + 12 * m + 4 = omega arith in
        e ∙ ap (word_at order s) at ∙ sym (ap (λ (x : Member). x.type) member-read)

    pub offset_read : {w : ℕ} → w ≡ word_at order s (20 + 12 * m) → w ≡ (member_of r m).offset
    offset_read e =
        let at : 20 + 12 * m ≡ 12 + 12 * m + 8 = omega arith in
        e ∙ ap (word_at order s) at ∙ sym (ap (λ (x : Member). x.offset) member-read)
