-- Laws of members: a member's span by what is read of it, and what is left of the members of a struct or a union.
-- Assumes nothing.
use Rattle.std.specs.Prelude.{Option as RustOption, ℕ}
use Prim.Native.Nat.{ℕ, zero, suc, ◌+◌, ◌-◌, ◌*◌, ◌<◌, ◌≤◌}
use mathlib.Core.Path.{◌≡◌, refl, sym, ap, ◌∙◌}
use mathlib.Core.Bool.{Bool, true, false, not, cond, ◌&&◌}
use mathlib.Core.List.{List, [], ◌∷◌, map}
use mathlib.Core.Option.{Option, none, some}
use native.Mathlib.Omega.{arith}
use borrow.Author.Tests.{ne_eqb, not-true, not-false}
use lib.Dec.{eqb, leb}
use Rattle.rows.proofs.RecordWords.{tail-read}
use Rattle.spans.specs.Spanned.{member_at, typed, with_offset, span_with, span_as_paper}
use Rattle.paper.proofs.basics.Choices.{and-false}
use Rattle.paper.specs.rules.Choice.{every}
use Rattle.paper.specs.rules.KindNo.{UNION}
use Rattle.layout.specs.Told.{Recalled, sized, span_sized, span_told, member_told, members_told}
use Rattle.paper.specs.rules.Layout.{not_falling, offsets_ok}
use Rattle.paper.specs.rules.Size.{within}
use Rattle.recall.specs.Recall.{base_told}
use Rattle.paper.specs.terms.Reading.{words_from, record_in}
use Rattle.paper.specs.rules.Span.{Member, Span, members_in, bit_offset, field_span, plain_span, ends_by}
use Rattle.paper.specs.rules.Table.{Record, record_at, kind_of, flag_of, tail_length}
use Rattle.paper.specs.declared.Order.{Order}
use Rattle.paper.specs.rules.Word.{word_at}
use Rattle.rows.proofs.RoleCodes.{tail_length-few}

-- ── one member ──

module _ (X : Recalled) (flag o t : ℕ) where
  -- a type without a size that a member may have has no span
  pub span_none : none ≡ within (sized X t) → none ≡ span_told X flag (typed t o)
  unfolding span_told
  span_none e = ap (span_sized X flag (typed t o)) e

  -- any other has the span that its base, its offset word and its size say
  pub span_small : {z : ℕ} → some z ≡ within (sized X t) → (base : Record) {u : ℕ} → base ≡ record_at X.table u → u ≡ base_told X.memo X.table t
      → {x : Option Span} → x ≡ span_with flag base o z → x ≡ span_told X flag (typed t o)
  unfolding span_told field_span plain_span
  span_small {z} e base is told d =
      d ∙ ap (λ (r : Record). span_with flag r o z) (is ∙ ap (record_at X.table) told) ∙ ap (span_sized X flag (typed t o)) e

-- a name says nothing of a span
typed-size : (X : Recalled) (flag : ℕ) (m : Member) (size : Option ℕ) → span_sized X flag (typed m.type m.offset) size ≡ span_sized X flag m size
unfolding field_span plain_span
typed-size X flag m none = refl
typed-size X flag m (some z) = refl

span-typed : (X : Recalled) (flag : ℕ) (m : Member) → span_told X flag (typed m.type m.offset) ≡ span_told X flag m
unfolding span_told
span-typed X flag m = typed-size X flag m (within (sized X m.type))

-- a member's span is that of its type and its offset word
pub span-read : (X : Recalled) (flag end : ℕ) (m : Member) {t : ℕ} → t ≡ m.type → {o : ℕ} → o ≡ m.offset → (l : RustOption (ℕ × ℕ))
    → span_as_paper l ≡ span_told X flag (typed t o) → {x : Bool} → x ≡ ends_by end (span_as_paper l) → x ≡ ends_by end (span_told X flag m)
span-read X flag end m type offset l says d = d ∙ ap (ends_by end) (says ∙ (λ i. span_told X flag (typed (type i) (offset i))) ∙ span-typed X flag m)

-- ── offsets ──

pub zero-eqb : (n : ℕ) → eqb n 0 ≡ eqb 0 n
zero-eqb zero = refl
zero-eqb (suc n) = ne_eqb (suc n) 0 (λ z. omega arith) ∙ sym (ne_eqb 0 (suc n) (λ z. omega arith))

-- offsets behind another one, in a union or a struct
abbrev pub offsets_from : Bool → ℕ → List ℕ → Bool
offsets_from union before os = cond union (every (eqb 0) os) (not_falling before os)

pub offsets-none : (u : Bool) (before : ℕ) → offsets_from u before [] ≡ true
offsets-none true before = refl
offsets-none false before = refl

pub offsets-first : (u : Bool) (before o : ℕ) (os : List ℕ) → offsets_from u before (o ∷ os) ≡ cond u (eqb 0 o) (leb before o) && offsets_from u o os
offsets-first true before o os = refl
offsets-first false before o os = refl

-- ── what is left of the members ──

module _ (order : Order) (s : List ℕ) where
  -- the members in so many words from a place on
  abbrev pub members_from : ℕ → ℕ → List Member
  members_from p n = members_in (words_from order s p n)

  pub members-few : (p n : ℕ) → n < 3 → members_from p n ≡ []
  members-few p zero h = refl
  members-few p (suc zero) h = refl
  members-few p (suc (suc zero)) h = refl
  members-few p (suc (suc (suc n))) h = absurd (omega arith)

  pub members-first : (p n : ℕ) → members_from p (suc (suc (suc n))) ≡ member_at order s p ∷ members_from (p + 12) n
  members-first p n =
      let third : p + 4 + 4 ≡ p + 8 = omega arith in
      let behind : p + 4 + 4 + 4 ≡ p + 12 = omega arith in
      λ i. record { name = word_at order s p; type = word_at order s (p + 4); offset = word_at order s (third i) } ∷ members_from (behind i) n

module _ (X : Recalled) (r : Record) where
  -- both rules of some members behind an offset
  abbrev laid : ℕ → List Member → Bool
  laid before ms = every (member_told X r) ms && offsets_from (eqb (kind_of r) UNION) before (map (bit_offset (flag_of r)) ms)

  abbrev follows : ℕ → ℕ → Bool
  follows before o = cond (eqb (kind_of r) UNION) (eqb 0 o) (leb before o)

  laid_none : (before : ℕ) → laid before [] ≡ true
  laid_none before = offsets-none (eqb (kind_of r) UNION) before

  laid-first : (before : ℕ) (m : Member) (ms : List Member) → let o = bit_offset (flag_of r) m in
      laid before (m ∷ ms)
      ≡ (member_told X r m && every (member_told X r) ms) && (follows before o && offsets_from (eqb (kind_of r) UNION) o (map (bit_offset (flag_of r)) ms))
  laid-first before m ms =
      ap (λ (t : Bool). (member_told X r m && every (member_told X r) ms) && t)
      (offsets-first (eqb (kind_of r) UNION) before (bit_offset (flag_of r) m) (map (bit_offset (flag_of r)) ms))

-- so many words of a tail are left, from a place on, behind an offset
pub record Laying (X : Recalled) (r : Record) (order : Order) (s : List ℕ) (p left before : ℕ) : Type 0 where
  pub near : p + 4 * left ≤ 786444
  pub rest : members_told X r ≡ laid X r before (members_from order s p left)

pub laying-start : (X : Recalled) (order : Order) (s : List ℕ) {w n : ℕ} → w ≡ word_at order s 4 → n ≡ tail_length w → Laying X (record_in order s) order s 12 n 0
unfolding members_told offsets_ok
laying-start X order s {w} {n} e d =
    let r = record_in order s in
    record {
      near = omega (arith, d, tail_length-few w);
      rest = ap (λ (ws : List ℕ). laid X r 0 (members_in ws)) (tail-read order s e d);
    }

module _ {X : Recalled} {r : Record} {order : Order} {s : List ℕ} {p left before : ℕ} (now : Laying X r order s p left before) where
  pub laying-done : left < 3 → true ≡ members_told X r
  laying-done h = sym (now.rest ∙ ap (laid X r before) (members-few order s p left h) ∙ laid_none X r before)

  module _ (some : 3 ≤ left) {f z : ℕ} (flag : f ≡ flag_of r) (size : z ≡ r.third) {x : Bool} (ends : x ≡ ends_by (8 * z) (span_told X f (member_at order s p))) where
    abbrev o : ℕ
    o = bit_offset (flag_of r) (member_at order s p)

    abbrev behind : Bool
    behind = every (member_told X r) (members_from order s (p + 12) (left - 3))

    abbrev offsets : Bool
    offsets = offsets_from (eqb (kind_of r) UNION) o (map (bit_offset (flag_of r)) (members_from order s (p + 12) (left - 3)))

    -- the first of those that are left, by its two tests
    first : members_told X r ≡ (x && behind) && (follows X r before o && offsets)
    unfolding member_told
    first =
        let three : left ≡ suc (suc (suc (left - 3))) = omega arith in
        now.rest
        ∙ ap (λ (n : ℕ). laid X r before (members_from order s p n)) three
        ∙ ap (laid X r before) (members-first order s p (left - 3))
        ∙ laid-first X r before (member_at order s p) (members_from order s (p + 12) (left - 3))
        ∙ sym (ap (λ (t : Bool). (t && behind) && (follows X r before o && offsets)) (ends ∙ (λ i. ends_by (8 * size i) (span_told X (flag i) (member_at order s p)))))

    pub laying-bad : not x ≡ true → false ≡ members_told X r
    laying-bad e = sym (first ∙ ap (λ (t : Bool). (t && behind) && (follows X r before o && offsets)) (not-true x e))

    module _ (good : not x ≡ false) {w v : ℕ} (word : w ≡ word_at order s (p + 8)) (bit : v ≡ bit_offset f (with_offset w))
        {k : ℕ} (kind : k ≡ kind_of r) {y : Bool} (test : y ≡ cond (eqb k UNION) (eqb 0 v) (leb before v)) where
      same : v ≡ o
      same = bit ∙ (λ i. bit_offset (flag i) (with_offset (word i)))

      second : members_told X r ≡ behind && (y && offsets)
      second =
          first
          ∙ ap (λ (t : Bool). (t && behind) && (follows X r before o && offsets)) (not-false x good)
          ∙ sym (ap (λ (t : Bool). behind && (t && offsets)) (test ∙ (λ i. cond (eqb (kind i) UNION) (eqb 0 (same i)) (leb before (same i)))))

      pub laying-falls : not y ≡ true → false ≡ members_told X r
      laying-falls e = sym (second ∙ ap (λ (t : Bool). behind && (t && offsets)) (not-true y e) ∙ and-false behind)

      pub laying-next : not y ≡ false → Laying X r order s (p + 12) (left - 3) v
      laying-next e =
          record {
            near = omega (arith, now.near);
            rest =
                second
                ∙ ap (λ (t : Bool). behind && (t && offsets)) (not-false y e)
                ∙ sym (ap (λ (b : ℕ). laid X r b (members_from order s (p + 12) (left - 3))) same);
          }
