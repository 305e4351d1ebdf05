-- Phase 1 of a table behind a base is silent exactly where its facts hold, and then 26 is due exactly where the orders differ.
-- Assumes nothing.
use Prim.Native.Nat.{ℕ, ◌-◌}
use mathlib.Core.Path.{◌≡◌, refl, sym, ap, ◌∙◌}
use mathlib.Core.Bool.{Bool, true, false, not, ◌&&◌}
use mathlib.Core.List.{List, [], ◌∷◌}
use mathlib.Core.Option.{none}
use native.Mathlib.Omega.{arith}
use borrow.Author.Tests.{ltb-false, eqb-true, not-false, le-ltb}
use lib.Dec.{eqb}
use lib.ListN.{length, get_or, take, get_or-eq_default}
use Rattle.pairs.specs.Lean.{length_bad_behind, end_bad, behind_rules, behind_report, other_opening}
use Rattle.pairs.specs.Leaning.{Ended, BehindFacts}
use Rattle.paper.proofs.basics.Choices.{or-false, false-or, differ-false, differ-equal, same_true, same_refl, first_due-none, none-first_due}
use Rattle.paper.proofs.bytes.Blobs.{strings-long}
use Rattle.paper.specs.rules.Choice.{same, differ}
use Rattle.paper.specs.rules.Header.{opening, order_of, str_len, strings_in, opening_bad, header_length_bad, sections_bad, magic_first, magic_second}
use Rattle.paper.specs.terms.Good.{SectionFacts}
use Rattle.paper.specs.declared.Order.{Order}
use Rattle.paper.specs.declared.Order.TheVariants.{LowFirst, HighFirst}

module _ (before : ℕ) (own : List ℕ) where
  -- the last byte, by the header's length and by the section's
  ended-good : (n : ℕ) (s : List ℕ) → length s ≡ n → (differ n 0 && differ (get_or s (n - 1) 0) 0) ≡ false → Ended s
  ended-good n s l e = go (eqb n 0) refl
    where
      go : (z : Bool) → eqb n 0 ≡ z → Ended s
      go true x = let none-there : n ≡ 0 = eqb-true n 0 x in get_or-eq_default s 0 (omega arith)
      go false x =
          ap (λ (m : ℕ). get_or s (m - 1) 0) l
          ∙ differ-false (get_or s (n - 1) 0) 0 (ap (λ (z : Bool). not z && differ (get_or s (n - 1) 0) 0) (sym x) ∙ e)

  pub behind_report-facts : behind_report before own ≡ none → BehindFacts before own
  unfolding behind_report length_bad_behind opening_bad header_length_bad sections_bad end_bad
  behind_report-facts e =
      let due = first_due-none (behind_rules before own) e in
      let lengths = or-false _ _ due.0 in
      let sections = or-false _ _ due.1.1.1.0 in
      let offsets = or-false _ _ sections.0 in
      let types = or-false _ _ offsets.0 in
      let facts : SectionFacts own = record {
        long = ltb-false _ _ lengths.0;
        opens = same_true (take 4 own) (opening (order_of own)) (not-false _ due.1.0);
        header_length_is = differ-false _ _ due.1.1.0;
        type_off_is = differ-false _ _ types.0;
        type_len_is = differ-false _ _ types.1;
        str_off_is = differ-false _ _ offsets.1;
        sum = differ-false _ _ sections.1;
      } in
      record {
        sections = facts;
        short = ltb-false _ _ lengths.1;
        ended = ended-good (str_len own) (strings_in own) (strings-long own facts) due.1.1.1.1.0;
      }

  pub facts-behind_report : BehindFacts before own → behind_report before own ≡ none
  unfolding behind_report length_bad_behind opening_bad header_length_bad sections_bad end_bad
  facts-behind_report f =
      let s = f.sections in
      let length-good : length_bad_behind before own ≡ false = false-or (le-ltb _ _ s.long) (le-ltb _ _ f.short) in
      let opening-good : opening_bad own ≡ false =
      ap (λ (s : List ℕ). not (same s (opening (order_of own)))) s.opens ∙ ap not (same_refl (opening (order_of own))) in
      let header-good : header_length_bad own ≡ false = differ-equal _ _ s.header_length_is in
      let sections-good : sections_bad own ≡ false =
      false-or (false-or (false-or (differ-equal _ _ s.type_off_is) (differ-equal _ _ s.type_len_is)) (differ-equal _ _ s.str_off_is))
      (differ-equal _ _ s.sum) in
      let end-good : end_bad own ≡ false =
      and_second (differ (str_len own) 0) (differ-equal _ _ (ap (λ (n : ℕ). get_or (strings_in own) (n - 1) 0) (sym (strings-long own s)) ∙ f.ended)) in
      none-first_due (behind_rules before own) (length-good, (opening-good, (header-good, (sections-good, (end-good, tt)))))
    where
      and_second : (a : Bool) {b : Bool} → b ≡ false → (a && b) ≡ false
      and_second true e = e
      and_second false e = refl

-- ── the two orders ──

-- the first two bytes of an opening
opening-first : (order : Order) (b : List ℕ) → take 4 b ≡ opening order → take 2 b ≡ magic_first order ∷ magic_second order ∷ []
opening-first order [] e = absurd (let z : ◌≡◌ {A = ℕ} 0 4 = ap length e in omega arith)
opening-first order (x ∷ []) e = absurd (let z : ◌≡◌ {A = ℕ} 1 4 = ap length e in omega arith)
opening-first order (x ∷ y ∷ s) e = ap (take 2) e

module _ (base own : List ℕ) (opens : take 4 own ≡ opening (order_of own)) where
  other : (o p : Order) → same (magic_first p ∷ magic_second p ∷ []) (magic_second o ∷ magic_first o ∷ []) ≡ false → p ≡ o
  other LowFirst LowFirst e = refl
  other LowFirst HighFirst e = absurd (let z : ◌≡◌ {A = Bool} true false = e in let y : ◌≡◌ {A = ℕ} 0 1 = cc in omega arith)
  other HighFirst LowFirst e = absurd (let z : ◌≡◌ {A = Bool} true false = e in let y : ◌≡◌ {A = ℕ} 0 1 = cc in omega arith)
  other HighFirst HighFirst e = refl

  own-order : (o p : Order) → p ≡ o → same (magic_first p ∷ magic_second p ∷ []) (magic_second o ∷ magic_first o ∷ []) ≡ false
  own-order LowFirst p e = ap (λ (q : Order). same (magic_first q ∷ magic_second q ∷ []) (magic_second LowFirst ∷ magic_first LowFirst ∷ [])) e
  own-order HighFirst p e = ap (λ (q : Order). same (magic_first q ∷ magic_second q ∷ []) (magic_second HighFirst ∷ magic_first HighFirst ∷ [])) e

  -- 26 is not due exactly where both have one order
  pub other_opening-order : other_opening base own ≡ false → order_of own ≡ order_of base
  unfolding other_opening
  other_opening-order e =
      other (order_of base) (order_of own)
      (ap (λ (s : List ℕ). same s (magic_second (order_of base) ∷ magic_first (order_of base) ∷ [])) (sym (opening-first (order_of own) own opens)) ∙ e)

  pub order-other_opening : order_of own ≡ order_of base → other_opening base own ≡ false
  unfolding other_opening
  order-other_opening e =
      ap (λ (s : List ℕ). same s (magic_second (order_of base) ∷ magic_first (order_of base) ∷ [])) (opening-first (order_of own) own opens)
      ∙ own-order (order_of base) (order_of own) e
