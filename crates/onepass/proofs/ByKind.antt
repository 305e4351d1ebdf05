-- Laws of a record that one pass tells, kind by kind: nothing is due of it, and what its type has for a state.
-- Assumes nothing.
use Prim.Native.Nat.{ℕ, ◌+◌, ◌/◌}
use native.Mathlib.Numerals.{add-one}
use native.Mathlib.Omega.{arith}
use mathlib.Core.Path.{◌≡◌, refl, sym, ap, subst, ◌∙◌}
use mathlib.Core.Bool.{Bool, true, false, not}
use mathlib.Core.List.{List, [], ◌∷◌}
use mathlib.Core.Logic.{◌⊎◌, inl, inr, ⊎_elim}
use mathlib.Core.Option.{none}
use borrow.Author.Tests.{eq-eqb, not-false}
use lib.Dec.{eqb, ltb}
use lib.ListN.{length}
use Rattle.glance.proofs.Looking.{group-waits, looks-alias, looks-awaits, looks-group, looks-int, looks-pointer}
use Rattle.glance.specs.Glance.{Glimpsed, Looks, Stated, behind, integer, strange, whole_int}
use Rattle.onepass.specs.Seen.{MembersTold, Tells}
use Rattle.pairs.specs.Lean.{name_ok_over, name_word_over}
use Rattle.paper.proofs.basics.Choices.{and-true, member-every, or_left, or_right}
use Rattle.paper.proofs.bytes.Reading.{roled-append}
use Rattle.paper.specs.declared.Order.{Order}
use Rattle.paper.specs.rules.Choice.{first_due, member, times}
use Rattle.paper.specs.rules.Heads.{allowed}
use Rattle.paper.specs.rules.Kind.{names, offset0, offset0_or_identifier, row_of, rows}
use Rattle.paper.specs.rules.KindNo.{INT, STRUCT, UNION}
use Rattle.paper.specs.rules.Span.{is_alias}
use Rattle.paper.specs.rules.Table.{kind_in, kind_of, vlen_in}
use Rattle.paper.specs.rules.Tails.{int_word_ok}
use Rattle.paper.specs.rules.Word.{word_at}
use Rattle.paper.specs.terms.Reading.{record_in, roled}
use Rattle.rows.proofs.Groups.{group-half}
use Rattle.rows.proofs.RecordWords.{kind-read}
use Rattle.rules.proofs.Quiet.{int-words, quiet-int, quiet-nameless, quiet-names}
use Rattle.rules.proofs.Spaced.{member-name}
use Rattle.rules.specs.Phase.{rules_of}
use Rattle.rules.specs.Quick.{alone, grouped}
use Rattle.onepass.proofs.Telling.{flagless, plain-half}

module _ (order : Order) (base strings work s : List ℕ) where
  -- ── by the rules of phase 3 and a look ──

  pub told-look : none ≡ first_due (rules_of base strings (record_in order s)) → {v : ℕ} → Glimpsed work (record_in order s) v
      → {r : ℕ} → (r ≡ 0) ⊎ ((v ≡ strange → ⊥) × (r ≡ v)) → Tells order base strings work s r
  told-look quiet {v} g {r} told =
      inr
      (record {
        quiet = quiet;
        looks =
            ⊎_elim (λ e. inl e)
            (λ h. ⊎_elim (λ e. inl (h.1 ∙ e)) (λ k. ⊎_elim (λ e. absurd (h.0 e)) (λ l. inr (seen h l)) k) g)
            told;
      })
    where
      seen : (v ≡ strange → ⊥) × (r ≡ v) → Looks work (record_in order s) v → Looks work (record_in order s) r
      seen h l = subst (Looks work (record_in order s)) (sym h.1) l

  -- ── no name ──

  module _ {t : Bool} (name : t ≡ name_ok_over base strings offset0 (word_at order s 0)) (good : not t ≡ false) where
    nameless : member (word_at order s 4) (33554432 ∷ 150994944 ∷ 167772160 ∷ 184549376 ∷ []) ≡ true
        → none ≡ first_due (rules_of base strings (record_in order s))
    nameless one = quiet-nameless order base strings s refl one name (not-false t good)

    pointer-quiet : word_at order s 4 ≡ 33554432 → none ≡ first_due (rules_of base strings (record_in order s))
    pointer-quiet e = nameless (or_left _ (eq-eqb (word_at order s 4) 33554432 e))

    -- a pointer at a type that is open
    pub told-open : word_at order s 4 ≡ 33554432 → Tells order base strings work s 0
    told-open e = inr (record { quiet = pointer-quiet e; looks = inl refl })

    pub told-pointer : word_at order s 4 ≡ 33554432 → {u : ℕ} → u ≡ word_at order s 8 → {v : ℕ} → v ≡ behind work u → (v ≡ 0 → ⊥)
        → Tells order base strings work s 129
    told-pointer e third d n =
        inr
        (record {
          quiet = pointer-quiet e;
          looks = inr (looks-pointer order s work (sym (kind-read order s refl (sym e) refl)) third d n);
        })

    pub told-qualifier : member (word_at order s 4) (150994944 ∷ 167772160 ∷ 184549376 ∷ []) ≡ true → {u : ℕ} → u ≡ word_at order s 8
        → {v : ℕ} → v ≡ behind work u → Tells order base strings work s v
    told-qualifier one third d =
        let alias = member-every (λ (w : ℕ). is_alias (kind_in w)) (word_at order s 4) (150994944 ∷ 167772160 ∷ 184549376 ∷ []) one refl in
        inr
        (record {
          quiet = nameless (or_right (eqb (word_at order s 4) 33554432) one);
          looks = looks-alias order s work refl refl refl alias third d;
        })

  -- ── offset 0 or an identifier ──

  module _ {w : ℕ} (read : w ≡ word_at order s 0) {t : Bool} (name : t ≡ name_word_over base strings (names offset0_or_identifier) w)
      (good : not t ≡ false) where
    -- a good name, and behind it so many that stand as those of members do: one more is good
    one_more : (n : ℕ) → roled order (name_word_over base strings) s 12 (times n (row_of STRUCT).each) ≡ true
        → roled order (name_word_over base strings) s 0 (times (n + 1) (row_of STRUCT).each) ≡ true
    unfolding row_of rows
    one_more n rest =
        let each = (row_of STRUCT).each in
        let test = name_word_over base strings in
        ap (λ (m : ℕ). roled order test s 0 (times m each)) (add-one n)
        ∙ roled-append order test s 0 each (times n each)
        ∙ and-true (sym (member-name order base strings s 0 read name) ∙ not-false t good) rest

    pub told-typedef : word_at order s 4 ≡ 134217728 → (w ≡ 0 → ⊥) → {u : ℕ} → u ≡ word_at order s 8 → {v : ℕ} → v ≡ behind work u
        → Tells order base strings work s v
    unfolding roled
    told-typedef e there third d =
        inr
        (record {
          quiet = quiet-names order base strings s (sym e) (alone refl there refl) read (λ z. omega arith) refl (one_more 0 refl);
          looks = looks-alias order s work (sym e) refl refl refl third d;
        })

    pub told-group : {info : ℕ} → info ≡ word_at order s 4 → member (word_at order s 4 / 65536) (1024 ∷ 1280 ∷ []) ≡ true → {v : ℕ}
        → MembersTold order base strings work s info v → Tells order base strings work s v
    told-group {info} at plain (inl e) = inl e
    told-group {info} at plain (inr m) =
        inr
        (record {
          quiet =
              quiet-names order base strings s at (grouped (plain-half info half).0 refl) read (λ z. omega arith) refl (one_more (vlen_in info) m.named);
          looks =
              ⊎_elim (λ e. inr (subst (Looks work (record_in order s)) (sym e) (looks-awaits order s work (group-waits kind))))
              (λ f. looks-group order s work kind (flagless order s at half) refl (ap not f.0) refl f.1) m.fit;
        })
      where
        half : member (info / 65536) (1024 ∷ 1280 ∷ []) ≡ true
        half = ap (λ (w : ℕ). member (w / 65536) (1024 ∷ 1280 ∷ [])) at ∙ plain

        kind : (kind_of (record_in order s) ≡ STRUCT) ⊎ (kind_of (record_in order s) ≡ UNION)
        kind =
            ⊎_elim (λ e. inl (sym (kind-read order s refl at (sym e)))) (λ e. inr (sym (kind-read order s refl at (sym e))))
            (group-half info (plain-half info half).0).kind

  -- ── an INT ──

  module _ (e : word_at order s 4 ≡ 16777216) {w z off : ℕ} (word : w ≡ word_at order s 12) (third : z ≡ word_at order s 8) (first : off ≡ word_at order s 0)
      {a b c : Bool} (sized : a ≡ allowed (row_of INT).third_values z) (good : not a ≡ false)
      (named : b ≡ ltb off (length base + length strings)) (there : not b ≡ false) (asked : c ≡ int_word_ok w z) (passed : not c ≡ false) where
    int-quiet : none ≡ first_due (rules_of base strings (record_in order s))
    int-quiet = quiet-int order base strings s (sym e) refl (int-words word third first sized good named there asked (not-false c passed))

    -- one with other bits than those of its size
    pub told-odd : Tells order base strings work s 0
    told-odd = inr (record { quiet = int-quiet; looks = inl refl })

    pub told-int : {x : Bool} → x ≡ whole_int w z → not x ≡ false → {v : ℕ} → Stated z integer v → Tells order base strings work s v
    told-int whole all stated =
        inr (record { quiet = int-quiet; looks = looks-int order s work (sym (kind-read order s refl (sym e) refl)) word third whole all stated })
