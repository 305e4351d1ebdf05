-- Laws of records whose references are good, by their info word: what the row of a known kind asks is computed.
-- Assumes nothing.
use Prim.Native.Nat.{ℕ, ◌+◌, ◌*◌, ◌/◌, ◌<◌}
use mathlib.Core.Path.{◌≡◌, refl, sym, ap, ◌∙◌}
use mathlib.Core.Bool.{Bool, true, false, not, ◌&&◌}
use mathlib.Core.List.{List, [], ◌∷◌}
use lib.ListN.{length}
use types.Run.{OneOf}
use Rattle.paper.proofs.basics.Choices.{and-nothing, member-each}
use Rattle.paper.proofs.bytes.Reading.{every_word-record_in}
use Rattle.paper.specs.declared.Order.{Order}
use Rattle.paper.specs.rules.Choice.{times}
use Rattle.paper.specs.rules.Kind.{Role, names, number, plain, void_or_plain, row_of, rows}
use Rattle.paper.specs.rules.KindNo.{STRUCT}
use Rattle.paper.specs.rules.References.{ref_ok, ref_word_ok, refs_ok}
use Rattle.paper.specs.rules.Table.{Table, kind_at, kind_in, vlen_in}
use Rattle.paper.specs.rules.Word.{word_at}
use Rattle.paper.specs.terms.Reading.{record_in, roled, tail_roled}
use Rattle.refs.specs.Refers.{ref_by}
use Rattle.rows.proofs.ByRole.{Entering, entering-next}
use Rattle.rows.proofs.Groups.{group-half}
use Rattle.rows.proofs.Members.{member-key}

-- ── a word that refers to void or a plain kind, and one that refers to a plain kind ──

module _ (T : Table) {t w k : ℕ} (read : t ≡ w) (kind : k ≡ kind_at T t) {r : Bool} where
  ref_ok-void : r ≡ ref_by void_or_plain t k → r ≡ ref_ok T void_or_plain w
  unfolding ref_ok
  ref_ok-void d = d ∙ ap (ref_by void_or_plain t) kind ∙ ap (ref_ok T void_or_plain) read

  ref_ok-plain : r ≡ ref_by plain t k → r ≡ ref_ok T plain w
  unfolding ref_ok
  ref_ok-plain d = d ∙ ap (ref_by plain t) kind ∙ ap (ref_ok T plain) read

pub third-refers : (order : Order) (T : Table) (s : List ℕ) {t k : ℕ} → t ≡ word_at order s 8 → k ≡ kind_at T t → {r : Bool}
    → r ≡ ref_by void_or_plain t k → r ≡ ref_ok T void_or_plain (word_at order s 8)
third-refers order T s read kind d = ref_ok-void T read kind d

-- ── members ──

module _ (order : Order) (T : Table) (s : List ℕ) where
  module _ (p : ℕ) where
    -- of a member's words the second alone refers
    pub member-refers : {t k : ℕ} → t ≡ word_at order s (p + 4) → k ≡ kind_at T t → {r : Bool} → r ≡ ref_by plain t k
        → r ≡ roled order (ref_word_ok T) s p (row_of STRUCT).each
    unfolding roled row_of rows
    member-refers read kind d = ref_ok-plain T read kind d ∙ sym (and-nothing (ref_ok T plain (word_at order s (p + 4))))

    -- and it has three words
    pub member-next : {n i q : ℕ} → Entering order (ref_word_ok T) s (row_of STRUCT).each 12 n p i → i < n → {t : Bool}
        → t ≡ roled order (ref_word_ok T) s p (row_of STRUCT).each → not t ≡ false → q ≡ p + 12
        → Entering order (ref_word_ok T) s (row_of STRUCT).each 12 n q (i + 1)
    unfolding row_of rows
    member-next here some entry e next = entering-next here some entry e {w = 3} refl next

-- ── the whole of a record ──

module _ (order : Order) (T : Table) (s : List ℕ) where
  abbrev test : Role → ℕ → Bool
  test = ref_word_ok T

  -- the references of a record, by its info word
  abbrev refs_by : ℕ → Bool
  refs_by info =
      let row = row_of (kind_in info) in
      roled order test s 0 (names row.name ∷ number ∷ row.third_role ∷ []) && tail_roled order test s info

  module _ {info : ℕ} (read : info ≡ word_at order s 4) where
    whole : refs_by info ≡ true → true ≡ refs_ok T (record_in order s)
    unfolding refs_ok
    whole e = sym (sym (every_word-record_in order test s) ∙ sym (ap refs_by read) ∙ e)

    pub sure-none : OneOf (16777216 ∷ 117440512 ∷ 268435456 ∷ 2264924160 ∷ []) info → true ≡ refs_ok T (record_in order s)
    unfolding row_of rows roled
    sure-none one =
        whole
        (member-each (λ (w : ℕ). refs_by w ≡ true) info (16777216 ∷ 117440512 ∷ 268435456 ∷ 2264924160 ∷ [])
        (sym (member-key info 16777216 (117440512 ∷ 268435456 ∷ 2264924160 ∷ []) one))
        (refl, (refl, (refl, (refl, tt)))))

    pub sure-third : OneOf (33554432 ∷ 134217728 ∷ 150994944 ∷ 167772160 ∷ 184549376 ∷ []) info → {r : Bool}
        → r ≡ ref_ok T void_or_plain (word_at order s 8) → r ≡ true → true ≡ refs_ok T (record_in order s)
    unfolding row_of rows roled
    sure-third one d e =
        let third = ref_ok T void_or_plain (word_at order s 8) in
        whole
        (member-each (λ (w : ℕ). refs_by w ≡ (third && true) && true) info (33554432 ∷ 134217728 ∷ 150994944 ∷ 167772160 ∷ 184549376 ∷ [])
        (sym (member-key info 33554432 (134217728 ∷ 150994944 ∷ 167772160 ∷ 184549376 ∷ []) one))
        (refl, (refl, (refl, (refl, (refl, tt)))))
        ∙ and-nothing (third && true)
        ∙ and-nothing third
        ∙ sym d
        ∙ e)

    pub sure-members : OneOf (1024 ∷ 1280 ∷ 33792 ∷ 34048 ∷ []) (info / 65536) → {r : Bool}
        → r ≡ roled order test s 12 (times (vlen_in info) (row_of STRUCT).each) → r ≡ true → true ≡ refs_ok T (record_in order s)
    unfolding row_of rows roled
    sure-members half d e =
        let row = (group-half info (sym (member-key (info / 65536) 1024 (1280 ∷ 33792 ∷ 34048 ∷ []) half))).row in
        whole
        ((λ i. roled order test s 0 (names (row i).name ∷ number ∷ (row i).third_role ∷ [])
        && (roled order test s 12 (row i).once && roled order test s (12 + 4 * length (row i).once) (times (vlen_in info) (row i).each)))
        ∙ sym d
        ∙ e)
