-- Laws of records of which nothing is due, by their info word: what the row of a known kind asks is computed.
-- Assumes nothing.
use Prim.Native.Nat.{ℕ, ◌+◌, ◌*◌, ◌/◌, ◌≤◌}
use native.Mathlib.Numerals.{add-one}
use native.Mathlib.Omega.{arith}
use mathlib.Core.Path.{◌≡◌, refl, sym, ap, ◌∙◌}
use mathlib.Core.Bool.{Bool, true, false, not, ◌&&◌, ◌||◌, false≢true}
use mathlib.Core.List.{List, [], ◌∷◌}
use mathlib.Core.Logic.{◌⊎◌, ⊎_elim}
use mathlib.Core.Option.{none}
use borrow.Author.Tests.{ne_eqb, not-false}
use lib.Dec.{ltb}
use lib.ListN.{length}
use types.Run.{OneOf}
use Rattle.heads.proofs.HeadSteps.{head_by-record}
use Rattle.heads.specs.HeadBy.{head_by}
use Rattle.pairs.specs.Lean.{name_ok_over, name_over, name_word_over, names_over}
use Rattle.paper.proofs.basics.Choices.{and-false, and-nothing, member-each}
use Rattle.paper.proofs.bytes.Reading.{every_word-record_in, roled-append}
use Rattle.paper.specs.declared.Order.{Order}
use Rattle.paper.specs.rules.Choice.{first_due, member, times}
use Rattle.paper.specs.rules.Heads.{allowed, head_ok, spare_zero}
use Rattle.paper.specs.rules.Kind.{NameRule, Role, names, number, identifier, offset0, offset0_or_identifier, row_of, rows}
use Rattle.paper.specs.rules.KindNo.{INT, FUNC_PROTO, STRUCT, VAR}
use Rattle.paper.specs.rules.Name.{is_identifier}
use Rattle.paper.specs.rules.Table.{kind_in, vlen_in, flag_in}
use Rattle.paper.specs.rules.Tails.{tail_ok, int_word_ok}
use Rattle.paper.specs.rules.Word.{word_at}
use Rattle.paper.specs.terms.Reading.{record_in, roled, tail_roled}
use Rattle.rows.proofs.Groups.{group-half}
use Rattle.rows.proofs.Members.{member-key}
use Rattle.rules.specs.Phase.{rules_of}
use Rattle.rules.specs.Quick.{Deciding, undecided, alone, grouped, IntGood}
use Rattle.tails.proofs.TailKinds.{tail-int, tail-other}

-- ── a record that has no name ──

module _ (base strings : List ℕ) {w : ℕ} where
  pub nameless-named : (w ≡ 0 → ⊥) → false ≡ name_ok_over base strings offset0 w
  unfolding name_ok_over
  nameless-named n =
      let below = ltb w (length base + length strings) in
      sym (ap (λ (t : Bool). below && t) (ne_eqb w 0 n) ∙ and-false below)

  pub nameless-none : w ≡ 0 → {r : Bool} → r ≡ ltb 0 (length base + length strings) → r ≡ name_ok_over base strings offset0 w
  unfolding name_ok_over
  nameless-none e d = d ∙ sym (and-nothing (ltb 0 (length base + length strings))) ∙ ap (name_ok_over base strings offset0) (sym e)

-- ── how many names decide ──

pub deciding-once : {info off n : ℕ} → OneOf (134217728 ∷ 201326592 ∷ 201326593 ∷ []) info → (n ≡ 0) ⊎ ((off ≡ 0 → ⊥) × (n ≡ 1))
    → Deciding info off n
deciding-once {info} one h =
    ⊎_elim (λ z. undecided z) (λ k. alone (sym (member-key info 134217728 (201326592 ∷ 201326593 ∷ []) one)) k.0 k.1) h

pub deciding-grouped : {info off v : ℕ} → OneOf (1024 ∷ 1280 ∷ 33792 ∷ 34048 ∷ []) (info / 65536) → v ≡ vlen_in info → Deciding info off (v + 1)
deciding-grouped {info} half e =
    grouped (sym (member-key (info / 65536) 1024 (1280 ∷ 33792 ∷ 34048 ∷ []) half)) (ap (λ (n : ℕ). n + 1) e)

pub deciding-few : {info off n : ℕ} → Deciding info off n → n ≤ 65536
deciding-few (undecided z) = omega arith
deciding-few (alone one there k) = omega arith
deciding-few (grouped half k) = omega arith

-- ── the words of an INT ──

pub int-words : {order : Order} {base strings s : List ℕ} {w size off : ℕ} → w ≡ word_at order s 12 → size ≡ word_at order s 8 → off ≡ word_at order s 0
    → {a b c : Bool} → a ≡ allowed (row_of INT).third_values size → not a ≡ false → b ≡ ltb off (length base + length strings) → not b ≡ false
    → c ≡ int_word_ok w size → c ≡ true → IntGood order base strings s
int-words {base = base} {strings = strings} word third first {a} {b} sized good named there whole e =
    record {
      size = ap (allowed (row_of INT).third_values) (sym third) ∙ sym sized ∙ not-false a good;
      name = ap (λ (k : ℕ). ltb k (length base + length strings)) (sym first) ∙ sym named ∙ not-false b there;
      word = sym (λ i. int_word_ok (word i) (third i)) ∙ sym whole ∙ e;
    }

-- ── nothing is due ──

-- the names of a record, by its info word
abbrev names_by : Order → List ℕ → List ℕ → List ℕ → ℕ → Bool
names_by order base strings s info =
    let row = row_of (kind_in info) in
    let test = name_word_over base strings in
    roled order test s 0 (names row.name ∷ number ∷ row.third_role ∷ []) && tail_roled order test s info

-- kinds whose tail has a rule
abbrev ruled : ℕ → Bool
ruled k = member k (INT ∷ FUNC_PROTO ∷ VAR ∷ [])

-- an info word that asks for a name by a rule and nothing more
record Bare (order : Order) (base strings s : List ℕ) (rule : NameRule) (w : ℕ) : Type 0 where
  head : head_by w (word_at order s 8) ≡ true
  name : names_by order base strings s w ≡ (name_ok_over base strings rule (word_at order s 0) && true) && true
  tail : ruled (kind_in w) ≡ false

module _ (order : Order) (base strings s : List ℕ) where
  abbrev test : Role → ℕ → Bool
  test = name_word_over base strings

  abbrev named : ℕ → Bool
  named = names_by order base strings s

  module _ {info : ℕ} (read : info ≡ word_at order s 4) where
    nothing : head_by info (word_at order s 8) ≡ true → named info ≡ true → tail_ok (record_in order s) ≡ true
        → none ≡ first_due (rules_of base strings (record_in order s))
    unfolding names_over
    nothing head name tail =
        let head' : head_ok (record_in order s) ≡ true = sym (head_by-record order s read refl (sym head)) in
        let name' : names_over base strings (record_in order s) ≡ true =
        sym (every_word-record_in order test s) ∙ sym (ap named read) ∙ name in
        rw (head', name', tail) refl

    -- a kind whose tail has no rule
    tail-free : ruled (kind_in info) ≡ false → tail_ok (record_in order s) ≡ true
    tail-free e = sym (tail-other order s read refl (apart refl) (apart refl) (apart refl))
      where
        apart : {k : ℕ} → ruled k ≡ true → kind_in info ≡ k → ⊥
        apart {k} m p = false≢true (sym e ∙ ap ruled p ∙ m)

    -- ── info words that ask for a name and nothing more ──

    bare : (rule : NameRule) → Bare order base strings s rule info → name_ok_over base strings rule (word_at order s 0) ≡ true
        → none ≡ first_due (rules_of base strings (record_in order s))
    bare rule h e =
        let first = name_ok_over base strings rule (word_at order s 0) in
        nothing h.head (h.name ∙ and-nothing (first && true) ∙ and-nothing first ∙ e) (tail-free h.tail)

    pub quiet-nameless : member info (33554432 ∷ 150994944 ∷ 167772160 ∷ 184549376 ∷ []) ≡ true → {r : Bool}
        → r ≡ name_ok_over base strings offset0 (word_at order s 0) → r ≡ true → none ≡ first_due (rules_of base strings (record_in order s))
    unfolding row_of rows roled spare_zero
    quiet-nameless one d e =
        bare offset0
        (member-each (Bare order base strings s offset0) info (33554432 ∷ 150994944 ∷ 167772160 ∷ 184549376 ∷ []) one (
          record { head = refl; name = refl; tail = refl },
          (
            record { head = refl; name = refl; tail = refl },
            (
              record { head = refl; name = refl; tail = refl },
              (
                record { head = refl; name = refl; tail = refl },
                tt,
              ),
            ),
          ),
        ))
        (sym d ∙ e)

    -- one whose name may not be missing, and is not
    quiet-alone : member info (134217728 ∷ 201326592 ∷ 201326593 ∷ []) ≡ true → {off : ℕ} → off ≡ word_at order s 0 → (off ≡ 0 → ⊥)
        → roled order test s 0 (times 1 (row_of STRUCT).each) ≡ true → none ≡ first_due (rules_of base strings (record_in order s))
    unfolding row_of rows roled spare_zero name_ok_over
    quiet-alone one at n e =
        let w = word_at order s 0 in
        let below = ltb w (length base + length strings) in
        bare identifier
        (member-each (Bare order base strings s identifier) info (134217728 ∷ 201326592 ∷ 201326593 ∷ []) one (
          record { head = refl; name = refl; tail = refl },
          (
            record { head = refl; name = refl; tail = refl },
            (
              record { head = refl; name = refl; tail = refl },
              tt,
            ),
          ),
        ))
        (sym
        (and-nothing (name_ok_over base strings offset0_or_identifier w)
        ∙ ap (λ (t : Bool). below && (t || is_identifier (name_over base strings w))) (ne_eqb w 0 (λ z. n (at ∙ z))))
        ∙ e)

    pub quiet-array : info ≡ 50331648 → word_at order s 8 ≡ 0 → name_ok_over base strings offset0 (word_at order s 0) ≡ true
        → none ≡ first_due (rules_of base strings (record_in order s))
    unfolding row_of rows roled spare_zero
    quiet-array e third =
        bare offset0 (record { head = (λ i. head_by (e i) (third i)); name = ap named e; tail = ap (λ (w : ℕ). ruled (kind_in w)) e })

    -- ── an INT ──

    pub quiet-int : info ≡ 16777216 → IntGood order base strings s → none ≡ first_due (rules_of base strings (record_in order s))
    unfolding row_of rows roled spare_zero name_ok_over
    quiet-int e good =
        let first = ltb (word_at order s 0) (length base + length strings) in
        nothing
        (ap (λ (w : ℕ). head_by w (word_at order s 8)) e ∙ good.size)
        (ap named e ∙ and-nothing (first && true && true) ∙ and-nothing (first && true) ∙ and-nothing first ∙ good.name)
        (sym (tail-int order s read refl (ap kind_in e) refl refl (sym good.word)))

    -- ── a struct or a union ──

    quiet-struct : member (info / 65536) (1024 ∷ 1280 ∷ 33792 ∷ 34048 ∷ []) ≡ true
        → roled order test s 0 (times (vlen_in info + 1) (row_of STRUCT).each) ≡ true
        → none ≡ first_due (rules_of base strings (record_in order s))
    unfolding row_of rows roled
    quiet-struct half e =
        let g = group-half info half in
        let v = vlen_in info in
        let each = (row_of STRUCT).each in
        nothing
        (λ i. g.spare i
        && allowed (g.row i).flag (flag_in info)
        && allowed (g.row i).vlen v
        && allowed (g.row i).third_values (word_at order s 8))
        ((λ i. roled order test s 0 (names (g.row i).name ∷ number ∷ (g.row i).third_role ∷ [])
        && (roled order test s 12 (g.row i).once && roled order test s (12 + 4 * length (g.row i).once) (times v (g.row i).each)))
        ∙ sym (roled-append order test s 0 each (times v each))
        ∙ ap (λ (n : ℕ). roled order test s 0 (times n each)) (sym (add-one v))
        ∙ e)
        (tail-free (⊎_elim (λ e. ap ruled e) (λ e. ap ruled e) g.kind))

    -- ── names that decide ──

    pub quiet-names : {off n : ℕ} → Deciding info off n → off ≡ word_at order s 0 → (n ≡ 0 → ⊥) → {r : Bool}
        → r ≡ roled order test s 0 (times n (row_of STRUCT).each) → r ≡ true → none ≡ first_due (rules_of base strings (record_in order s))
    quiet-names (undecided z) at some d e = absurd (some z)
    quiet-names (alone one there k) at some d e =
        quiet-alone one at there (ap (λ (n : ℕ). roled order test s 0 (times n (row_of STRUCT).each)) (sym k) ∙ sym d ∙ e)
    quiet-names (grouped half k) at some d e =
        quiet-struct half (ap (λ (n : ℕ). roled order test s 0 (times n (row_of STRUCT).each)) (sym k) ∙ sym d ∙ e)
