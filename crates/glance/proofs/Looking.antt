-- Laws of one look, by what is read of a record.
-- Assumes nothing.
use Prim.Native.Nat.{ℕ, ◌+◌, ◌*◌, ◌/◌, ◌%◌, ◌≤◌, ◌<◌}
use native.Mathlib.Omega.{arith}
use mathlib.Core.Path.{◌≡◌, refl, sym, ap, ◌∙◌}
use mathlib.Core.Bool.{Bool, true, false, not, cond, ◌&&◌, ◌||◌}
use mathlib.Core.List.{List, [], ◌∷◌}
use mathlib.Core.Logic.{◌⊎◌, inl, inr, ⊎_elim}
use borrow.Author.Tests.{eq-eqb, ne_eqb, le-leb, lt-leb, not-true, not-false, eqb-true}
use lib.Dec.{eqb, leb}
use lib.ListN.{length, get_or-eq_default}
use types.Run.{OneOf}
use Rattle.glance.specs.Glance.{whole, integer, unsized, integer_alias, is_integer, named, enumerated, is_bytes, awaiting, stored, is_open, waiting_kinds}
use Rattle.glance.specs.Glance.{whole_int, state_of, through, behind, fits, member_fits, members_fit, Stated, enum_kinds, Looks, Glimpsed, alias, pointer}
use Rattle.glance.specs.Glance.{int, float, enumeration, group, forward, awaits}
use Rattle.paper.proofs.basics.Choices.{and_left, and_right, member-every}
use Rattle.paper.specs.declared.Order.{Order}
use Rattle.paper.specs.rules.Choice.{every, member}
use Rattle.paper.specs.rules.KindNo.{INT, PTR, STRUCT, UNION, ENUM, FWD, FLOAT, ENUM64}
use Rattle.paper.specs.rules.Layout.{offsets_ok}
use Rattle.paper.specs.rules.Span.{is_alias, is_regular_word, members_of}
use Rattle.paper.specs.rules.Table.{Record, kind_of, flag_of, kind_in}
use Rattle.paper.specs.rules.Tails.{int_word, offset_in, width_in}
use Rattle.paper.specs.rules.Word.{word_at}
use Rattle.paper.specs.terms.Reading.{record_in}
use Rattle.rows.proofs.Members.{member-key, member-no-key}
use Rattle.rows.proofs.RecordWords.{kind-read, third-read, int-read}

-- ── states ──

pub state-past : (work : List ℕ) (u : ℕ) → length work ≤ u → 0 ≡ state_of work u
state-past work u h = sym (get_or-eq_default work 0 h)

module _ (work : List ℕ) {u : ℕ} where
  pub behind-void : u ≡ 0 → unsized ≡ behind work u
  behind-void e = sym (ap (λ (z : Bool). cond z unsized (through (state_of work u))) (eq-eqb u 0 e))

  pub behind-type : (u ≡ 0 → ⊥) → {s v : ℕ} → s ≡ state_of work u → v ≡ through s → v ≡ behind work u
  behind-type n d e = e ∙ ap through d ∙ sym (ap (λ (z : Bool). cond z unsized (through (state_of work u))) (ne_eqb u 0 n))

module _ (s : ℕ) where
  abbrev through_by : Bool → Bool → Bool → ℕ
  through_by a b c = cond a (s + 3) (cond b 0 (cond c unsized s))

  pub through-int : s % 16 ≡ integer → s + 3 ≡ through s
  through-int e = sym (ap (λ (z : Bool). through_by z (leb stored (s % 16)) (eqb (s % 16) named)) (eq-eqb (s % 16) integer e))

  pub through-none : (s % 16 ≡ integer → ⊥) → stored ≤ s % 16 → 0 ≡ through s
  through-none n h = sym (λ i. through_by (ne_eqb (s % 16) integer n i) (le-leb stored (s % 16) h i) (eqb (s % 16) named))

  pub through-proto : (s % 16 ≡ integer → ⊥) → s % 16 < stored → s % 16 ≡ named → unsized ≡ through s
  through-proto n h e = sym (λ i. through_by (ne_eqb (s % 16) integer n i) (lt-leb stored (s % 16) h i) (eq-eqb (s % 16) named e i))

  pub through_same : (s % 16 ≡ integer → ⊥) → s % 16 < stored → (s % 16 ≡ named → ⊥) → s ≡ through s
  through_same n h m = sym (λ i. through_by (ne_eqb (s % 16) integer n i) (lt-leb stored (s % 16) h i) (ne_eqb (s % 16) named m i))

module _ (s : ℕ) where
  pub open-zero : s ≡ 0 → true ≡ is_open s
  open-zero e = sym (ap is_open e)

  pub open-other : (s ≡ 0 → ⊥) → eqb s awaiting ≡ is_open s
  open-other n = sym (ap (λ (b : Bool). b || eqb s awaiting) (ne_eqb s 0 n))

pub glimpsed : {work : List ℕ} {r : Record} {v : ℕ} → (v ≡ 0) ⊎ Looks work r v → Glimpsed work r v
glimpsed h = ⊎_elim (λ e. inl e) (λ l. inr (inr l)) h

-- ── one member ──

module _ (class offset : ℕ) where
  abbrev starts_by : ℕ → Bool
  starts_by c = is_integer c || (is_bytes c && eqb (offset % 8) 0)

  pub starts-whole : class ≡ whole → eqb (offset % 8) 0 ≡ starts_by class
  starts-whole e = sym (ap starts_by e)

  pub starts-bit : class ≡ integer → true ≡ starts_by class
  starts-bit e = sym (ap starts_by e)

  pub starts-alias : class ≡ integer_alias → true ≡ starts_by class
  starts-alias e = sym (ap starts_by e)

  pub starts-not : (class ≡ whole → ⊥) → (class ≡ integer → ⊥) → (class ≡ integer_alias → ⊥) → (class ≡ enumerated → ⊥) → false ≡ starts_by class
  starts-not a b c d = sym (rw (ne_eqb class integer b, ne_eqb class integer_alias c, ne_eqb class whole a, ne_eqb class enumerated d) refl)

  pub starts-enum : class ≡ enumerated → eqb (offset % 8) 0 ≡ starts_by class
  starts-enum e = sym (ap starts_by e)

module _ (s o z : ℕ) {x : Bool} (starts : x ≡ (is_integer (s % 16) || (is_bytes (s % 16) && eqb (o % 8) 0))) where
  pub fits_not : not x ≡ true → false ≡ fits s o z
  fits_not e = sym (ap (λ (b : Bool). b && leb (o + 8 * (s / 16)) (8 * z)) (sym starts ∙ not-true x e))

  pub fits-ends : not x ≡ false → leb (o + 8 * (s / 16)) (8 * z) ≡ fits s o z
  fits-ends e = sym (ap (λ (b : Bool). b && leb (o + 8 * (s / 16)) (8 * z)) (sym starts ∙ not-false x e))

-- ── an INT ──

abbrev widths : List ℕ
widths = 16 ∷ 32 ∷ 64 ∷ 128 ∷ []

module _ (w z : ℕ) where
  abbrev whole_by : Bool → Bool → Bool
  whole_by a b = (a && b) && eqb (width_in w) (8 * z)

  whole-by : whole_by (eqb (offset_in w) 0) (member (width_in w) (8 ∷ widths)) ≡ whole_int w z
  unfolding is_regular_word
  whole-by = refl

  pub int-shifted : (w / 65536 % 256 ≡ 0 → ⊥) → false ≡ whole_int w z
  int-shifted n = sym (ap (λ (b : Bool). whole_by b (member (width_in w) (8 ∷ widths))) (ne_eqb (offset_in w) 0 n)) ∙ whole-by

  module _ (e : w / 65536 % 256 ≡ 0) {q : ℕ} (d : q ≡ w % 256) where
    same : q ≡ width_in w
    same = omega (arith, d)

    by_width : whole_by true (member q (8 ∷ widths)) ≡ whole_int w z
    by_width = sym (λ i. whole_by (eq-eqb (offset_in w) 0 e i) (member (sym same i) (8 ∷ widths))) ∙ whole-by

    pub int-odd : (OneOf (8 ∷ widths) q → ⊥) → false ≡ whole_int w z
    int-odd n = ap (whole_by true) (member-no-key q 8 widths n) ∙ by_width

    pub int-width : OneOf (8 ∷ widths) q → eqb q (8 * z) ≡ whole_int w z
    int-width one = ap (λ (k : ℕ). eqb k (8 * z)) same ∙ ap (whole_by true) (member-key q 8 widths one) ∙ by_width

-- ── records ──

pub kind-is : (order : Order) (s : List ℕ) {w k n : ℕ} → w ≡ word_at order s 4 → k ≡ kind_in w → k ≡ n → kind_of (record_in order s) ≡ n
kind-is order s info kind e = sym (kind-read order s refl info kind) ∙ e

pub group-waits : {k : ℕ} → (k ≡ STRUCT) ⊎ (k ≡ UNION) → member k waiting_kinds ≡ true
group-waits kind = ⊎_elim (λ e. ap (λ (k : ℕ). member k waiting_kinds) e) (λ e. ap (λ (k : ℕ). member k waiting_kinds) e) kind

module _ (order : Order) (s : List ℕ) (work : List ℕ) where
  abbrev r : Record
  r = record_in order s

  pub looks-alias : {w k : ℕ} → w ≡ word_at order s 4 → k ≡ kind_in w → {a : Bool} → a ≡ is_alias k → a ≡ true → {u : ℕ} → u ≡ word_at order s 8
      → {v : ℕ} → v ≡ behind work u → (v ≡ 0) ⊎ Looks work r v
  looks-alias info kind asked is third d =
      inr (alias (ap is_alias (sym (kind-read order s refl info kind)) ∙ sym asked ∙ is) (d ∙ ap (behind work) (third-read order s refl third)))

  -- by the info word
  pub looks-renamed : {w : ℕ} → w ≡ word_at order s 4 → OneOf (134217728 ∷ 150994944 ∷ 167772160 ∷ 184549376 ∷ []) w → {u : ℕ} → u ≡ word_at order s 8
      → {v : ℕ} → v ≡ behind work u → (v ≡ 0) ⊎ Looks work r v
  looks-renamed {w} info one third d =
      looks-alias info refl refl
      (member-every (λ (q : ℕ). is_alias (kind_in q)) w (134217728 ∷ 150994944 ∷ 167772160 ∷ 184549376 ∷ [])
      (sym (member-key w 134217728 (150994944 ∷ 167772160 ∷ 184549376 ∷ []) one)) refl) third d

  pub looks-pointer : kind_of r ≡ PTR → {u : ℕ} → u ≡ word_at order s 8 → {v : ℕ} → v ≡ behind work u → (v ≡ 0 → ⊥) → Looks work r 129
  looks-pointer kind third d n = pointer kind (λ e. n (d ∙ ap (behind work) (third-read order s refl third) ∙ e)) refl

  pub looks-int : kind_of r ≡ INT → {w z : ℕ} → w ≡ word_at order s 12 → z ≡ word_at order s 8
      → {x : Bool} → x ≡ whole_int w z → not x ≡ false → {v : ℕ} → Stated z integer v → (v ≡ 0) ⊎ Looks work r v
  looks-int kind {w} {z} word third {x} d n h =
      ⊎_elim (λ e. inl e)
      (λ k. inr (int kind (sym (ap is_regular_word one) ∙ first) (sym (ap width_in one) ∙ second ∙ ap (λ (q : ℕ). 8 * q) size) (omega (arith, size, k.0))
      (k.1 ∙ ap (λ (q : ℕ). 16 * q + integer) size)))
      h
    where
      one : w ≡ int_word r
      one = int-read order s kind word

      size : z ≡ r.third
      size = third-read order s refl third

      both : whole_int w z ≡ true
      both = sym d ∙ not-false x n

      first : is_regular_word w ≡ true
      first = and_left (is_regular_word w) (eqb (width_in w) (8 * z)) both

      second : width_in w ≡ 8 * z
      second = eqb-true (width_in w) (8 * z) (and_right (is_regular_word w) (eqb (width_in w) (8 * z)) both)

  pub looks-float : {w k : ℕ} → w ≡ word_at order s 4 → k ≡ kind_in w → k ≡ FLOAT → {z : ℕ} → z ≡ word_at order s 8 → {v : ℕ} → Stated z whole v
      → (v ≡ 0) ⊎ Looks work r v
  looks-float info kind is {z} third h =
      let size = third-read order s refl third in
      ⊎_elim (λ e. inl e)
      (λ q. inr (float (kind-is order s info kind is) (omega (arith, size, q.0)) (q.1 ∙ ap (λ (q : ℕ). 16 * q + whole) size)))
      h

  pub looks-enum : {w k : ℕ} → w ≡ word_at order s 4 → k ≡ kind_in w → OneOf enum_kinds k → {z : ℕ} → z ≡ word_at order s 8 → {v : ℕ} → Stated z enumerated v
      → (v ≡ 0) ⊎ Looks work r v
  looks-enum {w} {k} info kind one {z} third h =
      let size = third-read order s refl third in
      ⊎_elim (λ e. inl e)
      (λ q. inr (enumeration (ap (λ (k : ℕ). member k enum_kinds) (sym (kind-read order s refl info kind)) ∙ sym (member-key k ENUM (ENUM64 ∷ []) one))
      (omega (arith, size, q.0)) (q.1 ∙ ap (λ (q : ℕ). 16 * q + enumerated) size)))
      h

  pub looks-forward : {w k : ℕ} → w ≡ word_at order s 4 → k ≡ kind_in w → k ≡ FWD → Looks work r unsized
  looks-forward info kind is = forward (kind-is order s info kind is) refl

  -- a record of a kind that may wait
  pub looks-awaits : member (kind_of r) waiting_kinds ≡ true → Looks work r awaiting
  looks-awaits kind = awaits kind refl

  pub looks-group : (kind_of r ≡ STRUCT) ⊎ (kind_of r ≡ UNION) → flag_of r ≡ 0 → {x : Bool} → x ≡ members_fit work r → not x ≡ false
      → {z : ℕ} → z ≡ word_at order s 8 → {v : ℕ} → Stated z whole v → (v ≡ 0) ⊎ Looks work r v
  looks-group kind flag {x} d n {z} third h =
      let size = third-read order s refl third in
      let all = sym d ∙ not-false x n in
      ⊎_elim (λ e. inl e)
      (λ q. inr (group (⊎_elim (λ e. ap grouped e) (λ e. ap grouped e) kind) flag (and_left (every (member_fits work r) (members_of r)) (offsets_ok r) all)
      (and_right (every (member_fits work r) (members_of r)) (offsets_ok r) all) (omega (arith, size, q.0)) (q.1 ∙ ap (λ (q : ℕ). 16 * q + whole) size)))
      h
    where
      grouped : ℕ → Bool
      grouped k = member k (STRUCT ∷ UNION ∷ [])
