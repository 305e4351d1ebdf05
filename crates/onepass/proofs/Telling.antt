-- Laws of the members of a struct or a union without bit fields: by their names and by their types' states at once.
-- Assumes nothing.
use Prim.Native.Nat.{ℕ, ◌+◌, ◌-◌, ◌*◌, ◌/◌, ◌<◌, ◌≤◌}
use native.Mathlib.Omega.{arith}
use mathlib.Core.Path.{◌≡◌, refl, sym, ap, subst}
use mathlib.Core.Bool.{Bool, true, false, not, cond, ◌&&◌}
use mathlib.Core.List.{List, [], ◌∷◌}
use mathlib.Core.Logic.{inl, inr}
use borrow.Author.Tests.{not-false}
use lib.Dec.{eqb, leb}
use lib.ListN.{length}
use Rattle.glance.proofs.FitsLeft.{Fitting, fitting-start, fitting-next, fitting-done}
use Rattle.glance.specs.Glance.{Stated, awaiting, fits, state_of, whole}
use Rattle.onepass.specs.Seen.{MembersTold}
use Rattle.pairs.specs.Lean.{name_word_over}
use Rattle.paper.proofs.basics.Choices.{and_left, and_right, member-each, member-every}
use Rattle.paper.specs.declared.Order.{Order}
use Rattle.paper.specs.rules.Choice.{member}
use Rattle.paper.specs.rules.Kind.{Row, names, offset0_or_identifier, row_of, rows}
use Rattle.paper.specs.rules.KindNo.{STRUCT, UNION}
use Rattle.paper.specs.rules.Table.{flag_in, flag_of, kind_in, tail_length, vlen_in}
use Rattle.paper.specs.rules.Word.{word_at}
use Rattle.paper.specs.terms.Reading.{record_in}
use Rattle.rows.proofs.ByRole.{Entering, entering-start, entering-done}
use Rattle.rows.proofs.Groups.{group-half}
use Rattle.rows.proofs.RecordWords.{flag-read, kind-read, third-read}
use Rattle.rules.proofs.Spaced.{member-name, member-next}

-- ── an info word without a kind_flag ──

-- its upper half is one of a struct's or a union's, and its flag is 0
pub plain-half : (info : ℕ) → member (info / 65536) (1024 ∷ 1280 ∷ []) ≡ true
    → (member (info / 65536) (1024 ∷ 1280 ∷ 33792 ∷ 34048 ∷ []) ≡ true) × (flag_in info ≡ 0)
plain-half info half = (
  member-every (λ (q : ℕ). member q (1024 ∷ 1280 ∷ 33792 ∷ 34048 ∷ [])) (info / 65536) (1024 ∷ 1280 ∷ []) half refl,
  member-each (λ (q : ℕ). info / 65536 ≡ q → flag_in info ≡ 0) (info / 65536) (1024 ∷ 1280 ∷ []) half (λ h. omega arith, (λ h. omega arith, tt)) refl,
)

-- and so is its record's
pub flagless : (order : Order) (s : List ℕ) {info : ℕ} → info ≡ word_at order s 4 → member (info / 65536) (1024 ∷ 1280 ∷ []) ≡ true
    → flag_of (record_in order s) ≡ 0
flagless order s {info} read half = sym (flag-read order s refl read (sym (plain-half info half).1))

-- how many words its members have
pub members-tail : (info : ℕ) → member (info / 65536) (1024 ∷ 1280 ∷ []) ≡ true → 3 * vlen_in info ≡ tail_length info
unfolding tail_length row_of rows
members-tail info half =
    let row = (group-half info (plain-half info half).0).row in
    let long : length (row_of (kind_in info)).once + vlen_in info * length (row_of (kind_in info)).each ≡ 0 + vlen_in info * 3 =
    ap (λ (r : Row). length r.once + vlen_in info * length r.each) row in
    omega (arith, long)

-- ── members: so many are passed, behind an offset ──

pub record Telling (order : Order) (base strings work s : List ℕ) (info i before : ℕ) (all : Bool) : Type 0 where
  pub named : Entering order (name_word_over base strings) s (row_of STRUCT).each 12 (vlen_in info) (12 + 12 * i) i
  pub left : ℕ
  pub whole : i + left ≡ vlen_in info
  pub fit : all ≡ true → Fitting work (record_in order s) order s (12 + 12 * i) (3 * left) before

pub telling-start : (order : Order) (base strings work s : List ℕ) {info : ℕ} → info ≡ word_at order s 4
    → member (info / 65536) (1024 ∷ 1280 ∷ []) ≡ true → Telling order base strings work s info 0 0 true
telling-start order base strings work s {info} read half =
    record {
      named = entering-start (omega arith);
      left = vlen_in info;
      whole = omega arith;
      fit = λ always. fitting-start work order s (flagless order s read half) read (members-tail info half);
    }

module _ {order : Order} {base strings work s : List ℕ} {info i before : ℕ} {all : Bool}
    (now : Telling order base strings work s info i before all) where
  pub telling-next : info ≡ word_at order s 4 → i < vlen_in info → {w : ℕ} → w ≡ word_at order s (12 + 12 * i)
      → {t : Bool} → t ≡ name_word_over base strings (names offset0_or_identifier) w → not t ≡ false
      → {z : ℕ} → z ≡ word_at order s 8 → {o u v : ℕ} → o ≡ word_at order s (12 + 12 * i + 8) → u ≡ word_at order s (12 + 12 * i + 4)
      → v ≡ state_of work u
      → {x : Bool} → x ≡ fits v o z → {k : ℕ} → k ≡ kind_in info → {y : Bool} → y ≡ cond (eqb k UNION) (eqb 0 o) (leb before o)
      → Telling order base strings work s info (i + 1) o (all && x && y)
  telling-next read some word name good size {o} offset type state {x} ends kind {y} test =
      record {
        named = member-next order base strings s (12 + 12 * i) now.named some (member-name order base strings s (12 + 12 * i) word name) good (omega arith);
        left = now.left - 1;
        whole = omega (arith, now.whole);
        fit = λ e.
            let both : all && x ≡ true = and_left (all && x) y e in
            let three : 3 * now.left - 3 ≡ 3 * (now.left - 1) = omega arith in
            let next : 12 + 12 * i + 12 ≡ 12 + 12 * (i + 1) = omega arith in
            subst (λ (n : ℕ). Fitting work (record_in order s) order s (12 + 12 * (i + 1)) n o) three
            (subst (λ (p : ℕ). Fitting work (record_in order s) order s p (3 * now.left - 3) o) next
            (fitting-next (now.fit (and_left all x both)) (omega (arith, now.whole)) (third-read order s refl size) offset type state ends
            (ap not (and_right all x both)) (kind-read order s refl read kind) test (ap not (and_right (all && x) y e))));
      }

  -- none is left: one that does not fit, or is open, leaves the state open
  pub telling-open : vlen_in info ≤ i → MembersTold order base strings work s info awaiting
  telling-open h = inr (record { named = sym (entering-done now.named h); fit = inl refl })

  pub telling-done : vlen_in info ≤ i → not all ≡ false → {z : ℕ} → z ≡ word_at order s 8 → {v : ℕ} → Stated z whole v
      → MembersTold order base strings work s info v
  telling-done h good size {v} stated =
      inr
      (record {
        named = sym (entering-done now.named h);
        fit = inr (
          sym (fitting-done (now.fit (not-false all good)) (omega (arith, now.whole))),
          subst (λ (z : ℕ). Stated z whole v) size stated,
        );
      })
