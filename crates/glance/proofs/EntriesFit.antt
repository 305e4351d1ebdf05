-- Laws of a look at a DATASEC: what is left of its entries, behind the end of the one before.
-- Assumes nothing.
use Prim.Native.Nat.{ℕ, suc, ◌+◌, ◌-◌, ◌*◌, ◌/◌, ◌%◌, ◌<◌, ◌≤◌}
use native.Mathlib.Omega.{arith}
use mathlib.Core.Path.{◌≡◌, refl, sym, ap, ◌∙◌}
use mathlib.Core.Bool.{Bool, true, false, not, ◌&&◌, ◌||◌}
use mathlib.Core.List.{List}
use borrow.Author.Tests.{eq-eqb, ne_eqb, not-false}
use lib.Dec.{eqb, leb}
use Rattle.glance.specs.Glance.{stored, not_plain, state_of, covers, entry_fits, section_fits, Looks, section}
use Rattle.layout.proofs.EntriesLeft.{entries_from, entries-few, entries-first, or-true, place-taken}
use Rattle.paper.proofs.basics.Choices.{and_left, and_right, and-true}
use Rattle.paper.specs.declared.Order.{Order}
use Rattle.paper.specs.rules.Choice.{every}
use Rattle.paper.specs.rules.KindNo.{DATASEC}
use Rattle.paper.specs.rules.Section.{Entry, entries_in, placed_from}
use Rattle.paper.specs.rules.Table.{Record, kind_of, tail_length}
use Rattle.paper.specs.rules.Word.{word_at}
use Rattle.paper.specs.terms.Reading.{record_in}
use Rattle.rows.proofs.RecordWords.{tail-read}
use Rattle.rows.proofs.RoleCodes.{tail_length-few}

-- ── one entry ──

module _ (s size : ℕ) where
  pub covers-not : (s % 16 ≡ stored → ⊥) → false ≡ covers s size
  covers-not n = sym (ap (λ (b : Bool). b && leb (s / 16) size) (ne_eqb (s % 16) stored n))

  pub covers-by : s % 16 ≡ stored → leb (s / 16) size ≡ covers s size
  covers-by e = sym (ap (λ (b : Bool). b && leb (s / 16) size) (eq-eqb (s % 16) stored e))

-- ── what is left of the entries ──

-- both rules of some entries behind an end
abbrev fit : List ℕ → ℕ → ℕ → List Entry → Bool
fit work end free es = every (entry_fits work) es && (eqb end 0 || placed_from end free es)

-- so many words of a tail are left, from a place on, behind an end: where their entries fit, all do
pub record Entering (work : List ℕ) (r : Record) (order : Order) (s : List ℕ) (p left free : ℕ) : Type 0 where
  pub near : p + 4 * left ≤ 786444
  pub rest : fit work r.third free (entries_from order s p left) ≡ true → section_fits work r ≡ true

pub entering-start : (work : List ℕ) (order : Order) (s : List ℕ) {w n : ℕ} → w ≡ word_at order s 4 → n ≡ tail_length w
    → Entering work (record_in order s) order s 12 n 0
entering-start work order s {w} {n} e d =
    record {
      near = omega (arith, d, tail_length-few w);
      rest = λ h. ap (λ (ws : List ℕ). fit work (record_in order s).third 0 (entries_in ws)) (tail-read order s e d) ∙ h;
    }

module _ {work : List ℕ} {r : Record} {order : Order} {s : List ℕ} {p left free : ℕ} (now : Entering work r order s p left free) where
  pub entering-done : left < 3 → section_fits work r ≡ true
  entering-done h = now.rest (ap (fit work r.third free) (entries-few order s p left h) ∙ or-true (eqb r.third 0))

  pub entering-next : 3 ≤ left → {v x from size : ℕ} → size ≡ word_at order s (p + 8) → from ≡ word_at order s (p + 4) → v ≡ word_at order s p
      → x ≡ state_of work v → {y : Bool} → y ≡ covers x size → not y ≡ false → {end : ℕ} → end ≡ r.third
      → {z : Bool} → z ≡ (eqb end 0 || (leb free from && leb (from + size) end)) → not z ≡ false → Entering work r order s (p + 12) (left - 3) (from + size)
  entering-next some {v} {x} {from} {size} long offset variable state {y} covered good {end} third {z} placed put =
      record {
        near = omega (arith, now.near);
        rest = λ h. now.rest (all ∙ and-true (and-true one (and_left others _ h))
            (place-taken (eqb r.third 0) (leb free from && leb (from + size) r.third) _ two ∙ and_right others _ h));
      }
    where
      behind : List Entry
      behind = entries_from order s (p + 12) (left - 3)

      others : Bool
      others = every (entry_fits work) behind

      one : covers (state_of work v) size ≡ true
      one = ap (λ (x : ℕ). covers x size) (sym state) ∙ sym covered ∙ not-false y good

      two : eqb r.third 0 || (leb free from && leb (from + size) r.third) ≡ true
      two = sym (ap (λ (e : ℕ). eqb e 0 || (leb free from && leb (from + size) e)) third) ∙ sym placed ∙ not-false z put

      -- the first of those that are left, by its two tests
      all : fit work r.third free (entries_from order s p left)
          ≡ (covers (state_of work v) size && others)
          && (eqb r.third 0 || ((leb free from && leb (from + size) r.third) && placed_from r.third (from + size) behind))
      all =
          let three : left ≡ suc (suc (suc (left - 3))) = omega arith in
          ap (λ (n : ℕ). fit work r.third free (entries_from order s p n)) three
          ∙ ap (fit work r.third free) (entries-first order s p (left - 3))
          ∙ sym
          (λ i. (covers (state_of work (variable i)) (long i) && others)
          && (eqb r.third 0 || ((leb free (offset i) && leb (offset i + long i) r.third) && placed_from r.third (offset i + long i) behind)))

-- ── the record ──

pub looks-section : (order : Order) (s : List ℕ) (work : List ℕ) → kind_of (record_in order s) ≡ DATASEC
    → {x : Bool} → (x ≡ true → section_fits work (record_in order s) ≡ true) → not x ≡ false → Looks work (record_in order s) not_plain
looks-section order s work kind {x} fits good = section kind (fits (not-false x good)) refl
