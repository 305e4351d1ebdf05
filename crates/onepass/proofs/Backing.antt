-- Laws of the pass back: where a type's record stands, how far the looks went, and that a table of which all is told meets the paper.
-- Assumes nothing.
use Prim.Native.Nat.{ℕ, zero, suc, ◌-◌, ◌≤◌, ◌<◌}
use native.Mathlib.Omega.{arith}
use mathlib.Core.Path.{◌≡◌, refl, sym, ap, subst, ◌∙◌}
use mathlib.Core.Bool.{Bool, true, false, false≢true}
use mathlib.Core.List.{List, []}
use borrow.Author.Tests.{eqb-true, eqb-false, not-false}
use lib.Dec.{eqb}
use lib.ListN.{drop, get_or, length}
use Rattle.glance.proofs.Glances.{all-good}
use Rattle.glance.specs.Glance.{All, Glancing, Open, SurelyGood, Went, awaiting, is_open, state_of}
use Rattle.onepass.specs.Forth.{Indexed, Through}
use Rattle.onepass.specs.Pass.{GoodOf, ReadOf}
use Rattle.pairs.proofs.NamesOver.{names_over-one}
use Rattle.paper.proofs.Outcomes.{get_d-index_of}
use Rattle.paper.proofs.basics.Choices.{first_due-none}
use Rattle.paper.proofs.bytes.Blobs.{strings-table_of}
use Rattle.paper.proofs.bytes.Headers.{facts-header_report}
use Rattle.paper.proofs.bytes.Reading.{record_in-place}
use Rattle.paper.proofs.bytes.Sections.{whole-at}
use Rattle.paper.proofs.gates.Acceptance.{readable-walk}
use Rattle.paper.specs.declared.Order.{Order}
use Rattle.paper.specs.rules.Header.{order_of, strings_in}
use Rattle.paper.specs.rules.Names.{names_ok}
use Rattle.paper.specs.rules.Table.{Table, count, record_at, tail_length}
use Rattle.paper.specs.rules.Walk.{table_of}
use Rattle.paper.specs.terms.Good.{SoundAt}
use Rattle.paper.specs.terms.Reading.{record_in}
use Rattle.rules.specs.Phase.{rules_of}

-- a state that is not open
pub not-open : {s : ℕ} {z : Bool} → z ≡ is_open s → z ≡ false → (s ≡ 0 → ⊥) × (s ≡ awaiting → ⊥)
not-open told e = (
  λ d. false≢true (sym e ∙ told ∙ ap is_open d),
  λ d. false≢true (sym e ∙ told ∙ ap is_open d),
)

-- ── the record of a type ──

module _ {b : List ℕ} {places room : ℕ} {index : List ℕ} (x : Indexed b places room index) where
  pub indexed-record : (t : ℕ) → 1 ≤ t → t ≤ count (table_of b) → {from : ℕ} → from ≡ get_or index t 0 → {s : List ℕ} → s ≡ drop from b
      → {order : Order} → order ≡ order_of b → record_in order s ≡ record_at (table_of b) t
  indexed-record zero low high e d o = absurd (omega arith)
  indexed-record (suc t) low high e d o =
      let r = x.readable in
      (λ i. record_in (o i) (d i))
      ∙ ap (λ (p : ℕ). record_in (order_of b) (drop p b))
      (e ∙ ap (λ (i : List ℕ). get_or i (suc t) 0) x.placed ∙ get_d-index_of (table_of b) places r.enough_places t (omega arith))
      ∙ record_in-place b x.bytes (facts-header_report b r.header) (table_of b).records (readable-walk b places room r) t (omega arith)

  pub indexed-tail : (t : ℕ) → 1 ≤ t → t ≤ count (table_of b) → length (record_at (table_of b) t).tail ≡ tail_length (record_at (table_of b) t).info
  indexed-tail zero low high = absurd (omega arith)
  indexed-tail (suc t) low high = (whole-at (table_of b).records x.readable.section.whole_found t (omega arith)).whole_tail

  -- with as many places for states
  pub indexed-room : {n : ℕ} → n ≡ room → Indexed b places n index
  indexed-room e = subst (λ (m : ℕ). Indexed b places m index) (sym e) x

-- ── how far the looks went ──

-- the types above t are settled
pub record Backing (T : Table) (size t : ℕ) (work : List ℕ) : Type 0 where
  pub size-kept : length work ≡ size
  pub now : Glancing T (count T) work
  pub high : t ≤ count T
  pub passed : (x : ℕ) → t < x → x ≤ count T → Open (state_of work x) → ⊥

pub backing-start : {T : Table} {n t : ℕ} {work : List ℕ} → t ≡ n → n ≡ count T → Glancing T n work → Backing T (length work) t work
backing-start {T} {n} {t} {work} same e g =
    record {
      size-kept = refl;
      now = subst (λ (m : ℕ). Glancing T m work) e g;
      high = omega arith;
      passed = λ x low high. absurd (omega arith);
    }

pub backing-next : {T : Table} {size t : ℕ} {work work' : List ℕ} → Backing T size t work → 0 < t → length work' ≡ length work → {r : ℕ}
    → Went T (count T) t work r work' → r ≡ 2 → Backing T size (t - 1) work'
backing-next {T} {size} {t} {work} {work'} b some kept w two =
    record {
      size-kept = kept ∙ b.size-kept;
      now = w.now;
      high = omega (arith, b.high);
      passed = λ x low high. go x low high (eqb x t) refl;
    }
  where
    go : (x : ℕ) → t - 1 < x → x ≤ count T → (z : Bool) → eqb x t ≡ z → Open (state_of work' x) → ⊥
    go x low high true e = λ z. w.here two (ap (λ (y : ℕ). is_open (state_of work' y)) (sym (eqb-true x t e)) ∙ z)
    go x low high false e = let other = eqb-false x t e in w.keeps x (b.passed x (omega arith) high)

pub backing-done : {T : Table} {size t n : ℕ} {work : List ℕ} → Backing T size t work → t ≤ 0 → n ≡ count T → SurelyGood T n
backing-done {T} {n = n} {work} b none e =
    subst (SurelyGood T) (sym e) (all-good T (count T) b.now (λ x low high. b.passed x (omega arith) high))

-- ── a table of which all is told ──

module _ {n : ℕ} {b : List ℕ} {places room : ℕ} {index work : List ℕ} (t : Through n b places room index work) where
  abbrev T : Table
  T = table_of b

  sound-at : SurelyGood T n → (k : ℕ) → 1 ≤ k → k ≤ count T → SoundAt T k
  sound-at good k low high =
      let inside : k ≤ n = omega (arith, t.counted) in
      let due = first_due-none (rules_of [] (strings_in b) (record_at T k)) (sym (t.quiet k low inside)) in
      record {
        heads = not-false _ due.0;
        names =
            ap (λ (s : List ℕ). names_ok s (record_at T k)) (strings-table_of b)
            ∙ sym (names_over-one [] (strings_in b) refl (record_at T k))
            ∙ not-false _ due.1.0;
        tails = not-false _ due.1.1.0;
        refs = good.refs k low inside;
        ends = good.ends k low inside;
        layouts = good.layout k low inside;
      }

  pub through-good : SurelyGood T n → GoodOf n b places room index
  through-good good =
      record {
        meets = record { readable = t.indexed.readable; sound = sound-at good };
        counted = t.counted;
        placed = t.indexed.placed;
      }

  pub settled-good : All n work → GoodOf n b places room index
  settled-good all = through-good (all-good T n t.told all)

  -- ── or read to its end ──

  pub through_read : ReadOf n b places room index
  through_read =
      record {
        readable = t.indexed.readable;
        counted = t.counted;
        placed = t.indexed.placed;
        quiet = t.quiet;
      }
