-- A leaning table is accepted exactly where the pair meets the rules over both together.
-- Assumes nothing.
use Prim.Native.Nat.{ℕ, suc, ◌+◌, ◌-◌, ◌<◌}
use mathlib.Core.Path.{◌≡◌, refl, sym, ap, ◌∙◌}
use mathlib.Core.List.{List, [], ◌∷◌}
use mathlib.Core.Option.{Option, none, some}
use native.Mathlib.Omega.{arith}
use borrow.Author.Tests.{ltb-false, le-ltb}
use lib.Dec.{ltb}
use lib.ListN.{length}
use Rattle.pairs.proofs.Headers.{behind_report-facts, facts-behind_report, other_opening-order, order-other_opening}
use Rattle.pairs.proofs.Replaced.{replaced, replaced-first_of, replaced-or_else}
use Rattle.pairs.specs.Lean.{behind_report, walk_behind, other_opening, own_records, table_over, place_over, over_both, lean_table_report, lean_refusal}
use Rattle.pairs.specs.Leaning.{PairReadable, PairMeets}
use Rattle.paper.proofs.basics.Choices.{or-false, false-or, first_due-none, none-first_due}
use Rattle.paper.proofs.bytes.Sections.{walk_from-flat, flat-walk_from}
use Rattle.paper.proofs.gates.Gates.{or_else-none, none-or_else, naming-none, refused_inside-none, table_report-sound, sound-table_report, some≢none}
use Rattle.paper.specs.rules.Answer.{Answer}
use Rattle.paper.specs.rules.Choice.{Rule, ◌when◌, first_due, or_else}
use Rattle.paper.specs.rules.Gate.{naming, walk_report, slice_rules, short_slices, over_types, phase3, phase4, phase5, phase6, table_report, refusal}
use Rattle.paper.specs.rules.Header.{header_length}
use Rattle.paper.specs.rules.Join.{refused_inside}
use Rattle.paper.specs.rules.Limits.{type_limit}
use Rattle.paper.specs.rules.Table.{Table, count}
use Rattle.paper.specs.rules.Walk.{Walked, records, stopped, records_in, walk_from, type_words, table_of, place_at}
use Rattle.paper.specs.terms.Good.{WholeWalk}

-- ── the phases over both say of a type what they say of the one table, at other places ──

module _ (base own : List ℕ) where
  abbrev T : Table
  T = table_over base own

  over-one : (phase : Table → ℕ → List Rule) → over_both base own phase ≡ replaced (place_over base own) (over_types phase T)
  unfolding over_both over_types
  over-one phase = replaced-first_of (place_at T) (place_over base own) (phase T) (count T) 1

  -- number and type of what phases 3 to 6 say are those of the table of both; the place counts in the blob that holds the record
  pub report-both : lean_table_report base own ≡ replaced (place_over base own) (table_report T)
  unfolding lean_table_report table_report
  report-both =
      let at = place_over base own in
      (λ i. or_else (over-one phase3 i) (or_else (over-one phase4 i) (or_else (over-one phase5 i) (over-one phase6 i))))
      ∙ ap (λ (o : Option Answer). or_else (replaced at (over_types phase3 T)) (or_else (replaced at (over_types phase4 T)) o))
      (replaced-or_else at (over_types phase5 T) (over_types phase6 T))
      ∙ ap (or_else (replaced at (over_types phase3 T))) (replaced-or_else at (over_types phase4 T) _)
      ∙ replaced-or_else at (over_types phase3 T) _

  pub replaced-none : (o : Option Answer) → replaced (place_over base own) o ≡ none → o ≡ none
  replaced-none none e = refl
  replaced-none (some a) e = absurd (some≢none e)

  -- ── phases 1 and 2 ──

  walk-records : (w : Walked) → walk_report w ≡ none → w ≡ records (records_in w)
  walk-records (records rs) p = refl
  walk-records (stopped n t at) p = absurd (some≢none p)

  abbrev n : ℕ
  n = count (table_of base)

  walked-section : walk_report (walk_behind n own) ≡ none → WholeWalk (type_limit - n) (type_words own) (own_records base own)
  unfolding walk_behind own_records
  walked-section e = flat-walk_from (type_limit - n) (suc n) header_length (type_words own) _ (walk-records (walk_behind n own) e)

  section-walked : WholeWalk (type_limit - n) (type_words own) (own_records base own) → walk_behind n own ≡ records (own_records base own)
  unfolding walk_behind
  section-walked s =
      ap (walk_from (type_limit - n) (suc n) header_length) (sym s.flat_found)
      ∙ walk_from-flat (type_limit - n) (suc n) header_length (own_records base own) s.whole_found s.few_found

  module _ (places work : ℕ) where
    slices-enough : short_slices (count T) places work ≡ none → (count T < places) × (count T < work)
    unfolding short_slices
    slices-enough e =
        let due = (first_due-none (slice_rules (count T) places work) (naming-none 0 _ e)).0 in
        let enough = or-false (ltb places (count T + 1)) (ltb work (count T + 1)) due in
        (omega (arith, ltb-false places (count T + 1) enough.0), omega (arith, ltb-false work (count T + 1) enough.1))

    enough-slices : count T < places → count T < work → short_slices (count T) places work ≡ none
    unfolding short_slices
    enough-slices p w =
        ap (naming 0) (none-first_due (slice_rules (count T) places work)
        (false-or (le-ltb places (count T + 1) (omega arith)) (le-ltb work (count T + 1) (omega arith)), tt))

    -- ── accepted exactly ──

    -- what is said before phase 3
    unfoldable pub early_report : Option Answer
    early_report =
        or_else (refused_inside 25 (refusal base places work))
        (or_else (naming 0 (first_due (26 when other_opening base own ∷ [])))
        (or_else (naming 0 (behind_report (length base) own))
        (or_else (walk_report (walk_behind n own)) (short_slices (count T) places work))))

    pub early-first : lean_refusal base own places work ≡ or_else early_report (lean_table_report base own)
    unfolding lean_refusal early_report
    early-first =
        go (refused_inside 25 (refusal base places work)) (naming 0 (first_due (26 when other_opening base own ∷ []))) (naming 0 (behind_report (length base) own))
        (walk_report (walk_behind n own)) (short_slices (count T) places work) (lean_table_report base own)
      where
        go : (a b c d e f : Option Answer) → or_else a (or_else b (or_else c (or_else d (or_else e f)))) ≡ or_else (or_else a (or_else b (or_else c (or_else d e)))) f
        go none none none none e f = refl
        go none none none (some d) e f = refl
        go none none (some c) d e f = refl
        go none (some b) c d e f = refl
        go (some a) b c d e f = refl

    pub early-readable : early_report ≡ none → PairReadable base own places work
    unfolding early_report
    early-readable e =
        let p₁ = or_else-none (refused_inside 25 (refusal base places work)) _ e in
        let p₂ = or_else-none (naming 0 (first_due (26 when other_opening base own ∷ []))) _ p₁.1 in
        let p₃ = or_else-none (naming 0 (behind_report (length base) own)) _ p₂.1 in
        let p₄ = or_else-none (walk_report (walk_behind n own)) _ p₃.1 in
        let facts = behind_report-facts (length base) own (naming-none 0 _ p₃.0) in
        let enough = slices-enough p₄.1 in
        record {
          base-accepted = refused_inside-none 25 (refusal base places work) p₁.0;
          one-order =
              other_opening-order base own facts.sections.opens (first_due-none (26 when other_opening base own ∷ []) (naming-none 0 _ p₂.0)).0;
          header = facts;
          section = walked-section p₄.0;
          enough_places = enough.0;
          enough_work = enough.1;
        }

    pub readable-early : PairReadable base own places work → early_report ≡ none
    unfolding early_report
    readable-early r =
        none-or_else (ap (refused_inside 25) r.base-accepted)
        (none-or_else (ap (naming 0) (none-first_due (26 when other_opening base own ∷ []) (order-other_opening base own r.header.sections.opens r.one-order, tt)))
        (none-or_else (ap (naming 0) (facts-behind_report (length base) own r.header))
        (none-or_else (ap walk_report (section-walked r.section)) (enough-slices r.enough_places r.enough_work))))

    pub pair-meets : lean_refusal base own places work ≡ none → PairMeets base own places work
    pair-meets e =
        let p = or_else-none early_report (lean_table_report base own) (sym early-first ∙ e) in
        record {
          readable = early-readable p.0;
          sound = table_report-sound T (replaced-none (table_report T) (sym report-both ∙ p.1));
        }

    pub meets-pair : PairMeets base own places work → lean_refusal base own places work ≡ none
    meets-pair m =
        early-first
        ∙ none-or_else (readable-early m.readable) (report-both ∙ ap (replaced (place_over base own)) (sound-table_report T m.sound))
