-- The pass as it goes: what it has found of the walk; and, if the walk will be whole, what is told of the table so far.
-- Assumes nothing.
use Prim.Native.Nat.{ℕ, ◌+◌, ◌-◌, ◌%◌, ◌≤◌, ◌<◌}
use native.Mathlib.Omega.{arith}
use mathlib.Core.Path.{◌≡◌, refl, sym, ap, subst, ◌∙◌}
use mathlib.Core.Bool.{Bool, false, ◌||◌}
use mathlib.Core.List.{List, []}
use mathlib.Core.Logic.{◌⊎◌, ⊎_elim}
use mathlib.Core.Option.{none}
use lib.ListN.{length, get_or, drop, length-set}
use Rattle.glance.proofs.Glances.{glancing-start}
use Rattle.glance.specs.Glance.{All, is_open, state_of}
use Rattle.links.proofs.Roots.{get_d-zeros}
use Rattle.onepass.proofs.Going.{Going, counted-table, going_next}
use Rattle.onepass.specs.Forth.{Begins, Stepped, Through, extent}
use Rattle.pairs.specs.Lean.{walk_behind}
use Rattle.paper.proofs.bytes.Reading.{word_at-drop}
use Rattle.paper.proofs.gates.Acceptance.{silent-readable}
use Rattle.paper.proofs.gates.Gates.{naming-none}
use Rattle.paper.specs.declared.Order.{Order}
use Rattle.paper.specs.rules.Gate.{phase1, phase2, short_slices, walk_report, zeros}
use Rattle.paper.specs.rules.Header.{header_length, header_report, order_of, strings_in, type_len}
use Rattle.paper.specs.rules.Limits.{type_limit}
use Rattle.paper.specs.rules.Table.{kind_in}
use Rattle.paper.specs.rules.Walk.{known, places_from, records_in, table_of}
use Rattle.paper.specs.terms.Fit.{Bytes}
use Rattle.paper.specs.terms.Good.{Readable}
use Rattle.paper.specs.terms.Put.{put}
use Rattle.scan.proofs.Findings.{behind-silent, header_report-section}
use Rattle.scan.proofs.Placing.{placing-done, placing-more, placing-start}
use Rattle.scan.proofs.Progress.{Standing, standing-done, standing-onward, standing-start}
use Rattle.scan.proofs.Rests.{slices-enough, walk_behind-alone}
use Rattle.scan.proofs.WalkSteps.{next_place}
use Rattle.scan.proofs.Written.{index-alone}
use Rattle.scan.specs.Phase2.{WalkDone, walk_finds}

pub record Passing (b start : List ℕ) (room most end k at : ℕ) (unsettled : Bool) (index work : List ℕ) : Type 0 where
  pub bytes : Bytes b
  pub silent : phase1 b ≡ none
  pub section : end ≡ header_length + type_len b
  pub clear : start ≡ zeros (length start)
  pub most_index : most ≤ length start
  pub most_work : most ≤ room
  pub most_types : most ≤ type_limit + 1
  pub few : k < most
  pub index_kept : length index ≡ length start
  pub work_kept : length work ≡ room
  pub stands : Standing (walk_finds 0 b) b end k at
  pub going : (n : ℕ) → WalkDone b 0 n (length start) → n < room → Going b start n k at unsettled index work

-- what a step has told, in the blob's own order and with its own strings
pub stepped-own : {order : Order} {base strings b : List ℕ} {end : ℕ} {start clear : List ℕ} → Begins order base strings b end start clear
    → {s : List ℕ} {room at k : ℕ} {index work : List ℕ} {next : ℕ} {index' work' : List ℕ}
    → (next ≡ 0) ⊎ Stepped order base strings s room at k index work next index' work' → (next ≡ 0 → ⊥)
    → Stepped (order_of b) [] (strings_in b) s room at k index work next index' work'
stepped-own {order} {base} {strings} {b} begins {s} {room} {at} {k} {index} {work} {next} {index'} {work'} h some =
    ⊎_elim (λ e. absurd (some e))
    (λ (d : Stepped order base strings s room at k index work next index' work').
    subst (λ (x : List ℕ). Stepped (order_of b) [] x s room at k index work next index' work') begins.own
    (subst (λ (x : List ℕ). Stepped (order_of b) x strings s room at k index work next index' work') begins.alone
    (subst (λ (o : Order). Stepped o base strings s room at k index work next index' work') begins.ordered d))) h

pub passing-start : {order : Order} {base strings b : List ℕ} {end : ℕ} {index work : List ℕ} → Begins order base strings b end index work
    → {most : ℕ} → most ≤ length index → most ≤ length work → most ≤ type_limit + 1 → (most ≡ 0 → ⊥)
    → Passing b index (length work) most end 0 24 false index work
unfolding phase1
passing-start {b = b} {end} {index} {work} begins {most} by_index by-work by-types some =
    record {
      bytes = begins.bytes;
      silent = begins.silent;
      section = begins.section;
      clear = begins.index_clear;
      most_index = by_index;
      most_work = by-work;
      most_types = by-types;
      few = omega arith;
      index_kept = refl;
      work_kept = refl;
      stands =
          subst (λ (e : ℕ). Standing (walk_finds 0 b) b e 0 header_length) (sym begins.section)
          (standing-start b 0 (type_len b)
          (record { section = header_report-section b (naming-none 0 (header_report b) begins.silent) refl; few = omega arith }));
      going =
          λ n done few.
          record {
            placing = placing-start done;
            quiet = λ t low high. absurd (omega arith);
            told = glancing-start (table_of b) n (counted-table b done) (length work) begins.work_clear few;
            ahead = λ x far. ap (λ (w : List ℕ). get_or w x 0) begins.work_clear ∙ get_d-zeros (length work) x;
            all = λ e x low high. absurd (omega arith);
          };
    }

module _ {b start : List ℕ} {room most end k at : ℕ} {unsettled : Bool} {index work : List ℕ} (p : Passing b start room most end k at unsettled index work) where
  header-silent : header_report b ≡ none
  unfolding phase1
  header-silent = naming-none 0 (header_report b) p.silent

  module _ (more : at < end) (fits : k + 1 < most) {next : ℕ} {index' work' : List ℕ}
      (s : Stepped (order_of b) [] (strings_in b) (drop at b) (end - at) at (k + 1) index work next index' work')
      {z unsettled' : Bool} (asked : z ≡ is_open (state_of work' (k + 1))) (some : unsettled' ≡ (unsettled || z)) where
    there : next ≡ next_place b at
    there = s.behind ∙ let word = ap extent (word_at-drop (order_of b) b at 4) in omega (arith, word)

    stepped : (at < next_place b at) × Standing (walk_finds 0 b) b end (k + 1) (next_place b at)
    stepped =
        let word = word_at-drop (order_of b) b at 4 in
        standing-onward b end k at p.stands more (λ e. omega (arith, e, p.most_types)) (omega (arith, s.inside))
        (sym (ap (λ (w : ℕ). known (kind_in w)) word) ∙ s.knows) (omega (arith, s.inside, ap extent word))

    pub passing-further : at < next
    passing-further = omega (arith, there, stepped.0)

    pub passing-inside : next ≤ end
    passing-inside = omega (arith, there, stepped.1.within)

    pub passing-next : Passing b start room most end (k + 1) next unsettled' index' work'
    passing-next =
        record {
          bytes = p.bytes;
          silent = p.silent;
          section = p.section;
          clear = p.clear;
          most_index = p.most_index;
          most_work = p.most_work;
          most_types = p.most_types;
          few = fits;
          index_kept = ap length s.placed ∙ length-set index (k + 1) at ∙ p.index_kept;
          work_kept = ap length s.stated ∙ length-set work (k + 1) s.state ∙ p.work_kept;
          stands = subst (Standing (walk_finds 0 b) b end (k + 1)) (sym there) stepped.1;
          going =
              λ n done few.
              let g = p.going n done few in
              let whole : (header_length + type_len b - at) % 4 ≡ 0 = ap (λ (e : ℕ). (e - at) % 4) (sym p.section) ∙ p.stands.whole in
              going_next p.bytes header-silent g (placing-more g.placing whole (omega (arith, p.section)))
              (subst (λ (e : ℕ). Stepped (order_of b) [] (strings_in b) (drop at b) (e - at) at (k + 1) index work next index' work') p.section s) asked some;
        }

  -- ── at the end ──

  module _ (done : end ≤ at) where
    found : WalkDone b 0 k (length start)
    found =
        record {
          section = header_report-section b header-silent refl;
          finds = standing-done b end k at p.stands done;
          enough = omega (arith, p.few, p.most_index);
        }

    last : Going b start k k at unsettled index work
    last = p.going k found (omega (arith, p.few, p.most_work))

    readable : Readable b (length start) room
    unfolding phase2
    readable =
        silent-readable b (length start) room p.silent
        (ap walk_report (sym (walk_behind-alone b)) ∙ behind-silent 0 (walk_behind 0 b) found.finds)
        (ap (λ (n : ℕ). short_slices n (length start) room) (sym (counted-table b found))
        ∙ slices-enough k (length start) room (omega (arith, p.few, p.most_index)) (omega (arith, p.few, p.most_work)))

    pub passing-done : Through k b (length start) room index work
    passing-done =
        record {
          indexed =
              record {
                bytes = p.bytes;
                readable = readable;
                placed =
                    placing-done last.placing (omega arith)
                    ∙ ap (λ (i : List ℕ). put i 1 (places_from header_length (records_in (walk_behind 0 b)))) p.clear
                    ∙ index-alone b (length start) (omega (arith, readable.enough_places));
              };
          counted = counted-table b found;
          quiet = last.quiet;
          told = last.told;
        }

    pub passing-all : unsettled ≡ false → All k work
    passing-all e = last.all e
