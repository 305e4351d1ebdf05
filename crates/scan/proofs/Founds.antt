-- Laws of `scan_report`: what it is by what the header and the walk in code have said, and what a count gives the places and the index.
-- Assumes nothing.
use Rattle.std.specs.Prelude.{Err, Ok, Result, ℕ}
use Prim.Native.Nat.{ℕ, ◌+◌}
use mathlib.Core.Path.{◌≡◌, refl, sym, ap, ◌∙◌, subst}
use mathlib.Core.List.{List}
use mathlib.Core.Option.{Option, some}
use native.Mathlib.Omega.{arith}
use lib.ListN.{length, length-replicate}
use Rattle.paper.proofs.gates.Acceptance.{silent-readable, readable-walk}
use Rattle.paper.proofs.basics.Answers.{report-one}
use Rattle.paper.proofs.gates.Gates.{or_else-none, naming-none, some≢none, some_one}
use Rattle.paper.specs.rules.Answer.{Answer, report_as_paper}
use Rattle.paper.specs.rules.Choice.{or_else}
use Rattle.paper.specs.rules.Gate.{phase1, phase2, short_slices, zeros, index_of}
use Rattle.paper.specs.terms.Good.{Readable}
use Rattle.paper.specs.rules.Header.{header_length, header_report}
use Rattle.pairs.specs.Lean.{walk_behind}
use Rattle.paper.specs.rules.Table.{count}
use Rattle.paper.specs.rules.Walk.{Walked, records_in, table_of, places_from}
use Rattle.paper.specs.terms.Put.{put}
use Rattle.paper.specs.declared.Report.{Report}
use Rattle.scan.proofs.Findings.{header_report-section}
use Rattle.scan.proofs.Rests.{walk_behind-alone, count_behind-alone, rest_report-alone}
use Rattle.scan.proofs.Written.{index-alone}
use Rattle.header.specs.Header.{HeaderOf, SectionsOf}
use Rattle.scan.specs.Behind.{FoundBy, count_behind, rest_report}
use Rattle.scan.specs.Phase2.{TypeSection, counted, finding_of, behind, WalkDone}
use Rattle.scan.specs.Scan.{scan_report, CountOf, FoundOf, index_after, ScanOf}
use Rattle.header.specs.declared.first.Sections.{Sections}

module _ (b : List ℕ) (places work : ℕ) where
  -- ── by the header ──

  pub found-header : {h : Result Sections Report} {r : Report} → HeaderOf h b → h ≡ Err r → scan_report b places work ≡ some (report_as_paper r)
  unfolding scan_report
  found-header e p =
      ap (λ (o : Option Answer). or_else o (or_else (phase2 b) (short_slices (count (table_of b)) places work))) (subst (λ (x : Result Sections Report). HeaderOf x b) p e)

  module _ {h : Result Sections Report} {s : Sections} (e : HeaderOf h b) (p : h ≡ Ok s) where
    sections : SectionsOf s b
    sections = subst (λ (x : Result Sections Report). HeaderOf x b) p e

    pub found-section : TypeSection b s.types
    unfolding phase1
    found-section = header_report-section b (naming-none 0 (header_report b) sections.silent) sections.types

    -- where phase 1 is silent, the rest decides, behind no types
    silent : scan_report b places work ≡ rest_report 0 b places work
    unfolding scan_report
    silent =
        ap (λ (o : Option Answer). or_else o (or_else (phase2 b) (short_slices (count (table_of b)) places work))) sections.silent
        ∙ sym (rest_report-alone b places work)

    pub found-rest : (r : Result ℕ Report) → FoundBy r (rest_report 0 b places work) (count_behind 0 b) → FoundOf r b places work
    found-rest (Ok n) f = record { silent = silent ∙ f.silent; counts = f.counts ∙ count_behind-alone b }
    found-rest (Err r) f = silent ∙ f

  -- ── what a count gives the places ──

  pub count-readable : {n : ℕ} → CountOf n b places work → Readable b places work
  unfolding scan_report
  count-readable c =
      let one = or_else-none (phase1 b) _ c.silent in
      let two = or_else-none (phase2 b) _ one.1 in
      silent-readable b places work one.0 two.0 two.1

  pub count-done : {n : ℕ} → CountOf n b places work → WalkDone b 0 n places
  unfolding phase1 scan_report
  count-done {n} c =
      let r = count-readable c in
      let one = or_else-none (phase1 b) _ c.silent in
      record {
        section = header_report-section b (naming-none 0 (header_report b) one.0) refl;
        finds =
            ap (λ (w : Walked). behind 0 (finding_of w)) (walk_behind-alone b ∙ readable-walk b places work r)
            ∙ let same : 0 + count (table_of b) ≡ count (table_of b) = omega arith in ap counted (same ∙ sym c.counts);
        enough = omega (arith, r.enough_places, c.counts);
      }

  -- a cleared index takes the places, and is then the table's
  module _ {n : ℕ} {index : List ℕ} (c : CountOf n b places work) (clear : index ≡ zeros places) where
    pub scan_begins : WalkDone b 0 n (length index)
    scan_begins = let long : length index ≡ places = ap length clear ∙ length-replicate places 0 in rw long (count-done c)

    pub scan-filled : {after : List ℕ} → after ≡ put index 1 (places_from header_length (records_in (walk_behind 0 b))) → after ≡ index_of (table_of b) places
    scan-filled e =
        e
        ∙ ap (λ (i : List ℕ). put i 1 (places_from header_length (records_in (walk_behind 0 b)))) clear
        ∙ index-alone b places (omega (arith, (count-readable c).enough_places))

-- ── any two results that the contract of `scan` allows are the same ──

found-one : (s s' : Result ℕ Report) (b : List ℕ) (places work : ℕ) → FoundOf s b places work → FoundOf s' b places work → s ≡ s'
found-one (Ok n) (Ok m) b places work h k = ap Ok (h.counts ∙ sym k.counts)
found-one (Ok n) (Err r) b places work h k = absurd (some≢none (sym k ∙ h.silent))
found-one (Err r) (Ok n) b places work h k = absurd (some≢none (sym h ∙ k.silent))
found-one (Err r) (Err q) b places work h k = ap Err (report-one r q (some_one (sym h ∙ k)))

pub scan-one : {s s' : Result ℕ Report} {b : List ℕ} {places work : ℕ} {index index' : List ℕ} → ScanOf s b places work index → ScanOf s' b places work index'
    → (s ≡ s') × (index ≡ index')
scan-one {s} {s'} {b} {places} {work} h k =
    let e = found-one s s' b places work h.found k.found in
    (e, h.left ∙ ap (λ (x : Result ℕ Report). index_after x b places) e ∙ sym k.left)
