-- Laws of a table that one pass has read to its end: it stands as behind `scan`, and phases 4 to 6 judge it.
-- Assumes nothing.
use Rattle.std.specs.Prelude.{Err, Ok, Result}
use Prim.Native.Nat.{ℕ}
use native.Mathlib.Omega.{arith}
use mathlib.Core.Path.{◌≡◌, refl, sym, subst, ◌∙◌}
use mathlib.Core.List.{List, []}
use Rattle.gate.proofs.Checks.{scan-accepted, scan-judged, scan-standing, scan-table}
use Rattle.gate.proofs.Stands.{stands-shows}
use Rattle.gate.specs.Check.{AnswerOf}
use Rattle.onepass.specs.Pass.{ReadOf, SureOf}
use Rattle.onepass.specs.declared.whole.Sure.{Sure}
use Rattle.onepass.specs.declared.whole.Sure.TheVariants.{Read}
use Rattle.paper.proofs.gates.Acceptance.{readable-phase1, readable-phase2, readable-slices}
use Rattle.paper.specs.declared.Report.{Report}
use Rattle.paper.specs.rules.Choice.{first_due}
use Rattle.paper.specs.rules.Gate.{table_report, zeros}
use Rattle.paper.specs.rules.Header.{order_of, strings_in}
use Rattle.paper.specs.rules.Table.{record_at}
use Rattle.paper.specs.rules.Walk.{table_of}
use Rattle.paper.specs.terms.Fit.{Bytes}
use Rattle.phases.proofs.Glanced.{quiet-judged}
use Rattle.phases.specs.Said.{later_says, said_as_paper}
use Rattle.rules.specs.Phase.{rules_of}
use Rattle.scan.specs.Scan.{ScanOf, scan_report}
use Rattle.views.proofs.Shows.{strings_in-none}
use Rattle.views.specs.declared.View.{View}

-- as it was told, with slices of the lengths that they had
pub sure-read : (b index : List ℕ) {places work places' work' : ℕ} {s : Sure} → SureOf s b places work index → {n : ℕ} → s ≡ Read n
    → places' ≡ places → work' ≡ work → ReadOf n b places' work' index
sure-read b index {places} {work} {places'} {work'} told {n} p e d =
    subst (λ (x : ℕ). ReadOf n b x work' index) (sym e)
    (subst (λ (x : ℕ). ReadOf n b places x index) (sym d) (subst (λ (x : Sure). SureOf x b places work index) p told))

module _ (b : List ℕ) (places work : ℕ) {n : ℕ} {index : List ℕ} (r : ReadOf n b places work index) where
  -- as `scan` would have left it
  found : ScanOf (Ok n) b places work index
  unfolding scan_report
  found =
      record {
        found =
            record {
              silent =
                  rw (readable-phase1 b places work r.readable, readable-phase2 b places work r.readable, readable-slices b places work r.readable) refl;
              counts = r.counted;
            };
        left = r.placed;
      }

  module _ (bytes : Bytes b) (v : View) (many : v.n ≡ n) (order : v.order ≡ order_of b) (alone : v.before ≡ 0) (j : Result (Unit {0}) Report)
      (says : said_as_paper j ≡ later_says [] b index v work) where
    -- what is said is what the table's own phases say
    read_table : said_as_paper j ≡ table_report (table_of b)
    read_table =
        let shows = stands-shows (scan-standing b places work (Ok n) found refl bytes) v many order alone in
        scan-table b places work (Ok n) found refl bytes v many order alone j
        (says
        ∙ quiet-judged [] b index v work
        (λ t low high.
        r.quiet t low (omega (arith, many))
        ∙ sym (λ i. first_due (rules_of (strings_in-none i) (strings_in b) (record_at (shows i) t)))))

    pub read-accepted : j ≡ (Ok (record {})) → AnswerOf (Ok n) b places work index
    read-accepted = scan-accepted b places work (Ok n) found refl j read_table

    pub read-judged : {s : Report} → j ≡ Err s → {cleared : List ℕ} → cleared ≡ zeros places → AnswerOf (Err s) b places work cleared
    read-judged = scan-judged b places work (Ok n) found refl j read_table
