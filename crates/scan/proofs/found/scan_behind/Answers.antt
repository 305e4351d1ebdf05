-- `scan::found::scan_behind` meets its contract: the new places are written where there is a count, else the index is cleared.
use Rattle.std.specs.Prelude.{Result, ℕ}
use Rattle.paper.specs.declared.Report.{Report}
use mathlib.Core.Path.{sym, ap, ◌∙◌, subst}
use lib.ListN.{length}
use Rattle.scan.proofs.Behinds.{count-done-behind}
use Rattle.scan.specs.Behind.{scan_report_behind, count_behind, CountBy, FoundBy, index_behind}
use Rattle.scan.proofs.found.scan_behind.Goals as goal

-- in the arm of a count, what was found is that count
counted : (c : goal.After-places-arg-1) → let a = c.args in
    CountBy c.in-Ok.n
    (scan_report_behind a.before a.first a.b.now (length a.index.now) a.work)
    (count_behind a.first a.b.now)
counted c =
    let a = c.args in
    let b = a.b.now in
    subst (λ (s : Result ℕ Report). FoundBy s (scan_report_behind a.before a.first b (length a.index.now) a.work) (count_behind a.first b))
    c.in-Ok.is c.find_behind-found.ensures

-- in the arm of a count, what was found is that count
counted-2 : (c : goal.After-slice_known-in-Ok-1) → let a = c.args in
    CountBy c.in-Ok.n
    (scan_report_behind a.before a.first a.b.now (length a.index.now) a.work)
    (count_behind a.first a.b.now)
counted-2 c =
    let a = c.args in
    let b = a.b.now in
    subst (λ (s : Result ℕ Report). FoundBy s (scan_report_behind a.before a.first b (length a.index.now) a.work) (count_behind a.first b))
    c.in-Ok.is c.find_behind-found.ensures

pub places-requires : goal.places-requires
places-requires c = count-done-behind _ _ _ _ _ (counted c)

pub returns-in-Ok : goal.returns-in-Ok
returns-in-Ok c = record { found = counted-2 c; left = c.places.ensures }

pub returns-in-Err : goal.returns-in-Err
returns-in-Err c =
    let a = c.args in
    record {
      found = c.find_behind-found.ensures;
      left =
          c.clear.ensures
          ∙ ap (λ (s : Result ℕ Report). index_behind s a.first a.b.now a.index.now) (sym c.in-Err.is);
    }
