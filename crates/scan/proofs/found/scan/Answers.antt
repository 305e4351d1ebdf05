-- `scan::found::scan` meets its contract: the index is cleared, and filled where there is a count.
use Rattle.std.specs.Prelude.{Result, ℕ}
use Rattle.paper.specs.declared.Report.{Report}
use mathlib.Core.Path.{sym, ap, ◌∙◌, subst}
use lib.ListN.{length}
use Rattle.scan.proofs.Founds.{scan_begins, scan-filled}
use Rattle.scan.specs.Scan.{FoundOf, CountOf, index_after}
use Rattle.scan.proofs.found.scan.Goals as goal

-- in the arm of a count, what was found is that count
counted : (c : goal.After-places-arg-1) → let a = c.args in
    CountOf c.in-Ok.n a.b.now (length a.index.now) a.work
counted c =
    let a = c.args in
    subst (λ (s : Result ℕ Report). FoundOf s a.b.now (length a.index.now) a.work) c.in-Ok.is c.find-found.ensures

-- in the arm of a count, what was found is that count
counted-2 : (c : goal.After-slice_known-in-Ok-1) → let a = c.args in
    CountOf c.in-Ok.n a.b.now (length a.index.now) a.work
counted-2 c =
    let a = c.args in
    subst (λ (s : Result ℕ Report). FoundOf s a.b.now (length a.index.now) a.work) c.in-Ok.is c.find-found.ensures

pub places-requires : goal.places-requires
places-requires c = scan_begins _ _ _ (counted c) c.clear.ensures

pub returns-in-Ok : goal.returns-in-Ok
returns-in-Ok c =
    record {
      found = counted-2 c;
      left = scan-filled _ _ _ (counted-2 c) c.clear.ensures c.places.ensures;
    }

pub returns-in-Err : goal.returns-in-Err
returns-in-Err c =
    let a = c.args in
    record {
      found = c.find-found.ensures;
      left = c.clear.ensures ∙ ap (λ (s : Result ℕ Report). index_after s a.b.now (length a.index.now)) (sym c.in-Err.is);
    }
