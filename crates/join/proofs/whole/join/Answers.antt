-- `join::whole::join` meets its contract: both checks, then what the limits leave.
use Rattle.std.specs.Prelude.{Err, Result, List, ℕ}
use mathlib.Core.Path.{◌≡◌, ap, ◌∙◌, subst}
use lib.ListN.{length}
use Rattle.gate.specs.Check.{CheckOf}
use Rattle.join.proofs.JoinAnswers.{first-refused, second-refused, both-accepted, limits-decide}
use Rattle.paper.proofs.basics.Exits.{exit-same, mapped-err, mapped-ok}
use Rattle.paper.proofs.bytes.Bytes.{slice-bytes}
use Rattle.paper.specs.declared.JoinError.{JoinError}
use Rattle.paper.specs.declared.Report.{Report}
use Rattle.paper.specs.rules.Gate.{zeros}
use Rattle.join.proofs.whole.join.Goals as goal

-- the second check finds as many places lent as the first
second : (b : List ℕ) (r : Result ℕ Report) {p w p' w' : ℕ} {x y : List ℕ} → p' ≡ p → w' ≡ w → CheckOf r b p' w' x y → CheckOf r b p w x y
second b r {p} {w' = w'} {x} {y} i k h = subst (λ (n : ℕ). CheckOf r b p n x y) k (subst (λ (n : ℕ). CheckOf r b n w' x y) i h)

pub join_accepted-requires : goal.join_accepted-requires
join_accepted-requires c =
    let a = c.args in
    both-accepted a.a.now a.b.now _ _
    (subst (λ (r : Result ℕ Report). CheckOf r a.a.now (length a.index.now) (length a.work.now) c.check.new.index c.check.new.work)
    (mapped-ok _ c.check.result c.map_err.ensures.cases c.in_ok-n.was) c.check.ensures)
    (subst (λ (r : Result ℕ Report). CheckOf r a.b.now (length a.index.now) (length a.work.now) c.check-2.new.index c.check-2.new.work)
    (mapped-ok _ c.check-2.result c.map_err-2.ensures.cases c.in_ok-m.was) (second a.b.now c.check-2.result c.check.auto.index c.check.auto.work c.check-2.ensures))
    (slice-bytes a.a.now c.shared_slice_known-1.given)
    (slice-bytes a.b.now c.shared_slice_known-2-1.given)

pub returns-in_err-n : goal.returns-in_err-n
returns-in_err-n c =
    let a = c.args in
    let (r, is, same) = mapped-err _ c.check.result c.map_err.ensures.cases c.in_err-n.was in
    rw (exit-same c.from_residual.result c.from_residual.ensures.1 ∙ ap (λ (x : JoinError). Err x) same)
    (first-refused a.a.now a.b.now _ _ a.out.now
    (subst (λ (r : Result ℕ Report). CheckOf r a.a.now (length a.index.now) (length a.work.now) c.check.new.index c.check.new.work)
    is c.check.ensures))

pub returns-in_err-m : goal.returns-in_err-m
returns-in_err-m c =
    let a = c.args in
    let (r, is, same) = mapped-err _ c.check-2.result c.map_err-2.ensures.cases c.in_err-m.was in
    rw (exit-same c.from_residual-in_err-m.result c.from_residual-in_err-m.ensures.1 ∙ ap (λ (x : JoinError). Err x) same)
    (second-refused a.a.now a.b.now _ _
    (subst (λ (r : Result ℕ Report). CheckOf r a.a.now (length a.index.now) (length a.work.now) c.check.new.index c.check.new.work)
    (mapped-ok _ c.check.result c.map_err.ensures.cases c.in_ok-n.was) c.check.ensures)
    a.out.now
    (subst (λ (r : Result ℕ Report). CheckOf r a.b.now (length a.index.now) (length a.work.now) c.check-2.new.index c.check-2.new.work)
    is (second a.b.now c.check-2.result c.check.auto.index c.check.auto.work c.check-2.ensures)))

pub returns : goal.returns
returns c =
    let a = c.args in
    limits-decide a.a.now a.b.now _ _
    (subst (λ (r : Result ℕ Report). CheckOf r a.a.now (length a.index.now) (length a.work.now) c.check.new.index c.check.new.work)
    (mapped-ok _ c.check.result c.map_err.ensures.cases c.in_ok-n.was) c.check.ensures)
    (subst (λ (r : Result ℕ Report). CheckOf r a.b.now (length a.index.now) (length a.work.now) c.check-2.new.index c.check-2.new.work)
    (mapped-ok _ c.check-2.result c.map_err-2.ensures.cases c.in_ok-m.was) (second a.b.now c.check-2.result c.check.auto.index c.check.auto.work c.check-2.ensures))
    (c.clear.ensures ∙ ap zeros (c.check-2.auto.index ∙ c.check.auto.index)) c.join_accepted.ensures
