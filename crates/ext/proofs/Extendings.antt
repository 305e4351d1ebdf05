-- Laws of the answers: the section beside the table that an index shows, and the whole by what the check says.
-- Assumes nothing.
use Rattle.std.proofs.lemmas.Result.{err_from_is_err_and}
use Rattle.std.specs.Prelude.{IsErrAnd, MatchResult, Err, Ok, Result, ℕ}
use Rattle.exts.specs.declared.ExtError.TheVariants.{Refused, TableRefused}
use Rattle.exts.specs.declared.ExtError.{ExtError}
use Prim.Native.Nat.{ℕ}
use mathlib.Core.Path.{◌≡◌, refl, sym, ap, ◌∙◌}
use mathlib.Core.List.{List, []}
use mathlib.Core.Option.{Option, none, some}
use lib.ListN.{take}
use Rattle.ext.specs.Extends.{fault_answer, BesideOf, ExtOf}
use Rattle.exts.specs.Ext.{section_fault, ext_refusal, ext_outcome, extend, judged_number, extended_as_paper}
use Rattle.exts.specs.declared.Fault.{Fault}
use Rattle.gate.proofs.Stands.{gate-standing, stands-shows}
use Rattle.gate.specs.Check.{CheckOf}
use Rattle.paper.proofs.gates.Answered.{checked-accepted, checked_refused}
use Rattle.paper.specs.declared.Order.{Order}
use Rattle.paper.specs.declared.Report.{Report}
use Rattle.paper.specs.rules.Answer.{Answer, checked_as_paper}
use Rattle.paper.specs.rules.Choice.{or_else}
use Rattle.paper.specs.rules.Gate.{gate, naming}
use Rattle.paper.specs.rules.Header.{order_of}
use Rattle.paper.specs.rules.Join.{refused_inside}
use Rattle.paper.specs.rules.Table.{Table}
use Rattle.paper.specs.rules.Walk.{table_of}
use Rattle.paper.specs.terms.Fit.{Bytes}
use Rattle.views.specs.Shown.{table_by}
use Rattle.views.specs.declared.View.{View}

-- ── beside the table that an index shows ──

-- two views that show the same
same_view : {n : ℕ} {order : Order} {v : View} → v.n ≡ n → v.order ≡ order → v.before ≡ 0 → record { n = n; before = 0; order = order } ≡ v
same_view e o z = λ i. record { n = sym e i; before = sym z i; order = sym o i }

module _ (b index s : List ℕ) (n : ℕ) {order : Order} (o : order ≡ order_of b) where
  abbrev shown : Option ℕ
  shown = section_fault (take 4 b) (table_by [] b index (record { n = n; before = 0; order = order })) s

  by-view : {x : Option ℕ} → x ≡ shown → (v : View) → v.n ≡ n → v.order ≡ order_of b → v.before ≡ 0
      → x ≡ section_fault (take 4 b) (table_by [] b index v) s
  by-view told v e p z = told ∙ ap (λ (w : View). section_fault (take 4 b) (table_by [] b index w) s) (same_view e (p ∙ sym o) z)

  -- what is judged, with its fault as the whole answers it
  pub beside-mapped : (j : Result (Unit {0}) Fault) (r : Result (Unit {0}) ExtError) → judged_number j ≡ shown
      → MatchResult j (λ x. r ≡ Ok x) (λ (f : Fault). IsErrAnd r (λ (e : ExtError). e ≡ Refused f)) → BesideOf r b index n s
  unfolding extended_as_paper judged_number
  beside-mapped (Ok _) r told is = record { is = λ v e p z. ap extended_as_paper is ∙ ap fault_answer (by-view told v e p z) }
  beside-mapped (Err f) r told h =
      let (_, is, same) = err_from_is_err_and r h in
      record { is = λ v e p z. ap extended_as_paper (is ∙ ap (λ (x : ExtError). Err x) same) ∙ ap fault_answer (by-view told v e p z) }

-- ── the whole, by what the check says ──

module _ {c : Result ℕ Report} {b : List ℕ} {places work : ℕ} {index left : List ℕ} (h : CheckOf c b places work index left) (s : List ℕ) where
  slices : (o : Option Answer) → let x = ext_outcome (gate b places work) o in (index ≡ x.index) × (left ≡ x.work)
  slices none = (h.told.indexes, h.cleared)
  slices (some a) = (h.told.indexes, h.cleared)

  -- what is answered is the outcome's, whatever the ground
  with-ground : (r : Result (Unit {0}) ExtError) → extended_as_paper r ≡ (ext_outcome (gate b places work) (ext_refusal b s places work)).answer → ExtOf r b s places work index left
  unfolding extend
  with-ground r e = let end = slices (ext_refusal b s places work) in record { answers = e; indexes = end.0; works = end.1 }

  pub ext-refused : (r : Report) → c ≡ Err r → ExtOf (Err (TableRefused r)) b s places work index left
  unfolding extended_as_paper ext_refusal
  ext-refused r p =
      let e = checked_refused b places work r (ap checked_as_paper (sym p) ∙ h.told.answers) in
      with-ground (Err (TableRefused r))
      (sym (ap (λ (o : Option Answer).
      (ext_outcome (gate b places work) (or_else (refused_inside 40 o) (naming 0 (section_fault (take 4 b) (table_of b) s)))).answer) e))

  module _ {n : ℕ} (p : c ≡ Ok n) (bytes : Bytes b) where
    ground : ext_refusal b s places work ≡ naming 0 (section_fault (take 4 b) (table_of b) s)
    unfolding ext_refusal
    ground =
        ap (λ (o : Option Answer). or_else (refused_inside 40 o) (naming 0 (section_fault (take 4 b) (table_of b) s)))
        (checked-accepted b places work (ap checked_as_paper (sym p) ∙ h.told.answers)).0

    answered : (o : Option ℕ) → fault_answer o ≡ (ext_outcome (gate b places work) (naming 0 o)).answer
    answered none = refl
    answered (some k) = refl

    pub ext-beside : {r : Result (Unit {0}) ExtError} → BesideOf r b index n s → ExtOf r b s places work index left
    ext-beside {r} a =
        let e = checked-accepted b places work (ap checked_as_paper (sym p) ∙ h.told.answers) in
        let v : View = record { n = n; before = 0; order = order_of b } in
        let shown = stands-shows (gate-standing b index places work e.0 bytes h.told.indexes e.1) v refl refl refl in
        with-ground r
        (a.is v refl refl refl
        ∙ ap (λ (T : Table). fault_answer (section_fault (take 4 b) T s)) shown
        ∙ answered (section_fault (take 4 b) (table_of b) s)
        ∙ ap (λ (o : Option Answer). (ext_outcome (gate b places work) o).answer) (sym ground))
