-- Two answers with the same numbers are one; and which numbers there are.
-- Assumes nothing.
use Rattle.paper.specs.declared.NameOff.{NameOff}
use Rattle.paper.specs.declared.Place.{Place}
use Rattle.std.specs.Prelude.{Err, Ok, Result, None, Option as RustOption, Some}
use Rattle.exts.specs.declared.ExtError.TheVariants.{Refused, TableRefused}
use Rattle.paper.specs.declared.JoinError.TheVariants.{FirstRefused}
use Rattle.exts.specs.declared.ExtError.{ExtError}
use Prim.Native.Nat.{ℕ, ◌-◌, ◌≤◌}
use mathlib.Core.Path.{◌≡◌, refl, sym, ap, ap₂, ◌∙◌}
use mathlib.Core.List.{[], ◌∷◌}
use native.Mathlib.Omega.{arith}
use lib.ListN.{get_or}
use Rattle.exts.specs.Entries.{found_as_paper}
use Rattle.exts.specs.Ext.{fault_number, extended_as_paper}
use Rattle.paper.specs.declared.Report.{Report}
use Rattle.exts.specs.declared.Fault.{Fault}
use Rattle.exts.specs.declared.Fault.TheVariants.{Length, Opening, HeaderLength, Parts, RecordSize, Group, Named, Typed}
use Rattle.paper.proofs.basics.Answers.{joined-one}
use Rattle.paper.specs.rules.Answer.{Answer, joined_as_paper}

-- ── 41 to 48 ──

fault_back : ℕ → Fault
fault_back n = get_or (Length ∷ Opening ∷ HeaderLength ∷ Parts ∷ RecordSize ∷ Group ∷ Named ∷ Typed ∷ []) (n - 41) Typed

fault-back : (f : Fault) → fault_back (fault_number f) ≡ f
unfolding fault_back fault_number
fault-back Length = refl
fault-back Opening = refl
fault-back HeaderLength = refl
fault-back Parts = refl
fault-back RecordSize = refl
fault-back Group = refl
fault-back Named = refl
fault-back Typed = refl

pub fault-one : (f g : Fault) → fault_number f ≡ fault_number g → f ≡ g
fault-one f g e = sym (fault-back f) ∙ ap fault_back e ∙ fault-back g

pub fault-range : (f : Fault) → (41 ≤ fault_number f) × (fault_number f ≤ 48)
unfolding fault_number
fault-range Length = (omega arith, omega arith)
fault-range Opening = (omega arith, omega arith)
fault-range HeaderLength = (omega arith, omega arith)
fault-range Parts = (omega arith, omega arith)
fault-range RecordSize = (omega arith, omega arith)
fault-range Group = (omega arith, omega arith)
fault-range Named = (omega arith, omega arith)
fault-range Typed = (omega arith, omega arith)

-- ── the check's answer ──

pub extended-one : (a b : Result (Unit {0}) ExtError) → extended_as_paper a ≡ extended_as_paper b → a ≡ b
unfolding extended_as_paper joined_as_paper
extended-one (Ok _) (Ok _) e = refl
extended-one (Ok _) (Err (TableRefused r)) e = absurd (let z : ◌≡◌ {A = ℕ} 0 40 = ap (λ (a : Answer). a.number) e in omega arith)
extended-one (Ok _) (Err (Refused f)) e = absurd (let z : 0 ≡ fault_number f = ap (λ (a : Answer). a.number) e in omega (arith, (fault-range f).0))
extended-one (Err (TableRefused r)) (Ok _) e = absurd (let z : ◌≡◌ {A = ℕ} 40 0 = ap (λ (a : Answer). a.number) e in omega arith)
-- the report inside is told as that of a join's first table is
extended-one (Err (TableRefused r)) (Err (TableRefused q)) e =
    let same : (Err (FirstRefused r)) ≡ (Err (FirstRefused q)) =
    joined-one (Err (FirstRefused r)) (Err (FirstRefused q)) (ap (λ (a : Answer). record { number = 16; inner = a.inner; t = a.t; p = a.p }) e) in
    let x : r ≡ q = cc in
    ap (λ (y : Report). Err (TableRefused y)) x
extended-one (Err (TableRefused r)) (Err (Refused f)) e = absurd (let z : 40 ≡ fault_number f = ap (λ (a : Answer). a.number) e in omega (arith, (fault-range f).0))
extended-one (Err (Refused f)) (Ok _) e = absurd (let z : fault_number f ≡ 0 = ap (λ (a : Answer). a.number) e in omega (arith, (fault-range f).0))
extended-one (Err (Refused f)) (Err (TableRefused r)) e = absurd (let z : fault_number f ≡ 40 = ap (λ (a : Answer). a.number) e in omega (arith, (fault-range f).0))
extended-one (Err (Refused f)) (Err (Refused g)) e = ap (λ (y : Fault). Err (Refused y)) (fault-one f g (ap (λ (a : Answer). a.number) e))

-- ── the record question's ──

pub found-one : (a b : RustOption (NameOff × Place)) → found_as_paper a ≡ found_as_paper b → a ≡ b
unfolding found_as_paper
found-one (Some (n, p)) (Some (m, q)) e =
    let x : n.0 ≡ m.0 = ap (λ (a : Answer). a.t) e in
    let y : p.0 ≡ q.0 = ap (λ (a : Answer). a.p) e in
    ap₂ (λ (i j : ℕ). Some (record { 0 = i }, record { 0 = j })) x y
found-one (Some (n, p)) None e = absurd (let z : ◌≡◌ {A = ℕ} 0 1 = ap (λ (a : Answer). a.number) e in omega arith)
found-one None (Some (m, q)) e = absurd (let z : ◌≡◌ {A = ℕ} 1 0 = ap (λ (a : Answer). a.number) e in omega arith)
found-one None None e = refl
