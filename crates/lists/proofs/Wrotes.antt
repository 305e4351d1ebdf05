-- Two answers of writing or of reading a list that have the same numbers are one.
-- Assumes nothing.
use Rattle.paper.specs.declared.Report.{Report}
use Rattle.lists.specs.declared.MakeError.TheVariants as made
use Rattle.std.specs.Prelude.{Err, Ok, Result, ℕ}
use Rattle.lists.specs.declared.WriteError.TheVariants.{OutputShort, Refused}
use Rattle.paper.specs.declared.JoinError.TheVariants.{FirstRefused}
use Rattle.lists.specs.declared.WriteError.{WriteError}
use Rattle.lists.specs.declared.MakeError.{MakeError}
use Prim.Native.Nat.{ℕ, ◌≤◌}
use mathlib.Core.Path.{◌≡◌, refl, ap}
use native.Mathlib.Omega.{arith}
use Rattle.lists.specs.Kept.{fault_number, made_as_paper, wrote_as_paper}
use Rattle.lists.specs.declared.Fault.{Fault}
use Rattle.lists.specs.declared.Fault.TheVariants.{UnknownTag, CutShort, OutOfPlace}
use Rattle.paper.proofs.basics.Answers.{joined-one}
use Rattle.paper.specs.rules.Answer.{Answer, joined_as_paper}

pub wrote_one : (a b : Result ℕ WriteError) → wrote_as_paper a ≡ wrote_as_paper b → a ≡ b
unfolding wrote_as_paper joined_as_paper
wrote_one (Ok n) (Ok m) e = let x : n ≡ m = ap (λ (a : Answer). a.p) e in ap Ok x
wrote_one (Ok n) (Err OutputShort) e = absurd (let z : ◌≡◌ {A = ℕ} 0 53 = ap (λ (a : Answer). a.number) e in omega arith)
wrote_one (Ok n) (Err (Refused r)) e = absurd (let z : ◌≡◌ {A = ℕ} 0 54 = ap (λ (a : Answer). a.number) e in omega arith)
wrote_one (Err OutputShort) (Ok n) e = absurd (let z : ◌≡◌ {A = ℕ} 53 0 = ap (λ (a : Answer). a.number) e in omega arith)
wrote_one (Err OutputShort) (Err OutputShort) e = refl
wrote_one (Err OutputShort) (Err (Refused r)) e = absurd (let z : ◌≡◌ {A = ℕ} 53 54 = ap (λ (a : Answer). a.number) e in omega arith)
wrote_one (Err (Refused r)) (Ok n) e = absurd (let z : ◌≡◌ {A = ℕ} 54 0 = ap (λ (a : Answer). a.number) e in omega arith)
wrote_one (Err (Refused r)) (Err OutputShort) e = absurd (let z : ◌≡◌ {A = ℕ} 54 53 = ap (λ (a : Answer). a.number) e in omega arith)
-- the report inside is told as that of a join's first table is
wrote_one (Err (Refused r)) (Err (Refused q)) e =
    let same : (Err (FirstRefused r)) ≡ (Err (FirstRefused q)) =
    joined-one (Err (FirstRefused r)) (Err (FirstRefused q)) (ap (λ (a : Answer). record { number = 16; inner = a.inner; t = a.t; p = a.p }) e) in
    let x : r ≡ q = cc in
    ap (λ (y : Report). Err (Refused y)) x

-- ── reading ──

pub fault-one : (f g : Fault) → fault_number f ≡ fault_number g → f ≡ g
unfolding fault_number
fault-one UnknownTag UnknownTag e = refl
fault-one UnknownTag CutShort e = absurd (omega arith)
fault-one UnknownTag OutOfPlace e = absurd (omega arith)
fault-one CutShort UnknownTag e = absurd (omega arith)
fault-one CutShort CutShort e = refl
fault-one CutShort OutOfPlace e = absurd (omega arith)
fault-one OutOfPlace UnknownTag e = absurd (omega arith)
fault-one OutOfPlace CutShort e = absurd (omega arith)
fault-one OutOfPlace OutOfPlace e = refl

pub fault-range : (f : Fault) → (50 ≤ fault_number f) × (fault_number f ≤ 52)
unfolding fault_number
fault-range UnknownTag = (omega arith, omega arith)
fault-range CutShort = (omega arith, omega arith)
fault-range OutOfPlace = (omega arith, omega arith)

-- what reading answers where the list is not at fault is told as what writing answers
abbrev told : Result ℕ WriteError → Result ℕ MakeError
told (Ok n) = Ok n
told (Err OutputShort) = Err made.Short
told (Err (Refused r)) = Err (made.Refused r)

pub made_one : (a b : Result ℕ MakeError) → made_as_paper a ≡ made_as_paper b → a ≡ b
unfolding made_as_paper wrote_as_paper
made_one (Err (made.Unread f)) (Err (made.Unread g)) e = ap (λ (x : Fault). Err (made.Unread x)) (fault-one f g (ap (λ (a : Answer). a.number) e))
made_one (Err (made.Unread f)) (Ok n) e = absurd (let z : fault_number f ≡ 0 = ap (λ (a : Answer). a.number) e in omega (arith, (fault-range f).0))
made_one (Err (made.Unread f)) (Err made.Short) e = absurd (let z : fault_number f ≡ 53 = ap (λ (a : Answer). a.number) e in omega (arith, (fault-range f).1))
made_one (Err (made.Unread f)) (Err (made.Refused r)) e = absurd (let z : fault_number f ≡ 54 = ap (λ (a : Answer). a.number) e in omega (arith, (fault-range f).1))
made_one (Ok n) (Err (made.Unread g)) e = absurd (let z : 0 ≡ fault_number g = ap (λ (a : Answer). a.number) e in omega (arith, (fault-range g).0))
made_one (Err made.Short) (Err (made.Unread g)) e = absurd (let z : 53 ≡ fault_number g = ap (λ (a : Answer). a.number) e in omega (arith, (fault-range g).1))
made_one (Err (made.Refused r)) (Err (made.Unread g)) e = absurd (let z : 54 ≡ fault_number g = ap (λ (a : Answer). a.number) e in omega (arith, (fault-range g).1))
made_one (Ok n) (Ok m) e = ap told (wrote_one (Ok n) (Ok m) e)
made_one (Ok n) (Err made.Short) e = ap told (wrote_one (Ok n) (Err OutputShort) e)
made_one (Ok n) (Err (made.Refused q)) e = ap told (wrote_one (Ok n) (Err (Refused q)) e)
made_one (Err made.Short) (Ok m) e = ap told (wrote_one (Err OutputShort) (Ok m) e)
made_one (Err made.Short) (Err made.Short) e = refl
made_one (Err made.Short) (Err (made.Refused q)) e = ap told (wrote_one (Err OutputShort) (Err (Refused q)) e)
made_one (Err (made.Refused r)) (Ok m) e = ap told (wrote_one (Err (Refused r)) (Ok m) e)
made_one (Err (made.Refused r)) (Err made.Short) e = ap told (wrote_one (Err (Refused r)) (Err OutputShort) e)
made_one (Err (made.Refused r)) (Err (made.Refused q)) e = ap told (wrote_one (Err (Refused r)) (Err (Refused q)) e)
