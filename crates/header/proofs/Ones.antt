-- Any two results that the contracts of `read`, `part` and `name` allow are the same, by itself and behind a base.
-- Assumes nothing.
use Rattle.std.specs.Prelude.{Err, Ok, Result}
use Rattle.paper.specs.declared.Report.{Report}
use Rattle.header.specs.declared.first.Sections.{Sections}
use Prim.Native.Nat.{ℕ}
use mathlib.Core.Path.{◌≡◌, sym, ap, ◌∙◌}
use mathlib.Core.List.{List}
use denote.Ref.{Bor}
use Rattle.header.specs.Behind.{HeaderBehind, PartBehind, NamePartBehind}
use Rattle.header.specs.Header.{HeaderOf}
use Rattle.header.specs.Part.{PartOf, NamePart}
use Rattle.paper.proofs.basics.Answers.{report-one}
use Rattle.paper.proofs.gates.Gates.{some≢none, some_one}
use Rattle.paper.specs.declared.Part.{Part}
use Rattle.paper.specs.rules.Gate.{naming}

-- both lengths, or the report
pub header-one : (r r' : Result Sections Report) (b : List ℕ) → HeaderOf r b → HeaderOf r' b → r ≡ r'
header-one (Ok s) (Ok t) b h k = ap Ok (λ i. record { types = (h.types ∙ sym k.types) i; strings = (h.strings ∙ sym k.strings) i })
header-one (Ok s) (Err r) b h k = absurd (some≢none (sym k ∙ h.silent))
header-one (Err r) (Ok s) b h k = absurd (some≢none (sym h ∙ k.silent))
header-one (Err r) (Err q) b h k = ap Err (report-one r q (some_one (sym h ∙ k)))

-- both numbers
pub part-one : {p p' : Part} {b : List ℕ} {off : ℕ} → PartOf p b off → PartOf p' b off → p ≡ p'
part-one h k = λ i. record { start = record { 0 = (h.starts ∙ sym k.starts) i }; length = (h.long ∙ sym k.long) i }

-- the same bytes at the same place
pub name-one : {r r' b : Bor (List ℕ)} {off : ℕ} → NamePart r b off → NamePart r' b off → (r.now ≡ r'.now) × (r.ref_ptr ≡ r'.ref_ptr)
name-one h k = (h.bytes ∙ sym k.bytes, h.place ∙ sym k.place)

-- ── behind a base ──

pub header-behind-one : (r r' : Result Sections Report) (before : ℕ) (b : List ℕ) → HeaderBehind r before b → HeaderBehind r' before b → r ≡ r'
header-behind-one (Ok s) (Ok t) before b h k =
    ap Ok (λ i. record { types = (h.types ∙ sym k.types) i; strings = (h.strings ∙ sym k.strings) i })
header-behind-one (Ok s) (Err r) before b h k = absurd (some≢none (sym k ∙ ap (naming 0) h.silent))
header-behind-one (Err r) (Ok s) before b h k = absurd (some≢none (sym h ∙ ap (naming 0) k.silent))
header-behind-one (Err r) (Err q) before b h k = ap Err (report-one r q (some_one (sym h ∙ k)))

pub part-behind-one : {p p' : Part} {before : ℕ} {b : List ℕ} {off : ℕ} → PartBehind p before b off → PartBehind p' before b off → p ≡ p'
part-behind-one h k = λ i. record { start = record { 0 = (h.starts ∙ sym k.starts) i }; length = (h.long ∙ sym k.long) i }

pub name-behind-one : {r r' b : Bor (List ℕ)} {before off : ℕ} → NamePartBehind r before b off → NamePartBehind r' before b off
    → (r.now ≡ r'.now) × (r.ref_ptr ≡ r'.ref_ptr)
name-behind-one h k = (h.bytes ∙ sym k.bytes, h.place ∙ sym k.place)
