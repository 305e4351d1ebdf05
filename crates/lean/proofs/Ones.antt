-- Any two results that the contracts of the size and name questions over a base allow are the same.
-- Assumes nothing.
use Rattle.std.specs.Prelude.{None, Option as RustOption, Some}
use Rattle.lean.specs.declared.questions.Lying.TheVariants.{InBase, InOwn}
use Rattle.lean.specs.declared.questions.Lying.{Lying}
use Prim.Native.Nat.{ℕ}
use mathlib.Core.Path.{◌≡◌, refl, sym, ap, ◌∙◌}
use mathlib.Core.Bool.{Bool, true, false, false≢true}
use mathlib.Core.List.{List}
use denote.Ref.{Bor}
use Rattle.lean.specs.Asked.{PartOver, LyingOf, NameLeaning}
use Rattle.pairs.specs.Lean.{size_over}
use Rattle.paper.proofs.basics.Answers.{sized-one}
use Rattle.paper.specs.declared.Part.{Part}
use Rattle.paper.specs.declared.Sized.{Sized}
use Rattle.paper.specs.rules.Answer.{sized_as_paper}

pub size-leaning-one : (r r' : Sized) (base : List ℕ) (before : ℕ) (own index : List ℕ) (t : ℕ)
    → sized_as_paper r ≡ size_over base before own index t → sized_as_paper r' ≡ size_over base before own index t → r ≡ r'
size-leaning-one r r' base before own index t h k = sized-one r r' (h ∙ sym k)

part-one : {p p' : Part} {base own : List ℕ} {off : ℕ} → PartOver p base own off → PartOver p' base own off → p ≡ p'
part-one h k = λ i. record { start = record { 0 = (h.starts ∙ sym k.starts) i }; length = (h.long ∙ sym k.long) i }

-- no test is both
both : {C : Type 0} {t : Bool} → t ≡ false → t ≡ true → C
both e f = absurd (false≢true (sym e ∙ f))

-- the blob and both numbers, or that there is none
pub part-leaning-one : (r r' : RustOption Lying) (base own : List ℕ) (off : ℕ) → LyingOf r base own off → LyingOf r' base own off → r ≡ r'
part-leaning-one (Some (InBase p)) (Some (InBase q)) base own off h k = ap (λ (p : Part). Some (InBase p)) (part-one h.2 k.2)
part-leaning-one (Some (InBase p)) (Some (InOwn q)) base own off h k = both k.1 h.1
part-leaning-one (Some (InBase p)) None base own off h k = both h.0 k
part-leaning-one (Some (InOwn p)) (Some (InBase q)) base own off h k = both h.1 k.1
part-leaning-one (Some (InOwn p)) (Some (InOwn q)) base own off h k = ap (λ (p : Part). Some (InOwn p)) (part-one h.2 k.2)
part-leaning-one (Some (InOwn p)) None base own off h k = both h.0 k
part-leaning-one None (Some (InBase q)) base own off h k = both k.0 h
part-leaning-one None (Some (InOwn q)) base own off h k = both k.0 h
part-leaning-one None None base own off h k = refl

-- the same bytes at the same place of the same blob
pub name-leaning-one : {r r' base own : Bor (List ℕ)} {off : ℕ} → NameLeaning r base own off → NameLeaning r' base own off
    → (r.now ≡ r'.now) × (r.ref_ptr ≡ r'.ref_ptr)
name-leaning-one h k = (h.bytes ∙ sym k.bytes, h.place ∙ sym k.place)
