-- Order 8 of the code: what it means that `check_ext` has answered, in the person's words. Each from its contract alone.
-- Assumes nothing.
use Rattle.std.specs.Prelude.{Ok, Result}
use Rattle.exts.specs.declared.ExtError.{ExtError}
use Prim.Native.Nat.{ℕ}
use mathlib.Core.Path.{◌≡◌, refl, sym, ap, ◌∙◌}
use mathlib.Core.Bool.{true}
use mathlib.Core.List.{List}
use mathlib.Core.Option.{Option, none, some}
use native.Mathlib.Omega.{arith}
use Rattle.ext.specs.Extends.{ExtOf}
use Rattle.exts.proofs.Accepting.{accepted-extends, extends-accepted}
use Rattle.exts.proofs.Handing.{extends-record, extends-whole}
use Rattle.exts.proofs.Numbers.{ext_refusal-number}
use Rattle.exts.proofs.Ones.{extended-one}
use Rattle.exts.specs.Entries.{is_whole, record_asked}
use Rattle.exts.specs.Ext.{extend, extended_as_paper, ext_outcome, ext_refusal}
use Rattle.exts.specs.Facts.{EntrySound, Extends}
use Rattle.exts.specs.Items.{Entry}
use Rattle.paper.specs.rules.Answer.{Answer, value}
use Rattle.paper.specs.rules.Gate.{gate}
use Rattle.paper.specs.rules.Walk.{table_of}

module _ {r : Result (Unit {0}) ExtError} {b s : List ℕ} {places work : ℕ} {index left : List ℕ} (h : ExtOf r b s places work index left) where
  -- both slices end as the check of the table leaves them, whatever is answered
  pub ext-slices : (index ≡ (gate b places work).index) × (left ≡ (gate b places work).work)
  unfolding extend
  ext-slices = (h.indexes ∙ at-index (ext_refusal b s places work), h.works ∙ at-work (ext_refusal b s places work))
    where
      at-index : (o : Option Answer) → (ext_outcome (gate b places work) o).index ≡ (gate b places work).index
      at-index none = refl
      at-index (some a) = refl

      at-work : (o : Option Answer) → (ext_outcome (gate b places work) o).work ≡ (gate b places work).work
      at-work none = refl
      at-work (some a) = refl

  -- accepted exactly where none of 40 to 48 holds
  pub ext-accepted : r ≡ (Ok (record {})) → Extends b s places work
  unfolding extend extended_as_paper
  ext-accepted is = accepted-extends b s places work (go (ext_refusal b s places work) refl)
    where
      go : (o : Option Answer) → ext_refusal b s places work ≡ o → o ≡ none
      go none e = refl
      go (some a) e =
          absurd
          (let z : value 0 ≡ a = sym (ap extended_as_paper is) ∙ h.answers ∙ ap (λ (x : Option Answer). (ext_outcome (gate b places work) x).answer) e in
          let n : ◌≡◌ {A = ℕ} 0 a.number = ap (λ (y : Answer). y.number) z in
          omega (arith, (ext_refusal-number b s places work e).0))

  pub ext-extends : Extends b s places work → r ≡ (Ok (record {}))
  unfolding extend extended_as_paper
  ext-extends x =
      extended-one r (Ok (record {}))
      (h.answers ∙ ap (λ (o : Option Answer). (ext_outcome (gate b places work) o).answer) (extends-accepted b s places work x))

  -- an accepted section hands out its records, and each points at names and types of the table
  pub ext-records : r ≡ (Ok (record {})) → (is_whole s ≡ true) × ((part y : ℕ) (e : Entry) → record_asked s part y ≡ some e → EntrySound (table_of b) e)
  ext-records is = let x = ext-accepted is in (extends-whole x, λ part y e p. extends-record x part y p)

-- any two results that the contract allows are the same, slice by slice
pub ext-one : {r r' : Result (Unit {0}) ExtError} {b s : List ℕ} {places work : ℕ} {index index' left left' : List ℕ} → ExtOf r b s places work index left
    → ExtOf r' b s places work index' left' → (r ≡ r') × (index ≡ index') × (left ≡ left')
ext-one {r} {r'} h k = (extended-one r r' (h.answers ∙ sym k.answers), h.indexes ∙ sym k.indexes, h.works ∙ sym k.works)
