-- Any two results that the contracts of `line` and `first_of` allow are the same.
-- Assumes nothing.
use Prim.Native.Nat.{ℕ}
use mathlib.Core.Path.{◌≡◌, sym, ◌∙◌}
use mathlib.Core.List.{List}
use denote.Ref.{Bor}
use Rattle.texts.specs.First.{FirstOf}
use Rattle.texts.specs.Line.{LineOf}

-- the same bytes at the same place
pub line-one : {r r' s : Bor (List ℕ)} {k : ℕ} → LineOf r s k → LineOf r' s k → (r.now ≡ r'.now) × (r.ref_ptr ≡ r'.ref_ptr)
line-one h k = (h.bytes ∙ sym k.bytes, h.place ∙ sym k.place)

pub first_one : {r r' s : Bor (List ℕ)} {n : ℕ} → FirstOf r s n → FirstOf r' s n → (r.now ≡ r'.now) × (r.ref_ptr ≡ r'.ref_ptr)
first_one h k = (h.bytes ∙ sym k.bytes, h.place ∙ sym k.place)
