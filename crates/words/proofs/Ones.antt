-- Any two results that the contract of `rest_from` allows are the same.
-- Assumes nothing.
use Prim.Native.Nat.{ℕ}
use mathlib.Core.Path.{◌≡◌, sym, ◌∙◌}
use mathlib.Core.List.{List}
use denote.Ref.{Bor}
use Rattle.words.specs.Rest.{RestOf}

-- the same bytes at the same place
pub rest-one : {r r' s : Bor (List ℕ)} {at : ℕ} → RestOf r s at → RestOf r' s at → (r.now ≡ r'.now) × (r.ref_ptr ≡ r'.ref_ptr)
rest-one h k = (h.bytes ∙ sym k.bytes, h.place ∙ sym k.place)
