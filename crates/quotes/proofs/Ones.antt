-- Any two results that the contracts of `name_text`, `cut_text` and `file_text` allow are the same.
-- Assumes nothing.
use Prim.Native.Nat.{ℕ}
use mathlib.Core.Path.{◌≡◌, sym, ◌∙◌}
use mathlib.Core.Bool.{Bool}
use mathlib.Core.List.{List}
use Rattle.quotes.specs.Quote.{TextIn}

-- the same count, and the same output
pub text-one : {bare : Bool} {s before after after' : List ℕ} {r r' : ℕ} → TextIn bare s before r after → TextIn bare s before r' after'
    → (r ≡ r') × (after ≡ after')
text-one h k = (h.count ∙ sym k.count, h.bytes ∙ sym k.bytes)
