-- Laws of what an index shows, as code asks it.
-- Assumes nothing.
use Prim.Native.Nat.{ℕ, ◌≤◌, ◌<◌}
use mathlib.Core.Path.{◌≡◌, sym, ap, ◌∙◌}
use mathlib.Core.Bool.{Bool, true, false, not, cond, ◌&&◌}
use mathlib.Core.List.{List}
use borrow.Author.Tests.{eq-eqb, ne_eqb, lt-ltb, le-ltb}
use lib.Dec.{ltb}
use lib.ListN.{length, get_or, get_or-eq_default}
use Rattle.members.specs.Looked.{places_in, placeless}

module _ (index : List ℕ) where
  pub places-few : length index < 4294967296 → length index ≡ places_in index
  places-few h = sym (ap (λ (b : Bool). cond b (length index) 4294967295) (lt-ltb (length index) 4294967296 h))

  pub places-many : 4294967296 ≤ length index → 4294967295 ≡ places_in index
  places-many h = sym (ap (λ (b : Bool). cond b (length index) 4294967295) (le-ltb (length index) 4294967296 h))

  module _ {t : ℕ} where
    pub placeless-void : t ≡ 0 → false ≡ placeless index t
    placeless-void e = sym (ap (λ (b : Bool). not b && ltb (get_or index t 0) 24) (eq-eqb t 0 e))

    module _ (some : t ≡ 0 → ⊥) where
      pub placeless-there : ltb (get_or index t 0) 24 ≡ placeless index t
      placeless-there = sym (ap (λ (b : Bool). not b && ltb (get_or index t 0) 24) (ne_eqb t 0 some))

      pub placeless-past : length index ≤ t → true ≡ placeless index t
      placeless-past h = sym (ap (λ (p : ℕ). ltb p 24) (get_or-eq_default index 0 h)) ∙ placeless-there
