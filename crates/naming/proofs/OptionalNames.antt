-- Laws of an offset that lies in one of two sections, and of a name that may be missing.
-- Assumes nothing.
use Prim.Native.Nat.{ℕ, ◌+◌, ◌-◌, ◌<◌, ◌≤◌}
use mathlib.Core.Path.{◌≡◌, refl, sym, ap, ◌∙◌}
use mathlib.Core.Bool.{Bool, true, false}
use mathlib.Core.List.{List}
use native.Mathlib.Omega.{arith}
use borrow.Author.Tests.{lt-ltb, le-ltb, ltb-true, ltb-false, ne_eqb}
use lib.Dec.{ltb}
use lib.ListN.{length}
use Rattle.paper.proofs.basics.Choices.{and-nothing}
use Rattle.paper.specs.rules.Kind.{names, offset0_or_identifier}
use Rattle.paper.specs.rules.Name.{is_identifier, name_in}
use Rattle.pairs.specs.Lean.{name_ok_over, name_word_over}
use Rattle.naming.proofs.NameRoles.{word-inside, word-outside}
use Rattle.naming.specs.Sections.{section_of, place_in}

-- ── an offset that lies in one of two sections ──

module _ (base strings : List ℕ) (off : ℕ) where
  pub inside-first : off < length base → true ≡ ltb off (length base + length strings)
  inside-first h = sym (lt-ltb off (length base + length strings) (omega arith))

  pub inside-second : length base ≤ off → ltb (off - length base) (length strings) ≡ ltb off (length base + length strings)
  inside-second h = go (ltb (off - length base) (length strings)) refl
    where
      go : (t : Bool) → ltb (off - length base) (length strings) ≡ t → t ≡ ltb off (length base + length strings)
      go true e = let below = ltb-true (off - length base) (length strings) e in sym (lt-ltb off (length base + length strings) (omega arith))
      go false e = let past = ltb-false (off - length base) (length strings) e in sym (le-ltb off (length base + length strings) (omega arith))

-- ── a name that may be missing ──

module _ (base strings : List ℕ) (w : ℕ) where
  pub optional-none : w ≡ 0 → {r : Bool} → r ≡ ltb 0 (length base + length strings) → r ≡ name_word_over base strings (names offset0_or_identifier) w
  unfolding name_ok_over
  optional-none e d =
      d
      ∙ sym (and-nothing (ltb 0 (length base + length strings)))
      ∙ ap (name_word_over base strings (names offset0_or_identifier)) (sym e)

  module _ {s : List ℕ} {from : ℕ} (is : s ≡ section_of base strings w) (at : from ≡ place_in base w) where
    pub optional-past : length s ≤ from → false ≡ name_word_over base strings (names offset0_or_identifier) w
    optional-past h = word-outside base strings 3 w refl refl is at h

    pub optional-named : (w ≡ 0 → ⊥) → from < length s → {r : Bool} → r ≡ is_identifier (name_in s from)
        → r ≡ name_word_over base strings (names offset0_or_identifier) w
    optional-named n h d = word-inside base strings 3 w refl refl is at h (rw (ne_eqb w 0 n) d)
