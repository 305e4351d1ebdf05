-- Names by two string sections: where the first ends in a zero byte, or is empty, they are the names of both in one.
-- Assumes nothing.
use Prim.Native.Nat.{ℕ, ◌+◌, ◌-◌}
use mathlib.Core.Path.{◌≡◌, refl, sym}
use mathlib.Core.Bool.{Bool, true, false, cond, ◌&&◌}
use mathlib.Core.List.{List, ◌++◌}
use borrow.Author.Tests.{ltb-true, ltb-false}
use lib.Dec.{ltb}
use lib.ListN.{length, get_or, length-append}
use Rattle.paper.proofs.renaming.Names.{name_in-ended, name_in-past}
use Rattle.paper.specs.rules.Kind.{NameRule, Role, names, refers, holds, number}
use Rattle.pairs.specs.Lean.{name_over, name_ok_over, name_word_over, names_over}
use Rattle.paper.specs.rules.Name.{name_in}
use Rattle.paper.specs.rules.Names.{name_fits, name_ok, name_word_ok, names_ok}
use Rattle.paper.specs.rules.Table.{Record, every_word}

module _ (before strings : List ℕ) (last : get_or before (length before - 1) 0 ≡ 0) where
  pub name_over-one : (off : ℕ) → name_over before strings off ≡ name_in (before ++ strings) off
  unfolding name_over
  name_over-one off = go (ltb off (length before)) refl
    where
      go : (z : Bool) → ltb off (length before) ≡ z
          → cond z (name_in before off) (name_in strings (off - length before)) ≡ name_in (before ++ strings) off
      go true e = sym (name_in-ended before strings last off (ltb-true off (length before) e))
      go false e = sym (name_in-past before strings off (ltb-false off (length before) e))

  name-one : (rule : NameRule) (off : ℕ) → name_ok_over before strings rule off ≡ name_ok (before ++ strings) rule off
  unfolding name_ok_over name_ok
  name-one rule off =
      let both = sym (length-append before strings) in
      λ i. ltb off (both i) && name_fits rule off (name_over-one off i)

  word-one : (ρ : Role) (w : ℕ) → name_word_over before strings ρ w ≡ name_word_ok (before ++ strings) ρ w
  word-one (names rule) w = name-one rule w
  word-one (refers rule) w = refl
  word-one (holds rule) w = refl
  word-one number w = refl

  -- report 11 is that of one section
  pub names_over-one : (r : Record) → names_over before strings r ≡ names_ok (before ++ strings) r
  unfolding names_over names_ok
  names_over-one r = λ i. every_word (λ (ρ : Role) (w : ℕ). word-one ρ w i) r
