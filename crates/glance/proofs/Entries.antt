-- Laws of a section's entries, by the states of their variables.
-- Assumes nothing.
use Prim.Native.Nat.{ℕ, zero, suc, ◌*◌, ◌/◌, ◌%◌}
use native.Mathlib.Omega.{arith}
use mathlib.Core.Path.{◌≡◌, refl, ap, ◌∙◌}
use mathlib.Core.Bool.{true}
use mathlib.Core.List.{List, [], ◌∷◌}
use mathlib.Core.Option.{some}
use borrow.Author.Tests.{eqb-true}
use lib.Dec.{eqb, leb}
use lib.ListN.{length}
use Rattle.glance.proofs.Lists.{every-imp}
use Rattle.glance.proofs.Opens.{stored-told}
use Rattle.glance.specs.Glance.{stored, Open, state_of, covers, entry_fits}
use Rattle.paper.proofs.basics.Choices.{and_left, and_right, and-true}
use Rattle.paper.specs.rules.Choice.{every, times}
use Rattle.paper.specs.rules.Kind.{Role, refers, number, a_var}
use Rattle.paper.specs.rules.References.{ref_ok, ref_word_ok}
use Rattle.paper.specs.rules.Section.{Entry, entries_in, covers_size, entry_covers}
use Rattle.paper.specs.rules.Size.{exact_size}
use Rattle.paper.specs.rules.Table.{Table, every_roled}

abbrev pub entry_roles : List Role
entry_roles = refers a_var ∷ number ∷ number ∷ []

-- a state that an entry covers is a variable's
covers-stored : (s size : ℕ) → covers s size ≡ true → s % 16 ≡ stored
covers-stored s size h = eqb-true (s % 16) stored (and_left (eqb (s % 16) stored) (leb (s / 16) size) h)

-- ── where more types are told ──

pub entries-later : (work work' : List ℕ) → ((u : ℕ) → (Open (state_of work u) → ⊥) → state_of work' u ≡ state_of work u) → (es : List Entry)
    → every (entry_fits work) es ≡ true → every (entry_fits work') es ≡ true
entries-later work work' same =
    every-imp (entry_fits work) (entry_fits work')
    (λ e one. let s = state_of work e.variable in
    ap (λ (s : ℕ). covers s e.size) (same e.variable (stored-told s (covers-stored s e.size one))) ∙ one)

-- ── in a table ──

module _ (T : Table) (work : List ℕ) where
  -- their references are good, where a variable's state is that of a VAR
  pub entries-refer : ((u : ℕ) → state_of work u % 16 ≡ stored → ref_ok T a_var u ≡ true) → (v : ℕ) (ws : List ℕ) → length ws ≡ v * 3
      → every (entry_fits work) (entries_in ws) ≡ true → every_roled (ref_word_ok T) (times v entry_roles) ws ≡ true
  entries-refer known zero ws e h = refl
  entries-refer known (suc v) [] e h = refl
  entries-refer known (suc v) (t ∷ []) e h = absurd (omega arith)
  entries-refer known (suc v) (t ∷ o ∷ []) e h = absurd (omega arith)
  entries-refer known (suc v) (t ∷ o ∷ z ∷ ws) e h =
      let s = state_of work t in
      let first = and_left (covers s z) (every (entry_fits work) (entries_in ws)) h in
      and-true (known t (covers-stored s z first)) (entries-refer known v ws (omega arith) (and_right (covers s z) (every (entry_fits work) (entries_in ws)) h))

  -- and they cover, where its size is the variable's
  pub entries-cover : ((u : ℕ) → state_of work u % 16 ≡ stored → exact_size T u ≡ some (state_of work u / 16)) → (es : List Entry)
      → every (entry_fits work) es ≡ true → every (entry_covers T) es ≡ true
  unfolding entry_covers
  entries-cover size =
      every-imp (entry_fits work) (entry_covers T)
      (λ e one. let s = state_of work e.variable in
      ap (covers_size e.size) (size e.variable (covers-stored s e.size one)) ∙ and_right (eqb (s % 16) stored) (leb (s / 16) e.size) one)
