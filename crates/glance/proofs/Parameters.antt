-- Laws of a prototype's parameters, by the states of their types.
-- Assumes nothing.
use Prim.Native.Nat.{ℕ, zero, suc, ◌*◌}
use native.Mathlib.Omega.{arith}
use mathlib.Core.Path.{◌≡◌, refl, sym, ap, ◌∙◌}
use mathlib.Core.Bool.{Bool, true, false, not, cond, false≢true}
use mathlib.Core.List.{List, [], ◌∷◌}
use borrow.Author.Tests.{eq-eqb, ne_eqb}
use lib.Dec.{eqb}
use lib.ListN.{length}
use Rattle.glance.proofs.Lists.{every-imp}
use Rattle.glance.specs.Glance.{unsized, named, behind, parameter_seen}
use Rattle.paper.proofs.basics.Choices.{and_left, and_right, and-true}
use Rattle.paper.specs.rules.Choice.{every, times}
use Rattle.paper.specs.rules.Kind.{Role, names, refers, offset0_or_identifier, void_or_plain}
use Rattle.paper.specs.rules.References.{ref_ok, ref_word_ok}
use Rattle.paper.specs.rules.Table.{Table, every_roled}
use Rattle.paper.specs.rules.Tails.{Parameter, parameters_in}

abbrev pub parameter_roles : List Role
parameter_roles = names offset0_or_identifier ∷ refers void_or_plain ∷ []

-- what is behind a word is seen, or it is not
seen-some : {x : ℕ} → not (eqb x 0) ≡ true → x ≡ 0 → ⊥
seen-some {x} h e = false≢true (sym (ap not (eq-eqb x 0 e)) ∙ h)

pub some-seen : {x : ℕ} → (x ≡ 0 → ⊥) → not (eqb x 0) ≡ true
some-seen {x} n = ap not (ne_eqb x 0 n)

-- the state of a prototype is one of two
pub proto-cases : {C : Type 0} (b : Bool) {s : ℕ} → s ≡ cond b named unsized → (s ≡ named → C) → (s ≡ unsized → C) → C
proto-cases true e f g = f e
proto-cases false e f g = g e

-- ── where more types are told ──

pub parameters-later : (work work' : List ℕ) → ((u : ℕ) → (behind work u ≡ 0 → ⊥) → behind work' u ≡ 0 → ⊥) → (ps : List Parameter)
    → every (parameter_seen work) ps ≡ true → every (parameter_seen work') ps ≡ true
parameters-later work work' still = every-imp (parameter_seen work) (parameter_seen work') (λ p one. some-seen (still p.type (seen-some one)))

-- ── in a table ──

-- their references are good, where what is behind them is void or plain
pub parameters-refer : (T : Table) (work : List ℕ) → ((w : ℕ) → (behind work w ≡ 0 → ⊥) → ref_ok T void_or_plain w ≡ true) → (v : ℕ) (ws : List ℕ)
    → length ws ≡ v * 2 → every (parameter_seen work) (parameters_in ws) ≡ true → every_roled (ref_word_ok T) (times v parameter_roles) ws ≡ true
parameters-refer T work known zero ws e h = refl
parameters-refer T work known (suc v) [] e h = refl
parameters-refer T work known (suc v) (n ∷ []) e h = refl
parameters-refer T work known (suc v) (n ∷ t ∷ ws) e h =
    let seen = not (eqb (behind work t) 0) in
    and-true (known t (seen-some (and_left seen (every (parameter_seen work) (parameters_in ws)) h)))
    (parameters-refer T work known v ws (omega arith) (and_right seen (every (parameter_seen work) (parameters_in ws)) h))
