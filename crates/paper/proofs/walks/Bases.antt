-- Laws of bases: an alias holds what it stands for, more steps than are needed do not matter, and a base is no alias.
-- Assumes nothing.
use Prim.Native.Nat.{ℕ, zero, suc, ◌+◌, ◌≤◌}
use mathlib.Core.Path.{◌≡◌, refl, sym, ap, ◌∙◌}
use mathlib.Core.Bool.{Bool, true, false, cond, false≢true}
use mathlib.Core.List.{Memᴰ}
use native.Mathlib.Nat.{zero-add, suc-add}
use native.Mathlib.Omega.{arith}
use borrow.Author.Tests.{eqb-true, eqb-false}
use lib.Dec.{eqb}
use Rattle.paper.proofs.walks.Chains.{walks-longer, ends_held}
use Rattle.paper.proofs.basics.Choices.{member-each}
use Rattle.paper.proofs.walks.Endless.{any-holds}
use Rattle.paper.proofs.basics.Rows.{is_held}
use Rattle.paper.proofs.walks.Sizes.{held_in-get_d}
use Rattle.paper.specs.rules.Chain.{held_by, walks, endless}
use Rattle.paper.specs.rules.Kind.{holds, void_or_plain, rows, row_of}
use Rattle.paper.specs.rules.Span.{aliases, is_alias, base_from, base_of}
use Rattle.paper.specs.rules.Table.{Table, count, record_at, kind_at, kind_of, tail_roles, roles_of, words_of}

-- ── an alias holds what it stands for ──

pub alias-held : (k : ℕ) → is_alias k ≡ true → (row_of k).third_role ≡ holds void_or_plain
unfolding row_of rows
alias-held k e =
    member-each (λ (k : ℕ). (row_of k).third_role ≡ holds void_or_plain) k aliases e
    (refl, (refl, (refl, (refl, (refl, tt)))))

pub third-held : (T : Table) (t : ℕ) → is_alias (kind_at T t) ≡ true → ((record_at T t).third ≡ 0 → ⊥) → Memᴰ (record_at T t).third (held_by T t)
unfolding held_by tail_roles
third-held T t e ne =
    let r = record_at T t in
    held_in-get_d 2 (roles_of r) (words_of r) (ap is_held (alias-held (kind_of r) e)) ne

-- ── more steps than are needed ──

pub base_from-void : (T : Table) (k : ℕ) → base_from T k 0 ≡ 0
base_from-void T zero = refl
base_from-void T (suc k) = refl

base_from-suc : (T : Table) (k t : ℕ) → walks (held_by T) k t ≡ false → base_from T (suc k) t ≡ base_from T k t
base_from-suc T zero t e = absurd (false≢true (sym e))
base_from-suc T (suc k) t e = go (is_alias (kind_at T t)) refl (eqb u 0) refl (base_from-suc T k u)
  where
    u : ℕ
    u = (record_at T t).third

    not_on : is_alias (kind_at T t) ≡ true → (u ≡ 0 → ⊥) → (b : Bool) → walks (held_by T) k u ≡ b → b ≡ false
    not_on a ne true x = absurd (false≢true (sym e ∙ any-holds (walks (held_by T) k) u (third-held T t a ne) x))
    not_on a ne false x = refl

    go : (a : Bool) → is_alias (kind_at T t) ≡ a → (z : Bool) → eqb u 0 ≡ z → (walks (held_by T) k u ≡ false → base_from T (suc k) u ≡ base_from T k u)
        → cond a (base_from T (suc k) u) t ≡ cond a (base_from T k u) t
    go false p z q on = refl
    go true p true q on =
        ap (base_from T (suc k)) (eqb-true u 0 q) ∙ sym (base_from-void T k) ∙ ap (base_from T k) (sym (eqb-true u 0 q))
    go true p false q on = on (not_on p (eqb-false u 0 q) (walks (held_by T) k u) refl)

pub base_from-add : (T : Table) (d k t : ℕ) → walks (held_by T) k t ≡ false → base_from T (d + k) t ≡ base_from T k t
base_from-add T zero k t e = rw zero-add refl
base_from-add T (suc d) k t e = rw suc-add (base_from-suc T (d + k) t (walks-longer (held_by T) {m = k} {k = d + k} t (omega arith) e) ∙ base_from-add T d k t e)

-- ── a base is no alias ──

-- where an alias stands after so many steps, there is a by-value walk of as many
alias-walks : (T : Table) (k t : ℕ) → is_alias (kind_at T (base_from T k t)) ≡ true → walks (held_by T) k t ≡ true
alias-walks T zero t e = refl
alias-walks T (suc k) t e = go (is_alias (kind_at T t)) refl e (eqb u 0) refl (alias-walks T k u)
  where
    u : ℕ
    u = (record_at T t).third

    go : (a : Bool) → is_alias (kind_at T t) ≡ a → is_alias (kind_at T (cond a (base_from T k u) t)) ≡ true
        → (z : Bool) → eqb u 0 ≡ z → (is_alias (kind_at T (base_from T k u)) ≡ true → walks (held_by T) k u ≡ true)
        → walks (held_by T) (suc k) t ≡ true
    go false p q z x on = absurd (false≢true (sym p ∙ q))
    go true p q true x on =
        absurd (false≢true (ap (λ (v : ℕ). is_alias (kind_at T v)) (sym (ap (base_from T k) (eqb-true u 0 x) ∙ base_from-void T k)) ∙ q))
    go true p q false x on = any-holds (walks (held_by T) k) u (third-held T t p (eqb-false u 0 x)) (on q)

-- so in a table whose chains end the base of a type is none
pub base-no-alias : (T : Table) → ((t : ℕ) → 1 ≤ t → t ≤ count T → endless T t ≡ false) → (t : ℕ) → t ≤ count T → is_alias (kind_of (base_of T t)) ≡ false
unfolding base_of
base-no-alias T ends zero h = ap (λ (v : ℕ). is_alias (kind_at T v)) (base_from-void T (count T))
base-no-alias T ends (suc t) h = go (is_alias (kind_at T (base_from T (count T) (suc t)))) refl
  where
    go : (a : Bool) → is_alias (kind_at T (base_from T (count T) (suc t))) ≡ a → a ≡ false
    go true x = absurd (false≢true (sym (ends_held T (suc t) (ends (suc t) (omega arith) h)) ∙ alias-walks T (count T) (suc t) x))
    go false x = refl
