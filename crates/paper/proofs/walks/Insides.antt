-- In a table of which nothing is said every word points inside it, and so does every chain: demand 2 and report 14.
-- Assumes nothing.
use Prim.Native.Nat.{ℕ, zero, suc, ◌≤◌, ◌<◌}
use mathlib.Core.Path.{◌≡◌, refl, sym, ap, ◌∙◌, subst}
use mathlib.Core.Bool.{Bool, true, false, cond, ◌&&◌, false≢true}
use mathlib.Core.List.Memᴰ
use mathlib.Core.List.{List, [], ◌∷◌, Memᴰ}
use mathlib.Core.Logic.{◌⊎◌, inl, inr, ⊎_elim}
use native.Mathlib.Omega.{arith}
use native.Mathlib.Nat.{le_of_suc-le-suc}
use borrow.Author.Tests.{eqb-true, eqb-false, leb-true, leb-false, le-leb, lt-ltb}
use lib.Dec.{eqb, leb, ltb}
use lib.ListN.{length, get_or-eq_default}
use Rattle.paper.proofs.basics.Choices.{and_left, and_right, and-true, or_cases}
use Rattle.paper.proofs.basics.Rows.{is_reference, each-reference, link-third}
use Rattle.paper.proofs.walks.Chains.{ends_held, ends-pointed, pointed_by-none, pointed_by-cases, third-word}
use Rattle.paper.proofs.walks.Endless.{chain-walks, walks-chain}
use Rattle.paper.proofs.renaming.Renaming.{inside, Inside}
use Rattle.paper.specs.rules.Chain.{step_to, held_word, held_in, held_by, is_link, pointed_by, walks, Chain, endless}
use Rattle.paper.specs.terms.Good.{Sound}
use Rattle.paper.specs.rules.Kind.{RefRule, void_or_plain, plain, an_int, a_proto, a_var, taggable, Role, names, refers, holds, number, row_of, rows}
use Rattle.paper.specs.rules.Names.{name_ok, name_word_ok, names_ok}
use Rattle.paper.specs.rules.References.{is_plain, may_be_void, may_be_kind, ref_ok, ref_word_ok, refs_ok}
use Rattle.paper.specs.rules.Table.{Record, Table, count, nothing, record_at, kind_of, kind_at, row_in, tail_roles, roles_of, words_of, every_roled}

pub record_at-outside : (T : Table) (t : ℕ) → count T < t → record_at T t ≡ nothing
record_at-outside T zero h = absurd (omega arith)
record_at-outside T (suc t) h = get_or-eq_default T.records nothing (le_of_suc-le-suc h)

-- ── a word that passes 11 and 13 points inside ──

no_kind : (rule : RefRule) → may_be_kind rule 0 ≡ false
unfolding is_plain
no_kind void_or_plain = refl
no_kind plain = refl
no_kind an_int = refl
no_kind a_proto = refl
no_kind a_var = refl
no_kind taggable = refl

ref_ok-inside : (T : Table) (rule : RefRule) (t : ℕ) → ref_ok T rule t ≡ true → leb t (count T) ≡ true
unfolding ref_ok
ref_ok-inside T rule t e =
    or_cases (may_be_void rule && eqb t 0) (may_be_kind rule (kind_at T t)) e
    (λ p. let z = eqb-true t 0 (and_right (may_be_void rule) (eqb t 0) p) in le-leb t (count T) (omega arith))
    (λ q. go (leb t (count T)) refl q)
  where
    go : (b : Bool) → leb t (count T) ≡ b → may_be_kind rule (kind_at T t) ≡ true → b ≡ true
    go true x q = refl
    go false x q =
        absurd (false≢true (sym (no_kind rule) ∙ ap (λ (r : Record). may_be_kind rule (kind_of r)) (sym (record_at-outside T t (leb-false t (count T) x))) ∙ q))

inside-word : (T : Table) (ρ : Role) (w : ℕ) → name_word_ok T.strings ρ w ≡ true → ref_word_ok T ρ w ≡ true → inside T ρ w ≡ true
unfolding name_ok
inside-word T (names rule) w p q = and_left (ltb w (length T.strings)) _ p
inside-word T (refers rule) w p q = ref_ok-inside T rule w q
inside-word T (holds rule) w p q = ref_ok-inside T rule w q
inside-word T number w p q = refl

inside-words : (T : Table) (ρs : List Role) (ws : List ℕ) → every_roled (name_word_ok T.strings) ρs ws ≡ true
    → every_roled (ref_word_ok T) ρs ws ≡ true → every_roled (inside T) ρs ws ≡ true
inside-words T [] ws p q = refl
inside-words T (ρ ∷ ρs) [] p q = refl
inside-words T (ρ ∷ ρs) (w ∷ ws) p q =
    and-true (inside-word T ρ w (and_left (name_word_ok T.strings ρ w) _ p) (and_left (ref_word_ok T ρ w) _ q))
    (inside-words T ρs ws (and_right (name_word_ok T.strings ρ w) _ p) (and_right (ref_word_ok T ρ w) _ q))

-- two of the rules that hold at every type of a sound table, for the laws that ask for no more
module _ {T : Table} (s : Sound T) where
  pub sound-refs : (t : ℕ) → 1 ≤ t → t ≤ count T → refs_ok T (record_at T t) ≡ true
  sound-refs t low high = (s t low high).refs

  pub sound-ends : (t : ℕ) → 1 ≤ t → t ≤ count T → endless T t ≡ false
  sound-ends t low high = (s t low high).ends

module _ {T : Table} (s : Sound T) (some_strings : 1 ≤ length T.strings) where
  pub sound-inside : (t : ℕ) → t ≤ count T → Inside T (record_at T t)
  unfolding names_ok refs_ok tail_roles row_of rows
  sound-inside zero h = ap (λ (b : Bool). b && true) (lt-ltb _ _ some_strings)
  sound-inside (suc t) h =
      inside-words T (roles_of (record_at T (suc t))) (words_of (record_at T (suc t)))
      (s (suc t) (omega arith) h).names (s (suc t) (omega arith) h).refs

-- ── what is held is a type of the table, where 13 passes ──

abbrev IsType : Table → ℕ → Type 0
IsType T u = (1 ≤ u) × (u ≤ count T)

step_to-inside : (T : Table) (w : ℕ) (us : List ℕ) (u : ℕ) → w ≤ count T → (Memᴰ u us → IsType T u) → Memᴰ u (step_to w us) → IsType T u
step_to-inside T w us u le h m = go (eqb w 0) refl m
  where
    go : (z : Bool) → eqb w 0 ≡ z → Memᴰ u (cond z us (w ∷ us)) → IsType T u
    go true x m = h m
    go false x m =
        let ne = eqb-false w 0 x in
        ⊎_elim (λ (p : u ≡ w). (omega arith, omega arith)) h (Memᴰ.cases_cons m)

held_word-inside : (T : Table) (ρ : Role) (w : ℕ) (us : List ℕ) (u : ℕ) → ref_word_ok T ρ w ≡ true → (Memᴰ u us → IsType T u)
    → Memᴰ u (held_word ρ w us) → IsType T u
held_word-inside T (names rule) w us u e h m = h m
held_word-inside T (refers rule) w us u e h m = h m
held_word-inside T number w us u e h m = h m
held_word-inside T (holds rule) w us u e h m = step_to-inside T w us u (leb-true w (count T) (ref_ok-inside T rule w e)) h m

held_in-inside : (T : Table) (u : ℕ) (ρs : List Role) (ws : List ℕ) → every_roled (ref_word_ok T) ρs ws ≡ true → Memᴰ u (held_in ρs ws) → IsType T u
held_in-inside T u [] ws e m = absurd (Memᴰ.not-nil m)
held_in-inside T u (ρ ∷ ρs) [] e m = absurd (Memᴰ.not-nil m)
held_in-inside T u (ρ ∷ ρs) (w ∷ ws) e m =
    held_word-inside T ρ w (held_in ρs ws) u (and_left (ref_word_ok T ρ w) (every_roled (ref_word_ok T) ρs ws) e)
    (held_in-inside T u ρs ws (and_right (ref_word_ok T ρ w) (every_roled (ref_word_ok T) ρs ws) e)) m

held_by-types : (T : Table) (t u : ℕ) → refs_ok T (record_at T t) ≡ true → Memᴰ u (held_by T t) → IsType T u
unfolding refs_ok held_by
held_by-types T t u e m = let r = record_at T t in held_in-inside T u (roles_of r) (words_of r) e m

-- ── and what a step of the second sort leads to ──

reference-type : (T : Table) (ρ : Role) (w : ℕ) → is_reference ρ ≡ true → ref_word_ok T ρ w ≡ true → w ≤ count T
reference-type T ρ w =
    each-reference (λ (ρ : Role). ref_word_ok T ρ w ≡ true → w ≤ count T)
    (λ rule e. leb-true _ _ (ref_ok-inside T rule w e)) (λ rule e. leb-true _ _ (ref_ok-inside T rule w e)) ρ

link-type : (T : Table) (r : Record) → refs_ok T r ≡ true → is_link (kind_of r) ≡ true → r.third ≤ count T
unfolding refs_ok
link-type T r ok e = reference-type T (row_in r).third_role r.third (link-third (kind_of r) e) (third-word (ref_word_ok T) r ok)

pointed_by-types : (T : Table) (t u : ℕ) → refs_ok T (record_at T t) ≡ true → Memᴰ u (pointed_by T t) → IsType T u
pointed_by-types T t u ok =
    pointed_by-cases T t (λ (us : List ℕ). Memᴰ u us → IsType T u)
    (λ e m. step_to-inside T (record_at T t).third [] u (link-type T (record_at T t) ok e) (λ n. absurd (Memᴰ.not-nil n)) m)
    (λ e m. absurd (Memᴰ.not-nil m))

-- ── void, and what is above the count, leads nowhere ──

held_by-outside : (T : Table) (t : ℕ) → record_at T t ≡ nothing → held_by T t ≡ []
unfolding held_by tail_roles row_of rows
held_by-outside T t e = ap (λ (r : Record). held_in (roles_of r) (words_of r)) e

pointed_by-outside : (T : Table) (t : ℕ) → record_at T t ≡ nothing → pointed_by T t ≡ []
pointed_by-outside T t e = pointed_by-none T t (ap (λ (r : Record). is_link (kind_of r)) e)

module _ (T : Table) (refs : (t : ℕ) → 1 ≤ t → t ≤ count T → refs_ok T (record_at T t) ≡ true) where
  -- ── of any sort of step that leads nowhere from outside, and to a type of the table where 13 passes ──

  module _ (step : ℕ → List ℕ) (outside : (t : ℕ) → record_at T t ≡ nothing → step t ≡ [])
      (types : (t u : ℕ) → refs_ok T (record_at T t) ≡ true → Memᴰ u (step t) → IsType T u) where
    step-inside : (t u : ℕ) → Memᴰ u (step t) → (1 ≤ t) × (t ≤ count T) × IsType T u
    step-inside zero u m = absurd (Memᴰ.not-nil (subst (Memᴰ u) (outside 0 refl) m))
    step-inside (suc t) u m = go (leb (suc t) (count T)) refl
      where
        go : (b : Bool) → leb (suc t) (count T) ≡ b → (1 ≤ suc t) × (suc t ≤ count T) × IsType T u
        go true x =
            let high = leb-true (suc t) (count T) x in
            (omega arith, high, types (suc t) u (refs (suc t) (omega arith) high) m)
        go false x =
            absurd (Memᴰ.not-nil (subst (Memᴰ u) (outside (suc t) (record_at-outside T (suc t) (leb-false (suc t) (count T) x))) m))

    no-chain-of : ((t : ℕ) → 1 ≤ t → t ≤ count T → walks step (count T) t ≡ false) → (t : ℕ) → Chain step t → ⊥
    no-chain-of ends t c =
        let h = step-inside (c.at 0) (c.at 1) (c.goes_on 0) in
        let e = c.starts in
        false≢true (sym (ends t (omega arith) (omega arith)) ∙ chain-walks c (count T))

    chain-of : (t : ℕ) → 1 ≤ t → t ≤ count T → walks step (count T) t ≡ true → Chain step t
    chain-of = walks-chain step (count T) (λ t u m. (step-inside t u m).2)

  pub held-inside : (t u : ℕ) → Memᴰ u (held_by T t) → (1 ≤ t) × (t ≤ count T) × IsType T u
  held-inside = step-inside (held_by T) (held_by-outside T) (held_by-types T)

  pub pointed-inside : (t u : ℕ) → Memᴰ u (pointed_by T t) → (1 ≤ t) × (t ≤ count T) × IsType T u
  pointed-inside = step-inside (pointed_by T) (pointed_by-outside T) (pointed_by-types T)

  -- ── demand 2: no chain of either sort can be followed for ever, and 14 is given only where one can be ──

  pub no-chain : ((t : ℕ) → 1 ≤ t → t ≤ count T → endless T t ≡ false) → (t : ℕ) → Chain (held_by T) t ⊎ Chain (pointed_by T) t → ⊥
  no-chain ends t =
      ⊎_elim (no-chain-of (held_by T) (held_by-outside T) (held_by-types T) (λ t low high. ends_held T t (ends t low high)) t)
      (no-chain-of (pointed_by T) (pointed_by-outside T) (pointed_by-types T) (λ t low high. ends-pointed T t (ends t low high)) t)

  pub chain-at : (t : ℕ) → 1 ≤ t → t ≤ count T → endless T t ≡ true → Chain (held_by T) t ⊎ Chain (pointed_by T) t
  unfolding endless
  chain-at t low high e =
      or_cases (walks (held_by T) (count T) t) (walks (pointed_by T) (count T) t) e
      (λ p. inl (chain-of (held_by T) (held_by-outside T) (held_by-types T) t low high p))
      (λ q. inr (chain-of (pointed_by T) (pointed_by-outside T) (pointed_by-types T) t low high q))
