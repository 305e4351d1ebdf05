-- What a record holds by value, by its kind.
-- Assumes nothing.
use Prim.Native.Nat.{ℕ, zero, suc, ◌+◌, ◌*◌}
use native.Mathlib.Omega.{arith}
use mathlib.Core.Path.{◌≡◌, refl, sym, ap, subst, ◌∙◌}
use mathlib.Core.Bool.{Bool, true, false, cond, false≢true}
use mathlib.Core.List.Memᴰ
use mathlib.Core.List.{List, [], ◌∷◌, ◌++◌, Memᴰ}
use mathlib.Core.Logic.{⊎_elim}
use borrow.Author.Tests.{eqb-false}
use lib.Dec.{eqb}
use lib.ListN.{length, get_or}
use Rattle.glance.specs.Glance.{enum_kinds, element_type_of}
use Rattle.paper.proofs.basics.Choices.{or-false, false-or, member-each}
use Rattle.paper.proofs.basics.Rows.{is_held}
use Rattle.paper.specs.rules.Chain.{step_to, held_word, held_in}
use Rattle.paper.specs.rules.Choice.{any, member, times}
use Rattle.paper.specs.rules.Kind.{Role, RefRule, names, refers, holds, number, offset0_or_identifier, plain, an_int, row_of, rows}
use Rattle.paper.specs.rules.KindNo.{INT, PTR, ARRAY, STRUCT, UNION, FWD, FUNC, FUNC_PROTO, VAR, DATASEC, FLOAT}
use Rattle.paper.specs.rules.Span.{is_alias, aliases}
use Rattle.paper.specs.rules.Table.{Record, kind_of, vlen_of, tail_length, tail_roles, roles_of, words_of}

-- ── lists ──

module _ {A : Type 0} (f : A → Bool) where
  any_append : (xs ys : List A) → any f xs ≡ false → any f ys ≡ false → any f (xs ++ ys) ≡ false
  any_append [] ys p q = q
  any_append (x ∷ xs) ys p q = let h = or-false (f x) (any f xs) p in false-or h.0 (any_append xs ys h.1 q)

  any-times : (n : ℕ) (xs : List A) → any f xs ≡ false → any f (times n xs) ≡ false
  any-times zero xs p = refl
  any-times (suc n) xs p = any_append xs (times n xs) p (any-times n xs p)

-- the one type that a step goes to
pub step_to-one : (w u : ℕ) → Memᴰ u (step_to w []) → (u ≡ w) × (w ≡ 0 → ⊥)
step_to-one w u m = go (eqb w 0) refl m
  where
    go : (z : Bool) → eqb w 0 ≡ z → Memᴰ u (cond z [] (w ∷ [])) → (u ≡ w) × (w ≡ 0 → ⊥)
    go true x m = absurd (Memᴰ.not-nil m)
    go false x m = ⊎_elim (λ (p : u ≡ w). (p, eqb-false w 0 x)) (λ n. absurd (Memᴰ.not-nil n)) (Memᴰ.cases_cons m)

-- ── what a record holds, by its kind ──

unheld-word : (ρ : Role) (w : ℕ) (us : List ℕ) → is_held ρ ≡ false → held_word ρ w us ≡ us
unheld-word (names rule) w us e = refl
unheld-word (refers rule) w us e = refl
unheld-word (holds rule) w us e = absurd (false≢true (sym e))
unheld-word number w us e = refl

unheld : (ρs : List Role) (ws : List ℕ) → any is_held ρs ≡ false → held_in ρs ws ≡ []
unheld [] ws e = refl
unheld (ρ ∷ ρs) [] e = refl
unheld (ρ ∷ ρs) (w ∷ ws) e =
    let h = or-false (is_held ρ) (any is_held ρs) e in
    unheld-word ρ w (held_in ρs ws) h.0 ∙ unheld ρs ws h.1

abbrev pub roles_for : ℕ → ℕ → List Role
roles_for k v = names (row_of k).name ∷ number ∷ (row_of k).third_role ∷ ((row_of k).once ++ times v (row_of k).each)

abbrev pub member_roles : List Role
member_roles = names offset0_or_identifier ∷ holds plain ∷ number ∷ []

abbrev pub held_of : Record → List ℕ
held_of r = held_in (roles_of r) (words_of r)

abbrev pub unheld_kinds : List ℕ
unheld_kinds = INT ∷ PTR ∷ FWD ∷ FUNC ∷ FUNC_PROTO ∷ DATASEC ∷ FLOAT ∷ enum_kinds

-- no word of such a kind holds a type
abbrev HoldsNone : ℕ → Type 0
HoldsNone k = (any is_held ((row_of k).third_role ∷ (row_of k).once) ≡ false) × (any is_held (row_of k).each ≡ false)

pub holds-none : (r : Record) → member (kind_of r) unheld_kinds ≡ true → held_of r ≡ []
unfolding tail_roles row_of rows
holds-none r e =
    let k = kind_of r in
    let v = vlen_of r in
    let none : (false ≡ false) × (false ≡ false) = (refl, refl) in
    let each = member-each HoldsNone k unheld_kinds e (none, (none, (none, (none, (none, (none, (none, (none, (none, tt))))))))) in
    unheld (roles_for k v) (words_of r)
    (any_append is_held ((row_of k).third_role ∷ (row_of k).once) (times v (row_of k).each) each.0 (any-times is_held v (row_of k).each each.1))

pub holds-third : (r : Record) → is_alias (kind_of r) ≡ true → held_of r ≡ step_to r.third []
unfolding tail_roles row_of rows
holds-third r e =
    let v = vlen_of r in
    let one = ap (step_to r.third) (unheld (times v []) r.tail (any-times is_held v [] refl)) in
    member-each (λ (k : ℕ). held_in (roles_for k v) (words_of r) ≡ step_to r.third []) (kind_of r) aliases e (one, (one, (one, (one, (one, tt)))))

pub holds-members : (r : Record) → member (kind_of r) (STRUCT ∷ UNION ∷ []) ≡ true → held_of r ≡ held_in (times (vlen_of r) member_roles) r.tail
unfolding tail_roles row_of rows
holds-members r e =
    member-each (λ (k : ℕ). held_in (roles_for k (vlen_of r)) (words_of r) ≡ held_in (times (vlen_of r) member_roles) r.tail) (kind_of r) (STRUCT ∷ UNION ∷ []) e
    (refl, (refl, tt))

-- where the first word alone is held, that is the type
held_first : (rule : RefRule) (ρs : List Role) (ws : List ℕ) (u : ℕ) → any is_held ρs ≡ false → Memᴰ u (held_in (holds rule ∷ ρs) ws) → u ≡ get_or ws 0 0
held_first rule ρs [] u e m = absurd (Memᴰ.not-nil m)
held_first rule ρs (w ∷ ws) u e m = (step_to-one w u (subst (λ (us : List ℕ). Memᴰ u (step_to w us)) (unheld ρs ws e) m)).0

pub holds-element : (r : Record) (u : ℕ) → kind_of r ≡ ARRAY → Memᴰ u (held_of r) → u ≡ element_type_of r
unfolding tail_roles row_of rows
holds-element r u e m =
    let v = vlen_of r in
    held_first plain (refers an_int ∷ number ∷ times v []) r.tail u (any-times is_held v [] refl)
    (subst (Memᴰ u) (ap (λ (k : ℕ). held_in (roles_for k v) (words_of r)) e) m)

pub holds-variable : (r : Record) (u : ℕ) → kind_of r ≡ VAR → Memᴰ u (held_of r) → u ≡ r.third
unfolding tail_roles row_of rows
holds-variable r u e m =
    let v = vlen_of r in
    held_first plain (number ∷ times v []) (r.third ∷ r.tail) u (any-times is_held v [] refl)
    (subst (Memᴰ u) (ap (λ (k : ℕ). held_in (roles_for k v) (words_of r)) e) m)

pub group-tail : (r : Record) → member (kind_of r) (STRUCT ∷ UNION ∷ []) ≡ true → tail_length r.info ≡ vlen_of r * 3
unfolding tail_length row_of rows
group-tail r e =
    let v = vlen_of r in
    member-each (λ (k : ℕ). length (row_of k).once + v * length (row_of k).each ≡ v * 3) (kind_of r) (STRUCT ∷ UNION ∷ []) e
    (omega arith, (omega arith, tt))

pub section-tail : (r : Record) → kind_of r ≡ DATASEC → tail_length r.info ≡ vlen_of r * 3
unfolding tail_length row_of rows
section-tail r e =
    let v = vlen_of r in
    let three : 0 + v * 3 ≡ v * 3 = omega arith in
    ap (λ (k : ℕ). length (row_of k).once + v * length (row_of k).each) e ∙ three

pub proto-tail : (r : Record) → kind_of r ≡ FUNC_PROTO → tail_length r.info ≡ vlen_of r * 2
unfolding tail_length row_of rows
proto-tail r e =
    let v = vlen_of r in
    let two : 0 + v * 2 ≡ v * 2 = omega arith in
    ap (λ (k : ℕ). length (row_of k).once + v * length (row_of k).each) e ∙ two
