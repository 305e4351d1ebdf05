-- Laws of one word by the code of its role: which side of the cut it points to.
-- Assumes nothing.
use Prim.Native.Nat.{ℕ, zero, suc, ◌+◌, ◌-◌, ◌<◌}
use mathlib.Core.Path.{◌≡◌, refl, sym, ap, ◌∙◌}
use mathlib.Core.Bool.{Bool, true, false, not, cond, ◌||◌}
use mathlib.Core.List.{List, [], ◌∷◌}
use mathlib.Core.Logic.{◌⊎◌, inl, inr, ⊎_elim}
use native.Mathlib.Omega.{arith}
use borrow.Author.Tests.{leb-true, leb-false, ltb-true, ltb-false, le-leb, lt-leb, lt-ltb, le-ltb}
use lib.Dec.{eqb, leb, ltb}
use lib.ListN.{get_or-eq_default}
use Rattle.cuts.specs.Sides.{keeps_to, sided}
use Rattle.cuts.specs.declared.records.Cut.{Cut}
use Rattle.kindrows.specs.Codes.{role_of, is_name_code, is_ref_code}
use Rattle.paper.specs.rules.Kind.{NameRule, offset0, any_name, offset0_or_identifier, identifier, non_empty, section_name}
use Rattle.paper.specs.rules.Kind.{RefRule, void_or_plain, plain, an_int, a_proto, a_var, taggable, Role, names, refers, holds, number}
use Rattle.parts.specs.Cut.{points}
use Rattle.rows.proofs.RoleCodes.{between_in, between-out}

-- ── which role a code stands for ──

names_at : (k : ℕ) → k < 6 → (rule : NameRule) × (role_of (suc k) ≡ names rule)
names_at zero h = (offset0, refl)
names_at (suc zero) h = (any_name, refl)
names_at (suc (suc zero)) h = (offset0_or_identifier, refl)
names_at (suc (suc (suc zero))) h = (identifier, refl)
names_at (suc (suc (suc (suc zero)))) h = (non_empty, refl)
names_at (suc (suc (suc (suc (suc zero))))) h = (section_name, refl)
names_at (suc (suc (suc (suc (suc (suc k)))))) h = absurd (omega arith)

refs-at : (k : ℕ) → k < 12 → ((rule : RefRule) × (role_of (7 + k) ≡ refers rule)) ⊎ ((rule : RefRule) × (role_of (7 + k) ≡ holds rule))
refs-at zero h = inl (void_or_plain, refl)
refs-at (suc zero) h = inl (plain, refl)
refs-at (suc (suc zero)) h = inl (an_int, refl)
refs-at (suc (suc (suc zero))) h = inl (a_proto, refl)
refs-at (suc (suc (suc (suc zero)))) h = inl (a_var, refl)
refs-at (suc (suc (suc (suc (suc zero))))) h = inl (taggable, refl)
refs-at (suc (suc (suc (suc (suc (suc zero)))))) h = inr (void_or_plain, refl)
refs-at (suc (suc (suc (suc (suc (suc (suc zero))))))) h = inr (plain, refl)
refs-at (suc (suc (suc (suc (suc (suc (suc (suc zero)))))))) h = inr (an_int, refl)
refs-at (suc (suc (suc (suc (suc (suc (suc (suc (suc zero))))))))) h = inr (a_proto, refl)
refs-at (suc (suc (suc (suc (suc (suc (suc (suc (suc (suc zero)))))))))) h = inr (a_var, refl)
refs-at (suc (suc (suc (suc (suc (suc (suc (suc (suc (suc (suc zero))))))))))) h = inr (taggable, refl)
refs-at (suc (suc (suc (suc (suc (suc (suc (suc (suc (suc (suc (suc k)))))))))))) h = absurd (omega arith)

past-codes : (k : ℕ) → role_of (19 + k) ≡ number
past-codes k = get_or-eq_default codes number {n = 19 + k} (omega arith)
  where
    codes : List Role
    codes =
        number
        ∷ names offset0 ∷ names any_name ∷ names offset0_or_identifier ∷ names identifier ∷ names non_empty ∷ names section_name
        ∷ refers void_or_plain ∷ refers plain ∷ refers an_int ∷ refers a_proto ∷ refers a_var ∷ refers taggable
        ∷ holds void_or_plain ∷ holds plain ∷ holds an_int ∷ holds a_proto ∷ holds a_var ∷ holds taggable
        ∷ []

role-number : (role : ℕ) → (role < 1) ⊎ (6 < role) → (role < 7) ⊎ (18 < role) → role_of role ≡ number
role-number role (inl h) k = let z : role ≡ 0 = omega arith in ap role_of z
role-number role (inr h) (inl k) = absurd (omega arith)
role-number role (inr h) (inr k) = let at : role ≡ 19 + (role - 19) = omega arith in ap role_of at ∙ past-codes (role - 19)

-- ── a number below the cut or not ──

not-ltb : (w s : ℕ) → leb s w ≡ not (ltb w s)
not-ltb w s = go (ltb w s) refl
  where
    go : (z : Bool) → ltb w s ≡ z → leb s w ≡ not z
    go true e = let h = ltb-true w s e in lt-leb s w h
    go false e = le-leb s w (ltb-false w s e)

not-leb : (w n : ℕ) → ltb n w ≡ not (leb w n)
not-leb w n = go (leb w n) refl
  where
    go : (z : Bool) → leb w n ≡ z → ltb n w ≡ not z
    go true e = le-ltb n w (leb-true w n e)
    go false e = lt-ltb n w (leb-false w n e)

or-true : (z : Bool) → true ≡ (z || true)
or-true true = refl
or-true false = refl

or_nothing : (z : Bool) → z ≡ (z || false)
or_nothing true = refl
or_nothing false = refl

sided-says : (behind low : Bool) {high : Bool} (w : ℕ) → high ≡ not low → sided behind low w ≡ cond behind (eqb w 0 || high) low
sided-says true true w e = or_nothing (eqb w 0) ∙ ap (λ (h : Bool). eqb w 0 || h) (sym e)
sided-says true false w e = or-true (eqb w 0) ∙ ap (λ (h : Bool). eqb w 0 || h) (sym e)
sided-says false true w e = refl
sided-says false false w e = refl

-- below the cut, of a record behind it, 0 alone keeps to its side
pub sided-zero : (behind below : Bool) (w : ℕ) → below ≡ true → not behind ≡ false → eqb w 0 ≡ sided behind below w
sided-zero behind below w e n = sym (ap (λ (x : Bool). cond x (not behind || eqb w 0) behind) e ∙ ap (λ (y : Bool). y || eqb w 0) n)

-- ── a word by its role's code ──

module _ (n s : ℕ) (behind : Bool) (role w : ℕ) where
  pub points-name : {z : Bool} → z ≡ is_name_code role → z ≡ true → {r : Bool} → r ≡ sided behind (ltb w s) w → r ≡ points n s behind (role_of role) w
  points-name {z} asked is e =
      let range = between_in 1 6 role (sym asked ∙ is) in
      let at : suc (role - 1) ≡ role = omega (arith, range) in
      let named = names_at (role - 1) (omega (arith, range)) in
      e ∙ sided-says behind (ltb w s) w (not-ltb w s) ∙ ap (λ (ρ : Role). points n s behind ρ w) (sym named.1 ∙ ap role_of at)

  pub points-ref : {z : Bool} → z ≡ is_ref_code role → z ≡ true → {r : Bool} → r ≡ sided behind (leb w n) w → r ≡ points n s behind (role_of role) w
  points-ref {z} asked is e =
      let range = between_in 7 18 role (sym asked ∙ is) in
      let at : 7 + (role - 7) ≡ role = omega (arith, range) in
      e ∙ sided-says behind (leb w n) w (not-leb w n)
      ∙ ⊎_elim (λ (x : (rule : RefRule) × (role_of (7 + (role - 7)) ≡ refers rule)). ap (λ (ρ : Role). points n s behind ρ w) (sym x.1))
      (λ (x : (rule : RefRule) × (role_of (7 + (role - 7)) ≡ holds rule)). ap (λ (ρ : Role). points n s behind ρ w) (sym x.1))
      (refs-at (role - 7) (omega (arith, range)))
      ∙ ap (λ (k : ℕ). points n s behind (role_of k) w) at

  points-number : (b : Bool) → true ≡ points n s b number w
  points-number true = refl
  points-number false = refl

  pub points-other : {y z : Bool} → y ≡ is_name_code role → y ≡ false → z ≡ is_ref_code role → z ≡ false → true ≡ points n s behind (role_of role) w
  points-other name no_name ref no_ref =
      points-number behind
      ∙ ap (λ (ρ : Role). points n s behind ρ w)
      (sym (role-number role (between-out 1 6 role (sym name ∙ no_name)) (between-out 7 18 role (sym ref ∙ no_ref))))

-- nothing is asked of a plain number
pub number-passes : (cut : Cut) (w : ℕ) → true ≡ keeps_to cut number w
number-passes cut w = points-number cut.types.0 cut.strings.0 cut.behind 0 w cut.behind
