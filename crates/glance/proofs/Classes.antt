-- What the class of a state tells of the kind of its type.
-- Assumes nothing.
use Prim.Native.Nat.{ℕ, ◌+◌, ◌*◌, ◌/◌, ◌%◌, ◌<◌}
use native.Mathlib.Omega.{arith}
use mathlib.Core.Path.{◌≡◌, refl, sym, ap, subst, ◌∙◌}
use mathlib.Core.Bool.{Bool, true, false, cond, false≢true}
use mathlib.Core.List.{List, [], ◌∷◌}
use borrow.Author.Tests.{eqb-true, eqb-false, leb-true, leb-false}
use lib.Dec.{eqb, leb}
use Rattle.glance.specs.Glance.{whole, integer, unsized, integer_alias, is_integer, named, enumerated, is_bytes, stored, is_sized, is_open, state_of}
use Rattle.glance.specs.Glance.{through, enum_kinds, waiting_kinds}
use Rattle.glance.specs.Glance.{Looks, alias, pointer, int, float, enumeration, group, fields, array, variable, section, forward, prototype}
use Rattle.glance.specs.Glance.{function, awaits}
use Rattle.glance.proofs.Opens.{sized-told}
use Rattle.glance.proofs.Parameters.{proto-cases}
use Rattle.paper.proofs.basics.Choices.{and-true, or_cases, member-each}
use Rattle.paper.specs.rules.KindNo.{INT, STRUCT, UNION, FUNC_PROTO, VAR}
use Rattle.paper.specs.rules.Layout.{all_named}
use Rattle.paper.specs.rules.References.{is_plain}
use Rattle.paper.specs.rules.Span.{aliases, is_regular}
use Rattle.paper.specs.rules.Table.{Record, kind_of}
use Rattle.paper.specs.rules.Tails.{parameters_of}

-- ── seen through an alias ──

-- what is seen is plain, and no INT or FUNC_PROTO itself
pub record Seen (s : ℕ) : Type 0 where
  pub plain : s % 16 < stored
  pub indirect : s % 16 ≡ integer → ⊥
  pub nameless : s ≡ named → ⊥

through-seen : (s : ℕ) → Seen (through s)
through-seen s = go (eqb (s % 16) integer) refl (leb stored (s % 16)) refl (eqb (s % 16) named) refl
  where
    go : (a : Bool) → eqb (s % 16) integer ≡ a → (b : Bool) → leb stored (s % 16) ≡ b → (c : Bool) → eqb (s % 16) named ≡ c
        → Seen (cond a (s + 3) (cond b 0 (cond c unsized s)))
    go true p b q c m =
        let i = eqb-true (s % 16) integer p in record { plain = omega arith; indirect = λ h. omega arith; nameless = λ h. omega arith }
    go false p true q c m = record { plain = omega arith; indirect = λ h. omega arith; nameless = λ h. omega arith }
    go false p false q true m = record { plain = omega arith; indirect = λ h. omega arith; nameless = λ h. omega arith }
    go false p false q false m =
        let l = leb-false stored (s % 16) q in
        record { plain = l; indirect = eqb-false (s % 16) integer p; nameless = λ h. eqb-false (s % 16) named m (ap (λ (s : ℕ). s % 16) h) }

alias-seen : (work : List ℕ) (u : ℕ) {s : ℕ} → s ≡ cond (eqb u 0) unsized (through (state_of work u)) → Seen s
alias-seen work u e = subst Seen (sym e) (go (eqb u 0))
  where
    go : (z : Bool) → Seen (cond z unsized (through (state_of work u)))
    go true = record { plain = omega arith; indirect = λ h. omega arith; nameless = λ h. omega arith }
    go false = through-seen (state_of work u)

-- a type whose class is a plain one's is seen
low-seen : (s : ℕ) → s % 16 < stored → (s ≡ 0 → ⊥) → through s ≡ 0 → ⊥
low-seen s low some z = go (eqb (s % 16) integer) (leb stored (s % 16)) refl (eqb (s % 16) named) z
  where
    go : (a b : Bool) → leb stored (s % 16) ≡ b → (c : Bool) → cond a (s + 3) (cond b 0 (cond c unsized s)) ≡ 0 → ⊥
    go true b q c z = omega arith
    go false true q c z = let h = leb-true stored (s % 16) q in omega arith
    go false false q true z = omega arith
    go false false q false z = some z

-- and so is one that has a size
pub sized-plain : (s : ℕ) → is_sized (s % 16) ≡ true → through s ≡ 0 → ⊥
sized-plain s sized = low-seen s low (λ z. sized-told s sized (ap is_open z))
  where
    low : s % 16 < stored
    low =
        or_cases (is_integer (s % 16)) (is_bytes (s % 16)) sized
        (λ i. or_cases (eqb (s % 16) integer) (eqb (s % 16) integer_alias) i
        (λ p. let c = eqb-true (s % 16) integer p in omega arith)
        (λ p. let c = eqb-true (s % 16) integer_alias p in omega arith))
        (λ b. or_cases (eqb (s % 16) whole) (eqb (s % 16) enumerated) b
        (λ p. let c = eqb-true (s % 16) whole p in omega arith)
        (λ p. let c = eqb-true (s % 16) enumerated p in omega arith))

-- a VAR is not
stored-unseen : (z : ℕ) → through (16 * z + stored) ≡ 0
stored-unseen z = go (eqb ((16 * z + stored) % 16) integer) refl (leb stored ((16 * z + stored) % 16)) refl
  where
    go : (a : Bool) → eqb ((16 * z + stored) % 16) integer ≡ a → (b : Bool) → leb stored ((16 * z + stored) % 16) ≡ b
        → cond a (16 * z + stored + 3) (cond b 0 (cond (eqb ((16 * z + stored) % 16) named) unsized (16 * z + stored))) ≡ 0
    go true p b q = let i = eqb-true ((16 * z + stored) % 16) integer p in absurd (omega arith)
    go false p true q = refl
    go false p false q = let l = leb-false stored ((16 * z + stored) % 16) q in absurd (omega arith)

-- ── what a state tells of a kind ──

-- one that can be seen through an alias is of a plain kind
pub looks-plain : {work : List ℕ} {r : Record} {s : ℕ} → Looks work r s → (through s ≡ 0 → ⊥) → is_plain (kind_of r) ≡ true
unfolding is_plain
looks-plain {r = r} (alias a e) seen = member-each (λ (k : ℕ). is_plain k ≡ true) (kind_of r) aliases a (refl, (refl, (refl, (refl, (refl, tt)))))
looks-plain (pointer k b e) seen = ap is_plain k
looks-plain (int k o w h e) seen = ap is_plain k
looks-plain (float k h e) seen = ap is_plain k
looks-plain {r = r} (enumeration k h e) seen = member-each (λ (k : ℕ). is_plain k ≡ true) (kind_of r) enum_kinds k (refl, (refl, tt))
looks-plain {r = r} (group k f h o small e) seen = member-each (λ (k : ℕ). is_plain k ≡ true) (kind_of r) (STRUCT ∷ UNION ∷ []) k (refl, (refl, tt))
looks-plain {r = r} (fields k f h o small e) seen = member-each (λ (k : ℕ). is_plain k ≡ true) (kind_of r) (STRUCT ∷ UNION ∷ []) k (refl, (refl, tt))
looks-plain (array k sized index small e) seen = ap is_plain k
looks-plain (forward k e) seen = ap is_plain k
looks-plain {r = r} (awaits k e) seen =
    member-each (λ (k : ℕ). is_plain k ≡ true) (kind_of r) waiting_kinds k (refl, (refl, (refl, (refl, tt))))
looks-plain (prototype k b h e) seen = ap is_plain k
looks-plain (function k h e) seen = absurd (seen (ap through e))
looks-plain (section k fit e) seen = absurd (seen (ap through e))
looks-plain {work} {r} (variable k sized e) seen = absurd (seen (ap through e ∙ stored-unseen (state_of work r.third / 16)))

-- and one of a plain kind can be
plain-low : {work : List ℕ} {r : Record} {s : ℕ} → Looks work r s → is_plain (kind_of r) ≡ true → s % 16 < stored
unfolding is_plain
plain-low {work} {r} (alias a e) p = (alias-seen work r.third e).plain
plain-low (pointer k b e) p = omega arith
plain-low (int k o w z e) p = omega arith
plain-low (float k z e) p = omega arith
plain-low (enumeration k z e) p = omega arith
plain-low (group k f m o small e) p = omega arith
plain-low (fields k f m o small e) p = omega arith
plain-low (array k sized index small e) p = omega arith
plain-low (variable k sized e) p = absurd (false≢true (sym (ap is_plain k) ∙ p))
plain-low (section k fit e) p = absurd (false≢true (sym (ap is_plain k) ∙ p))
plain-low (forward k e) p = omega arith
plain-low {r = r} (prototype k b h e) p = proto-cases (all_named (parameters_of r)) e (λ q. omega arith) (λ q. omega arith)
plain-low (function k h e) p = absurd (false≢true (sym (ap is_plain k) ∙ p))
plain-low (awaits k e) p = omega arith

pub plain-seen : {work : List ℕ} {r : Record} {s : ℕ} → Looks work r s → (s ≡ 0 → ⊥) → is_plain (kind_of r) ≡ true → through s ≡ 0 → ⊥
plain-seen {s = s} looks some p = low-seen s (plain-low looks p) some

-- the class of an INT is its alone
pub looks-integer : {work : List ℕ} {r : Record} {s : ℕ} → Looks work r s → s % 16 ≡ integer → is_regular r ≡ true
unfolding is_regular
looks-integer {work} {r} (alias a e) h = absurd ((alias-seen work r.third e).indirect h)
looks-integer (pointer k b e) h = absurd (omega arith)
looks-integer (int k o w z e) h = and-true (ap (λ (k : ℕ). eqb k INT) k) o
looks-integer (float k z e) h = absurd (omega arith)
looks-integer (enumeration k z e) h = absurd (omega arith)
looks-integer (group k f m o small e) h = absurd (omega arith)
looks-integer (fields k f m o small e) h = absurd (omega arith)
looks-integer (array k sized index small e) h = absurd (omega arith)
looks-integer (variable k sized e) h = absurd (omega arith)
looks-integer (section k fit e) h = absurd (omega arith)
looks-integer (forward k e) h = absurd (omega arith)
looks-integer {r = r} (prototype k b m e) h = absurd (proto-cases (all_named (parameters_of r)) e (λ q. omega arith) (λ q. omega arith))
looks-integer (function k m e) h = absurd (omega arith)
looks-integer (awaits k e) h = absurd (omega arith)

-- and so is that of a VAR
pub looks-stored : {work : List ℕ} {r : Record} {s : ℕ} → Looks work r s → s % 16 ≡ stored → kind_of r ≡ VAR
looks-stored {work} {r} (alias a e) h = let l = (alias-seen work r.third e).plain in absurd (omega arith)
looks-stored (pointer k b e) h = absurd (omega arith)
looks-stored (int k o w z e) h = absurd (omega arith)
looks-stored (float k z e) h = absurd (omega arith)
looks-stored (enumeration k z e) h = absurd (omega arith)
looks-stored (group k f m o small e) h = absurd (omega arith)
looks-stored (fields k f m o small e) h = absurd (omega arith)
looks-stored (array k sized index small e) h = absurd (omega arith)
looks-stored (variable k sized e) h = k
looks-stored (section k fit e) h = absurd (omega arith)
looks-stored (forward k e) h = absurd (omega arith)
looks-stored {r = r} (prototype k b m e) h = absurd (proto-cases (all_named (parameters_of r)) e (λ q. omega arith) (λ q. omega arith))
looks-stored (function k m e) h = absurd (omega arith)
looks-stored (awaits k e) h = absurd (omega arith)

-- and that of a FUNC_PROTO that names its parameters
pub record Names (r : Record) : Type 0 where
  pub proto : kind_of r ≡ FUNC_PROTO
  pub all : all_named (parameters_of r) ≡ true

pub looks-named : {work : List ℕ} {r : Record} {s : ℕ} → Looks work r s → s ≡ named → Names r
looks-named {work} {r} (alias a e) h = absurd ((alias-seen work r.third e).nameless h)
looks-named (pointer k b e) h = absurd (omega arith)
looks-named (int k o w z e) h = absurd (omega arith)
looks-named (float k z e) h = absurd (omega arith)
looks-named (enumeration k z e) h = absurd (omega arith)
looks-named (group k f m o small e) h = absurd (omega arith)
looks-named (fields k f m o small e) h = absurd (omega arith)
looks-named (array k sized index small e) h = absurd (omega arith)
looks-named (variable k sized e) h = absurd (omega arith)
looks-named (section k fit e) h = absurd (omega arith)
looks-named (forward k e) h = absurd (omega arith)
looks-named {r = r} {s} (prototype k b m e) h = record { proto = k; all = go (all_named (parameters_of r)) e }
  where
    go : (b : Bool) → s ≡ cond b named unsized → b ≡ true
    go true e = refl
    go false e = absurd (omega arith)
looks-named (function k m e) h = absurd (omega arith)
looks-named (awaits k e) h = absurd (omega arith)
