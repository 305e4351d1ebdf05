-- Where every type of a table has its state and no by-value walk is endless, the states tell sizes and bases.
-- Assumes nothing.
use Prim.Native.Nat.{ℕ, zero, suc, ◌+◌, ◌*◌, ◌/◌, ◌%◌, ◌≤◌, ◌<◌}
use native.Mathlib.Omega.{arith}
use mathlib.Core.Path.{◌≡◌, refl, sym, ap, subst, ◌∙◌}
use mathlib.Core.Bool.{Bool, true, false, cond, false≢true}
use mathlib.Core.List.{List, [], ◌∷◌, Memᴰ}
use mathlib.Core.Option.{Option, none, some}
use borrow.Author.Tests.{eqb-true, eqb-false, le-leb}
use lib.Dec.{eqb, leb}
use lib.ListN.{get_or}
use Rattle.glance.proofs.Opens.{sized-told}
use Rattle.glance.proofs.Parameters.{proto-cases}
use Rattle.glance.specs.Glance.{whole, integer, unsized, integer_alias, is_integer, named, enumerated, is_bytes, stored, is_sized, is_open, state_of}
use Rattle.glance.specs.Glance.{through, element_type_of, size_end, enum_kinds}
use Rattle.glance.specs.Glance.{Looks, alias, pointer, int, float, enumeration, group, fields, array, variable, section, forward, prototype}
use Rattle.glance.specs.Glance.{function, awaits}
use Rattle.paper.proofs.basics.Choices.{and-true, member-each}
use Rattle.paper.proofs.walks.Bases.{third-held}
use Rattle.paper.proofs.walks.Endless.{any-holds}
use Rattle.paper.specs.rules.Chain.{held_by, walks}
use Rattle.paper.specs.rules.Choice.{member}
use Rattle.paper.specs.rules.Kind.{SizeRule, referent, row_of, rows}
use Rattle.paper.specs.rules.KindNo.{INT, PTR, ARRAY, STRUCT, UNION, VAR, FLOAT}
use Rattle.paper.specs.rules.Layout.{all_named}
use Rattle.paper.specs.rules.Limits.{size_limit}
use Rattle.paper.specs.rules.Size.{Step, is, step_by, step_in, exact_size, within, small_size}
use Rattle.paper.specs.rules.Span.{is_alias, is_regular, is_regular_word, base_of}
use Rattle.paper.specs.rules.Table.{Record, Table, count, record_at, kind_of}
use Rattle.paper.specs.rules.Tails.{int_word, parameters_of, width_in}
use Rattle.recall.proofs.Steps.{Ends, base_step, base-own, alias-size, goes-held, many, many-one, size_after, size-after}
use Rattle.recall.specs.Recall.{goes_to}

-- what a state tells of a type
pub data Says (T : Table) (t s : ℕ) : Type 0 where
  bytes : is_bytes (s % 16) ≡ true → small_size T t ≡ some (s / 16) → eqb (kind_of (base_of T t)) INT ≡ false
      → (s % 16 ≡ enumerated → member (kind_of (base_of T t)) enum_kinds ≡ true) → Says T t s
  bits : is_integer (s % 16) ≡ true → small_size T t ≡ some (s / 16) → is_regular (base_of T t) ≡ true → width_in (int_word (base_of T t)) ≡ 8 * (s / 16)
      → Says T t s
  storage : s % 16 ≡ stored → small_size T t ≡ some (s / 16) → Says T t s
  nothing : is_sized (s % 16) ≡ false → (s % 16 ≡ stored → ⊥) → Says T t s

-- a size that does not overflow is the exact one
within-some : (x : Option ℕ) {z : ℕ} → within x ≡ some z → x ≡ some z
within-some none e = e
within-some (some s) {z} e = go (leb s size_limit) e
  where
    go : (b : Bool) → cond b (some s) none ≡ some z → some s ≡ some z
    go true e = e
    go false e = absurd (let z : ◌≡◌ {A = ℕ} 0 1 = cc in omega arith)

-- a class of a type that has a size says which
pub says-small : {T : Table} {t s : ℕ} → is_sized (s % 16) ≡ true → Says T t s → small_size T t ≡ some (s / 16)
says-small h (bytes c z k n) = z
says-small h (bits c z k w) = z
says-small h (storage c z) = z
says-small h (nothing c n) = absurd (false≢true (sym c ∙ h))

pub says-stored : {T : Table} {t s : ℕ} → s % 16 ≡ stored → Says T t s → small_size T t ≡ some (s / 16)
says-stored h (bytes c z k n) = z
says-stored h (bits c z k w) = z
says-stored h (storage c z) = z
says-stored h (nothing c n) = absurd (n h)

pub small-exact : (T : Table) (t : ℕ) {z : ℕ} → small_size T t ≡ some z → exact_size T t ≡ some z
unfolding small_size
small-exact T t e = within-some (exact_size T t) e

pub says-size : {T : Table} {t s : ℕ} → is_sized (s % 16) ≡ true → Says T t s → exact_size T t ≡ some (s / 16)
says-size {T} {t} h x = small-exact T t (says-small h x)

-- an alias of it says the same
says-through : (T : Table) (t s : ℕ) → Says T t s → Says T t (through s)
says-through T t s x = go (eqb (s % 16) integer) refl (leb stored (s % 16)) (eqb (s % 16) named) x
  where
    go : (a : Bool) → eqb (s % 16) integer ≡ a → (b c : Bool) → Says T t s → Says T t (cond a (s + 3) (cond b 0 (cond c unsized s)))
    go false p true m x = nothing refl (λ h. omega arith)
    go false p false true x = nothing refl (λ h. omega arith)
    go false p false false x = x
    go true p b m (bytes c z k n) = absurd (false≢true (sym (ap is_bytes (eqb-true (s % 16) integer p)) ∙ c))
    go true p b m (storage c z) = let i = eqb-true (s % 16) integer p in absurd (omega arith)
    go true p b m (nothing c n) = absurd (false≢true (sym c ∙ ap is_sized (eqb-true (s % 16) integer p)))
    go true p b m (bits c z k w) =
        let i = eqb-true (s % 16) integer p in
        let class : (s + 3) % 16 ≡ integer_alias = omega arith in
        let same : s / 16 ≡ (s + 3) / 16 = omega arith in
        bits (ap is_integer class) (z ∙ ap some same) k (w ∙ ap (λ (z : ℕ). 8 * z) same)

module _ (T : Table) (t : ℕ) (low : 1 ≤ t) (ends : Ends T t) where
  abbrev r : Record
  r = record_at T t

  -- ── an alias ──

  -- a kind whose size is that of what its third word names
  size-referent : (row_of (kind_of r)).size ≡ referent → small_size T t ≡ small_size T r.third
  unfolding small_size step_in
  size-referent e =
      ap within
      (size-after T t low ends
      ∙ ap (λ (rule : SizeRule). size_after T (step_by rule r.third (get_or r.tail 0 0) (get_or r.tail 2 0))) e
      ∙ many-one (exact_size T r.third))

  module _ (a : is_alias (kind_of r) ≡ true) where
    size-alias : small_size T t ≡ small_size T r.third
    size-alias = size-referent (alias-size T (kind_of r) a)

    base-alias : base_of T t ≡ base_of T r.third
    unfolding base_of
    base-alias = ap (record_at T) (base_step T t ends a)

    says-alias : {s : ℕ} → Says T r.third s → Says T t s
    says-alias {s} (bytes c z k n) =
        bytes c (size-alias ∙ z) (ap (λ (b : Record). eqb (kind_of b) INT) base-alias ∙ k)
        (λ e. ap (λ (b : Record). member (kind_of b) enum_kinds) base-alias ∙ n e)
    says-alias {s} (bits c z k w) =
        bits c (size-alias ∙ z) (ap is_regular base-alias ∙ k) (ap (λ (b : Record). width_in (int_word b)) base-alias ∙ w)
    says-alias (storage c z) = storage c (size-alias ∙ z)
    says-alias (nothing c n) = nothing c n

  -- ── any other ──

  base-other : {k : ℕ} → kind_of r ≡ k → is_alias k ≡ false → base_of T t ≡ r
  unfolding base_of
  base-other e a = ap (record_at T) (base-own T t (ap is_alias e ∙ a))

  -- the step that a kind's row tells
  abbrev step_of : ℕ → Step
  step_of k = step_by (row_of k).size r.third (get_or r.tail 0 0) (get_or r.tail 2 0)

  size_step : {k z : ℕ} {step : Step} → kind_of r ≡ k → step_of k ≡ step → size_after T step ≡ some z → z < 4294967296 → small_size T t ≡ some z
  unfolding small_size step_in
  size_step {k} {z} e step size h =
      ap within (size-after T t low ends ∙ ap (λ (k : ℕ). size_after T (step_of k)) e ∙ ap (size_after T) step ∙ size)
      ∙ ap (λ (b : Bool). cond b (some z) none) (le-leb z size_limit (omega arith))

  size_word : {k z : ℕ} → kind_of r ≡ k → step_of k ≡ is z → z < 4294967296 → small_size T t ≡ some z
  size_word e step h = size_step e step refl h

  -- ── by one look ──

  -- kinds whose size is their third word, and whose span is whole bytes
  abbrev whole_kinds : List ℕ
  whole_kinds = STRUCT ∷ UNION ∷ FLOAT ∷ enum_kinds

  says-pointer : kind_of r ≡ PTR → Says T t 129
  unfolding row_of rows
  says-pointer k =
      bytes refl (size_word k refl (omega arith)) (ap (λ (b : Record). eqb (kind_of b) INT) (base-other k refl) ∙ ap (λ (k : ℕ). eqb k INT) k)
      (λ e. absurd (omega arith))

  says-int : kind_of r ≡ INT → is_regular_word (int_word r) ≡ true → width_in (int_word r) ≡ 8 * r.third → r.third < size_end → Says T t (16 * r.third + integer)
  unfolding is_regular row_of rows
  says-int k o w small =
      let z = r.third in
      let class : (16 * z + integer) % 16 ≡ integer = omega arith in
      let back : z ≡ (16 * z + integer) / 16 = omega arith in
      let base = base-other k refl in
      bits (ap is_integer class) (size_word k refl (omega arith) ∙ ap some back) (ap is_regular base ∙ and-true (ap (λ (k : ℕ). eqb k INT) k) o)
      (ap (λ (b : Record). width_in (int_word b)) base ∙ w ∙ ap (λ (z : ℕ). 8 * z) back)

  says-whole : member (kind_of r) whole_kinds ≡ true → r.third < size_end → (class : ℕ) → is_bytes class ≡ true → class < 16
      → (class ≡ enumerated → member (kind_of r) enum_kinds ≡ true) → Says T t (16 * r.third + class)
  unfolding row_of rows
  says-whole k small class whole few enum =
      let z = r.third in
      let back : z ≡ (16 * z + class) / 16 = omega arith in
      let same : (16 * z + class) % 16 ≡ class = omega arith in
      let none = member-each (λ (k : ℕ). is_alias k ≡ false) (kind_of r) whole_kinds k (refl, (refl, (refl, (refl, (refl, tt))))) in
      let other = member-each (λ (k : ℕ). eqb k INT ≡ false) (kind_of r) whole_kinds k (refl, (refl, (refl, (refl, (refl, tt))))) in
      let step =
      member-each (λ (k : ℕ). step_by (row_of k).size z (get_or r.tail 0 0) (get_or r.tail 2 0) ≡ is z) (kind_of r) whole_kinds k
      (refl, (refl, (refl, (refl, (refl, tt))))) in
      let base = base-other {k = kind_of r} refl none in
      bytes (ap is_bytes same ∙ whole) (size_word {k = kind_of r} refl step (omega arith) ∙ ap some back) (ap (λ (b : Record). eqb (kind_of b) INT) base ∙ other)
      (λ e. ap (λ (b : Record). member (kind_of b) enum_kinds) base ∙ enum (sym same ∙ e))

  says-group : member (kind_of r) (STRUCT ∷ UNION ∷ []) ≡ true → r.third < size_end → Says T t (16 * r.third + whole)
  says-group k small =
      says-whole (member-each (λ (k : ℕ). member k whole_kinds ≡ true) (kind_of r) (STRUCT ∷ UNION ∷ []) k (refl, (refl, tt))) small whole refl (omega arith)
      (λ z. absurd (omega arith))

  says-array : kind_of r ≡ ARRAY → {z : ℕ} → exact_size T (element_type_of r) ≡ some z → get_or r.tail 2 0 * z < size_end
      → Says T t (16 * (get_or r.tail 2 0 * z) + whole)
  unfolding row_of rows
  says-array k {z} size small =
      let all = get_or r.tail 2 0 * z in
      let back : all ≡ (16 * all + whole) / 16 = omega arith in
      let base = base-other k refl in
      let class : (16 * all + whole) % 16 ≡ whole = omega arith in
      bytes (ap is_bytes class) (size_step k refl (ap (many (get_or r.tail 2 0)) size) (omega arith) ∙ ap some back)
      (ap (λ (b : Record). eqb (kind_of b) INT) base ∙ ap (λ (k : ℕ). eqb k INT) k) (λ e. absurd (omega arith))

  says-variable : kind_of r ≡ VAR → {z : ℕ} → small_size T r.third ≡ some z → Says T t (16 * z + stored)
  unfolding row_of rows
  says-variable k {z} size =
      let back : z ≡ (16 * z + stored) / 16 = omega arith in
      storage (omega arith) (size-referent (ap (λ (k : ℕ). (row_of k).size) k) ∙ size ∙ ap some back)

  -- the type whose size it asks is held
  goes : {k : ℕ} → kind_of r ≡ k → (goes_to (step_of k) ≡ 0 → ⊥) → Memᴰ (goes_to (step_of k)) (held_by T t)
  unfolding step_in
  goes k ne =
      let step = ap step_of k in
      subst (λ (s : Step). Memᴰ (goes_to s) (held_by T t)) step (goes-held T t (λ z. ne (sym (ap goes_to step) ∙ z)))

  element-held : kind_of r ≡ ARRAY → (element_type_of r ≡ 0 → ⊥) → Memᴰ (element_type_of r) (held_by T t)
  unfolding row_of rows
  element-held k ne = goes k ne

  variable-held : kind_of r ≡ VAR → (r.third ≡ 0 → ⊥) → Memᴰ r.third (held_by T t)
  unfolding row_of rows
  variable-held k ne = goes k ne

  -- what a look tells is so, where what is told of the types that are held is
  pub says-look : (work : List ℕ) {s : ℕ} → state_of work 0 ≡ 0 → ((u : ℕ) → Memᴰ u (held_by T t) → Says T u (state_of work u)) → Looks work r s → Says T t s
  says-look work {s} void before (alias a e) = go (eqb r.third 0) refl e
    where
      go : (z : Bool) → eqb r.third 0 ≡ z → s ≡ cond z unsized (through (state_of work r.third)) → Says T t s
      go true x e = nothing (ap (λ (s : ℕ). is_sized (s % 16)) e) (λ h. omega arith)
      go false x e = subst (Says T t) (sym e) (says-alias a (says-through T _ _ (before _ (third-held T t a (eqb-false _ _ x)))))
  says-look work void before (pointer k b e) = subst (Says T t) (sym e) (says-pointer k)
  says-look work void before (int k o w h e) = subst (Says T t) (sym e) (says-int k o w h)
  says-look work void before (float k h e) =
      subst (Says T t) (sym e) (says-whole (ap (λ (k : ℕ). member k whole_kinds) k) h whole refl (omega arith) (λ z. absurd (omega arith)))
  says-look work void before (enumeration k h e) =
      subst (Says T t) (sym e)
      (says-whole (member-each (λ (k : ℕ). member k whole_kinds ≡ true) (kind_of r) enum_kinds k (refl, (refl, tt))) h enumerated refl (omega arith) (λ z. k))
  says-look work void before (group k f h o small e) = subst (Says T t) (sym e) (says-group k small)
  says-look work void before (fields k f h o small e) = subst (Says T t) (sym e) (says-group k small)
  says-look work void before (array k sized index small e) =
      let u = element_type_of r in
      let held = element-held k (λ z. sized-told (state_of work u) sized (ap (λ (x : ℕ). is_open (state_of work x)) z ∙ ap is_open void)) in
      subst (Says T t) (sym e) (says-array k (says-size sized (before u held)) small)
  says-look work void before (variable k sized e) =
      let u = r.third in
      let held = variable-held k (λ z. sized-told (state_of work u) sized (ap (λ (x : ℕ). is_open (state_of work x)) z ∙ ap is_open void)) in
      subst (Says T t) (sym e) (says-variable k (says-small sized (before u held)))
  says-look work void before (section k fit e) = nothing (ap (λ (s : ℕ). is_sized (s % 16)) e) (λ h. omega arith)
  says-look work void before (forward k e) = nothing (ap (λ (s : ℕ). is_sized (s % 16)) e) (λ h. omega arith)
  says-look work void before (prototype k b h e) =
      proto-cases (all_named (parameters_of r)) e
      (λ q. nothing (ap (λ (s : ℕ). is_sized (s % 16)) q) (λ h. omega arith)) (λ q. nothing (ap (λ (s : ℕ). is_sized (s % 16)) q) (λ h. omega arith))
  says-look work void before (function k h e) = nothing (ap (λ (s : ℕ). is_sized (s % 16)) e) (λ h. omega arith)
  says-look work void before (awaits k e) = nothing (ap (λ (s : ℕ). is_sized (s % 16)) e) (λ h. omega arith)

-- ── by one look at each ──

module _ (T : Table) (work : List ℕ) (ends : (t : ℕ) → 1 ≤ t → t ≤ count T → Ends T t)
    (looks : (t : ℕ) → 1 ≤ t → t ≤ count T → Looks work (record_at T t) (state_of work t))
    (inside : (t u : ℕ) → Memᴰ u (held_by T t) → (1 ≤ u) × (u ≤ count T)) (void : state_of work 0 ≡ 0) where
  says-walk : (m t : ℕ) → 1 ≤ t → t ≤ count T → walks (held_by T) m t ≡ false → Says T t (state_of work t)
  says-walk zero t low high e = absurd (false≢true (sym e))
  says-walk (suc m) t low high e =
      says-look T t low (ends t low high) work void
      (λ u held. let h = inside t u held in says-walk m u h.0 h.1 (not_on u held (walks (held_by T) m u) refl))
      (looks t low high)
    where
      not_on : (u : ℕ) → Memᴰ u (held_by T t) → (b : Bool) → walks (held_by T) m u ≡ b → b ≡ false
      not_on u held true x = absurd (false≢true (sym e ∙ any-holds (walks (held_by T) m) u held x))
      not_on u held false x = refl

  -- the state of every type says what is so
  pub says : (t : ℕ) → 1 ≤ t → t ≤ count T → Says T t (state_of work t)
  says t low high = says-walk (count T) t low high (ends t low high)
