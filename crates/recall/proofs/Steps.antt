-- Laws of exact sizes, bases and the ends of lines by a type's step, where no walk from it is endless; and of sizes as far as they matter.
-- Assumes nothing.
use Prim.Native.Nat.{ℕ, zero, suc, ◌+◌, ◌*◌, ◌≤◌, ◌<◌}
use mathlib.Core.Path.{◌≡◌, refl, sym, ap, ◌∙◌, subst}
use mathlib.Core.Bool.{Bool, true, false, cond, false≢true}
use mathlib.Core.List.{Memᴰ}
use mathlib.Core.Option.{Option, none, some}
use native.Mathlib.Nat.{mul-le-mul}
use native.Mathlib.Omega.{arith}
use borrow.Author.Tests.{eqb-true, eqb-false, leb-true, leb-false, lt-leb, le-ltb}
use lib.Dec.{eqb, leb}
use lib.ListN.{get_or}
use Rattle.paper.proofs.basics.Choices.{member-each}
use Rattle.paper.proofs.walks.Bases.{third-held}
use Rattle.paper.proofs.walks.Endless.{any-holds}
use Rattle.paper.proofs.walks.Sizes as sizes
use Rattle.paper.proofs.walks.Sizes.{size_by-void, size_by-enough, step-held, far-walks}
use Rattle.paper.specs.rules.Chain.{held_by, walks}
use Rattle.paper.specs.rules.Kind.{SizeRule, referent, rows, row_of}
use Rattle.paper.specs.rules.KindNo.{FUNC_PROTO}
use Rattle.paper.specs.rules.Layout.{all_named}
use Rattle.paper.specs.rules.Size.{Step, is, many_of, sizeless, lost, Found, exactly, none_at, lost_at, too_far, scale, go_on, size_by, size_found, step_by, step_in, exact_size}
use Rattle.paper.specs.rules.Span.{aliases, is_alias, base_from}
use Rattle.paper.specs.rules.Table.{Record, Table, count, record_at, kind_at, kind_of}
use Rattle.paper.specs.rules.Tails.{parameters_of}
use Rattle.recall.proofs.Lines.{line_from, line_step, line-own}
use Rattle.recall.specs.Recall.{cut_size, half_size, size_code, is_one, goes_to, end_from, named_code}
use Rattle.recall.specs.Recall.{size_behind}
use Rattle.sizes.specs.SizeStep.{cut}

-- ── sizes as far as they matter ──

-- so many times a size
abbrev pub many : ℕ → Option ℕ → Option ℕ
many n none = none
many n (some s) = some (n * s)

pub many-one : (x : Option ℕ) → many 1 x ≡ x
many-one none = refl
many-one (some s) = ap some (let e : 1 * s ≡ s = omega arith in e)

cut-large : (n : ℕ) → 4294967296 ≤ n → cut n ≡ 4294967296
unfolding cut
cut-large n h = go (leb n 4294967296) refl
  where
    go : (z : Bool) → leb n 4294967296 ≡ z → cond z n 4294967296 ≡ 4294967296
    go true e = let l = leb-true n 4294967296 e in let same : n ≡ 4294967296 = omega arith in same
    go false e = refl

-- a code tells as much as the size that was cut
pub size_code-cut : (x : Option ℕ) → size_code (cut_size x) ≡ size_code x
unfolding cut
size_code-cut none = refl
size_code-cut (some s) = go (leb s 4294967296) refl
  where
    go : (z : Bool) → leb s 4294967296 ≡ z → size_code (some (cond z s 4294967296)) ≡ size_code (some s)
    go true e = refl
    go false e = let l = leb-false s 4294967296 e in sym (ap (λ (z : Bool). cond z s half_size) (lt-leb s half_size (omega arith)))

-- an element's size up to a half is enough for an array of none, or of two or more
pub size_behind-code : (c u : ℕ) (x : Option ℕ) → (c ≡ 1 → ⊥) → cut_size (size_behind (many_of c u) (size_code x)) ≡ cut_size (many c x)
size_behind-code c u none ne = refl
size_behind-code c u (some s) ne = go (leb s half_size) refl
  where
    large : (c : ℕ) → (c ≡ 1 → ⊥) → half_size < s → cut (c * half_size) ≡ cut (c * s)
    large zero ne h = let none : 0 * half_size ≡ 0 * s = omega arith in ap cut none
    large (suc zero) ne h = absurd (ne refl)
    large (suc (suc c)) ne h =
        cut-large (suc (suc c) * half_size) (omega arith)
        ∙ sym (cut-large (suc (suc c) * s) (let m = mul-le-mul {n₁ = 2} {m₁ = half_size} {n₂ = suc (suc c)} {m₂ = s} (omega arith) (omega arith) in omega arith))

    go : (z : Bool) → leb s half_size ≡ z → cut_size (size_behind (many_of c u) (cond z s half_size)) ≡ some (cut (c * s))
    go true e = ap (λ (z : Bool). cut_size (cond z none (some (c * s)))) (le-ltb half_size s (leb-true s half_size e))
    go false e = ap some (large c ne (leb-false s half_size e))

pub size_code-low : (x : Option ℕ) → size_code x ≤ half_size + 1
size_code-low none = omega arith
size_code-low (some s) = go (leb s half_size) refl
  where
    go : (z : Bool) → leb s half_size ≡ z → cond z s half_size ≤ half_size + 1
    go true e = let l = leb-true s half_size e in omega arith
    go false e = omega arith

pub named-low : (r : Record) → named_code r ≤ half_size + 1
named-low r = go (eqb (kind_of r) FUNC_PROTO) (all_named (parameters_of r))
  where
    go : (a b : Bool) → cond a (cond b 0 1) 0 ≤ half_size + 1
    go true true = omega arith
    go true false = omega arith
    go false b = omega arith

-- ── steps ──

module _ (T : Table) where
  -- a step goes on to a type that is held by value
  pub goes-held : (t : ℕ) → (goes_to (step_in T t) ≡ 0 → ⊥) → Memᴰ (goes_to (step_in T t)) (held_by T t)
  goes-held t ne = subst (λ (u : ℕ). Memᴰ u (held_by T t)) (same (step_in T t)) (step-held T t (λ e. ne (sym (same (step_in T t)) ∙ e)))
    where
      same : (s : Step) → sizes.next s ≡ goes_to s
      same (is s) = refl
      same (many_of n u) = refl
      same sizeless = refl
      same lost = refl

  pub alias-size : (k : ℕ) → is_alias k ≡ true → (row_of k).size ≡ referent
  unfolding row_of rows
  alias-size k e = member-each (λ (k : ℕ). (row_of k).size ≡ referent) k aliases e (refl, (refl, (refl, (refl, (refl, tt)))))

  -- an alias has the size of the type that it stands for
  alias-step : (t : ℕ) → is_alias (kind_at T t) ≡ true → step_in T t ≡ many_of 1 (record_at T t).third
  unfolding step_in
  alias-step t e =
      let r = record_at T t in
      ap (λ (rule : SizeRule). step_by rule r.third (get_or r.tail 0 0) (get_or r.tail 2 0)) (alias-size (kind_at T t) e)

  -- ── both lines ──

  abbrev pub is_alias_at : ℕ → Bool
  is_alias_at t = is_alias (kind_at T t)

  abbrev pub third_at : ℕ → ℕ
  third_at t = (record_at T t).third

  abbrev pub is_one_at : ℕ → Bool
  is_one_at t = is_one (step_in T t)

  abbrev pub next_at : ℕ → ℕ
  next_at t = goes_to (step_in T t)

  pub base-line : (k t : ℕ) → base_from T k t ≡ line_from (held_by T) is_alias_at third_at k t
  base-line zero t = refl
  base-line (suc k) t = ap (λ (u : ℕ). cond (is_alias_at t) u t) (base-line k (third_at t))

  pub end_line : (k t : ℕ) → end_from T k t ≡ line_from (held_by T) is_one_at next_at k t
  end_line zero t = refl
  end_line (suc k) t = ap (λ (u : ℕ). cond (is_one_at t) u t) (end_line k (next_at t))

  pub void-step : step_in T 0 ≡ sizeless
  unfolding step_in row_of rows
  void-step = refl

  pub void-one : is_one_at 0 ≡ false
  void-one = ap is_one void-step

  pub alias-one : (t : ℕ) → is_alias_at t ≡ true → is_one_at t ≡ true
  alias-one t e = ap is_one (alias-step t e)

  pub alias-next : (t : ℕ) → is_alias_at t ≡ true → next_at t ≡ third_at t
  alias-next t e = ap goes_to (alias-step t e)

  pub leads-alias : (t : ℕ) → is_alias_at t ≡ true → (third_at t ≡ 0 → ⊥) → Memᴰ (third_at t) (held_by T t)
  leads-alias t e ne = third-held T t e ne

  pub leads_one : (t : ℕ) → is_one_at t ≡ true → (next_at t ≡ 0 → ⊥) → Memᴰ (next_at t) (held_by T t)
  leads_one t e ne = goes-held t ne

  -- a type no walk from which is endless
  abbrev pub Ends : ℕ → Type 0
  Ends t = walks (held_by T) (count T) t ≡ false

  pub base_step : (t : ℕ) → Ends t → is_alias_at t ≡ true → base_from T (count T) t ≡ base_from T (count T) (third_at t)
  base_step t e a =
      base-line (count T) t ∙ line_step (held_by T) is_alias_at third_at refl leads-alias (count T) t e a ∙ sym (base-line (count T) (third_at t))

  pub base-own : (t : ℕ) → is_alias_at t ≡ false → base_from T (count T) t ≡ t
  base-own t a = base-line (count T) t ∙ line-own (held_by T) is_alias_at third_at refl leads-alias (count T) t a

  pub end_step : (t : ℕ) → Ends t → is_one_at t ≡ true → end_from T (count T) t ≡ end_from T (count T) (next_at t)
  end_step t e a =
      end_line (count T) t ∙ line_step (held_by T) is_one_at next_at void-one leads_one (count T) t e a ∙ sym (end_line (count T) (next_at t))

  pub end-own : (t : ℕ) → is_one_at t ≡ false → end_from T (count T) t ≡ t
  end-own t a = end_line (count T) t ∙ line-own (held_by T) is_one_at next_at void-one leads_one (count T) t a

  -- ── an exact size by a type's step ──

  scaled : (c : ℕ) (x : Found) → size_found (scale c x) ≡ many c (size_found x)
  scaled c (exactly s) = refl
  scaled c none_at = refl
  scaled c lost_at = refl
  scaled c too_far = refl

  -- what is found by a step of a type that ends, of as many reads as there are types
  abbrev pub size_after : Step → Option ℕ
  size_after (is s) = some s
  size_after (many_of c u) = many c (exact_size T u)
  size_after sizeless = none
  size_after lost = none

  pub size-after : (t : ℕ) → 1 ≤ t → Ends t → exact_size T t ≡ size_after (step_in T t)
  unfolding exact_size
  size-after zero low e = absurd (omega arith)
  size-after (suc t) low e = go (count T) refl
    where
      go : (k : ℕ) → count T ≡ k → size_found (size_by (step_in T) (count T) (suc t)) ≡ size_after (step_in T (suc t))
      go zero q = absurd (false≢true (sym e ∙ ap (λ (k : ℕ). walks (held_by T) k (suc t)) q))
      go (suc m) q = ap (λ (k : ℕ). size_found (size_by (step_in T) k (suc t))) q ∙ by (step_in T (suc t)) refl
        where
          ends-here : walks (held_by T) (suc m) (suc t) ≡ false
          ends-here = ap (λ (k : ℕ). walks (held_by T) k (suc t)) (sym q) ∙ e

          later : (u : ℕ) → next_at (suc t) ≡ u → (z : Bool) → eqb u 0 ≡ z → size_by (step_in T) m u ≡ size_by (step_in T) (count T) u
          later u n true x =
              ap (size_by (step_in T) m) (eqb-true u 0 x) ∙ size_by-void (step_in T) m
              ∙ sym (ap (size_by (step_in T) (count T)) (eqb-true u 0 x) ∙ size_by-void (step_in T) (count T))
          later u n false x =
              sym
              (size_by-enough (step_in T) {k = m} {m = count T} u (let c = q in omega arith)
              (λ far. false≢true (sym ends-here ∙ any-holds (walks (held_by T) m) u
              (subst (λ (v : ℕ). Memᴰ v (held_by T (suc t))) n (goes-held (suc t) (λ z. eqb-false u 0 x (sym n ∙ z)))) (far-walks T m u far))))

          by : (s : Step) → step_in T (suc t) ≡ s → size_found (size_by (step_in T) (suc m) (suc t)) ≡ size_after s
          by s p = ap (λ (x : Step). size_found (go_on x (λ (u : ℕ). size_by (step_in T) m u))) p ∙ on s p
            where
              on : (s : Step) → step_in T (suc t) ≡ s → size_found (go_on s (λ (u : ℕ). size_by (step_in T) m u)) ≡ size_after s
              on (is s) p = refl
              on sizeless p = refl
              on lost p = refl
              on (many_of c u) p =
                  scaled c (size_by (step_in T) m u) ∙ ap (λ (x : Found). many c (size_found x)) (later u (ap goes_to p) (eqb u 0) refl)

  pub size-void : exact_size T 0 ≡ none
  unfolding exact_size
  size-void = ap size_found (size_by-void (step_in T) (count T))
