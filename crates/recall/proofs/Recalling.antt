-- Laws of what is remembered: where it is right of the types that a type leads to, it tells the base, the end of the line and the size that the paper defines.
-- Assumes nothing.
use Prim.Native.Nat.{ℕ, ◌+◌, ◌≤◌}
use mathlib.Core.Path.{◌≡◌, refl, sym, ap, ap₂, ◌∙◌, subst}
use mathlib.Core.Bool.{Bool, true, false, cond, false≢true}
use mathlib.Core.List.{List}
use mathlib.Core.Logic.{⊎_elim}
use mathlib.Core.Option.{Option}
use native.Mathlib.Omega.{arith}
use borrow.Author.Tests.{eqb-true, eqb-false, le-leb}
use lib.Dec.{eqb, leb}
use Rattle.paper.specs.rules.Chain.{held_by}
use Rattle.paper.specs.rules.Size.{Step, is, many_of, sizeless, lost, step_in, exact_size}
use Rattle.paper.specs.rules.Span.{base_from}
use Rattle.paper.specs.rules.Table.{Record, Table, count, record_at}
use Rattle.recall.proofs.Lines.{OrVoid, line-end, line-inside, line-keeps}
use Rattle.recall.specs.Recall.{first_telling, most_told, told, cut_size, half_size, size_code, is_one, goes_to, end_from, step_of, step_code, code_at}
use Rattle.recall.specs.Recall.{base_told, end_told, size_behind, size_at, size_told, code_told, mark_told}
use Rattle.recall.proofs.Steps.{many, many-one, size_code-cut, size_behind-code, size_code-low, named-low, is_alias_at, third_at, is_one_at, next_at, base-line, end_line, void-step, void-one, alias-one, alias-next, leads-alias, leads_one, Ends, base_step, base-own, end_step, end-own, size_after, size-after, size-void}

-- ── what is told ──

-- types that end and lead to each other, of which a slice tells what is to be remembered
pub record Kept (T : Table) (memo : List ℕ) (D : ℕ → Type 0) : Type 0 where
  pub low : (t : ℕ) → D t → 1 ≤ t
  pub ends : (t : ℕ) → D t → Ends T t
  pub closed : (t : ℕ) → D t → OrVoid D (goes_to (step_in T t))
  pub right : (t : ℕ) → D t → told memo t ≡ code_at T t

module _ {T : Table} {memo : List ℕ} {D : ℕ → Type 0} (kept : Kept T memo D) where
  closed-alias : (t : ℕ) → D t → is_alias_at T t ≡ true → OrVoid D (third_at T t)
  closed-alias t d a = subst (OrVoid D) (alias-next T t a) (kept.closed t d)

  closed-one : (t : ℕ) → D t → is_one_at T t ≡ true → OrVoid D (next_at T t)
  closed-one t d a = kept.closed t d

  -- a type that is not void is one of them
  some-type : (f : ℕ → Bool) (t : ℕ) → f 0 ≡ false → f t ≡ true → OrVoid D t → D t
  some-type f t void e h = ⊎_elim (λ (z : t ≡ 0). absurd (false≢true (sym void ∙ ap f (sym z) ∙ e))) (λ d. d) h

  -- ── the base ──

  code-alias : (t : ℕ) → is_alias_at T t ≡ true → code_at T t ≡ base_from T (count T) t
  unfolding code_at
  code-alias t a = ap (λ (z : Bool). cond z (base_from T (count T) t) (step_code (step_in T t) (end_from T (count T) t) (exact_size T) (record_at T t))) a

  pub base-told : (t : ℕ) → OrVoid D t → base_told memo T t ≡ base_from T (count T) t
  base-told t h = go (is_alias_at T t) refl
    where
      go : (z : Bool) → is_alias_at T t ≡ z → cond z (told memo t) t ≡ base_from T (count T) t
      go true a = kept.right t (some-type (is_alias_at T) t refl a h) ∙ code-alias t a
      go false a = sym (base-own T t a)

  base-inside : (t : ℕ) → OrVoid D t → OrVoid D (base_from T (count T) t)
  base-inside t h =
      subst (OrVoid D) (sym (base-line T (count T) t))
      (line-inside (held_by T) (is_alias_at T) (third_at T) refl (leads-alias T) D closed-alias (count T) t h)

  -- it is no alias
  base-none : (t : ℕ) → OrVoid D t → is_alias_at T (base_from T (count T) t) ≡ false
  base-none t h =
      ⊎_elim
      (λ (z : t ≡ 0). ap (λ (u : ℕ). is_alias_at T (base_from T (count T) u)) z ∙ ap (is_alias_at T) (base-own T 0 refl))
      (λ d. ap (is_alias_at T) (base-line T (count T) t)
      ∙ line-end (held_by T) (is_alias_at T) (third_at T) refl (leads-alias T) (count T) t (kept.ends t d))
      h

  -- ── the end of the line ──

  pub code_step : (t : ℕ) → is_alias_at T t ≡ false → code_at T t ≡ step_code (step_in T t) (end_from T (count T) t) (exact_size T) (record_at T t)
  unfolding code_at
  code_step t a = ap (λ (z : Bool). cond z (base_from T (count T) t) (step_code (step_in T t) (end_from T (count T) t) (exact_size T) (record_at T t))) a

  code_one : (s : Step) (end : ℕ) (size : ℕ → Option ℕ) (r : Record) → is_one s ≡ true → step_code s end size r ≡ end
  code_one (is s) end size r e = absurd (false≢true e)
  code_one (many_of n u) end size r e = ap (λ (z : Bool). cond z end (size_code (size u))) e
  code_one sizeless end size r e = absurd (false≢true e)
  code_one lost end size r e = absurd (false≢true e)

  end-of-base : (t : ℕ) → OrVoid D t → end_from T (count T) t ≡ end_from T (count T) (base_from T (count T) t)
  end-of-base t h =
      line-keeps (held_by T) (is_alias_at T) (third_at T) refl (leads-alias T) D closed-alias (end_from T (count T))
      (λ u d a. end_step T u (kept.ends u d) (alias-one T u a) ∙ ap (end_from T (count T)) (alias-next T u a)) (count T) t h
      ∙ ap (end_from T (count T)) (sym (base-line T (count T) t))

  pub end-told : (t : ℕ) → OrVoid D t → end_told memo T t ≡ end_from T (count T) t
  end-told t h =
      ap (λ (a : ℕ). cond (is_one_at T a) (told memo a) a) (base-told t h)
      ∙ go (is_one_at T a) refl
      ∙ sym (end-of-base t h)
    where
      a : ℕ
      a = base_from T (count T) t

      go : (z : Bool) → is_one_at T a ≡ z → cond z (told memo a) a ≡ end_from T (count T) a
      go true o =
          kept.right a (some-type (is_one_at T) a (void-one T) o (base-inside t h))
          ∙ code_step a (base-none t h)
          ∙ code_one (step_in T a) _ _ _ o
      go false o = sym (end-own T a o)

  end-inside : (t : ℕ) → OrVoid D t → OrVoid D (end_from T (count T) t)
  end-inside t h =
      subst (OrVoid D) (sym (end_line T (count T) t))
      (line-inside (held_by T) (is_one_at T) (next_at T) (void-one T) (leads_one T) D closed-one (count T) t h)

  -- no line goes on from there
  end_none : (t : ℕ) → OrVoid D t → is_one_at T (end_from T (count T) t) ≡ false
  end_none t h =
      ⊎_elim
      (λ (z : t ≡ 0). ap (λ (u : ℕ). is_one_at T (end_from T (count T) u)) z ∙ ap (is_one_at T) (end-own T 0 (void-one T)) ∙ void-one T)
      (λ d. ap (is_one_at T) (end_line T (count T) t)
      ∙ line-end (held_by T) (is_one_at T) (next_at T) (void-one T) (leads_one T) (count T) t (kept.ends t d))
      h

  -- ── the size ──

  size-one : (t : ℕ) → D t → is_one_at T t ≡ true → exact_size T t ≡ exact_size T (next_at T t)
  size-one t d o = size-after T t (kept.low t d) (kept.ends t d) ∙ go (step_in T t) o
    where
      go : (s : Step) → is_one s ≡ true → size_after T s ≡ exact_size T (goes_to s)
      go (is s) e = absurd (false≢true e)
      go (many_of n u) e = ap (λ (c : ℕ). many c (exact_size T u)) (eqb-true n 1 e) ∙ many-one (exact_size T u)
      go sizeless e = absurd (false≢true e)
      go lost e = absurd (false≢true e)

  size-of-end : (t : ℕ) → OrVoid D t → exact_size T t ≡ exact_size T (end_from T (count T) t)
  size-of-end t h =
      line-keeps (held_by T) (is_one_at T) (next_at T) (void-one T) (leads_one T) D closed-one (exact_size T) size-one (count T) t h
      ∙ ap (exact_size T) (sym (end_line T (count T) t))

  -- at the end of a line
  size-here : (e : ℕ) → OrVoid D e → is_one_at T e ≡ false → cut_size (size_behind (step_in T e) (told memo e)) ≡ cut_size (exact_size T e)
  size-here e h o =
      ⊎_elim
      (λ (z : e ≡ 0). ap (λ (u : ℕ). cut_size (size_behind (step_in T u) (told memo u))) z
      ∙ ap (λ (s : Step). cut_size (size_behind s (told memo 0))) (void-step T)
      ∙ sym (ap cut_size (ap (exact_size T) z ∙ size-void T)))
      (λ d. go d (step_in T e) refl o ∙ sym (ap cut_size (size-after T e (kept.low e d) (kept.ends e d))))
      h
    where
      no-alias : is_alias_at T e ≡ false
      no-alias = by (is_alias_at T e) refl
        where
          by : (z : Bool) → is_alias_at T e ≡ z → z ≡ false
          by true a = absurd (false≢true (sym o ∙ alias-one T e a))
          by false a = refl

      go : D e → (s : Step) → step_in T e ≡ s → is_one s ≡ false → cut_size (size_behind (step_in T e) (told memo e)) ≡ cut_size (size_after T (step_in T e))
      go d (is s) p q = ap (λ (x : Step). cut_size (size_behind x (told memo e))) p ∙ sym (ap (λ (x : Step). cut_size (size_after T x)) p)
      go d sizeless p q = ap (λ (x : Step). cut_size (size_behind x (told memo e))) p ∙ sym (ap (λ (x : Step). cut_size (size_after T x)) p)
      go d lost p q = ap (λ (x : Step). cut_size (size_behind x (told memo e))) p ∙ sym (ap (λ (x : Step). cut_size (size_after T x)) p)
      go d (many_of c u) p q =
          let code : told memo e ≡ size_code (exact_size T u) =
          kept.right e d ∙ code_step e no-alias
          ∙ ap (λ (x : Step). step_code x (end_from T (count T) e) (exact_size T) (record_at T e)) p
          ∙ ap (λ (z : Bool). cond z (end_from T (count T) e) (size_code (exact_size T u))) q in
          ap₂ (λ (x : Step) (k : ℕ). cut_size (size_behind x k)) p code
          ∙ size_behind-code c u (exact_size T u) (eqb-false c 1 q)
          ∙ sym (ap (λ (x : Step). cut_size (size_after T x)) p)

  -- at the end of the line of its base
  size-end : (t : ℕ) → size_told memo T t ≡ size_behind (step_in T (end_told memo T t)) (told memo (end_told memo T t))
  unfolding size_told
  size-end t = go (is_one_at T (base_told memo T t)) refl
    where
      a : ℕ
      a = base_told memo T t

      go : (z : Bool) → is_one_at T a ≡ z → size_at memo T a (step_in T a) ≡ size_behind (step_in T (cond (is_one_at T a) (told memo a) a)) (told memo (cond (is_one_at T a) (told memo a) a))
      go z e =
          ap (λ (b : Bool). cond b (size_behind (step_in T (told memo a)) (told memo (told memo a))) (size_behind (step_in T a) (told memo a))) e
          ∙ by z
          ∙ sym (ap (λ (b : Bool). let u = cond b (told memo a) a in size_behind (step_in T u) (told memo u)) e)
        where
          by : (z : Bool) → cond z (size_behind (step_in T (told memo a)) (told memo (told memo a))) (size_behind (step_in T a) (told memo a))
              ≡ size_behind (step_in T (cond z (told memo a) a)) (told memo (cond z (told memo a) a))
          by true = refl
          by false = refl

  pub size-told : (t : ℕ) → OrVoid D t → cut_size (size_told memo T t) ≡ cut_size (exact_size T t)
  size-told t h =
      ap cut_size (size-end t)
      ∙ ap (λ (e : ℕ). cut_size (size_behind (step_in T e) (told memo e))) (end-told t h)
      ∙ size-here (end_from T (count T) t) (end-inside t h) (end_none t h)
      ∙ ap cut_size (sym (size-of-end t h))

  -- ── one type more ──

  -- what is to be remembered of a type that ends, by what is told of those that it leads to
  code-told : (t : ℕ) → Ends T t → OrVoid D (goes_to (step_in T t)) → code_told memo T (record_at T t) ≡ code_at T t
  unfolding code_told step_of step_in
  code-told t e h = go (is_alias_at T t) refl
    where
      go : (z : Bool) → is_alias_at T t ≡ z
          → cond z (base_told memo T (next_at T t)) (step_code (step_in T t) (end_told memo T (next_at T t)) (size_told memo T) (record_at T t)) ≡ code_at T t
      go true a =
          base-told (next_at T t) h ∙ ap (base_from T (count T)) (alias-next T t a) ∙ sym (base_step T t e a) ∙ sym (code-alias t a)
      go false a = by (step_in T t) refl ∙ sym (code_step t a)
        where
          by : (s : Step) → step_in T t ≡ s
              → step_code (step_in T t) (end_told memo T (next_at T t)) (size_told memo T) (record_at T t)
              ≡ step_code (step_in T t) (end_from T (count T) t) (exact_size T) (record_at T t)
          by s p =
              ap (λ (x : Step). step_code x (end_told memo T (next_at T t)) (size_told memo T) (record_at T t)) p
              ∙ on s p
              ∙ sym (ap (λ (x : Step). step_code x (end_from T (count T) t) (exact_size T) (record_at T t)) p)
            where
              on : (s : Step) → step_in T t ≡ s
                  → step_code s (end_told memo T (next_at T t)) (size_told memo T) (record_at T t) ≡ step_code s (end_from T (count T) t) (exact_size T) (record_at T t)
              on (is s) p = refl
              on sizeless p = refl
              on lost p = refl
              on (many_of c u) p = one (eqb c 1) refl
                where
                  one : (z : Bool) → eqb c 1 ≡ z
                      → cond z (end_told memo T (next_at T t)) (size_code (size_told memo T u)) ≡ cond z (end_from T (count T) t) (size_code (exact_size T u))
                  one true q = end-told (next_at T t) h ∙ sym (end_step T t e (ap is_one p ∙ q))
                  one false q =
                      sym (size_code-cut (size_told memo T u))
                      ∙ ap size_code (size-told u (subst (OrVoid D) (ap goes_to p) h))
                      ∙ size_code-cut (exact_size T u)

  -- ── and its mark ──

  module _ (few : (x : ℕ) → D x → x ≤ half_size) (t : ℕ) (e : Ends T t) (h : OrVoid D (goes_to (step_in T t))) where
    void-low : (x : ℕ) → OrVoid D x → x ≤ half_size
    void-low x o = ⊎_elim (λ (z : x ≡ 0). omega arith) (λ d. few x d) o

    code-low : code_at T t ≤ half_size + 1
    code-low = go (is_alias_at T t) refl
      where
        go : (z : Bool) → is_alias_at T t ≡ z → code_at T t ≤ half_size + 1
        go true a =
            let i = void-low _ (base-inside (next_at T t) h) in
            let same = code-alias t a ∙ base_step T t e a ∙ ap (base_from T (count T)) (sym (alias-next T t a)) in
            omega arith
        go false a = by (step_in T t) refl
          where
            by : (s : Step) → step_in T t ≡ s → code_at T t ≤ half_size + 1
            by s p = subst (λ (k : ℕ). k ≤ half_size + 1) (sym (code_step t a ∙ ap (λ (x : Step). step_code x (end_from T (count T) t) (exact_size T) (record_at T t)) p)) (on s p)
              where
                on : (s : Step) → step_in T t ≡ s → step_code s (end_from T (count T) t) (exact_size T) (record_at T t) ≤ half_size + 1
                on (is s) p = named-low (record_at T t)
                on sizeless p = named-low (record_at T t)
                on lost p = named-low (record_at T t)
                on (many_of c u) p = one (eqb c 1) refl
                  where
                    one : (z : Bool) → eqb c 1 ≡ z → cond z (end_from T (count T) t) (size_code (exact_size T u)) ≤ half_size + 1
                    one true q =
                        let i = void-low _ (end-inside (next_at T t) h) in let same = end_step T t e (ap is_one p ∙ q) in omega arith
                    one false q = size_code-low (exact_size T u)

    pub mark-told : mark_told memo T (record_at T t) ≡ first_telling + code_at T t
    unfolding mark_told
    mark-told =
        ap (λ (k : ℕ). cond (leb k most_told) (first_telling + k) first_telling) (code-told t e h)
        ∙ ap (λ (z : Bool). cond z (first_telling + code_at T t) first_telling) (le-leb (code_at T t) most_told (let l = code-low in omega arith))
