-- What the code of this crate reads, by the cases that it tells apart.
-- Assumes nothing.
use Prim.Native.Nat.{ℕ, ◌+◌, ◌-◌, ◌*◌, ◌≤◌, ◌<◌}
use mathlib.Core.Path.{◌≡◌, refl, sym, ap, ap₂, ◌∙◌}
use mathlib.Core.Bool.{Bool, true, false, cond, false≢true}
use mathlib.Core.List.{List, [], ◌∷◌}
use mathlib.Core.Option.{Option, none, some}
use native.Mathlib.Nat.{mul-le-mul}
use native.Mathlib.Omega.{arith}
use borrow.Author.Tests.{le-leb, lt-leb, le-ltb, lt-ltb, ltb-true, eq-eqb, ne_eqb}
use lib.Dec.{eqb, leb}
use lib.ListN.{length, get_or, get_or-eq_default}
use Rattle.paper.specs.declared.Sized.{Sized}
use Rattle.paper.specs.declared.Sized.TheVariants.{Exact, NoSize, Overflow, Lost, TooFar}
use Rattle.paper.specs.rules.Answer.{Answer, sized_as_paper, value, report}
use Rattle.paper.specs.rules.KindNo.{FUNC_PROTO}
use Rattle.paper.specs.rules.Layout.{all_named}
use Rattle.paper.specs.rules.Size.{Step, is, many_of, sizeless, lost, step_by, step_in, answer_of}
use Rattle.paper.specs.rules.Span.{is_alias}
use Rattle.paper.specs.rules.Table.{Record, Table, record_at, kind_at, kind_of, kind_in}
use Rattle.paper.specs.rules.Tails.{parameters_of}
use Rattle.recall.proofs.Steps.{alias-size}
use Rattle.recall.specs.Recall.{first_telling, most_told, told, half_size, size_code, is_one, goes_to, named_code, step_of, step_code, base_told, end_told, many_told, size_behind, size_at, size_told, code_told, mark_told}
use Rattle.kindrows.specs.Codes as codes
use Rattle.kindrows.specs.Codes.{size_rule_of}
use Rattle.rows.proofs.RoleCodes.{size_rule_of-size_code}
use Rattle.sizes.proofs.Measured.{measures}
use Rattle.sizes.proofs.TableSizes.{step_in-rule}
use Rattle.sizes.specs.SizeStep.{step_words}
use Rattle.paper.specs.declared.Order.{Order}
use Rattle.paper.specs.rules.Kind.{SizeRule, row_of}
use Rattle.paper.specs.rules.Word.{word_at}
use Rattle.paper.specs.terms.Reading.{record_in}

-- ── one place ──

pub told-past : (memo : List ℕ) (t : ℕ) → length memo ≤ t → 0 ≡ told memo t
told-past memo t h = sym (ap (λ (m : ℕ). m - first_telling) (get_or-eq_default memo 0 h))

-- ── a base, the end of a line, a size ──

module _ (memo : List ℕ) (T : Table) (t : ℕ) where
  module _ {k : ℕ} {z : Bool} (kind : k ≡ kind_at T t) (asked : z ≡ is_alias k) where
    alias-here : z ≡ is_alias (kind_at T t)
    alias-here = asked ∙ ap is_alias kind

    pub base-alias : z ≡ true → {r : ℕ} → r ≡ told memo t → r ≡ base_told memo T t
    base-alias e d = d ∙ sym (ap (λ (b : Bool). cond b (told memo t) t) (sym alias-here ∙ e))

    pub base-other : z ≡ false → t ≡ base_told memo T t
    base-other e = sym (ap (λ (b : Bool). cond b (told memo t) t) (sym alias-here ∙ e))

  module _ {a : ℕ} (base : a ≡ base_told memo T t) {x : Step} (step : x ≡ step_in T a) {z : Bool} (one : z ≡ is_one x) where
    one-here : is_one (step_in T (base_told memo T t)) ≡ z
    one-here = ap (λ (b : ℕ). is_one (step_in T b)) (sym base) ∙ ap is_one (sym step) ∙ sym one

    end_is : end_told memo T t ≡ cond z (told memo a) a
    end_is = ap₂ (λ (b : Bool) (c : ℕ). cond b (told memo c) c) one-here (sym base)

    pub end-one : z ≡ true → {r : ℕ} → r ≡ told memo a → r ≡ end_told memo T t
    end-one e d = d ∙ sym (end_is ∙ ap (λ (b : Bool). cond b (told memo a) a) e)

    pub end-other : z ≡ false → a ≡ end_told memo T t
    end-other e = sym (end_is ∙ ap (λ (b : Bool). cond b (told memo a) a) e)

-- the size of a type that is no alias, by its step
module _ (memo : List ℕ) (T : Table) (a : ℕ) {x : Step} where
  pub at-is : {s : ℕ} → x ≡ is s → {said : Answer} → said ≡ answer_of (some s) → said ≡ answer_of (size_at memo T a x)
  at-is p d = d ∙ sym (ap (λ (y : Step). answer_of (size_at memo T a y)) p)

  pub at-sizeless : x ≡ sizeless → {said : Answer} → said ≡ answer_of none → said ≡ answer_of (size_at memo T a x)
  at-sizeless p d = d ∙ sym (ap (λ (y : Step). answer_of (size_at memo T a y)) p)

  pub at-lost : x ≡ lost → {said : Answer} → said ≡ answer_of none → said ≡ answer_of (size_at memo T a x)
  at-lost p d = d ∙ sym (ap (λ (y : Step). answer_of (size_at memo T a y)) p)

  module _ {n u : ℕ} (p : x ≡ many_of n u) {e : ℕ} (d : e ≡ told memo a) where
    many_is : {z : Bool} → eqb n 1 ≡ z → answer_of (cond z (size_behind (step_in T (told memo a)) (told memo (told memo a))) (many_told n (told memo a))) ≡ answer_of (size_at memo T a x)
    many_is o =
        sym
        (ap (λ (y : Step). answer_of (size_at memo T a y)) p
        ∙ ap (λ (z : Bool). answer_of (cond z (size_behind (step_in T (told memo a)) (told memo (told memo a))) (many_told n (told memo a)))) o)

    pub at_one : n ≡ 1 → {y : Step} → y ≡ step_in T e → {code : ℕ} → code ≡ told memo e → {said : Answer}
        → said ≡ answer_of (size_behind y code) → said ≡ answer_of (size_at memo T a x)
    at_one o q c s =
        s
        ∙ ap₂ (λ (y : Step) (code : ℕ). answer_of (size_behind y code)) q c
        ∙ ap (λ (u : ℕ). answer_of (size_behind (step_in T u) (told memo u))) d
        ∙ many_is (eq-eqb n 1 o)

    pub at-many : (n ≡ 1 → ⊥) → {said : Answer} → said ≡ answer_of (many_told n e) → said ≡ answer_of (size_at memo T a x)
    at-many o s = s ∙ ap (λ (code : ℕ). answer_of (many_told n code)) d ∙ many_is (ne_eqb n 1 o)

-- and of any, by its base and the record that some bytes begin with
pub size-base : (memo : List ℕ) (T : Table) (t : ℕ) {a : ℕ} → a ≡ base_told memo T t → (r : Record) → r ≡ record_at T a → {said : Answer}
    → said ≡ answer_of (size_at memo T a (step_of r)) → said ≡ answer_of (size_told memo T t)
unfolding size_told step_of step_in
size-base memo T t {a} base r shown s =
    s ∙ ap (λ (q : Record). answer_of (size_at memo T a (step_of q))) shown ∙ ap (λ (u : ℕ). answer_of (size_at memo T u (step_in T u))) base

-- ── the words of a record ──

-- what they say of a size is what the record says
pub step-read : (order : Order) (s : List ℕ) → step_words order s ≡ step_of (record_in order s)
unfolding step_of step_in record_in
step-read order s = step_in-rule one 1 order s refl refl refl (by (row_of (kind_in (word_at order s 4))).size)
  where
    one : Table
    one = record { records = record_in order s ∷ []; strings = [] }

    by : (rule : SizeRule) → step_by rule (word_at order s 8) (word_at order s 12) (word_at order s 20)
        ≡ step_by (size_rule_of (codes.size_code rule)) (word_at order s 8) (word_at order s 12) (word_at order s 20)
    by rule = ap (λ (q : SizeRule). step_by q (word_at order s 8) (word_at order s 12) (word_at order s 20)) (sym (size_rule_of-size_code rule))

-- ── so many times a size ──

pub product-fits : {n s : ℕ} → n < 4294967296 → s < 4294967296 → n * s < 18446744073709551616
product-fits {n} {s} h l = omega (arith, mul-le-mul {n₁ = n} {m₁ = s} {n₂ = 4294967295} {m₂ = 4294967295} (omega arith) (omega arith))

pub many-exact : (q : ℕ) → q ≤ 4294967295 → sized_as_paper (Exact q) ≡ answer_of (some q)
unfolding sized_as_paper
many-exact q h = sym (ap (λ (z : Bool). cond z (value q) (report 2 0)) (le-leb q 4294967295 h))

pub many-large : (q : ℕ) → 4294967295 < q → sized_as_paper Overflow ≡ answer_of (some q)
unfolding sized_as_paper
many-large q h = sym (ap (λ (z : Bool). cond z (value q) (report 2 0)) (lt-leb q 4294967295 h))

pub word-exact : (s : ℕ) → s < 4294967296 → sized_as_paper (Exact s) ≡ answer_of (some s)
word-exact s h = many-exact s (omega arith)

pub none_said : sized_as_paper NoSize ≡ answer_of none
unfolding sized_as_paper
none_said = refl

pub many-none : (n code : ℕ) → half_size < code → sized_as_paper NoSize ≡ answer_of (many_told n code)
many-none n code h = none_said ∙ sym (ap (λ (z : Bool). answer_of (cond z none (some (n * code)))) (lt-ltb half_size code h))

pub many-some : (n code : ℕ) → code ≤ half_size → {said : Answer} → said ≡ answer_of (some (n * code)) → said ≡ answer_of (many_told n code)
many-some n code h s = s ∙ sym (ap (λ (z : Bool). answer_of (cond z none (some (n * code)))) (le-ltb half_size code h))

-- ── a size as a code ──

module _ (r : Sized) (x : Option ℕ) (said : sized_as_paper r ≡ answer_of x) where
  pub code-small : {s : ℕ} → r ≡ Exact s → s ≤ half_size → s ≡ size_code x
  code-small {s} e h =
      sym (ap size_code (measures (Exact s) x (sym (ap sized_as_paper e) ∙ said)).0 ∙ ap (λ (z : Bool). cond z s half_size) (le-leb s half_size h))

  pub code-large : {s : ℕ} → r ≡ Exact s → half_size < s → half_size ≡ size_code x
  code-large {s} e h =
      sym (ap size_code (measures (Exact s) x (sym (ap sized_as_paper e) ∙ said)).0 ∙ ap (λ (z : Bool). cond z s half_size) (lt-leb s half_size h))

  pub code-none : r ≡ NoSize → half_size + 1 ≡ size_code x
  code-none e = sym (ap size_code (measures NoSize x (sym (ap sized_as_paper e) ∙ said)))

  pub code-over : r ≡ Overflow → half_size ≡ size_code x
  code-over e = go x (measures Overflow x (sym (ap sized_as_paper e) ∙ said))
    where
      go : (x : Option ℕ) → Rattle.sizes.specs.Measure.Measures Overflow x → half_size ≡ size_code x
      go none m = absurd (false≢true m)
      go (some s) m = let l = ltb-true 4294967295 s m in sym (ap (λ (z : Bool). cond z s half_size) (lt-leb s half_size (omega arith)))

  pub code-lost : r ≡ Lost → 0 ≡ size_code x
  code-lost e = absurd (measures Lost x (sym (ap sized_as_paper e) ∙ said))

  pub code-far : r ≡ TooFar → 0 ≡ size_code x
  code-far e = absurd (measures TooFar x (sym (ap sized_as_paper e) ∙ said))

-- ── a prototype ──

module _ (r : Record) {k : ℕ} (kind : k ≡ kind_of r) where
  pub named_other : (k ≡ FUNC_PROTO → ⊥) → 0 ≡ named_code r
  named_other n = sym (ap (λ (z : Bool). cond z (cond (all_named (parameters_of r)) 0 1) 0) (ne_eqb (kind_of r) FUNC_PROTO (λ e. n (kind ∙ e))))

  named-proto : k ≡ FUNC_PROTO → {z : Bool} → z ≡ all_named (parameters_of r) → cond z 0 1 ≡ named_code r
  named-proto e d =
      ap (λ (z : Bool). cond z 0 1) d
      ∙ sym (ap (λ (z : Bool). cond z (cond (all_named (parameters_of r)) 0 1) 0) (eq-eqb (kind_of r) FUNC_PROTO (sym kind ∙ e)))

  pub named-all : k ≡ FUNC_PROTO → {z : Bool} → z ≡ all_named (parameters_of r) → z ≡ true → 0 ≡ named_code r
  named-all e d t = sym (ap (λ (z : Bool). cond z 0 1) t) ∙ named-proto e d

  pub named-not : k ≡ FUNC_PROTO → {z : Bool} → z ≡ all_named (parameters_of r) → z ≡ false → 1 ≡ named_code r
  named-not e d t = sym (ap (λ (z : Bool). cond z 0 1) t) ∙ named-proto e d

-- ── what is to be remembered ──

module _ (memo : List ℕ) (T : Table) (r : Record) where
  abbrev by_step : Step → ℕ
  by_step x = step_code x (end_told memo T (goes_to x)) (size_told memo T) r

  code_is : {z : Bool} → is_alias (kind_of r) ≡ z → {x : Step} → x ≡ step_of r → code_told memo T r ≡ cond z (base_told memo T (goes_to x)) (by_step x)
  unfolding code_told
  code_is e p = ap₂ (λ (z : Bool) (x : Step). cond z (base_told memo T (goes_to x)) (by_step x)) e (sym p)

  module _ {x : Step} (step : x ≡ step_of r) {n u : ℕ} (p : x ≡ many_of n u) {k : ℕ} {z : Bool} (kind : k ≡ kind_of r) (asked : z ≡ is_alias k) where
    here : (b : Bool) → z ≡ b → code_told memo T r ≡ cond b (base_told memo T u) (by_step (many_of n u))
    here b e = code_is (ap is_alias (sym kind) ∙ sym asked ∙ e) (sym p ∙ step)

    pub code-alias : z ≡ true → {c : ℕ} → c ≡ base_told memo T u → c ≡ code_told memo T r
    code-alias e d = d ∙ sym (here true e)

    pub code-end : z ≡ false → n ≡ 1 → {c : ℕ} → c ≡ end_told memo T u → c ≡ code_told memo T r
    code-end e one d =
        d ∙ sym (here false e ∙ ap (λ (b : Bool). cond b (end_told memo T u) (size_code (size_told memo T u))) (eq-eqb n 1 one))

    pub code-element : z ≡ false → (n ≡ 1 → ⊥) → {c : ℕ} → c ≡ size_code (size_told memo T u) → c ≡ code_told memo T r
    code-element e more d =
        d ∙ sym (here false e ∙ ap (λ (b : Bool). cond b (end_told memo T u) (size_code (size_told memo T u))) (ne_eqb n 1 more))

  abbrev goes : Step → Bool
  goes (is s) = false
  goes (many_of n u) = true
  goes sizeless = false
  goes lost = false

  -- a step that goes nowhere is that of no alias
  stays : {x : Step} → x ≡ step_of r → goes x ≡ false → is_alias (kind_of r) ≡ false
  unfolding step_of
  stays {x} step f = go (is_alias (kind_of r)) refl
    where
      go : (z : Bool) → is_alias (kind_of r) ≡ z → z ≡ false
      go true a =
          absurd
          (false≢true
          (sym f
          ∙ ap goes (step ∙ ap (λ (rule : SizeRule). step_by rule r.third (get_or r.tail 0 0) (get_or r.tail 2 0)) (alias-size T (kind_of r) a))))
      go false a = refl

  module _ {x : Step} (step : x ≡ step_of r) {c : ℕ} (named : c ≡ named_code r) where
    pub code-is-step : {s : ℕ} → x ≡ is s → c ≡ code_told memo T r
    code-is-step {s} p = named ∙ sym (code_is (stays step (ap goes p)) (sym p ∙ step))

    pub code-sizeless : x ≡ sizeless → c ≡ code_told memo T r
    code-sizeless p = named ∙ sym (code_is (stays step (ap goes p)) (sym p ∙ step))

    pub code-lost-step : x ≡ lost → c ≡ code_told memo T r
    code-lost-step p = named ∙ sym (code_is (stays step (ap goes p)) (sym p ∙ step))

-- ── its mark ──

module _ (memo : List ℕ) (T : Table) (r : Record) {k : ℕ} (code : k ≡ code_told memo T r) where
  pub mark-large : most_told < k → first_telling ≡ mark_told memo T r
  unfolding mark_told
  mark-large h = sym (ap (λ (j : ℕ). cond (leb j most_told) (first_telling + j) first_telling) (sym code) ∙ ap (λ (z : Bool). cond z (first_telling + k) first_telling) (lt-leb k most_told h))

  pub mark-small : k ≤ most_told → first_telling + k ≡ mark_told memo T r
  unfolding mark_told
  mark-small h = sym (ap (λ (j : ℕ). cond (leb j most_told) (first_telling + j) first_telling) (sym code) ∙ ap (λ (z : Bool). cond z (first_telling + k) first_telling) (le-leb k most_told h))
