-- From an answer back to what it says of a blob: the number is 0 exactly where nothing is refused, and else the answer is the refusal.
-- Assumes nothing.
use Rattle.std.specs.Prelude.{Err, Ok, Result, ℕ}
use Rattle.paper.specs.declared.JoinError.{JoinError}
use Prim.Native.Nat.{ℕ, ◌≤◌}
use mathlib.Core.Path.{◌≡◌, refl, sym, ap, ◌∙◌}
use mathlib.Core.Bool.{Bool, true, false, cond}
use mathlib.Core.List.{List}
use mathlib.Core.Logic.{◌⊎◌}
use mathlib.Core.Option.{Option, none, some}
use native.Mathlib.Omega.{arith}
use borrow.Author.Tests.{leb-true}
use lib.Dec.{leb}
use lib.ListN.{length}
use Rattle.paper.proofs.basics.Answers.{report-number}
use Rattle.paper.proofs.gates.Numbers.{Says, refusal-number, join_refusal-number}
use Rattle.paper.specs.rules.Answer.{Answer, report, accepted, value, report_as_paper, checked_as_paper, joined_as_paper}
use Rattle.paper.specs.rules.Gate.{refusal, outcome, gate}
use Rattle.paper.specs.rules.Join.{joined_bytes, join_refusal, join_outcome, join}
use Rattle.paper.specs.rules.Limits.{size_limit}
use Rattle.paper.specs.rules.Size.{Found, exactly, none_at, lost_at, too_far, answer_of, size_answer}
use Rattle.paper.specs.rules.Table.{count}
use Rattle.paper.specs.rules.Walk.{table_of}
use Rattle.paper.specs.declared.Report.{Report}

-- ── a refusal, or else an answer of number 0 ──

abbrev said : Option Answer → Answer → Answer
said none otherwise = otherwise
said (some a) otherwise = a

said-none : (o : Option Answer) (d : Answer) → Says (λ (n : ℕ). n ≡ 0 → ⊥) o → (said o d).number ≡ 0 → (o ≡ none) × (said o d ≡ d)
said-none none d h e = (refl, refl)
said-none (some a) d h e = absurd (h e)

said-some : (o : Option Answer) (d : Answer) → d.number ≡ 0 → ((said o d).number ≡ 0 → ⊥) → o ≡ some (said o d)
said-some none d z h = absurd (h z)
said-some (some a) d z h = refl

-- numbers from 1 on are not 0
says_some : (low : ℕ) (P : ℕ → Type 0) → 1 ≤ low → (o : Option Answer) → Says (λ (n : ℕ). (low ≤ n) × P n) o → Says (λ (n : ℕ). n ≡ 0 → ⊥) o
says_some low P one none h = tt
says_some low P one (some a) h = λ e. omega (arith, h.0)

-- ── a check ──

module _ (b : List ℕ) (places work : ℕ) where
  gate-said : (gate b places work).answer ≡ said (refusal b places work) (accepted (count (table_of b)))
  unfolding gate
  gate-said = go (refusal b places work)
    where
      go : (o : Option Answer) → (outcome (table_of b) places work o).answer ≡ said o (accepted (count (table_of b)))
      go none = refl
      go (some a) = refl

  -- accepted, and then with the count
  pub answer-accepted : {x : Answer} → x ≡ (gate b places work).answer → x.number ≡ 0 → (refusal b places work ≡ none) × (x ≡ accepted (count (table_of b)))
  answer-accepted e z =
      let s = said-none (refusal b places work) (accepted (count (table_of b)))
      (says_some 1 (λ (n : ℕ). n ≤ 15) (omega arith) (refusal b places work) (refusal-number b places work))
      (ap (λ (a : Answer). a.number) (sym (e ∙ gate-said)) ∙ z) in
      (s.0, e ∙ gate-said ∙ s.1)

  -- refused, and then with the report
  pub answer-refused : {x : Answer} → x ≡ (gate b places work).answer → (x.number ≡ 0 → ⊥) → refusal b places work ≡ some x
  answer-refused {x} e h =
      said-some (refusal b places work) (accepted (count (table_of b))) refl (λ z. h (ap (λ (a : Answer). a.number) (e ∙ gate-said) ∙ z))
      ∙ ap {B = Option Answer} some (sym (e ∙ gate-said))

  -- the same of the enum that code answers
  pub checked-accepted : {n : ℕ} → checked_as_paper (Ok n) ≡ (gate b places work).answer → (refusal b places work ≡ none) × (n ≡ count (table_of b))
  unfolding checked_as_paper
  checked-accepted e = let s = answer-accepted e refl in (s.0, ap (λ (a : Answer). a.t) s.1)

  pub checked_refused : (r : Report) → checked_as_paper (Err r) ≡ (gate b places work).answer → refusal b places work ≡ some (report_as_paper r)
  unfolding checked_as_paper
  checked_refused r e = answer-refused e (report-number r)

-- ── a join ──

module _ (a b : List ℕ) (places work : ℕ) (out : List ℕ) where
  abbrev refused : Option Answer
  refused = join_refusal a b places work (length out)

  join-said : (join a b places work out).answer ≡ said refused (value (length (joined_bytes a b)))
  unfolding join
  join-said = go refused
    where
      go : (o : Option Answer) → (join_outcome (joined_bytes a b) places work out o).answer ≡ said o (value (length (joined_bytes a b)))
      go none = refl
      go (some x) = refl

  pub joined-whole : {n : ℕ} → joined_as_paper (Ok n) ≡ (join a b places work out).answer
      → (join_refusal a b places work (length out) ≡ none) × (n ≡ length (joined_bytes a b))
  unfolding joined_as_paper
  joined-whole e =
      let s = said-none refused (value (length (joined_bytes a b)))
      (says_some 16 (λ (n : ℕ). (n ≤ 20) ⊎ (n ≡ 24)) (omega arith) refused (join_refusal-number a b places work (length out)))
      (ap (λ (x : Answer). x.number) (sym (e ∙ join-said))) in
      (s.0, ap (λ (x : Answer). x.p) (e ∙ join-said ∙ s.1))

  pub joined-refused : (j : Result ℕ JoinError) → ((joined_as_paper j).number ≡ 0 → ⊥) → joined_as_paper j ≡ (join a b places work out).answer
      → join_refusal a b places work (length out) ≡ some (joined_as_paper j)
  joined-refused j h e =
      said-some refused (value (length (joined_bytes a b))) refl (λ z. h (ap (λ (x : Answer). x.number) (e ∙ join-said) ∙ z))
      ∙ ap {B = Option Answer} some (sym (e ∙ join-said))

-- ── a size ──

-- 0 exactly where a walk finds a size within the limit, and then with that size
pub size_answer-zero : (x : Found) → (size_answer x).number ≡ 0 → (x ≡ exactly (size_answer x).p) × ((size_answer x).p ≤ size_limit)
size_answer-zero none_at e = absurd (omega arith)
size_answer-zero lost_at e = absurd (omega arith)
size_answer-zero too_far e = absurd (omega arith)
size_answer-zero (exactly s) e = go (leb s size_limit) refl e
  where
    go : (t : Bool) → leb s size_limit ≡ t → (cond t (value s) (report 2 0)).number ≡ 0
        → (exactly s ≡ exactly (cond t (value s) (report 2 0)).p) × ((cond t (value s) (report 2 0)).p ≤ size_limit)
    go true x e = (refl, leb-true s size_limit x)
    go false x e = absurd (omega arith)

-- and so of an exact size
pub answer_of-zero : (o : Option ℕ) → (answer_of o).number ≡ 0 → o ≡ some (answer_of o).p
answer_of-zero none e = absurd (omega arith)
answer_of-zero (some s) e = go (leb s size_limit) e
  where
    go : (t : Bool) → (cond t (value s) (report 2 0)).number ≡ 0 → ◌≡◌ {A = Option ℕ} (some s) (some (cond t (value s) (report 2 0)).p)
    go true e = refl
    go false e = absurd (omega arith)
