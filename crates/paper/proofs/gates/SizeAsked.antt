-- Of an accepted blob and its index, the size question answers the exact size, no size or overflow, and never 21 or 22.
-- Assumes nothing.
use Prim.Native.Nat.{ℕ, zero, suc, ◌+◌, ◌*◌, ◌≤◌, ◌<◌}
use mathlib.Core.Path.{◌≡◌, refl, ap, ap₂, ◌∙◌}
use mathlib.Core.Bool.{Bool, true, false, not, cond, ◌&&◌, ◌||◌}
use mathlib.Core.List.{List}
use native.Mathlib.Omega.{arith}
use borrow.Author.Tests.{le-leb, lt-ltb, leb-true, eqb-true}
use lib.Dec.{leb, eqb}
use lib.ListN.{length, get_or}
use Rattle.paper.proofs.basics.Choices.{and-true}
use Rattle.paper.proofs.bytes.Places.{place-low, place-high, place-word}
use Rattle.paper.proofs.bytes.Sections.{whole-at}
use Rattle.paper.proofs.basics.Rows.{row_of-every}
use Rattle.paper.proofs.bytes.Tables.{order-bytes_of}
use Rattle.paper.proofs.walks.Sizes.{next, size_by-enough, next-inside, never-far}
use Rattle.paper.specs.rules.Chain.{endless}
use Rattle.paper.specs.terms.Fit.{Fits}
use Rattle.paper.specs.rules.Header.{header_length, order_of}
use Rattle.paper.specs.rules.Kind.{Row, SizeRule, eight, size_word, count_times, referent, no_size, rows, row_of}
use Rattle.paper.specs.rules.KindNo.{ARRAY}
use Rattle.paper.specs.rules.References.{refs_ok}
use Rattle.paper.specs.rules.Size.{Step, is, many_of, sizeless, lost, Found, exactly, none_at, lost_at, too_far, step_by, scale, go_on, size_by}
use Rattle.paper.specs.rules.Size.{step_in, size_found, exact_size, answer_of, step_at_place, step_at, size_asked, size_answer, size_of}
use Rattle.paper.specs.rules.Table.{Record, Table, count, record_at, kind_in, kind_of, tail_length, words_of}
use Rattle.paper.specs.rules.Walk.{known, bytes_of, places_of}
use Rattle.paper.specs.rules.Word.{word_at}
use Rattle.paper.specs.declared.Order.{Order}

-- ── the same steps, the same size ──

go_on-same : (s : Step) (f g : ℕ → Found) → f (next s) ≡ g (next s) → go_on s f ≡ go_on s g
go_on-same (is s) f g h = refl
go_on-same (many_of n u) f g h = ap (scale n) h
go_on-same sizeless f g h = refl
go_on-same lost f g h = refl

module _ (f g : ℕ → Step) (n : ℕ) (same : (t : ℕ) → 1 ≤ t → t ≤ n → f t ≡ g t) (inside : (t : ℕ) → next (g t) ≤ n) where
  size_by-same : (k t : ℕ) → t ≤ n → size_by f k t ≡ size_by g k t
  size_by-same zero zero h = refl
  size_by-same zero (suc t) h = refl
  size_by-same (suc k) zero h = refl
  size_by-same (suc k) (suc t) h =
      ap (λ (s : Step). go_on s (λ (u : ℕ). size_by f k u)) (same (suc t) (omega arith) h)
      ∙ go_on-same (g (suc t)) (λ (u : ℕ). size_by f k u) (λ (u : ℕ). size_by g k u) (size_by-same k (next (g (suc t))) (inside (suc t)))

-- ── a table's record is never lost ──

abbrev is_lost : Found → ℕ
is_lost (exactly s) = 0
is_lost none_at = 0
is_lost lost_at = 1
is_lost too_far = 0

scale-lost : (n : ℕ) (x : Found) → is_lost (scale n x) ≡ is_lost x
scale-lost n (exactly s) = refl
scale-lost n none_at = refl
scale-lost n lost_at = refl
scale-lost n too_far = refl

go_on-lost : (s : SizeRule) (third element n : ℕ) (f : ℕ → Found) → ((u : ℕ) → is_lost (f u) ≡ 0) → is_lost (go_on (step_by s third element n) f) ≡ 0
go_on-lost eight third element n f h = refl
go_on-lost size_word third element n f h = refl
go_on-lost count_times third element n f h = scale-lost n (f element) ∙ h element
go_on-lost referent third element n f h = scale-lost 1 (f third) ∙ h third
go_on-lost no_size third element n f h = refl

never-lost : (T : Table) (k t : ℕ) → is_lost (size_by (step_in T) k t) ≡ 0
unfolding step_in
never-lost T zero zero = refl
never-lost T zero (suc t) = refl
never-lost T (suc k) zero = refl
never-lost T (suc k) (suc t) =
    let r = record_at T (suc t) in
    go_on-lost (row_of (kind_of r)).size r.third (get_or r.tail 0 0) (get_or r.tail 2 0) (λ (u : ℕ). size_by (step_in T) k u) (never-lost T k)

found-answer : (x : Found) → (x ≡ too_far → ⊥) → is_lost x ≡ 0 → size_answer x ≡ answer_of (size_found x)
found-answer (exactly s) f l = refl
found-answer none_at f l = refl
found-answer lost_at f l = absurd (omega arith)
found-answer too_far f l = absurd (f refl)

-- ── a record read at its place ──

-- only what is counted reads the tail, and then the tail has three words
abbrev pub counts_tail : SizeRule → ℕ → Bool
counts_tail eight n = true
counts_tail size_word n = true
counts_tail count_times n = leb 3 n
counts_tail referent n = true
counts_tail no_size n = true

pub step_by-same : (s : SizeRule) (k : ℕ) → counts_tail s k ≡ true → {third third' element element' n n' : ℕ} → third ≡ third'
    → (3 ≤ k → (element ≡ element') × (n ≡ n')) → step_by s third element n ≡ step_by s third' element' n'
step_by-same eight k c e h = refl
step_by-same size_word k c e h = ap is e
step_by-same count_times k c e h = let w = h (leb-true 3 k c) in ap₂ many_of w.1 w.0
step_by-same referent k c e h = ap (many_of 1) e
step_by-same no_size k c e h = refl

pub row_of-counts : (k : ℕ) → counts_tail (row_of k).size (length (row_of k).once) ≡ true
row_of-counts k = row_of-every (λ (r : Row). counts_tail r.size (length r.once)) (unfold rows in refl) k

only_if : (t : Bool) {x : Bool} → (t ≡ true → x ≡ true) → not t || x ≡ true
only_if true h = h refl
only_if false h = refl

-- ── a walk whose steps are a table's ──

module _ (T : Table) (refs : (t : ℕ) → 1 ≤ t → t ≤ count T → refs_ok T (record_at T t) ≡ true) (ends : (t : ℕ) → 1 ≤ t → t ≤ count T → endless T t ≡ false)
    (step : ℕ → Step) (same : (t : ℕ) → 1 ≤ t → t ≤ count T → step t ≡ step_in T t) where
  -- with more reads than there are types it answers the exact size
  pub steps-exact : (reads : ℕ) → count T < reads → (t : ℕ) → t ≤ count T → size_answer (size_by step reads t) ≡ answer_of (exact_size T t)
  unfolding exact_size
  steps-exact reads long t h =
      ap size_answer
      (size_by-same step (step_in T) (count T) same (next-inside T refs) reads t h
      ∙ size_by-enough (step_in T) {k = count T} {m = reads} t (omega arith) (never-far T ends t h))
      ∙ found-answer (size_by (step_in T) (count T) t) (never-far T ends t h) (never-lost T (count T) t)

-- ── a step of a table's blob, at the record's place ──

module _ (order : Order) (T : Table) (fits : Fits T) (index : List ℕ) where
  abbrev blob : List ℕ
  blob = bytes_of order T

  module _ (t : ℕ) (h : t < count T) where
    abbrev r : Record
    r = record_at T (suc t)

    abbrev p : ℕ
    p = get_or (places_of T) t 0

    tail-long : 3 ≤ length (row_of (kind_of r)).once → 3 ≤ length r.tail
    unfolding tail_length
    tail-long c = let w = (whole-at T.records fits.whole t h).whole_tail in omega arith

    word : (j : ℕ) → j < length (words_of r) → word_at (order_of blob) blob (p + 4 * j) ≡ get_or (words_of r) j 0
    word j l = ap (λ (o : Order). word_at o blob (p + 4 * j)) (order-bytes_of order T) ∙ place-word order T fits t h j l

    inside-blob : (k : ℕ) → k ≤ 3 + length r.tail → p + 4 * k ≤ length blob
    inside-blob k l = let e = place-high order T t h in omega arith

    pub step-at-place : step_at_place blob index p ≡ step_in T (suc t)
    unfolding step_at_place step_in
    step-at-place =
        ap (λ (w : ℕ). cond
        (leb header_length p && leb (p + 12) (length blob) && known (kind_in w) && (not (eqb (kind_in w) ARRAY) || leb (p + 24) (length blob)))
        (step_by (row_of (kind_in w)).size (word_at (order_of blob) blob (p + 8)) (word_at (order_of blob) blob (p + 12)) (word_at (order_of blob) blob (p + 20)))
        lost)
        (word 1 (omega arith))
        ∙ ap (λ (c : Bool). cond c
        (step_by (row_of (kind_of r)).size (word_at (order_of blob) blob (p + 8)) (word_at (order_of blob) blob (p + 12)) (word_at (order_of blob) blob (p + 20)))
        lost)
        (and-true (and-true (and-true (le-leb header_length p (place-low T t h)) (le-leb (p + 12) (length blob) (inside-blob 3 (omega arith))))
        (whole-at T.records fits.whole t h).known_kind)
        (only_if (eqb (kind_of r) ARRAY) (λ e. le-leb (p + 24) (length blob) (array-inside (eqb-true (kind_of r) ARRAY e)))))
        ∙ step_by-same (row_of (kind_of r)).size (length (row_of (kind_of r)).once) (row_of-counts (kind_of r)) (word 2 (omega arith))
        (λ c. let l = tail-long c in (word 3 (omega arith), word 5 (omega arith)))
      where
        array-inside : kind_of r ≡ ARRAY → p + 24 ≤ length blob
        array-inside e = inside-blob 6 (omega (arith, tail-long (unfold row_of rows in omega (arith, ap (λ (k : ℕ). length (row_of k).once) e))))

  -- by an index that has the place
  pub step-placed : (t k : ℕ) → t < count T → k < length index → get_or index k 0 ≡ get_or (places_of T) t 0 → step_at blob index k ≡ step_in T (suc t)
  unfolding step_at
  step-placed t k h long at =
      ap (λ (c : Bool). cond c (step_at_place blob index (get_or index k 0)) lost) (lt-ltb k (length index) long)
      ∙ ap (step_at_place blob index) at
      ∙ step-at-place t h

module _ (order : Order) (T : Table) (fits : Fits T) (refs : (t : ℕ) → 1 ≤ t → t ≤ count T → refs_ok T (record_at T t) ≡ true)
    (ends : (t : ℕ) → 1 ≤ t → t ≤ count T → endless T t ≡ false) (index : List ℕ) (long : count T < length index)
    (at : (t : ℕ) → t < count T → get_or index (suc t) 0 ≡ get_or (places_of T) t 0) where
  abbrev b : List ℕ
  b = bytes_of order T

  step-at : (t : ℕ) → 1 ≤ t → t ≤ count T → step_at b index t ≡ step_in T t
  step-at zero low high = absurd (omega arith)
  step-at (suc t) low high = step-placed order T fits index t (suc t) high (omega arith) (at t high)

  -- the size question of an accepted table's blob and an index with its places is answered by the exact size
  pub size_of-exact : (t : ℕ) → t ≤ count T → size_of b index t ≡ answer_of (exact_size T t)
  unfolding size_of size_asked
  size_of-exact t h = steps-exact T refs ends (step_at b index) step-at (length index) long t h
