-- Laws of `Choice`, and of the tests that rules are joined with.
-- Assumes nothing.
use Prim.Native.Nat.{ℕ, zero, suc}
use mathlib.Core.Path.{◌≡◌, refl, sym, ap, ap₂, subst, ◌∙◌}
use mathlib.Core.Bool.{Bool, true, false, not, cond, ◌&&◌, ◌||◌, false≢true}
use mathlib.Core.List.{List, [], ◌∷◌, map}
use mathlib.Core.Logic.{inl, inr}
use mathlib.Core.Option.{none, some}
use native.Mathlib.Omega.{arith}
use borrow.Author.Tests.{eqb-true, eq-eqb, not-false}
use lib.Dec.{eqb}
use lib.ListN.{get_or}
use Rattle.paper.specs.rules.Choice.{differ, same, member, every, any, is_empty, times, Rule, ◌when◌, first_due}
use Rattle.paper.specs.terms.Smallest.{NoneDue, DueFirst}

-- ── both of two tests ──

pub and_left : (a b : Bool) → a && b ≡ true → a ≡ true
and_left true b e = refl
and_left false b e = absurd (false≢true e)

pub and_right : (a b : Bool) → a && b ≡ true → b ≡ true
and_right true b e = e
and_right false b e = absurd (false≢true e)

pub and-true : {a b : Bool} → a ≡ true → b ≡ true → a && b ≡ true
and-true p q = ap₂ ◌&&◌ p q

-- the second test matters only where the first passes
pub and-cong : (a : Bool) {x y : Bool} → (a ≡ true → x ≡ y) → a && x ≡ a && y
and-cong true h = h refl
and-cong false h = refl

-- a second test that no one passes, and one that asks nothing
pub and-false : (a : Bool) → a && false ≡ false
and-false true = refl
and-false false = refl

pub and-nothing : (a : Bool) → a && true ≡ a
and-nothing true = refl
and-nothing false = refl

-- a choice by a test, whose first side matters only where it passes
pub cond-cong : {A : Type 0} (b : Bool) {x y : A} (z : A) → (b ≡ true → x ≡ y) → cond b x z ≡ cond b y z
cond-cong true z h = h refl
cond-cong false z h = refl

-- an answer that two tests must let through: it is that one, and the second test passes
pub cond-some : (a b : Bool) {k n : ℕ} → cond (a && b) (some k) none ≡ some n → (n ≡ k) × (b ≡ true)
cond-some true true e = (cc, refl)
cond-some true false e = absurd (let z : ◌≡◌ {A = ℕ} 0 1 = cc in omega arith)
cond-some false b e = absurd (let z : ◌≡◌ {A = ℕ} 0 1 = cc in omega arith)

-- ── one of two tests ──

pub or_left : {a : Bool} (b : Bool) → a ≡ true → a || b ≡ true
or_left b e = ap (λ (a : Bool). a || b) e

pub or_right : (a : Bool) {b : Bool} → b ≡ true → a || b ≡ true
or_right true e = refl
or_right false e = e

pub or_cases : {C : Type 0} (a b : Bool) → a || b ≡ true → (a ≡ true → C) → (b ≡ true → C) → C
or_cases true b e f g = f refl
or_cases false b e f g = g e

-- where no test of two passes, the first does not and the second does not
pub or-false : (a b : Bool) → a || b ≡ false → (a ≡ false) × (b ≡ false)
or-false true b e = absurd (let z : ◌≡◌ {A = ℕ} 0 1 = cc in omega arith)
or-false false b e = (refl, e)

-- and the other way
pub false-or : {a b : Bool} → a ≡ false → b ≡ false → a || b ≡ false
false-or p q = rw p q

-- a second test that no one passes
pub or_nothing : (a : Bool) → a || false ≡ a
or_nothing true = refl
or_nothing false = refl

-- a test that is asked only where another passes
pub if-same : (t : Bool) {x y : Bool} → (t ≡ true → x ≡ y) → not t || x ≡ not t || y
if-same true h = h refl
if-same false h = refl

-- a test that is asked of one number only
pub when-same : (k c : ℕ) {x y : Bool} → (k ≡ c → x ≡ y) → differ k c || x ≡ differ k c || y
when-same k c h = if-same (eqb k c) (λ e. h (eqb-true k c e))

-- ── equal numbers, equal lists ──

-- numbers that do not differ are equal
pub differ-false : (m n : ℕ) → differ m n ≡ false → m ≡ n
differ-false m n e = eqb-true m n (not-false (eqb m n) e)

-- and the other way
pub differ-equal : (m n : ℕ) → m ≡ n → differ m n ≡ false
differ-equal m n e = ap not (eq-eqb m n e)

-- lists of numbers that the test calls the same are equal
pub same_true : (xs ys : List ℕ) → same xs ys ≡ true → xs ≡ ys
same_true [] [] e = refl
same_true [] (y ∷ ys) e = absurd (let z : ◌≡◌ {A = ℕ} 0 1 = cc in omega arith)
same_true (x ∷ xs) [] e = absurd (let z : ◌≡◌ {A = ℕ} 0 1 = cc in omega arith)
same_true (x ∷ xs) (y ∷ ys) e =
    let heads : x ≡ y = eqb-true x y (and_left (eqb x y) (same xs ys) e) in
    let tails : xs ≡ ys = same_true xs ys (and_right (eqb x y) (same xs ys) e) in
    cc

-- the test calls a list the same as itself
pub same_refl : (xs : List ℕ) → same xs xs ≡ true
same_refl [] = refl
same_refl (x ∷ xs) = rw (eq-eqb x x refl) (same_refl xs)

-- what holds at each of some numbers holds at a number among them
abbrev pub Each : (ℕ → Type 0) → List ℕ → Type 0
Each P [] = Unit {0}
Each P (c ∷ cs) = P c × Each P cs

pub member-each : (P : ℕ → Type 0) (k : ℕ) (cs : List ℕ) → member k cs ≡ true → Each P cs → P k
member-each P k [] e h = absurd (false≢true e)
member-each P k (c ∷ cs) e h =
    or_cases (eqb k c) (member k cs) e (λ p. subst P (sym (eqb-true k c p)) h.0) (λ q. member-each P k cs q h.1)

-- and a test that each of some numbers passes is passed by a number among them
pub member-every : (f : ℕ → Bool) (k : ℕ) (cs : List ℕ) → member k cs ≡ true → every f cs ≡ true → f k ≡ true
member-every f k [] e h = absurd (false≢true e)
member-every f k (c ∷ cs) e h =
    or_cases (eqb k c) (member k cs) e (λ p. ap f (eqb-true k c p) ∙ and_left (f c) (every f cs) h)
    (λ q. member-every f k cs q (and_right (f c) (every f cs) h))

-- ── rules that are due ──

-- where no number is answered, no rule is due
pub first_due-none : (rules : List Rule) → first_due rules ≡ none → NoneDue rules
first_due-none [] e = tt
first_due-none (n when true ∷ rules) e = absurd (let z : ◌≡◌ {A = ℕ} 0 1 = cc in omega arith)
first_due-none (n when false ∷ rules) e = (refl, first_due-none rules e)

-- and the other way
pub none-first_due : (rules : List Rule) → NoneDue rules → first_due rules ≡ none
none-first_due [] h = refl
none-first_due (n when due ∷ rules) h = rw h.0 (none-first_due rules h.1)

-- a number that is answered is that of the first rule that is due
pub first_due-some : (rules : List Rule) (n : ℕ) → first_due rules ≡ some n → DueFirst n rules
first_due-some [] n e = let z : ◌≡◌ {A = ℕ} 0 1 = cc in omega arith
first_due-some (m when true ∷ rules) n e = inl (cc, refl)
first_due-some (m when false ∷ rules) n e = inr (refl, first_due-some rules n e)

-- ── lists ──

module _ {A : Type 0} where
  pub every-cong : {f g : A → Bool} (xs : List A) → ((x : A) → f x ≡ g x) → every f xs ≡ every g xs
  every-cong [] h = refl
  every-cong (x ∷ xs) h = ap₂ ◌&&◌ (h x) (every-cong xs h)

  -- a test that every element passes, passed wherever one looks
  pub every-get_d : (f : A → Bool) (xs : List A) (d : A) → every f xs ≡ true → f d ≡ true → (k : ℕ) → f (get_or xs k d) ≡ true
  every-get_d f [] d h e k = e
  every-get_d f (x ∷ xs) d h e zero = and_left (f x) (every f xs) h
  every-get_d f (x ∷ xs) d h e (suc k) = every-get_d f xs d (and_right (f x) (every f xs) h) e k

  pub times-nil : (n : ℕ) → times {A = A} n [] ≡ []
  times-nil zero = refl
  times-nil (suc n) = times-nil n

module _ {A B : Type 0} where
  pub every_map : (f : B → Bool) (h : A → B) (xs : List A) → every f (map h xs) ≡ every (λ (x : A). f (h x)) xs
  every_map f h [] = refl
  every_map f h (x ∷ xs) = ap (λ (t : Bool). f (h x) && t) (every_map f h xs)

  pub any-map : (f : B → Bool) (h : A → B) (xs : List A) → any f (map h xs) ≡ any (λ (x : A). f (h x)) xs
  any-map f h [] = refl
  any-map f h (x ∷ xs) = ap (λ (t : Bool). f (h x) || t) (any-map f h xs)

  pub is_empty-map : (h : A → B) (xs : List A) → is_empty (map h xs) ≡ is_empty xs
  is_empty-map h [] = refl
  is_empty-map h (x ∷ xs) = refl
