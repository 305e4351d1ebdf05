-- A cut of tables: the parts of a good table are good and join to it, and the parts of a join are what was joined.
-- Assumes nothing.
use Prim.Native.Nat.{ℕ, zero, suc, ◌+◌, ◌-◌, ◌≤◌}
use mathlib.Core.Path.{◌≡◌, refl, sym, ap, ap₂, ◌∙◌, subst}
use mathlib.Core.Bool.{Bool, true, ◌&&◌}
use mathlib.Core.List.{List, [], ◌∷◌, ◌++◌, map}
use native.Mathlib.Omega.{arith}
use borrow.Author.Tests.{eqb-true, leb-true, ltb-true, eq-eqb, le-leb, lt-ltb}
use lib.Dec.{leb, ltb}
use lib.ListN.{length, get_or, take, drop, take-append-drop, length-drop, length-map, get_or-map}
use lib.Seq.{length-take-le, get_or-take, get_or-drop}
use Rattle.parts.proofs.Lowering.{raised-lowered}
use Rattle.parts.specs.Cut.{points_before, points_behind, cut_tests, cut_ok, first_part, lowered, second_part}
use Rattle.paper.proofs.basics.Choices.{and_left, and_right, and-true, every-get_d}
use Rattle.paper.proofs.bytes.Sections.{whole-at}
use Rattle.paper.proofs.joins.JoinFits.{whole-rename}
use Rattle.paper.proofs.joins.Joining.{sound_back, first-renaming, second-renaming}
use Rattle.paper.proofs.renaming.Rename.{rename-nothing}
use Rattle.paper.proofs.renaming.Renaming.{Renaming, inside, Inside}
use Rattle.paper.proofs.walks.Insides.{sound-inside}
use Rattle.paper.specs.rules.Choice.{every}
use Rattle.paper.specs.rules.Join.{join_tables}
use Rattle.paper.specs.rules.Kind.{Role, names, refers, holds, number, row_of, rows}
use Rattle.paper.specs.rules.Rename.{rename_word, rename_words, rename, raise}
use Rattle.paper.specs.rules.Table.{Record, Table, count, nothing, record_at, roles_of, tail_roles, words_of, every_roled, every_word}
use Rattle.paper.specs.terms.Fit.{Whole, EveryWhole}
use Rattle.paper.specs.terms.Good.{Closed, SoundAt, Good}

-- ── what a cut asks, one by one ──

pub record CutFacts (n s : ℕ) (T : Table) : Type 0 where
  pub few : n ≤ count T
  pub filled : 1 ≤ s
  pub long : s ≤ length T.strings
  pub zero_before : get_or T.strings (s - 1) 0 ≡ 0
  pub before : every (every_word (points_before n s)) (take n T.records) ≡ true
  pub behind : every (every_word (points_behind n s)) (drop n T.records) ≡ true

-- all tests of a list pass
abbrev Each : List Bool → Type 0
Each [] = Unit {0}
Each (t ∷ ts) = (t ≡ true) × Each ts

every-each : (ts : List Bool) → every (λ (t : Bool). t) ts ≡ true → Each ts
every-each [] e = tt
every-each (t ∷ ts) e = (and_left t (every (λ (t : Bool). t) ts) e, every-each ts (and_right t (every (λ (t : Bool). t) ts) e))

each-every : (ts : List Bool) → Each ts → every (λ (t : Bool). t) ts ≡ true
each-every [] h = refl
each-every (t ∷ ts) h = and-true h.0 (each-every ts h.1)

module _ (n s : ℕ) (T : Table) where
  pub cut_ok-facts : cut_ok n s T ≡ true → CutFacts n s T
  unfolding cut_ok
  cut_ok-facts e =
      let each = every-each (cut_tests n s T) e in
      record {
        few = leb-true _ _ each.0;
        filled = leb-true _ _ each.1.0;
        long = leb-true _ _ each.1.1.0;
        zero_before = eqb-true _ _ each.1.1.1.0;
        before = each.1.1.1.1.0;
        behind = each.1.1.1.1.1.0;
      }

  pub facts-cut_ok : CutFacts n s T → cut_ok n s T ≡ true
  unfolding cut_ok
  facts-cut_ok c =
      each-every (cut_tests n s T)
      (le-leb _ _ c.few, (le-leb _ _ c.filled, (le-leb _ _ c.long, (eq-eqb _ _ c.zero_before, (c.before, (c.behind, tt))))))

-- ── the parts of a table that a cut goes through ──

module _ {n s : ℕ} {T : Table} (c : CutFacts n s T) where
  pub count-first : count (first_part n s T) ≡ n
  unfolding first_part
  count-first = length-take-le n T.records c.few

  pub length-first : length (first_part n s T).strings ≡ s
  unfolding first_part
  length-first = length-take-le s T.strings c.long

  pub count-second : n + count (second_part n s T) ≡ count T
  unfolding second_part
  count-second =
      let l : count (second_part n s T) ≡ count T - n = length-map (drop n T.records) (lowered n s) ∙ length-drop n T.records in
      let f = c.few in
      omega arith

  raise-all : (rs : List Record) → every (every_word (points_behind n s)) rs ≡ true
      → map (rename (raise n) (raise (s - 1))) (map (lowered n s) rs) ≡ rs
  raise-all [] h = refl
  raise-all (r ∷ rs) h =
      ap₂ {C = List Record} ◌∷◌ (raised-lowered n s c.filled r (and_left (every_word (points_behind n s) r) _ h))
      (raise-all rs (and_right (every_word (points_behind n s) r) _ h))

  -- they join to it
  pub join-parts : join_tables (first_part n s T) (second_part n s T) ≡ T
  unfolding join_tables first_part second_part
  join-parts =
      let rs = map (lowered n s) (drop n T.records) in
      λ i. record {
        records =
            (ap₂ (λ (x y : ℕ). take n T.records ++ map (rename (raise x) (raise (y - 1))) rs) count-first length-first
            ∙ ap (λ (qs : List Record). take n T.records ++ qs) (raise-all (drop n T.records) c.behind)
            ∙ take-append-drop n T.records) i;
        strings = take-append-drop s T.strings i;
      }

  module _ (closed : Closed T.strings) where
    pub closed-first : Closed (first_part n s T).strings
    unfolding first_part
    closed-first =
        let f = c.filled in
        let l = length-first in
        record {
          filled = omega arith;
          first = get_or-take s T.strings 0 0 f ∙ closed.first;
          last = ap (λ (k : ℕ). get_or (take s T.strings) (k - 1) 0) l ∙ get_or-take s T.strings (s - 1) 0 (omega arith) ∙ c.zero_before;
        }

    last-behind : (k : ℕ) → length (drop s T.strings) ≡ k → get_or (0 ∷ drop s T.strings) k 0 ≡ 0
    last-behind zero e = refl
    last-behind (suc k) e =
        let d = length-drop s T.strings in
        let at : s + k ≡ length T.strings - 1 = omega arith in
        get_or-drop s T.strings k 0 ∙ ap (λ (i : ℕ). get_or T.strings i 0) at ∙ closed.last

    pub closed-second : Closed (second_part n s T).strings
    unfolding second_part
    closed-second =
        let k : ℕ = length (drop s T.strings) in
        let at : suc k - 1 ≡ k = omega arith in
        record { filled = omega arith; first = refl; last = ap (λ (i : ℕ). get_or (0 ∷ drop s T.strings) i 0) at ∙ last-behind k refl }

-- ── and are good where it is ──

-- void points at nothing
inside-nothing : (A : Table) → 1 ≤ length A.strings → Inside A nothing
unfolding tail_roles row_of rows
inside-nothing A h = ap (λ (b : Bool). b && true) (lt-ltb 0 (length A.strings) h)

pub whole_take : (k : ℕ) (rs : List Record) → EveryWhole rs → EveryWhole (take k rs)
whole_take zero rs w = tt
whole_take (suc k) [] w = tt
whole_take (suc k) (r ∷ rs) w = (w.0, whole_take k rs w.1)

pub whole_drop : (k : ℕ) (rs : List Record) → EveryWhole rs → EveryWhole (drop k rs)
whole_drop zero rs w = w
whole_drop (suc k) [] w = tt
whole_drop (suc k) (r ∷ rs) w = whole_drop k rs w.1

records-whole : (A : Table) → EveryWhole A.records → (t : ℕ) → 1 ≤ t → t ≤ count A → Whole (record_at A t)
records-whole A w zero low high = absurd (omega arith)
records-whole A w (suc t) low high = whole-at A.records w t high

module _ {n s : ℕ} {T : Table} (c : CutFacts n s T) (g : Good T) where
  abbrev A : Table
  A = first_part n s T

  abbrev B : Table
  B = second_part n s T

  closed-A : Closed (first_part n s T).strings
  closed-A = closed-first c g.closed

  closed-B : Closed (second_part n s T).strings
  closed-B = closed-second c g.closed

  -- ── the first ──

  before-inside : (ρ : Role) (w : ℕ) → points_before n s ρ w ≡ inside (first_part n s T) ρ w
  before-inside (names rule) w = ap (ltb w) (sym (length-first c))
  before-inside (refers rule) w = ap (leb w) (sym (count-first c))
  before-inside (holds rule) w = ap (leb w) (sym (count-first c))
  before-inside number w = refl

  inside-first : (t : ℕ) → t ≤ count A → Inside A (record_at A t)
  unfolding first_part
  inside-first zero h = inside-nothing A closed-A.filled
  inside-first (suc t) h =
      every-get_d (every_word (inside A)) (take n T.records) nothing
      ((λ i. every (every_word (λ ρ w. sym (before-inside ρ w) i)) (take n T.records)) ∙ c.before)
      (inside-nothing A closed-A.filled) t

  first_of : Renaming (first_part n s T) T (λ k. k) (λ k. k)
  first_of = subst (λ (J : Table). Renaming A J (λ k. k) (λ k. k)) (join-parts c) (first-renaming A B closed-A closed-B)

  pub good-first : Good (first_part n s T)
  unfolding first_part
  good-first =
      let w = whole_take n T.records g.whole in
      let f = count-first c in
      let few = c.few in
      record {
        sound = sound_back first_of inside-first (records-whole A w) (λ t low high. g.sound t low (omega arith));
        closed = closed-A;
        whole = w;
      }

  -- ── the second ──

  word-lowered : (ρ : Role) (w : ℕ) → inside T ρ w ≡ true → inside (second_part n s T) ρ (rename_word (λ v. v - n) (λ v. v - (s - 1)) ρ w) ≡ true
  unfolding second_part
  word-lowered (names rule) w h =
      let l = ltb-true w (length T.strings) h in
      let d = length-drop s T.strings in
      let long = c.long in
      let f = c.filled in
      lt-ltb (w - (s - 1)) (length (0 ∷ drop s T.strings)) (omega arith)
  word-lowered (refers rule) w h = let l = leb-true w (count T) h in let k = count-second c in le-leb (w - n) (count B) (omega arith)
  word-lowered (holds rule) w h = let l = leb-true w (count T) h in let k = count-second c in le-leb (w - n) (count B) (omega arith)
  word-lowered number w h = refl

  words-lowered : (ρs : List Role) (ws : List ℕ) → every_roled (inside T) ρs ws ≡ true
      → every_roled (inside (second_part n s T)) ρs (rename_words (λ v. v - n) (λ v. v - (s - 1)) ρs ws) ≡ true
  words-lowered [] ws h = refl
  words-lowered (ρ ∷ ρs) [] h = refl
  words-lowered (ρ ∷ ρs) (w ∷ ws) h =
      and-true (word-lowered ρ w (and_left (inside T ρ w) _ h)) (words-lowered ρs ws (and_right (inside T ρ w) _ h))

  record-lowered : (r : Record) → Inside T r → Inside (second_part n s T) (lowered n s r)
  unfolding lowered rename tail_roles
  record-lowered r h = words-lowered (roles_of r) (words_of r) h

  lowered-nothing : lowered n s nothing ≡ nothing
  unfolding lowered
  lowered-nothing = rename-nothing (λ v. v - n) (λ v. v - (s - 1)) (omega arith)

  second_at : (t : ℕ) → record_at (second_part n s T) (suc t) ≡ lowered n s (record_at T (suc (n + t)))
  unfolding second_part
  second_at t =
      ap (get_or (map (lowered n s) (drop n T.records)) t) (sym lowered-nothing)
      ∙ get_or-map (lowered n s) (drop n T.records) t nothing
      ∙ ap (lowered n s) (get_or-drop n T.records t nothing)

  inside-second : (t : ℕ) → t ≤ count B → Inside B (record_at B t)
  inside-second zero h = inside-nothing B closed-B.filled
  inside-second (suc t) h =
      let k = count-second c in
      subst (Inside B) (sym (second_at t)) (record-lowered (record_at T (suc (n + t))) (sound-inside g.sound g.closed.filled (suc (n + t)) (omega arith)))

  second-of : Renaming (second_part n s T) T (raise n) (raise (s - 1))
  second-of =
      subst (λ (J : Table). Renaming B J (raise n) (raise (s - 1))) (join-parts c)
      (subst (λ (x : ℕ). Renaming B (join_tables A B) (raise x) (raise (s - 1))) (count-first c)
      (subst (λ (y : ℕ). Renaming B (join_tables A B) (raise (count A)) (raise (y - 1))) (length-first c) (second-renaming A B closed-A closed-B)))

  sound-raised : (t : ℕ) → 1 ≤ t → t ≤ count B → SoundAt T (raise n t)
  sound-raised zero low high = absurd (omega arith)
  sound-raised (suc t) low high = let k = count-second c in g.sound (suc t + n) (omega arith) (omega arith)

  pub good-second : Good (second_part n s T)
  unfolding second_part lowered
  good-second =
      let w = whole-rename (λ v. v - n) (λ v. v - (s - 1)) (drop n T.records) (whole_drop n T.records g.whole) in
      record {
        sound = sound_back second-of inside-second (records-whole B w) sound-raised;
        closed = closed-B;
        whole = w;
      }
