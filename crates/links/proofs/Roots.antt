-- The roots of phase 5 in order: those passed have no endless walk, so what is said from here on is what is said at all. Over walks of either sort.
-- Assumes nothing.
use Rattle.std.specs.Prelude.{None, Some}
use Prim.Native.Nat.{ℕ, zero, suc, ◌+◌, ◌-◌, ◌≤◌, ◌<◌}
use mathlib.Core.Path.{◌≡◌, refl, sym, ap, ◌∙◌, subst}
use mathlib.Core.Bool.{Bool, true, false, cond, ◌&&◌}
use mathlib.Core.List.{List, [], ◌∷◌}
use mathlib.Core.Logic.{inl, inr, ⊎_elim}
use mathlib.Core.Option.{Option, none, some}
use native.Mathlib.Numerals.{add-one}
use native.Mathlib.Omega.{arith}
use borrow.Author.Tests.{leb-true, leb-false}
use lib.Dec.{leb}
use lib.ListN.{length, get_or}
use Rattle.paper.specs.rules.Answer.{Answer, report_at}
use Rattle.paper.specs.rules.Chain.{held_by, walks}
use Rattle.paper.specs.rules.Choice.{◌when◌, first_due, or_else}
use Rattle.paper.specs.rules.Gate.{naming_at, first_of, over_types, zeros}
use Rattle.paper.specs.rules.Table.{Table, count}
use Rattle.paper.specs.rules.Walk.{place_at}
use Rattle.links.proofs.Following.{done-tells}
use Rattle.links.specs.Search.{done, mark_at, Followable, Unsearched, AtRoot, Clean, Followed, ChainsOf, rings_by}
use Rattle.paper.specs.declared.TypeNo.{TypeNo}

-- ── marks between two roots ──

pub get_d-zeros : (k x : ℕ) → get_or (zeros k) x 0 ≡ 0
get_d-zeros zero x = refl
get_d-zeros (suc k) zero = refl
get_d-zeros (suc k) (suc x) = get_d-zeros k x

pub clean-start : (T : Table) (n k : ℕ) {work : List ℕ} → work ≡ zeros k → Clean (held_by T) (done T) n work
clean-start T n k {work} e =
    record {
      marks = λ x l h. inl (new x);
      ended = λ x l h d. absurd (let z = sym (new x) ∙ d in omega (arith, done-tells T x));
      closed = λ x l h d. absurd (let z = sym (new x) ∙ d in omega (arith, done-tells T x));
      outside = λ x h. new x;
    }
  where
    new : (x : ℕ) → get_or work x 0 ≡ 0
    new x = ap (λ (s : List ℕ). get_or s x 0) e ∙ get_d-zeros k x

-- what is asked of a work slice is its length
pub followable-sized : {T : Table} {work work' : List ℕ} {n : ℕ} → Followable T n work → length work' ≡ length work → Followable T n work'
followable-sized f same = record { counted = f.counted; few = f.few; slots = f.slots; refs = f.refs; room = omega (arith, f.room) }

-- a root that was seen before needs no search
pub root-seen : {T : Table} {work : List ℕ} {n root : ℕ} → AtRoot T n root work → (get_or work root 0 ≡ 0 → ⊥)
    → Followed (held_by T) (done T) n root work false
root-seen {T} {work} {root = root} r seen = (r.clean.ended root r.low r.high here, (λ x l h. up_to x l (leb root x) refl h), r.clean)
  where
    here : get_or work root 0 ≡ done T root
    here = ⊎_elim (λ z. absurd (seen z)) (λ d. d) (r.clean.marks root r.low r.high)

    up_to : (x : ℕ) → 1 ≤ x → (z : Bool) → leb root x ≡ z → x ≤ root → get_or work x 0 ≡ done T x
    up_to x l true e h = let b = leb-true root x e in let same : root ≡ x = omega arith in subst (λ (y : ℕ). get_or work y 0 ≡ done T y) same here
    up_to x l false e h = r.passed x l (leb-false root x e)

-- ── what is said of the types from a root on ──

module _ (step : Table → ℕ → List ℕ) (T : Table) where
  -- 14 by the walks of one sort, of so many types from t on
  abbrev pub first_ring : ℕ → ℕ → Option Answer
  first_ring left t = first_of (place_at T) (rings_by step T) left t

  pub first_ring-next : (left t : ℕ) {z : Bool} → walks (step T) (count T) t ≡ z
      → first_ring (suc left) t ≡ cond z (some (report_at 14 t (place_at T t))) (first_ring left (suc t))
  first_ring-next left t {z} e =
      ap (λ (b : Bool). or_else (naming_at t (place_at T t) (first_due (14 when b ∷ []))) (first_ring left (suc t))) e ∙ go z
    where
      go : (b : Bool)
          → or_else (naming_at t (place_at T t) (first_due (14 when b ∷ []))) (first_ring left (suc t))
          ≡ cond b (some (report_at 14 t (place_at T t))) (first_ring left (suc t))
      go true = refl
      go false = refl

  -- the roots up to t have no endless walk: what is said from here on is what is said at all
  pub record Left (n t : ℕ) : Type 0 where
    pub counted : n ≡ count T
    pub few : t ≤ n
    pub rest : over_types (rings_by step) T ≡ first_ring (n - t) (t + 1)

  pub left-start : {n : ℕ} → n ≡ count T → Left n 0
  unfolding over_types
  left-start {n} e =
      let all : count T ≡ n - 0 = omega arith in
      record { counted = e; few = omega arith; rest = ap (λ (k : ℕ). first_ring k 1) all }

  module _ {n t : ℕ} (l : Left n t) where
    pub left-done : n ≤ t → none ≡ over_types (rings_by step) T
    left-done h = let nothing : n - t ≡ 0 = omega arith in sym (l.rest ∙ ap (λ (k : ℕ). first_ring k (t + 1)) nothing)

    module _ (more : t < n) {z : Bool} (e : walks (step T) n (t + 1) ≡ z) where
      -- a walk of as many steps as there are types is an endless one
      here : over_types (rings_by step) T ≡ cond z (some (report_at 14 (t + 1) (place_at T (t + 1)))) (first_ring (n - (t + 1)) (suc (t + 1)))
      here =
          let one : n - t ≡ suc (n - (t + 1)) = omega arith in
          l.rest
          ∙ ap (λ (k : ℕ). first_ring k (t + 1)) one
          ∙ first_ring-next (n - (t + 1)) (t + 1) (ap (λ (k : ℕ). walks (step T) k (t + 1)) (sym l.counted) ∙ e)

      pub left-ring : z ≡ true → some (report_at 14 (t + 1) (place_at T (t + 1))) ≡ over_types (rings_by step) T
      left-ring is = sym (here ∙ ap (λ (b : Bool). cond b (some (report_at 14 (t + 1) (place_at T (t + 1)))) (first_ring (n - (t + 1)) (suc (t + 1)))) is)

      pub left-next : z ≡ false → Left n (t + 1)
      left-next is =
          record {
            counted = l.counted;
            few = omega arith;
            rest =
                here
                ∙ ap (λ (b : Bool). cond b (some (report_at 14 (t + 1) (place_at T (t + 1)))) (first_ring (n - (t + 1)) (suc (t + 1)))) is
                ∙ ap (first_ring (n - (t + 1))) (sym (add-one (t + 1)));
          }

-- ── the roots passed, by value ──

pub record Rooting (T : Table) (n size : ℕ) (work : List ℕ) (t : ℕ) : Type 0 where
  pub ready : Followable T n work
  pub size-kept : length work ≡ size
  pub clean : Clean (held_by T) (done T) n work
  pub passed : (x : ℕ) → 1 ≤ x → x ≤ t → get_or work x 0 ≡ done T x
  pub left : Left held_by T n t

pub rooting-start : {T : Table} {work : List ℕ} {n : ℕ} → Unsearched T n work → Rooting T n (length work) work 0
rooting-start {T} {work = work} {n} s =
    record {
      ready = s.ready;
      size-kept = refl;
      clean = clean-start T n (length work) s.unmarked;
      passed = λ x l h. absurd (omega arith);
      left = left-start held_by T s.ready.counted;
    }

module _ {T : Table} {work : List ℕ} {n size t : ℕ} (r : Rooting T n size work t) where
  -- every type is done, and nothing else is marked
  rooting-marks : n ≤ t → (x : ℕ) → get_or work x 0 ≡ mark_at T n x
  rooting-marks h x = go (leb 1 x) refl (leb x n) refl
    where
      go : (a : Bool) → leb 1 x ≡ a → (b : Bool) → leb x n ≡ b → get_or work x 0 ≡ cond (a && b) (done T x) 0
      go true e true f = r.passed x (leb-true 1 x e) (let k = leb-true x n f in omega arith)
      go true e false f = r.clean.outside x (inr (leb-false x n f))
      go false e b f = r.clean.outside x (inl (let k = leb-false 1 x e in let none : x ≡ 0 = omega arith in none))

  pub rooting-done : n ≤ t → ChainsOf T n None work
  rooting-done h = record { says = left-done held_by T r.left h; leaves = rooting-marks h }

  module _ (more : t < n) where
    pub rooting-ring : {work' : List ℕ} {u : TypeNo} → u.0 ≡ t + 1 → walks (held_by T) n (t + 1) ≡ true → ChainsOf T n (Some u) work'
    rooting-ring {u = u} same e =
        record { says = ap (λ (v : ℕ). some (report_at 14 v (place_at T v))) same ∙ left-ring held_by T r.left more e refl; leaves = tt }

    pub rooting-asks : AtRoot T n (t + 1) work
    rooting-asks =
        record { ready = r.ready; clean = r.clean; passed = λ x l h. r.passed x l (omega arith); low = omega arith; high = omega arith }

    pub rooting-next : {work' : List ℕ} → length work' ≡ length work → Followed (held_by T) (done T) n (t + 1) work' false → Rooting T n size work' (t + 1)
    rooting-next same followed =
        record {
          ready = followable-sized r.ready same;
          size-kept = same ∙ r.size-kept;
          clean = followed.2;
          passed = followed.1;
          left = left-next held_by T r.left more followed.0 refl;
        }
