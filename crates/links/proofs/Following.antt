-- The search of phase 5 from one root: where it stands in a blob, and what each of the ways of a step tells.
-- Assumes nothing.
use Prim.Native.Nat.{ℕ, ◌+◌, ◌-◌, ◌*◌, ◌≤◌, ◌<◌}
use mathlib.Core.Path.{◌≡◌, refl, sym, ap, ◌∙◌}
use mathlib.Core.Bool.{Bool, true, false, cond}
use mathlib.Core.List.{List, Memᴰ}
use mathlib.Core.Logic.{inl, inr}
use native.Mathlib.Omega.{arith}
use borrow.Author.Tests.{eqb-true, eqb-false}
use lib.Dec.{eqb, leb}
use lib.ListN.{length, get_or, set, length-set}
use Rattle.paper.specs.rules.Chain.{held_by, walks}
use Rattle.paper.specs.rules.Limits.{type_limit}
use Rattle.paper.specs.rules.Size.{step_in}
use Rattle.paper.specs.rules.Table.{Table, count, record_at}
use Rattle.links.specs.Holding.{held_from}
use Rattle.links.specs.Search.{as_root, done, many_slots, mark_of, Followable, AtRoot, OnWay, Moved, into, back, RingMet, RootDone, Followed}
use Rattle.recall.proofs.Lines.{OrVoid}
use Rattle.recall.proofs.Recalling.{Kept, mark-told}
use Rattle.recall.proofs.Steps.{goes-held}
use Rattle.recall.specs.Recall.{first_telling, most_told, told, goes_to, code_at, code_told, mark_told}
use Rattle.links.proofs.HeldTypes.{held-from-first, few-types, held_types, next-held, next-type, next_small}
use Rattle.links.proofs.Searches.{Going, going_start, going-type, going-seen, going-into, going-ring, going-finished, going-back}
use Rattle.links.proofs.Ways.{mark-fits}
use Rattle.links.proofs.Weights.{weights, weights-entered, weights-left}

-- what is left from a slot of a type on
abbrev rest_in : Table → ℕ → ℕ → List ℕ
rest_in T t j = held_from (record_at T t) j

pub done-tells : (T : Table) (x : ℕ) → first_telling ≤ done T x
unfolding done
done-tells T x = omega arith

-- a mark is that high whatever it tells
mark-high : (T : Table) (work : List ℕ) (t : ℕ) → first_telling ≤ mark_told work T (record_at T t)
unfolding mark_told
mark-high T work t = go (leb (code_told work T (record_at T t)) most_told)
  where
    go : (z : Bool) → first_telling ≤ cond z (first_telling + code_told work T (record_at T t)) first_telling
    go true = omega arith
    go false = omega arith

-- other marks, as many
followable-marks : {T : Table} {work work' : List ℕ} {n : ℕ} → Followable T n work → length work' ≡ length work → Followable T n work'
followable-marks f e = record { counted = f.counted; few = f.few; slots = f.slots; refs = f.refs; room = omega (arith, f.room) }

-- a search from a root that stands at slot j of type t, with a work slice of so many places
pub record Following (T : Table) (n size root : ℕ) (work : List ℕ) (t j : ℕ) : Type 0 where
  pub ready : Followable T n work
  pub size-kept : length work ≡ size
  pub going : Going (held_by T) (done T) (rest_in T) n work root t j

-- how much it can still do
abbrev pub to_do : ℕ → List ℕ → ℕ → ℕ
to_do n work j = weights work n * (many_slots + 1) + (many_slots - j)

pub following-start : {T : Table} {work : List ℕ} {n root : ℕ} → AtRoot T n root work → get_or work root 0 ≡ 0
    → Following T n (length (set work root as_root)) root (set work root as_root) root 0
following-start {T} {work = work} {n} {root} r new =
    record {
      ready = followable-marks r.ready (length-set work root as_root);
      size-kept = refl;
      going =
          going_start (held_by T) (done T) (rest_in T) n (held-from-first T) (done-tells T) r.clean r.passed r.low r.high
          (omega (arith, r.ready.room, r.high)) new;
    }

module _ {T : Table} {work : List ℕ} {n size root t j : ℕ} (s : Following T n size root work t j) where
  few : n ≤ type_limit
  few = few-types s.ready

  -- what is told of the types that are done is right
  abbrev Done : ℕ → Type 0
  Done x = ((1 ≤ x) × (x ≤ n)) × (get_or work x 0 ≡ done T x)

  leads-done : (x : ℕ) → ((u : ℕ) → Memᴰ u (held_by T x) → get_or work u 0 ≡ done T u) → OrVoid Done (goes_to (step_in T x))
  leads-done x all = go (eqb (goes_to (step_in T x)) 0) refl
    where
      go : (z : Bool) → eqb (goes_to (step_in T x)) 0 ≡ z → OrVoid Done (goes_to (step_in T x))
      go true e = inl (eqb-true _ _ e)
      go false e =
          let m = goes-held T x (eqb-false _ _ e) in inr (held_types s.ready x (goes_to (step_in T x)) m, all (goes_to (step_in T x)) m)

  told-right : (x : ℕ) → get_or work x 0 ≡ done T x → told work x ≡ code_at T x
  unfolding done
  told-right x e = omega arith

  ends-counted : (x : ℕ) → walks (held_by T) n x ≡ false → walks (held_by T) (count T) x ≡ false
  ends-counted x e = ap (λ (k : ℕ). walks (held_by T) k x) (sym s.ready.counted) ∙ e

  kept : Kept T work Done
  kept =
      record {
        low = λ x d. d.0.0;
        ends = λ x d. ends-counted x (s.going.ended x d.0.0 d.0.1 d.1);
        closed = λ x d. leads-done x (s.going.closed x d.0.0 d.0.1 d.1);
        right = λ x d. told-right x d.1;
      }

  -- so the mark of a type that leads to none but those is right
  mark-is : walks (held_by T) n t ≡ false → ((u : ℕ) → Memᴰ u (held_by T t) → get_or work u 0 ≡ done T u) → mark_told work T (record_at T t) ≡ done T t
  unfolding done
  mark-is e all = mark-told kept (λ x d. let f = few in omega arith) t (ends-counted t e) (leads-done t all)

  inside : (t : ℕ) → t ≤ n → t < length work
  inside t h = omega (arith, s.ready.room)

  -- its type is on the way
  pub following-type : OnWay n t work
  following-type =
      let type = going-type (held_by T) (done T) (rest_in T) n few (done-tells T) (held_types s.ready) s.going in
      let seen = going-seen (held_by T) (done T) (rest_in T) n few (done-tells T) (held_types s.ready) s.going in
      record { low = type.0; high = type.1; seen = seen.0 }

  -- a reference leads back into the way
  pub following-ring : RingMet (record_at T t) work j → walks (held_by T) n root ≡ true
  following-ring r =
      going-ring (held_by T) (done T) (rest_in T) n few (done-tells T) (held_types s.ready) s.going r.found.passed (next-held s.ready t r.found)
      r.seen r.found.unfinished n

  -- the root is finished
  pub following-finished : {work' : List ℕ} → RootDone (record_at T t) work t j (mark_told work T (record_at T t)) work' → Followed (held_by T) (done T) n root work' false
  following-finished r =
      rw r.marked
      (going-finished (held_by T) (done T) (rest_in T) n few (done-tells T) (held_types s.ready) s.going r.spent
      (inside t following-type.high) mark-is r.outer)

  -- the search goes on, with less to do
  pub following-on : {work' : List ℕ} {v i : ℕ} → Moved (record_at T t) work t j (mark_told work T (record_at T t)) work' v i
      → (to_do n work' i < to_do n work j) × Following T n size root work' v i
  following-on {v = v} (into {k} next new first marked) =
      let type = next-type s.ready t next in
      let here = following-type in
      let small = next_small s.ready t next in
      let fits = mark-fits {p = t} (omega (arith, few)) small in
      let less = weights-entered work v (mark_of t k) n type.0 type.1 (inside v type.1) new (omega arith) fits in
      rw (first, marked) (
        omega arith,
        record {
          ready = followable-marks s.ready (length-set work v (mark_of t k));
          size-kept = length-set work v (mark_of t k) ∙ s.size-kept;
          going =
              going-into (held_by T) (done T) (rest_in T) n few (done-tells T) (held_types s.ready) s.going next.passed (next-held s.ready t next)
              (held-from-first T) (omega arith) (inside v type.1) new;
        },
      )
  following-on (back spent inner parent slot marked) =
      let here = following-type in
      let seen = going-seen (held_by T) (done T) (rest_in T) n few (done-tells T) (held_types s.ready) s.going in
      let less = weights-left work t (mark_told work T (record_at T t)) n here.low here.high (inside t here.high) seen.0 seen.1 (mark-high T work t) in
      rw marked (
        omega arith,
        record {
          ready = followable-marks s.ready (length-set work t (mark_told work T (record_at T t)));
          size-kept = length-set work t (mark_told work T (record_at T t)) ∙ s.size-kept;
          going =
              going-back (held_by T) (done T) (rest_in T) n few (done-tells T) (held_types s.ready) s.going spent (inside t here.high) mark-is inner parent slot;
        },
      )
