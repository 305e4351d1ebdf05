-- Phase 5 in the work slice: what a type's mark says, what one step of the search does, and what is known between two roots.
use Rattle.paper.specs.declared.TypeNo.{TypeNo}
use Rattle.std.specs.Prelude.{ℕ, ◌+◌, ◌-◌, ◌*◌, ◌/◌, ◌%◌, ◌≤◌, ◌<◌, ◌≡◌, Bool, true, false, cond, ◌&&◌, ◌⊎◌, leb, ltb, length, get_or, set, None, Option as RustOption, Some}
use mathlib.Core.List.{List, [], ◌∷◌, Memᴰ}
use Rattle.std.proofs.Math.Option.{Option, none, some}
use Rattle.links.specs.declared.chains.Move.{Move}
use Rattle.links.specs.declared.chains.Move.TheVariants.{On, Met, Finished}
use Rattle.links.specs.Holding.{slots_of, HeldIs, NextOpen}
use Rattle.paper.specs.rules.Answer.{Answer, report_at}
use Rattle.paper.specs.rules.Chain.{held_by, walks}
use Rattle.paper.specs.rules.Choice.{Rule, ◌when◌}
use Rattle.paper.specs.rules.Gate.{over_types, phase5, zeros}
use Rattle.paper.specs.rules.Limits.{type_limit}
use Rattle.paper.specs.rules.References.{refs_ok}
use Rattle.paper.specs.rules.Table.{Record, Table, count, record_at}
use Rattle.paper.specs.rules.Walk.{place_at}
use Rattle.recall.specs.Recall.{first_telling, code_at}

-- ── marks: 0 is a type not yet seen; one of which nothing is left to be looked at is done, and has what is remembered of it ──

unfoldable pub done : Table → ℕ → ℕ
done T x = first_telling + code_at T x

-- the type that the search began with is on the way
abbrev pub as_root : ℕ
as_root = 1

-- the most slots that a record has: one for each of 65,535 members
abbrev pub most_slots : ℕ
most_slots = 65535

-- and one more, so that a mark tells the type from the slot
abbrev pub many_slots : ℕ
many_slots = most_slots + 1

-- on the way: entered from p, whose slots are to be looked at from k on
abbrev pub mark_of : ℕ → ℕ → ℕ
mark_of p k = 1 + p * many_slots + k

-- ── what the search is asked of ──

-- a table of few types whose references are good, and a place in the work slice for each
pub record Followable (T : Table) (n : ℕ) (work : List ℕ) : Type 0 where
  pub counted : n ≡ count T
  pub few : n ≤ type_limit
  pub slots : (t : ℕ) → length (slots_of (record_at T t)) ≤ most_slots
  pub refs : (t : ℕ) → 1 ≤ t → t ≤ n → refs_ok T (record_at T t) ≡ true
  pub room : n < length work

-- and no type is marked yet
pub record Unsearched (T : Table) (n : ℕ) (work : List ℕ) : Type 0 where
  pub ready : Followable T n work
  pub unmarked : work ≡ zeros (length work)

-- ── one step, from slot j of type t ──

-- t is a type on the way
pub record OnWay (n t : ℕ) (work : List ℕ) : Type 0 where
  pub low : 1 ≤ t
  pub high : t ≤ n
  pub seen : 1 ≤ get_or work t 0

-- the search goes on at slot i of type v, with these marks; t gets its own when nothing is left of it
pub data Moved (r : Record) (work : List ℕ) (t j mark : ℕ) (work' : List ℕ) (v i : ℕ) : Type 0 where
  -- the next type that is not done was not seen yet
  into : {k : ℕ} → NextOpen r work j v k → get_or work v 0 ≡ 0 → i ≡ 0 → work' ≡ set work v (mark_of t k) → Moved r work t j mark work' v i
  -- there is none: back to where t was entered from
  back : HeldIs r work j None → (get_or work t 0 ≡ as_root → ⊥) → v ≡ (get_or work t 0 - 1) / many_slots → i ≡ (get_or work t 0 - 1) % many_slots
      → work' ≡ set work t mark → Moved r work t j mark work' v i

-- the next type that is not done is on the way itself
pub record RingMet (r : Record) (work : List ℕ) (j : ℕ) : Type 0 where
  pub type : ℕ
  pub slot : ℕ
  pub found : NextOpen r work j type slot
  pub seen : get_or work type 0 ≡ 0 → ⊥

-- all that the root holds is done
pub record RootDone (r : Record) (work : List ℕ) (t j mark : ℕ) (work' : List ℕ) : Type 0 where
  pub spent : HeldIs r work j None
  pub outer : get_or work t 0 ≡ as_root
  pub marked : work' ≡ set work t mark

abbrev pub MoveOf : Record → List ℕ → ℕ → ℕ → ℕ → List ℕ → Move → Type 0
MoveOf r work t j mark work' (On v i) = Moved r work t j mark work' v.0 i
MoveOf r work t j mark work' Met = RingMet r work j
MoveOf r work t j mark work' Finished = RootDone r work t j mark work'

-- ── between two roots ──

-- no type of n is on the way, those that are done lead to none that is not, nor to an endless walk, and no other place is marked
pub record Clean (held : ℕ → List ℕ) (mark : ℕ → ℕ) (n : ℕ) (work : List ℕ) : Type 0 where
  pub marks : (x : ℕ) → 1 ≤ x → x ≤ n → (get_or work x 0 ≡ 0) ⊎ (get_or work x 0 ≡ mark x)
  pub ended : (x : ℕ) → 1 ≤ x → x ≤ n → get_or work x 0 ≡ mark x → walks held n x ≡ false
  pub closed : (x : ℕ) → 1 ≤ x → x ≤ n → get_or work x 0 ≡ mark x → (u : ℕ) → Memᴰ u (held x) → get_or work u 0 ≡ mark u
  pub outside : (x : ℕ) → (x ≡ 0) ⊎ (n < x) → get_or work x 0 ≡ 0

-- a type is to be taken as a root
pub record AtRoot (T : Table) (n root : ℕ) (work : List ℕ) : Type 0 where
  pub ready : Followable T n work
  pub clean : Clean (held_by T) (done T) n work
  pub passed : (x : ℕ) → 1 ≤ x → x < root → get_or work x 0 ≡ done T x
  pub low : 1 ≤ root
  pub high : root ≤ n

-- a root has an endless walk, or has none and is followed to its end, as all before it were
abbrev pub Followed : (ℕ → List ℕ) → (ℕ → ℕ) → ℕ → ℕ → List ℕ → Bool → Type 0
Followed held mark n root work true = walks held n root ≡ true
Followed held mark n root work false =
    (walks held n root ≡ false) × ((x : ℕ) → 1 ≤ x → x ≤ root → get_or work x 0 ≡ mark x) × Clean held mark n work

-- ── the answer ──

-- 14 by the walks of one sort
abbrev pub rings_by : (Table → ℕ → List ℕ) → Table → ℕ → List Rule
rings_by step T t = 14 when walks (step T) (count T) t ∷ []

-- the smaller of two types, where there are two
abbrev pub smaller_of : RustOption TypeNo → RustOption TypeNo → RustOption TypeNo
smaller_of None b = b
smaller_of (Some t) None = Some t
smaller_of (Some t) (Some u) = cond (ltb u.0 t.0) (Some u) (Some t)

abbrev pub ring_as_paper : Table → RustOption TypeNo → Option Answer
ring_as_paper T None = none
ring_as_paper T (Some t) = some (report_at 14 t.0 (place_at T t.0))

-- ── what is left ──

-- every type's mark when it is done
abbrev pub mark_at : Table → ℕ → ℕ → ℕ
mark_at T n x = cond (leb 1 x && leb x n) (done T x) 0

-- where no ring is found; else the marks may be any
abbrev pub RingLeaves : Table → ℕ → RustOption TypeNo → List ℕ → Type 0
RingLeaves T n None work = (x : ℕ) → get_or work x 0 ≡ mark_at T n x
RingLeaves T n (Some t) work = Unit {0}

-- the answer by the first sort of walk, and what it leaves
pub record ChainsOf (T : Table) (n : ℕ) (r : RustOption TypeNo) (work : List ℕ) : Type 0 where
  pub says : ring_as_paper T r ≡ over_types (rings_by held_by) T
  pub leaves : RingLeaves T n r work

-- and by both
pub record RingsOf (T : Table) (n : ℕ) (r : RustOption TypeNo) (work : List ℕ) : Type 0 where
  pub says : ring_as_paper T r ≡ over_types phase5 T
  pub leaves : RingLeaves T n r work
