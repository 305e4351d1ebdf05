-- Which numbers are said: of a phase, of a check, of a join. Once, over any property of numbers that those of the phase have.
-- Assumes nothing.
use Prim.Native.Nat.{ℕ, zero, suc, ◌≤◌}
use mathlib.Core.Path.{◌≡◌, refl}
use mathlib.Core.Bool.{Bool, true, false, cond}
use mathlib.Core.List.{List, [], ◌∷◌}
use mathlib.Core.Logic.{◌⊎◌, inl, inr}
use mathlib.Core.Option.{Option, none, some}
use native.Mathlib.Omega.{arith}
use lib.Dec.{leb}
use lib.ListN.{length, take, drop}
use Rattle.paper.specs.rules.Answer.{Answer}
use Rattle.paper.specs.rules.Choice.{Rule, ◌when◌, first_due, or_else}
use Rattle.paper.specs.rules.Gate.{naming_at, naming, phase1, walk_report, phase2, slice_rules, short_slices}
use Rattle.paper.specs.rules.Gate.{first_of, phase3, phase4, phase5, phase6, over_types, table_report, refusal}
use Rattle.paper.specs.rules.Header.{header_length, header_rules, header_report}
use Rattle.paper.specs.rules.Join.{refused_inside, limit_rules, limit_report, join_refusal}
use Rattle.paper.specs.rules.Limits.{type_limit}
use Rattle.paper.specs.rules.Table.{Record, Table, count, kind_in, tail_length}
use Rattle.paper.specs.rules.Walk.{Walked, records, stopped, ahead, known, walk_record, walk_from, type_words, walk, table_of, place_at}

module _ (P : ℕ → Type 0) where
  -- the number of an answer, where there is one, has the property
  abbrev pub Says : Option Answer → Type 0
  Says none = Unit {0}
  Says (some a) = P a.number

  -- and so has every rule's
  abbrev pub Numbers : List Rule → Type 0
  Numbers [] = Unit {0}
  Numbers (n when due ∷ rules) = P n × Numbers rules

  pub says-or_else : (o p : Option Answer) → Says o → Says p → Says (or_else o p)
  says-or_else none p h k = k
  says-or_else (some a) p h k = h

  says-naming_at : (t p : ℕ) (rules : List Rule) → Numbers rules → Says (naming_at t p (first_due rules))
  says-naming_at t p [] h = tt
  says-naming_at t p (n when true ∷ rules) h = h.0
  says-naming_at t p (n when false ∷ rules) h = says-naming_at t p rules h.1

  pub says-naming : (t : ℕ) (rules : List Rule) → Numbers rules → Says (naming t (first_due rules))
  says-naming t rules h = says-naming_at t 0 rules h

  pub says-first_of : (place : ℕ → ℕ) (rules : ℕ → List Rule) → ((t : ℕ) → Numbers (rules t)) → (left k : ℕ) → Says (first_of place rules left k)
  says-first_of place rules h zero k = tt
  says-first_of place rules h (suc left) k =
      says-or_else (naming_at k (place k) (first_due (rules k))) (first_of place rules left (suc k)) (says-naming_at k (place k) (rules k) (h k))
      (says-first_of place rules h left (suc k))

  pub says-over_types : (phase : Table → ℕ → List Rule) (T : Table) → ((t : ℕ) → Numbers (phase T t)) → Says (over_types phase T)
  unfolding over_types
  says-over_types phase T h = says-first_of (place_at T) (phase T) h (count T) 1

  pub says-inside : (number : ℕ) → P number → (o : Option Answer) → Says (refused_inside number o)
  says-inside number h none = tt
  says-inside number h (some a) = h

  -- ── the walk says 6, 7 or 8 ──

  module _ (p6 : P 6) (p7 : P 7) (p8 : P 8) where
    abbrev WalkSays : Walked → Type 0
    WalkSays (records rs) = Unit {0}
    WalkSays (stopped n t p) = P n

    says-ahead : (r : Record) (w : Walked) → WalkSays w → WalkSays (ahead r w)
    says-ahead r (records rs) h = tt
    says-ahead r (stopped n t p) h = h

    says-either : (b c : Bool) (k p : ℕ) (w : Walked) → WalkSays w → WalkSays (cond b (cond c w (stopped 6 k p)) (stopped 7 k p))
    says-either true true k p w h = h
    says-either true false k p w h = p6
    says-either false c k p w h = p7

    says-walk_record : (rest : List ℕ → Walked) (k p n i t : ℕ) (ws : List ℕ) → ((left : List ℕ) → WalkSays (rest left))
        → WalkSays (walk_record rest k p n i t ws)
    unfolding walk_record
    says-walk_record rest k p n i t ws h =
        let r : Record = record { name_off = n; info = i; third = t; tail = take (tail_length i) ws } in
        let w = rest (drop (tail_length i) ws) in
        says-either (known (kind_in i)) (leb (tail_length i) (length ws)) k p (ahead r w) (says-ahead r w (h (drop (tail_length i) ws)))

    says-walk_from : (room k p : ℕ) (ws : List ℕ) → WalkSays (walk_from room k p ws)
    says-walk_from zero k p [] = tt
    says-walk_from zero k p (n ∷ ws) = p8
    says-walk_from (suc room) k p [] = tt
    says-walk_from (suc room) k p (n ∷ []) = p6
    says-walk_from (suc room) k p (n ∷ i ∷ []) = p6
    says-walk_from (suc room) k p (n ∷ i ∷ t ∷ ws) =
        says-walk_record _ k p n i t ws (λ left. says-walk_from room (suc k) _ left)

    says-report : (w : Walked) → WalkSays w → Says (walk_report w)
    says-report (records rs) h = tt
    says-report (stopped n t p) h = h

    pub says-walk : (room k p : ℕ) (ws : List ℕ) → Says (walk_report (walk_from room k p ws))
    says-walk room k p ws = says-report (walk_from room k p ws) (says-walk_from room k p ws)

    pub says-phase2 : (b : List ℕ) → Says (phase2 b)
    unfolding phase2 walk
    says-phase2 b = says-walk type_limit 1 header_length (type_words b)

  -- ── the other phases ──

  pub says-phase1 : (b : List ℕ) → P 1 → P 2 → P 3 → P 4 → P 5 → Says (phase1 b)
  unfolding phase1 header_report
  says-phase1 b p1 p2 p3 p4 p5 = says-naming 0 (header_rules b) (p1, (p2, (p3, (p4, (p5, tt)))))

  pub says-short_slices : (n places work : ℕ) → P 9 → Says (short_slices n places work)
  unfolding short_slices
  says-short_slices n places work p9 = says-naming 0 (slice_rules n places work) (p9, tt)

  module _ (T : Table) where
    pub says-phase3 : P 10 → P 11 → P 12 → Says (over_types phase3 T)
    unfolding phase3
    says-phase3 p10 p11 p12 = says-over_types phase3 T (λ t. (p10, (p11, (p12, tt))))

    pub says-phase4 : P 13 → Says (over_types phase4 T)
    unfolding phase4
    says-phase4 p13 = says-over_types phase4 T (λ t. (p13, tt))

    pub says-phase5 : P 14 → Says (over_types phase5 T)
    unfolding phase5
    says-phase5 p14 = says-over_types phase5 T (λ t. (p14, tt))

    pub says-phase6 : P 15 → Says (over_types phase6 T)
    unfolding phase6
    says-phase6 p15 = says-over_types phase6 T (λ t. (p15, tt))

-- ── a check's reports are 1 to 15, a join's refusals 16 to 20 and 24 ──

abbrev Gates : ℕ → Type 0
Gates n = (1 ≤ n) × (n ≤ 15)

pub refusal-number : (b : List ℕ) (places work : ℕ) → Says (λ (n : ℕ). (1 ≤ n) × (n ≤ 15)) (refusal b places work)
unfolding refusal table_report
refusal-number b places work =
    let T = table_of b in
    says-or_else Gates (phase1 b) _ (says-phase1 Gates b (omega arith) (omega arith) (omega arith) (omega arith) (omega arith))
    (says-or_else Gates (phase2 b) _ (says-phase2 Gates (omega arith) (omega arith) (omega arith) b)
    (says-or_else Gates (short_slices (count T) places work) _ (says-short_slices Gates (count T) places work (omega arith))
    (says-or_else Gates (over_types phase3 T) _ (says-phase3 Gates T (omega arith) (omega arith) (omega arith))
    (says-or_else Gates (over_types phase4 T) _ (says-phase4 Gates T (omega arith))
    (says-or_else Gates (over_types phase5 T) _ (says-phase5 Gates T (omega arith))
    (says-phase6 Gates T (omega arith)))))))

abbrev Joins : ℕ → Type 0
Joins n = (16 ≤ n) × ((n ≤ 20) ⊎ (n ≡ 24))

pub join_refusal-number : (a b : List ℕ) (places work room : ℕ) → Says (λ (n : ℕ). (16 ≤ n) × ((n ≤ 20) ⊎ (n ≡ 24))) (join_refusal a b places work room)
unfolding join_refusal limit_report
join_refusal-number a b places work room =
    says-or_else Joins (refused_inside 16 (refusal a places work)) _ (says-inside Joins 16 (omega arith, inl (omega arith)) (refusal a places work))
    (says-or_else Joins (refused_inside 17 (refusal b places work)) (limit_report a b room) (says-inside Joins 17 (omega arith, inl (omega arith)) (refusal b places work))
    (says-naming Joins 0 (limit_rules a b room)
    ((omega arith, inr refl), ((omega arith, inl (omega arith)), ((omega arith, inl (omega arith)), ((omega arith, inl (omega arith)), tt))))))
