-- Laws of `Walk`: the walk of some words finds exactly the records whose words they are.
-- Assumes nothing.
use Prim.Native.Nat.{ℕ, zero, suc, ◌≤◌, ◌<◌}
use mathlib.Core.Path.{◌≡◌, refl, ap, ◌∙◌}
use mathlib.Core.Bool.{Bool, true, false, cond}
use mathlib.Core.List.{List, [], ◌∷◌, ◌++◌}
use native.Mathlib.Omega.{arith}
use borrow.Author.Tests.{leb-true, le-leb}
use lib.Dec.{leb}
use lib.ListN.{length, get_or, take, drop, length-append, take-append-drop}
use lib.Seq.{take_at, drop_at, length-take-le}
use Rattle.paper.specs.terms.Fit.{Whole, EveryWhole}
use Rattle.paper.specs.terms.Good.{WholeWalk}
use Rattle.paper.specs.rules.Table.{Record, nothing, kind_in, tail_length}
use Rattle.paper.specs.rules.Walk.{Walked, records, stopped, ahead, known, walk_record, walk_from, flat}

-- each of whole records is whole
pub whole-at : (rs : List Record) → EveryWhole rs → (i : ℕ) → i < length rs → Whole (get_or rs i nothing)
whole-at [] h i l = absurd (omega arith)
whole-at (r ∷ rs) h zero l = h.0
whole-at (r ∷ rs) h (suc i) l = whole-at rs h.1 i (omega arith)

-- ── one step ──

-- a whole record is found, whatever follows it
pub walk_record-whole : (rest : List ℕ → Walked) (k p : ℕ) (r : Record) (ws : List ℕ) → Whole r
    → walk_record rest k p r.name_off r.info r.third (r.tail ++ ws) ≡ ahead r (rest ws)
unfolding walk_record
walk_record-whole rest k p r ws h =
    let fits : tail_length r.info ≤ length (r.tail ++ ws) = omega (arith, length-append r.tail ws, h.whole_tail) in
    rw (
      h.known_kind,
      le-leb _ _ fits,
      take_at r.tail ws (tail_length r.info) h.whole_tail,
      drop_at r.tail ws (tail_length r.info) h.whole_tail,
    )
    refl

-- the record of a head and the words behind it
abbrev pub record_from : ℕ → ℕ → ℕ → List ℕ → Record
record_from n i t ws = record { name_off = n; info = i; third = t; tail = take (tail_length i) ws }

-- what a step that goes through has found: its record is the first, and the rest of the walk finds the others
pub record Stepped (rest : List ℕ → Walked) (n i t : ℕ) (ws : List ℕ) (rs : List Record) : Type 0 where
  pub later : List Record
  pub known_kind : known (kind_in i) ≡ true
  pub tail_fits : tail_length i ≤ length ws
  pub goes_on : rest (drop (tail_length i) ws) ≡ records later
  pub all : rs ≡ record_from n i t ws ∷ later

-- both tests of a step pass where it does not stop
through : (a b : Bool) (w : Walked) (k p : ℕ) (rs : List Record) → cond a (cond b w (stopped 6 k p)) (stopped 7 k p) ≡ records rs
    → (a ≡ true) × (b ≡ true) × (w ≡ records rs)
through true true w k p rs e = (refl, refl, e)
through true false w k p rs e = absurd (let z : ◌≡◌ {A = ℕ} 0 1 = cc in omega arith)
through false b w k p rs e = absurd (let z : ◌≡◌ {A = ℕ} 0 1 = cc in omega arith)

-- a record ahead of a walk is the first of what is found
ahead-records : (r : Record) (w : Walked) (rs : List Record) → ahead r w ≡ records rs → (later : List Record) × (w ≡ records later) × (rs ≡ r ∷ later)
ahead-records r (records later) rs e = (later, refl, cc)
ahead-records r (stopped n t p) rs e = absurd (let z : ◌≡◌ {A = ℕ} 0 1 = cc in omega arith)

-- a step that does not stop has found its record and gone on
pub walk_record-stepped : (rest : List ℕ → Walked) (k p n i t : ℕ) (ws : List ℕ) (rs : List Record)
    → walk_record rest k p n i t ws ≡ records rs → Stepped rest n i t ws rs
unfolding walk_record
walk_record-stepped rest k p n i t ws rs e =
    let both = through (known (kind_in i)) (leb (tail_length i) (length ws)) (ahead (record_from n i t ws) (rest (drop (tail_length i) ws))) k p rs e in
    let a = ahead-records (record_from n i t ws) (rest (drop (tail_length i) ws)) rs both.2 in
    record {
      later = a.0;
      known_kind = both.0;
      tail_fits = leb-true (tail_length i) (length ws) both.1;
      goes_on = a.1;
      all = a.2;
    }

-- ── the whole walk ──

-- whole records are found again in their words, where there is room for them
pub walk_from-flat : (room k p : ℕ) (rs : List Record) → EveryWhole rs → length rs ≤ room → walk_from room k p (flat rs) ≡ records rs
walk_from-flat zero k p [] h few = refl
walk_from-flat zero k p (r ∷ rs) h few = absurd (omega arith)
walk_from-flat (suc room) k p [] h few = refl
walk_from-flat (suc room) k p (r ∷ rs) h few =
    walk_record-whole _ k p r (flat rs) h.0
    ∙ ap (ahead r) (walk_from-flat room (suc k) _ rs h.1 (omega arith))

-- no words, no records
found_none : (room : ℕ) (rs : List Record) → rs ≡ [] → WholeWalk room [] rs
found_none room rs e = rw e (record { flat_found = refl; whole_found = tt; few_found = omega arith })

-- a step in front of what is found later
found-step : (room n i t : ℕ) (ws : List ℕ) (rest : List ℕ → Walked) (rs : List Record) (s : Stepped rest n i t ws rs)
    → WholeWalk room (drop (tail_length i) ws) s.later → WholeWalk (suc room) (n ∷ i ∷ t ∷ ws) rs
found-step room n i t ws rest rs s f =
    rw s.all (record {
      flat_found = ap (λ (l : List ℕ). n ∷ i ∷ t ∷ l) (ap (λ (l : List ℕ). take (tail_length i) ws ++ l) f.flat_found ∙ take-append-drop (tail_length i) ws);
      whole_found = (record { known_kind = s.known_kind; whole_tail = length-take-le (tail_length i) ws s.tail_fits }, f.whole_found);
      few_found = omega (arith, f.few_found);
    })

-- where a walk goes through, it has found whole records, and the words of what it found are the words that it walked
pub flat-walk_from : (room k p : ℕ) (ws : List ℕ) (rs : List Record) → walk_from room k p ws ≡ records rs → WholeWalk room ws rs
flat-walk_from zero k p [] rs e = found_none zero rs (cc)
flat-walk_from zero k p (n ∷ ws) rs e = absurd (let z : ◌≡◌ {A = ℕ} 0 1 = cc in omega arith)
flat-walk_from (suc room) k p [] rs e = found_none (suc room) rs (cc)
flat-walk_from (suc room) k p (n ∷ []) rs e = absurd (let z : ◌≡◌ {A = ℕ} 0 1 = cc in omega arith)
flat-walk_from (suc room) k p (n ∷ i ∷ []) rs e = absurd (let z : ◌≡◌ {A = ℕ} 0 1 = cc in omega arith)
flat-walk_from (suc room) k p (n ∷ i ∷ t ∷ ws) rs e =
    let s = walk_record-stepped _ k p n i t ws rs e in
    found-step room n i t ws _ rs s (flat-walk_from room (suc k) _ (drop (tail_length i) ws) s.later s.goes_on)
