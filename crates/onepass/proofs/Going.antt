-- A table of n types, of which the first k are told: their places, phase 3 and their states.
-- Assumes nothing.
use Prim.Native.Nat.{ℕ, zero, suc, ◌+◌, ◌-◌, ◌≤◌, ◌<◌}
use native.Mathlib.Numerals.{add-one}
use native.Mathlib.Omega.{arith}
use mathlib.Core.Path.{◌≡◌, refl, sym, ap, subst, ◌∙◌}
use mathlib.Core.Bool.{Bool, true, false, ◌||◌, false≢true}
use mathlib.Core.List.{List, [], ◌∷◌}
use mathlib.Core.Logic.{◌⊎◌, inl, inr, ⊎_elim}
use mathlib.Core.Option.{none}
use borrow.Author.Tests.{eqb-true, eqb-false}
use lib.Dec.{eqb}
use lib.ListN.{length, get_or, drop, set}
use lib.Seq.{get_or-set_other}
use Rattle.glance.proofs.Glances.{went_on}
use Rattle.glance.specs.Glance.{Glancing, Looks, Open, is_open, state_of}
use Rattle.onepass.specs.Forth.{Stepped, extent}
use Rattle.pairs.specs.Lean.{walk_behind}
use Rattle.paper.proofs.basics.Choices.{or-false}
use Rattle.paper.proofs.bytes.Reading.{record_in-place, word_at-drop}
use Rattle.paper.specs.rules.Choice.{first_due}
use Rattle.paper.specs.rules.Header.{header_length, header_report, order_of, strings_in, type_len}
use Rattle.paper.specs.rules.Table.{Record, count, nothing, record_at, tail_length}
use Rattle.paper.specs.rules.Walk.{Walked, places_from, places_of, records, records_in, table_of, walk}
use Rattle.paper.specs.terms.Fit.{Bytes}
use Rattle.paper.specs.terms.Reading.{record_in}
use Rattle.rules.specs.Phase.{rules_of}
use Rattle.scan.proofs.Findings.{behind-records}
use Rattle.scan.proofs.Placing.{Placing, placing-here, placing-step, placing-tail}
use Rattle.scan.proofs.Rests.{count_behind-alone, walk_behind-alone}
use Rattle.scan.specs.Phase2.{WalkDone}

-- what phase 3 says of a record of a table by itself
abbrev QuietIn : List ℕ → Record → Type 0
QuietIn b r = none ≡ first_due (rules_of [] (strings_in b) r)

-- a type that stays open leaves the slice as it is
set-zero : (s : List ℕ) (i : ℕ) → i < length s → get_or s i 0 ≡ 0 → set s i 0 ≡ s
set-zero [] i h e = absurd (omega arith)
set-zero (x ∷ s) zero h e = ap {B = List ℕ} (λ y. y ∷ s) (sym e)
set-zero (x ∷ s) (suc i) h e = ap {B = List ℕ} (λ t. x ∷ t) (set-zero s i (omega arith) e)

-- ── a table of n types, of which the first k are told ──

pub record Going (b start : List ℕ) (n k at : ℕ) (unsettled : Bool) (index work : List ℕ) : Type 0 where
  pub placing : Placing b 0 n start k at index
  pub quiet : (t : ℕ) → 1 ≤ t → t ≤ k → QuietIn b (record_at (table_of b) t)
  pub told : Glancing (table_of b) n work
  pub ahead : (x : ℕ) → k < x → state_of work x ≡ 0
  pub all : unsettled ≡ false → (x : ℕ) → 1 ≤ x → x ≤ k → Open (state_of work x) → ⊥

-- a whole walk has found the table's records
pub counted-table : (b : List ℕ) {n places : ℕ} → WalkDone b 0 n places → n ≡ count (table_of b)
counted-table b done = sym (behind-records 0 (walk_behind 0 b) done.finds).1 ∙ count_behind-alone b

walked-table : (b : List ℕ) {n places : ℕ} → WalkDone b 0 n places → walk b ≡ records (records_in (walk b))
walked-table b done =
    sym (walk_behind-alone b) ∙ (behind-records 0 (walk_behind 0 b) done.finds).0 ∙ ap (λ (w : Walked). records (records_in w)) (walk_behind-alone b)

module _ {b start : List ℕ} {n k at : ℕ} {unsettled : Bool} {index work : List ℕ} (bytes : Bytes b) (silent : header_report b ≡ none)
    (g : Going b start n k at unsettled index work) (more : k < n) where
  abbrev p : Placing b 0 n start k at index
  p = g.placing

  same_number : p.passed ≡ k
  same_number = omega (arith, p.numbered)

  inside : k < count (table_of b)
  inside = omega (arith, counted-table b p.done)

  -- the record to come, in the table and in the blob
  record-there : get_or (records_in (walk_behind 0 b)) p.passed nothing ≡ record_at (table_of b) (k + 1)
  unfolding table_of
  record-there =
      ap (λ (w : Walked). get_or (records_in w) p.passed nothing) (walk_behind-alone b)
      ∙ ap (λ (j : ℕ). get_or (records_in (walk b)) j nothing) same_number
      ∙ ap (record_at (table_of b)) (sym (add-one k))

  place-there : get_or (places_of (table_of b)) k 0 ≡ at
  unfolding places_of table_of
  place-there =
      ap (λ (w : Walked). get_or (places_from header_length (records_in w)) k 0) (sym (walk_behind-alone b))
      ∙ ap (λ (j : ℕ). get_or (places_from header_length (records_in (walk_behind 0 b))) j 0) (sym same_number)
      ∙ placing-here p more

  pub record-here : record_in (order_of b) (drop at b) ≡ record_at (table_of b) (k + 1)
  record-here =
      ap (λ (q : ℕ). record_in (order_of b) (drop q b)) (sym place-there)
      ∙ record_in-place b bytes silent (records_in (walk b)) (walked-table b p.done) k inside
      ∙ ap (record_at (table_of b)) (sym (add-one k))

  pub tail-here : length (record_at (table_of b) (k + 1)).tail ≡ tail_length (record_at (table_of b) (k + 1)).info
  tail-here = subst (λ (r : Record). length r.tail ≡ tail_length r.info) record-there (placing-tail p more)

  -- one more is told
  module _ {next : ℕ} {index' work' : List ℕ}
      (s : Stepped (order_of b) [] (strings_in b) (drop at b) (header_length + type_len b - at) at (k + 1) index work next index' work')
      {z unsettled' : Bool} (asked : z ≡ is_open (state_of work' (k + 1))) (some : unsettled' ≡ (unsettled || z)) where
    abbrev t : ℕ
    t = k + 1

    room : t < length work
    room = omega (arith, g.told.room)

    quiet-here : QuietIn b (record_at (table_of b) t)
    quiet-here = subst (QuietIn b) record-here s.told.quiet

    placing-next : Placing b 0 n start t next index'
    placing-next =
        let word = word_at-drop (order_of b) b at 4 in
        subst (λ (i : List ℕ). Placing b 0 n start t next i) (sym s.placed)
        (subst (λ (q : ℕ). Placing b 0 n start t q (set index t at)) (sym (s.behind ∙ ap (λ (w : ℕ). at + extent w) word)) (placing-step p more))

    -- its state, or none yet
    told-next : Glancing (table_of b) n work'
    told-next = subst (Glancing (table_of b) n) (sym s.stated) (go (eqb s.state 0) refl)
      where
        still : s.state ≡ 0 → Glancing (table_of b) n (set work t s.state)
        still e =
            subst (Glancing (table_of b) n) (sym (ap (set work t) e ∙ set-zero work t room (g.ahead t (omega arith)))) g.told

        go : (z : Bool) → eqb s.state 0 ≡ z → Glancing (table_of b) n (set work t s.state)
        go true e = still (eqb-true s.state 0 e)
        go false e =
            ⊎_elim still
            (λ (l : Looks work (record_in (order_of b) (drop at b)) s.state).
            (went_on (table_of b) n g.told {t = t} {s = s.state} (omega arith) (omega arith) (ap is_open (g.ahead t (omega arith))) tail-here
            (subst (λ (r : Record). Looks work r s.state) record-here l) (eqb-false s.state 0 e) {r = 0} (λ two. absurd (omega arith))).now)
            s.told.looks

    -- those of the others are as they were
    others : (x : ℕ) → (x ≡ t → ⊥) → state_of work' x ≡ state_of work x
    others x other = ap (λ (w : List ℕ). get_or w x 0) s.stated ∙ get_or-set_other work t x s.state 0 other

    pub going_next : Going b start n t next unsettled' index' work'
    going_next =
        record {
          placing = placing-next;
          quiet = λ x low high. ⊎_elim (λ (e : x ≡ t). subst (λ (y : ℕ). QuietIn b (record_at (table_of b) y)) (sym e) quiet-here)
              (λ (h : x ≤ k). g.quiet x low h) (last_or x high);
          told = told-next;
          ahead = λ x far. others x (λ e. omega arith) ∙ g.ahead x (omega arith);
          all = λ e x low high. let both = or-false unsettled z (sym some ∙ e) in
              ⊎_elim (λ (h : x ≡ t). subst (λ (y : ℕ). Open (state_of work' y) → ⊥) (sym h) (λ o. false≢true (sym (sym asked ∙ both.1) ∙ o)))
              (λ (h : x ≤ k). λ z. g.all both.0 x low h (ap is_open (sym (others x (λ q. omega arith))) ∙ z)) (last_or x high);
        }
      where
        last_or : (x : ℕ) → x ≤ t → (x ≡ t) ⊎ (x ≤ k)
        last_or x h = go (eqb x t) refl
          where
            go : (z : Bool) → eqb x t ≡ z → (x ≡ t) ⊎ (x ≤ k)
            go true e = inl (eqb-true x t e)
            go false e = let d = eqb-false x t e in inr (omega arith)
