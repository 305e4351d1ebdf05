-- Where in the file: the place of a report is that of the record which it names, inside the blob and at a whole word; else it is 0.
-- Assumes nothing.
use Prim.Native.Nat.{ℕ, zero, suc, ◌+◌, ◌*◌, ◌%◌, ◌≤◌, ◌<◌}
use mathlib.Core.Path.{◌≡◌, refl, sym, ap, ◌∙◌, subst}
use mathlib.Core.Bool.{Bool, true, false, cond}
use mathlib.Core.List.{List, [], ◌∷◌, ◌++◌, append_assoc}
use mathlib.Core.Logic.{◌⊎◌, inl, inr, ⊎_elim}
use mathlib.Core.Option.{Option, none, some}
use native.Mathlib.Omega.{arith}
use borrow.Author.Tests.{leb-true, leb-false}
use lib.Dec.{leb}
use lib.ListN.{length, get_or, take, drop, length-append, take-append-drop}
use lib.Seq.{length-take-le, take_at}
use Rattle.paper.proofs.bytes.Blobs.{type_words-length, bytes_of-words, strings-table_of}
use Rattle.paper.proofs.bytes.Bytes.{length-bytes_of_words}
use Rattle.paper.proofs.bytes.Headers.{header_report-facts}
use Rattle.paper.proofs.bytes.Places.{flat-at, places_of-at, place-record}
use Rattle.paper.proofs.bytes.Sections.{record_from}
use Rattle.paper.proofs.gates.Gates.{some≢none, or_else-some, naming-none}
use Rattle.paper.proofs.gates.Numbers.{Says, says-or_else, says-phase1, says-phase2, says-short_slices, says-phase3, says-phase4, says-phase5, says-phase6}
use Rattle.paper.proofs.gates.Reports.{refusal-spoken}
use Rattle.paper.specs.rules.Answer.{Answer}
use Rattle.paper.specs.rules.Choice.{first_due}
use Rattle.paper.specs.terms.Early.{Fault, many, head-cut, no_kind, tail-cut}
use Rattle.paper.specs.terms.Fit.{Bytes, EveryWhole}
use Rattle.paper.specs.rules.Gate.{naming, phase1, walk_report, phase2, slice_rules, short_slices, phase3, phase4, phase5, over_types, table_report, refusal}
use Rattle.paper.specs.terms.Good.{HeaderFacts, Readable}
use Rattle.paper.specs.rules.Header.{header_length, order_of, header_report}
use Rattle.paper.specs.rules.Limits.{type_limit}
use Rattle.paper.specs.terms.Smallest.{Spoken, third, fourth, fifth, sixth}
use Rattle.paper.specs.rules.Table.{Record, Table, count, nothing, record_at, kind_in, tail_length, words_of}
use Rattle.paper.specs.rules.Walk.{Walked, records, stopped, ahead, known, walk_record, walk_from, type_words, walk, table_of, flat, places_of, place_at}
use Rattle.paper.specs.terms.Where.{Begins, StandsAt}
use Rattle.paper.specs.rules.Word.{bytes_of_words}

-- ── where a walk stops, and what is at fault there ──

pub record Stops (limit : ℕ) (ws : List ℕ) (k o number t p : ℕ) : Type 0 where
  pub begins : Begins ws k o t p
  pub fault : Fault limit number t begins.left

-- it stops at the record to come
stops-here : (ws : List ℕ) {limit k o number t p : ℕ} → 1 ≤ length ws → t ≡ k → p ≡ o → Fault limit number t ws → Stops limit ws k o number t p
stops-here ws some_left e f fault =
    record {
      begins = record { before = []; left = ws; splits = refl; whole = tt; some_left = some_left; numbered = omega arith; placed = omega arith };
      fault = fault;
    }

-- or at one behind it
begins-later : (n i x : ℕ) (ws : List ℕ) {k o t p : ℕ} → known (kind_in i) ≡ true → tail_length i ≤ length ws
    → (b : Begins (drop (tail_length i) ws) (suc k) (o + 12 + 4 * tail_length i) t p) → Begins (n ∷ i ∷ x ∷ ws) k o t p
begins-later n i x ws kind fits b =
    let whole_tail = length-take-le (tail_length i) ws fits in
    record {
      before = record_from n i x ws ∷ b.before;
      left = b.left;
      splits =
          ap (λ (l : List ℕ). n ∷ i ∷ x ∷ l)
          (sym (take-append-drop (tail_length i) ws)
          ∙ ap (λ (l : List ℕ). take (tail_length i) ws ++ l) b.splits
          ∙ sym (append_assoc (take (tail_length i) ws) (flat b.before) b.left));
      whole = (record { known_kind = kind; whole_tail = whole_tail }, b.whole);
      some_left = b.some_left;
      numbered = omega (arith, b.numbered);
      placed = omega (arith, b.placed, length-append (take (tail_length i) ws) (flat b.before), whole_tail);
    }

ahead-stopped : (r : Record) (w : Walked) {n t p : ℕ} → ahead r w ≡ stopped n t p → w ≡ stopped n t p
ahead-stopped r (records rs) e = absurd (let z : ◌≡◌ {A = ℕ} 0 1 = cc in omega arith)
ahead-stopped r (stopped n t p) e = e

module _ {limit : ℕ} where
  -- a record is not known, does not fit, or the walk goes on behind it
  walk_record-stops : (rest : List ℕ → Walked) (k o n i x : ℕ) (ws : List ℕ) {m t p : ℕ} → k ≤ limit → walk_record rest k o n i x ws ≡ stopped m t p
      → (rest (drop (tail_length i) ws) ≡ stopped m t p → Stops limit (drop (tail_length i) ws) (suc k) (o + 12 + 4 * tail_length i) m t p)
      → Stops limit (n ∷ i ∷ x ∷ ws) k o m t p
  unfolding walk_record begins-later
  walk_record-stops rest k o n i x ws {m} {t} {p} few e later = go (known (kind_in i)) refl (leb (tail_length i) (length ws)) refl e
    where
      go : (a : Bool) → known (kind_in i) ≡ a → (c : Bool) → leb (tail_length i) (length ws) ≡ c
          → cond a (cond c (ahead (record_from n i x ws) (rest (drop (tail_length i) ws))) (stopped 6 k o)) (stopped 7 k o) ≡ stopped m t p
          → Stops limit (n ∷ i ∷ x ∷ ws) k o m t p
      go true kind true fits e =
          let s = later (ahead-stopped (record_from n i x ws) _ e) in
          record { begins = begins-later n i x ws kind (leb-true (tail_length i) (length ws) fits) s.begins; fault = s.fault }
      go true kind false fits e =
          let same : t ≡ k = cc in
          stops-here (n ∷ i ∷ x ∷ ws) (omega arith) same (cc)
          (tail-cut (cc) (omega arith) kind (omega arith) (omega (arith, leb-false (tail_length i) (length ws) fits)))
      go false kind c fits e =
          let same : t ≡ k = cc in
          stops-here (n ∷ i ∷ x ∷ ws) (omega arith) same (cc) (no_kind (cc) (omega arith) (omega arith) kind)

  walk_from-stops : (room k o : ℕ) (ws : List ℕ) {m t p : ℕ} → room + k ≡ limit + 1 → walk_from room k o ws ≡ stopped m t p → Stops limit ws k o m t p
  walk_from-stops zero k o [] r e = absurd (let z : ◌≡◌ {A = ℕ} 0 1 = cc in omega arith)
  walk_from-stops zero k o (n ∷ ws) {m} {t} {p} r e = let same : t ≡ k = cc in stops-here (n ∷ ws) (omega arith) same (cc) (many (cc) (omega arith))
  walk_from-stops (suc room) k o [] r e = absurd (let z : ◌≡◌ {A = ℕ} 0 1 = cc in omega arith)
  walk_from-stops (suc room) k o (n ∷ []) {m} {t} {p} r e =
      let same : t ≡ k = cc in stops-here (n ∷ []) (omega arith) same (cc) (head-cut (cc) (omega arith) (omega arith))
  walk_from-stops (suc room) k o (n ∷ i ∷ []) {m} {t} {p} r e =
      let same : t ≡ k = cc in stops-here (n ∷ i ∷ []) (omega arith) same (cc) (head-cut (cc) (omega arith) (omega arith))
  walk_from-stops (suc room) k o (n ∷ i ∷ x ∷ ws) r e =
      walk_record-stops _ k o n i x ws (omega arith) e (λ q. walk_from-stops room (suc k) _ (drop (tail_length i) ws) (omega arith) q)

pub phase2-stops : (b : List ℕ) (a : Answer) → phase2 b ≡ some a → Stops type_limit (type_words b) 1 header_length a.number a.t a.p
unfolding phase2 walk
phase2-stops b a e = go (walk b) refl e
  where
    go : (w : Walked) → walk b ≡ w → walk_report w ≡ some a → Stops type_limit (type_words b) 1 header_length a.number a.t a.p
    go (records rs) q e = absurd (some≢none (sym e))
    go (stopped n t p) q e = walk_from-stops type_limit 1 header_length (type_words b) refl (q ∙ cc)

-- ── where a type stands ──

whole_take : (t : ℕ) (rs : List Record) → EveryWhole rs → EveryWhole (take t rs)
whole_take zero rs h = tt
whole_take (suc t) [] h = tt
whole_take (suc t) (r ∷ rs) h = (h.0, whole_take t rs h.1)

type-stands : (b : List ℕ) {places work : ℕ} → Readable b places work → (t : ℕ) → 1 ≤ t → t ≤ count (table_of b) → StandsAt b t (place_at (table_of b) t)
unfolding place_at
type-stands b r zero low high = absurd (omega arith)
type-stands b r (suc t) low high =
    let T = table_of b in
    let found = r.section in
    record {
      before = take t T.records;
      left = words_of (get_or T.records t nothing) ++ flat (drop (suc t) T.records);
      splits = sym found.flat_found ∙ flat-at T.records t high;
      whole = whole_take t T.records found.whole_found;
      some_left = omega arith;
      numbered = omega (arith, length-take-le t T.records (omega arith));
      placed = places_of-at T t high;
    }

-- its bytes stand there
pub place-bytes : (b : List ℕ) → Bytes b → {places work : ℕ} → Readable b places work → (t : ℕ) → 1 ≤ t → t ≤ count (table_of b)
    → take (4 * length (words_of (record_at (table_of b) t))) (drop (place_at (table_of b) t) b) ≡ bytes_of_words (order_of b) (words_of (record_at (table_of b) t))
unfolding place_at
place-bytes b bytes r zero low high = absurd (omega arith)
place-bytes b bytes r (suc t) low high =
    let T = table_of b in
    let ws = words_of (record_at T (suc t)) in
    ap (λ (s : List ℕ). take (4 * length ws) (drop (get_or (places_of T) t 0) s))
    (sym (bytes_of-words b bytes r.header T r.section.flat_found (strings-table_of b)))
    ∙ ap (take (4 * length ws)) (place-record (order_of b) T t high)
    ∙ take_at (bytes_of_words (order_of b) ws) _ (4 * length ws) (length-bytes_of_words (order_of b) ws)

-- ── the place of a report ──

abbrev WalkNo : ℕ → Type 0
WalkNo n = (6 ≤ n) × (n ≤ 8)

-- the number of an answer that is said has what all numbers said have
pub said-number : (P : ℕ → Type 0) {o : Option Answer} {a : Answer} → Says P o → o ≡ some a → P a.number
said-number P h e = subst (Says P) e h

pub says-table_report : (T : Table) → Says (λ (n : ℕ). 10 ≤ n) (table_report T)
unfolding table_report
says-table_report T =
    let Late : ℕ → Type 0 = λ n. 10 ≤ n in
    says-or_else Late (over_types phase3 T) _ (says-phase3 Late T (omega arith) (omega arith) (omega arith))
    (says-or_else Late (over_types phase4 T) _ (says-phase4 Late T (omega arith))
    (says-or_else Late (over_types phase5 T) _ (says-phase5 Late T (omega arith)) (says-phase6 Late T (omega arith))))

-- a report's number, with neither type nor place
pub naming-bare : (o : Option ℕ) (a : Answer) → naming 0 o ≡ some a → (o ≡ some a.number) × (a.t ≡ 0) × (a.p ≡ 0)
naming-bare none a e = absurd (some≢none (sym e))
naming-bare (some n) a e = (cc, cc, cc)

spoken-place : {T : Table} {a : Answer} → Spoken T a → (1 ≤ a.t) × (a.t ≤ count T) × (a.p ≡ place_at T a.t)
spoken-place (third s) = (s.low, s.high, s.placed)
spoken-place (fourth q s) = (s.low, s.high, s.placed)
spoken-place (fifth q r s) = (s.low, s.high, s.placed)
spoken-place (sixth q r v s) = (s.low, s.high, s.placed)

module _ (b : List ℕ) (places work : ℕ) (a : Answer) (e : refusal b places work ≡ some a) where
  -- which of the phases has said it
  from-phases : (phase1 b ≡ some a)
      ⊎ ((phase1 b ≡ none) × ((phase2 b ≡ some a) ⊎ ((short_slices (count (table_of b)) places work ≡ some a) ⊎ (table_report (table_of b) ≡ some a))))
  unfolding refusal
  from-phases =
      ⊎_elim inl
      (λ one. inr (
        one.0,
        ⊎_elim inl
            (λ two. inr (⊎_elim inl (λ nine. inr nine.1) (or_else-some (short_slices (count (table_of b)) places work) _ two.1)))
            (or_else-some (phase2 b) _ one.1),
      ))
      (or_else-some (phase1 b) _ e)

  -- 1 to 5 and 9 name no type and have no place
  pub report-bare : (a.number < 6) ⊎ (a.number ≡ 9) → (a.t ≡ 0) × (a.p ≡ 0)
  unfolding phase1 short_slices
  report-bare bare =
      ⊎_elim (λ one. bare-rest (naming-bare (header_report b) a one))
      (λ later. ⊎_elim (λ two. absurd (not-bare bare (said-number WalkNo (says-phase2 WalkNo (omega arith) (omega arith) (omega arith) b) two)))
      (⊎_elim (λ nine. bare-rest (naming-bare (first_due (slice_rules (count (table_of b)) places work)) a nine))
      (λ late. absurd (late-bare bare (said-number (λ (n : ℕ). 10 ≤ n) (says-table_report (table_of b)) late))))
      later.1)
      from-phases
    where
      bare-rest : {o : Option ℕ} → (o ≡ some a.number) × (a.t ≡ 0) × (a.p ≡ 0) → (a.t ≡ 0) × (a.p ≡ 0)
      bare-rest s = (s.1, s.2)

      not-bare : (a.number < 6) ⊎ (a.number ≡ 9) → WalkNo a.number → ⊥
      not-bare (inl x) w = omega arith
      not-bare (inr x) w = omega arith

      late-bare : (a.number < 6) ⊎ (a.number ≡ 9) → 10 ≤ a.number → ⊥
      late-bare (inl x) w = omega arith
      late-bare (inr x) w = omega arith

  -- every other: phase 1 is silent, and the place is that of the record that is named; for 8, which is not read, where it would begin
  module _ (low : 6 ≤ a.number) (not-9 : a.number ≡ 9 → ⊥) where
    not_first : phase1 b ≡ some a → ⊥
    not_first one =
        let Early : ℕ → Type 0 = λ n. n < 6 in
        let n = said-number Early (says-phase1 Early b (omega arith) (omega arith) (omega arith) (omega arith) (omega arith)) one in
        omega arith

    report-header : HeaderFacts b
    unfolding phase1
    report-header =
        ⊎_elim (λ one. absurd (not_first one))
        (λ later. header_report-facts b (naming-none 0 (header_report b) later.0))
        from-phases

    pub report-stands : StandsAt b a.t a.p
    report-stands =
        ⊎_elim (λ one. absurd (not_first one))
        (λ later. ⊎_elim (λ two. (phase2-stops b a two).begins)
        (⊎_elim (λ nine. absurd (not-9 (said-number (λ (n : ℕ). n ≡ 9) (says-short_slices (λ (n : ℕ). n ≡ 9) _ places work refl) nine)))
        (λ late. type-place (refusal-spoken b places work a e (said-number (λ (n : ℕ). 10 ≤ n) (says-table_report (table_of b)) late))))
        later.1)
        from-phases
      where
        type-place : Readable b places work × Spoken (table_of b) a → StandsAt b a.t a.p
        type-place r =
            let s = spoken-place r.1 in
            subst (StandsAt b a.t) (sym s.2) (type-stands b r.0 a.t s.0 s.1)

    -- below the blob's end, and a multiple of 4
    pub report-inside : (a.p < length b) × (a.p % 4 ≡ 0)
    report-inside =
        let s = report-stands in
        let f = report-header in
        let sizes = ap length s.splits ∙ length-append (flat s.before) s.left in
        (omega (arith, s.placed, s.some_left, sizes, type_words-length b f, f.sum), omega (arith, s.placed))

  -- for 10 to 15 the bytes of the named type's record stand there
  pub report-bytes : Bytes b → 10 ≤ a.number
      → take (4 * length (words_of (record_at (table_of b) a.t))) (drop a.p b) ≡ bytes_of_words (order_of b) (words_of (record_at (table_of b) a.t))
  report-bytes bytes late =
      let r = refusal-spoken b places work a e late in
      let s = spoken-place r.1 in
      ap (λ (p : ℕ). take (4 * length (words_of (record_at (table_of b) a.t))) (drop p b)) s.2 ∙ place-bytes b bytes r.0 a.t s.0 s.1
