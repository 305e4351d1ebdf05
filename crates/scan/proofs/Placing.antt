-- What is left of writing the places: the words of the records to come, and their places.
-- Assumes nothing.
use Prim.Native.Nat.{ℕ, suc, ◌+◌, ◌-◌, ◌*◌, ◌%◌, ◌≤◌, ◌<◌}
use mathlib.Core.Path.{◌≡◌, refl, sym, ap, ap₂, subst, ◌∙◌}
use mathlib.Core.Bool.{Bool, true, false}
use mathlib.Core.List.{List, [], ◌∷◌, ◌++◌}
use native.Mathlib.Numerals.{add-one}
use native.Mathlib.Omega.{arith}
use borrow.Author.Tests.{ltb-true, ltb-false}
use lib.Dec.{ltb}
use lib.ListN.{length, get_or, drop, set, length-append, drop_of_length-le}
use lib.Seq.{drop-cons, drop_at}
use Rattle.paper.specs.rules.Header.{order_of, header_length, type_len}
use Rattle.pairs.specs.Lean.{walk_behind}
use Rattle.paper.specs.rules.Limits.{type_limit, byte_limit}
use Rattle.paper.specs.rules.Table.{Record, nothing, tail_length, words_of}
use Rattle.paper.specs.rules.Walk.{type_words, records_in, flat, places_from, places_of}
use Rattle.paper.specs.rules.Word.{word_at}
use Rattle.paper.specs.terms.Good.{WholeWalk}
use Rattle.paper.specs.terms.Put.{put}
use Rattle.paper.proofs.bytes.Places.{length-places_of}
use Rattle.paper.proofs.bytes.Puts.{Copying, copying-start, copying-next, copying-done}
use Rattle.paper.proofs.bytes.Sections.{whole-at, flat-walk_from}
use Rattle.scan.specs.Phase2.{WalkDone}
use Rattle.scan.proofs.Findings.{behind-records}
use Rattle.scan.proofs.Left.{left, type_words-left, left-length, left-head, left-drop}

-- ── a record whose words are the next that are left ──

module _ (b : List ℕ) (end : ℕ) (inside : end ≤ length b) (at : ℕ) (r : Record) (ws : List ℕ) (next : left b at end ≡ words_of r ++ ws) where
  pub record-inside : at + 4 * length (words_of r) ≤ end
  record-inside =
      omega (arith, left-length b end inside at, ap length next, length-append r.tail ws)

  pub record-info : word_at (order_of b) b (at + 4) ≡ r.info
  record-info =
      ap (λ (l : List ℕ). get_or l 1 0) (sym (left-head b end inside at (omega (arith, record-inside))) ∙ next)

  pub record-behind : left b (at + 4 * length (words_of r)) end ≡ ws
  record-behind =
      sym (left-drop b end inside (length (words_of r)) at record-inside)
      ∙ ap (drop (length (words_of r))) next
      ∙ drop_at (words_of r) ws (length (words_of r)) refl

-- ── where the writing stands ──

-- the records behind so many types, and their places
abbrev new_records : ℕ → List ℕ → List Record
new_records first b = records_in (walk_behind first b)

abbrev new_places : ℕ → List ℕ → List ℕ
new_places first b = places_from header_length (new_records first b)

-- the places up to k are written, and the next record is at `at`
pub record Placing (b : List ℕ) (first n : ℕ) (start : List ℕ) (k at : ℕ) (index : List ℕ) : Type 0 where
  pub done : WalkDone b first n (length start)
  pub passed : ℕ
  pub numbered : k ≡ first + passed
  pub words_left : left b at (header_length + type_len b) ≡ flat (drop passed (new_records first b))
  pub places_left : places_from at (drop passed (new_records first b)) ≡ drop passed (new_places first b)
  pub filled : Copying start (suc first) (new_places first b) index passed

found : {b : List ℕ} {first n size : ℕ} → WalkDone b first n size → WholeWalk (type_limit - first) (type_words b) (new_records first b)
unfolding walk_behind
found {b} {first} done = flat-walk_from _ _ _ (type_words b) _ (behind-records first (walk_behind first b) done.finds).0

-- as many as there are records
counts : {b : List ℕ} {first n size : ℕ} → WalkDone b first n size
    → (first + length (new_records first b) ≡ n) × (length (new_places first b) ≡ length (new_records first b))
unfolding places_of
counts {b} {first} done =
    ((behind-records first (walk_behind first b) done.finds).1, length-places_of (record { records = new_records first b; strings = [] }))

pub placing-start : {b : List ℕ} {first n : ℕ} {index : List ℕ} → WalkDone b first n (length index) → Placing b first n index first header_length index
placing-start {b} {first} {n} {index} done =
    record {
      done = done;
      passed = 0;
      numbered = omega arith;
      words_left = sym ((found done).flat_found ∙ type_words-left b);
      places_left = refl;
      filled = copying-start index (suc first) (new_places first b);
    }

module _ {b : List ℕ} {first n : ℕ} {start : List ℕ} {k at : ℕ} {index : List ℕ} (p : Placing b first n start k at index) where
  abbrev rs : List Record
  rs = new_records first b

  abbrev ps : List ℕ
  ps = new_places first b

  abbrev j : ℕ
  j = p.passed

  pub placing-length : length index ≡ length start
  placing-length = p.filled.kept

  -- it ends with all places written
  pub placing-done : n ≤ k → index ≡ put start (suc first) ps
  placing-done h = copying-done p.filled (omega (arith, counts p.done, p.numbered))

  -- where more bytes are left, so is a record
  pub placing-more : (header_length + type_len b - at) % 4 ≡ 0 → at < header_length + type_len b → k < n
  placing-more whole some = go (ltb k n) refl
    where
      go : (z : Bool) → ltb k n ≡ z → k < n
      go true e = ltb-true k n e
      go false e =
          let none = drop_of_length-le rs {i = j} (omega (arith, ltb-false k n e, counts p.done, p.numbered)) in
          absurd (omega (arith, left-length b _ p.done.section.inside at, ap length (p.words_left ∙ ap flat none)))

  module _ (more : k < n) where
    -- the record to come
    abbrev r : Record
    r = get_or rs j nothing

    inside : j < length rs
    inside = omega (arith, counts p.done, p.numbered)

    front : drop j rs ≡ r ∷ drop (suc j) rs
    front = drop-cons rs j nothing inside

    next : left b at (header_length + type_len b) ≡ words_of r ++ flat (drop (suc j) rs)
    next = p.words_left ∙ ap flat front

    heads : at ∷ places_from (at + 4 * length (words_of r)) (drop (suc j) rs) ≡ get_or ps j 0 ∷ drop (suc j) ps
    heads = sym (ap (places_from at) front) ∙ p.places_left ∙ drop-cons ps j 0 (omega (arith, counts p.done, inside))

    -- it has the words that its info word says
    pub placing-tail : length r.tail ≡ tail_length r.info
    placing-tail = (whole-at rs (found p.done).whole_found j inside).whole_tail

    -- and so its length is
    length-here : at + (12 + 4 * tail_length (word_at (order_of b) b (at + 4))) ≡ at + 4 * length (words_of r)
    length-here =
        omega (arith, ap tail_length (record-info b _ p.done.section.inside at r _ next), placing-tail)

    -- it ends within the byte limit
    pub placing-inside : at + (12 + 4 * tail_length (word_at (order_of b) b (at + 4))) ≤ byte_limit
    placing-inside =
        let s = p.done.section in
        omega (arith, length-here, record-inside b _ s.inside at r _ next, s.inside, s.short)

    -- it stands where its place says
    pub placing-here : get_or ps j 0 ≡ at
    placing-here = sym (ap (λ (l : List ℕ). get_or l 0 0) heads)

    -- its number has a place in the index
    pub placing-room : k + 1 < length index
    placing-room = omega (arith, placing-length, p.done.enough)

    -- and the index takes its place there
    pub placing-step : Placing b first n start (k + 1) (at + (12 + 4 * tail_length (word_at (order_of b) b (at + 4)))) (set index (k + 1) at)
    placing-step =
        let here : suc first + j ≡ k + 1 = omega (arith, p.numbered) in
        let room : suc first + length ps ≤ length start = omega (arith, counts p.done, p.done.enough) in
        record {
          done = p.done;
          passed = j + 1;
          numbered = omega (arith, p.numbered);
          words_left =
              ap (λ (q : ℕ). left b q (header_length + type_len b)) length-here
              ∙ record-behind b _ p.done.section.inside at r _ next
              ∙ ap (λ (m : ℕ). flat (drop m rs)) (sym (add-one j));
          places_left =
              ap (λ (q : ℕ). places_from q (drop (j + 1) rs)) length-here
              ∙ ap (λ (m : ℕ). places_from (at + 4 * length (words_of r)) (drop m rs)) (add-one j)
              ∙ ap (drop 1) heads
              ∙ ap (λ (m : ℕ). drop m ps) (sym (add-one j));
          filled =
              subst (λ (i : List ℕ). Copying start (suc first) ps i (j + 1)) (ap₂ (set index) here placing-here)
              (copying-next p.filled room (omega (arith, counts p.done, inside)));
        }
