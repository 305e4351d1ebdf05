-- What is left of a walk: what it finds from where it stands, behind the records that it has counted, is what it finds at all.
-- Assumes nothing.
use Rattle.std.specs.Prelude.{Err, Ok, Result}
use Rattle.scan.specs.declared.walk.Torn.TheVariants.{Cut, Unknown}
use Rattle.scan.specs.declared.walk.Torn.{Torn}
use Rattle.paper.specs.declared.Place.{Place}
use Prim.Native.Nat.{ℕ, suc, ◌+◌, ◌-◌, ◌*◌, ◌%◌, ◌≤◌, ◌<◌}
use mathlib.Core.Path.{◌≡◌, refl, sym, ap, ◌∙◌}
use mathlib.Core.Bool.{true}
use mathlib.Core.List.{List}
use native.Mathlib.Numerals.{add-one}
use native.Mathlib.Omega.{arith}
use lib.ListN.{length, drop}
use Rattle.paper.specs.rules.Answer.{report_at}
use Rattle.paper.specs.rules.Header.{order_of, header_length}
use Rattle.paper.specs.rules.Limits.{type_limit}
use Rattle.paper.specs.rules.Table.{Record, tail_length}
use Rattle.pairs.specs.Lean.{walk_behind}
use Rattle.paper.specs.rules.Walk.{Walked, records, stopped, ahead, walk_from}
use Rattle.paper.specs.rules.Word.{word_at}
use Rattle.paper.proofs.bytes.Sections.{record_from}
use Rattle.scan.specs.Phase2.{WalkBegins, Finding, counted, refused, finding_of, behind, walk_finds, behind_of}
use Rattle.scan.proofs.Left.{left, type_words-left, left-length, left-head, left-drop, left_end}
use Rattle.scan.proofs.WalkSteps.{Way, head-cut, unknown, tail-cut, onward, behind_of-way, known_at, next_place}
use Rattle.scan.proofs.WalkSteps.{walk_from-done, walk_from-full, walk_from-short, walk_record-unknown, walk_record-cut, walk_record-onward}

-- ── a finding behind some records ──

behind-behind : (j k : ℕ) (f : Finding) → behind j (behind k f) ≡ behind (j + k) f
behind-behind j k (counted n) = let same : j + (k + n) ≡ j + k + n = omega arith in ap counted same
behind-behind j k (refused a) = refl

finding_of-ahead : (r : Record) (w : Walked) → finding_of (ahead r w) ≡ behind 1 (finding_of w)
finding_of-ahead r (records rs) = let same : suc (length rs) ≡ 1 + length rs = omega arith in ap counted same
finding_of-ahead r (stopped n t p) = refl

-- ── one step ──

-- what a walk finds that has come to record k at a place and has room for so many behind it, by how its step goes
abbrev after_step : List ℕ → ℕ → ℕ → ℕ → ℕ → Result Place Torn → Finding
after_step b end room k at (Err Cut) = refused (report_at 6 k at)
after_step b end room k at (Err Unknown) = refused (report_at 7 k at)
after_step b end room k at (Ok p) = behind 1 (finding_of (walk_from room (suc k) p.0 (left b p.0 end)))

module _ (b : List ℕ) (end : ℕ) (inside : end ≤ length b) (room k at : ℕ) (more : at < end) (whole : (end - at) % 4 ≡ 0) where
  walk_from-step : {s : Result Place Torn} → Way b at end s → finding_of (walk_from (suc room) k at (left b at end)) ≡ after_step b end room k at s
  walk_from-step (head-cut h) =
      let len = left-length b end inside at in
      ap finding_of (walk_from-short room k at (left b at end) (omega arith) (omega arith))
  walk_from-step (unknown h e) =
      ap (λ (ws : List ℕ). finding_of (walk_from (suc room) k at ws)) (left-head b end inside at h)
      ∙ ap finding_of (walk_record-unknown _ k at _ (word_at (order_of b) b (at + 4)) _ _ e)
  walk_from-step (tail-cut h e n) =
      let len = left-length b end inside (at + 12) in
      ap (λ (ws : List ℕ). finding_of (walk_from (suc room) k at ws)) (left-head b end inside at h)
      ∙ ap finding_of (walk_record-cut _ k at _ (word_at (order_of b) b (at + 4)) _ _ e (omega arith))
  walk_from-step (onward h e n) =
      let len = left-length b end inside (at + 12) in
      let tail = left b (at + 12) end in
      let words = tail_length (word_at (order_of b) b (at + 4)) in
      let rest : List ℕ → Walked = λ ws. walk_from room (suc k) (at + 12 + 4 * words) ws in
      ap (λ (ws : List ℕ). finding_of (walk_from (suc room) k at ws)) (left-head b end inside at h)
      ∙ ap finding_of (walk_record-onward rest k at _ (word_at (order_of b) b (at + 4)) _ tail e (omega arith))
      ∙ finding_of-ahead (record_from (word_at (order_of b) b at) (word_at (order_of b) b (at + 4)) (word_at (order_of b) b (at + 8)) tail) (rest (drop words tail))
      ∙ ap (λ (ws : List ℕ). behind 1 (finding_of (rest ws))) (left-drop b end inside words (at + 12) n)

-- ── where a walk stands ──

-- what a walk finds that has counted so many records and stands at a place
abbrev from_here : List ℕ → ℕ → ℕ → ℕ → Finding
from_here b end count at = behind count (finding_of (walk_from (type_limit - count) (count + 1) at (left b at end)))

-- a walk that has counted so many types and stands at a place, with whole words left; what it finds at all is what it finds from here
pub record Standing (found : Finding) (b : List ℕ) (end count at : ℕ) : Type 0 where
  pub inside : end ≤ length b
  pub within : at ≤ end
  pub whole : (end - at) % 4 ≡ 0
  pub few : count ≤ type_limit
  pub finds : found ≡ from_here b end count at

-- it begins behind the header, with the types before it counted
pub standing-start : (b : List ℕ) (first n : ℕ) → WalkBegins b first n
    → Standing (walk_finds first b) b (header_length + n) first header_length
unfolding walk_behind
standing-start b first n w =
    let s = w.section in
    let from : ℕ → List ℕ → Finding = λ k ws. behind first (finding_of (walk_from (type_limit - first) k header_length ws)) in
    record {
      inside = s.inside;
      within = omega arith;
      whole = omega (arith, s.whole_words);
      few = w.few;
      finds =
          ap (from (suc first)) (type_words-left b)
          ∙ ap (λ (m : ℕ). from (suc first) (left b header_length (header_length + m))) (sym s.is_type_len)
          ∙ ap (λ (k : ℕ). from k (left b header_length (header_length + n))) (sym (add-one first));
    }

module _ {found : Finding} (b : List ℕ) (end count at : ℕ) (st : Standing found b end count at) where
  -- at the end all records are counted
  pub standing-done : end ≤ at → found ≡ counted count
  standing-done h =
      let there : at ≡ end = omega (arith, st.within) in
      let same : count + 0 ≡ count = omega arith in
      st.finds
      ∙ ap (from_here b end count) there
      ∙ ap (λ (ws : List ℕ). behind count (finding_of (walk_from (type_limit - count) (count + 1) end ws))) (left_end b end)
      ∙ ap (λ (w : Walked). behind count (finding_of w)) (walk_from-done (type_limit - count) (count + 1) end)
      ∙ ap counted same

  -- 8: something is left behind the last record that may stand
  pub standing-full : at < end → count ≡ type_limit → found ≡ refused (report_at 8 (type_limit + 1) at)
  standing-full more e =
      let some : 0 < length (left b at end) = omega (arith, left-length b end st.inside at, st.whole) in
      st.finds
      ∙ ap (λ (n : ℕ). from_here b end n at) e
      ∙ ap (λ (w : Walked). behind type_limit (finding_of w)) (walk_from-full (type_limit + 1) at (left b at end) some)

-- what a step from there tells: a report, or that the walk stands further on
abbrev pub Told : Finding → List ℕ → ℕ → ℕ → ℕ → Result Place Torn → Type 0
Told found b end count at (Err Cut) = found ≡ refused (report_at 6 (count + 1) at)
Told found b end count at (Err Unknown) = found ≡ refused (report_at 7 (count + 1) at)
Told found b end count at (Ok p) = (at < p.0) × Standing found b end (count + 1) p.0

module _ {found : Finding} (b : List ℕ) (end count at : ℕ) (st : Standing found b end count at) (more : at < end) (room : count ≡ type_limit → ⊥) where
  stepped : {s : Result Place Torn} → Way b at end s → found ≡ behind count (after_step b end (type_limit - (count + 1)) (count + 1) at s)
  stepped way =
      let one : type_limit - count ≡ suc (type_limit - (count + 1)) = omega (arith, st.few) in
      st.finds
      ∙ ap (λ (n : ℕ). behind count (finding_of (walk_from n (count + 1) at (left b at end)))) one
      ∙ ap (behind count) (walk_from-step b end st.inside (type_limit - (count + 1)) (count + 1) at more st.whole way)

  told : {s : Result Place Torn} → Way b at end s → Told found b end count at s
  told (head-cut h) = stepped (head-cut h)
  told (unknown h e) = stepped (unknown h e)
  told (tail-cut h e n) = stepped (tail-cut h e n)
  told (onward h e n) =
      let next = at + 12 + 4 * tail_length (word_at (order_of b) b (at + 4)) in
      let rest : ℕ → Finding = λ k. finding_of (walk_from (type_limit - (count + 1)) k next (left b next end)) in (
        omega arith,
        record {
          inside = st.inside;
          within = n;
          whole = omega (arith, st.whole);
          few = omega (arith, st.few);
          finds =
              stepped (onward h e n)
              ∙ behind-behind count 1 (rest (suc (count + 1)))
              ∙ ap (λ (k : ℕ). behind (count + 1) (rest k)) (sym (add-one (count + 1)));
        },
      )

  pub standing-step : {s : Result Place Torn} → behind_of b at end ≡ s → Told found b end count at s
  standing-step e = told (rw e at (behind_of-way b at end))

  -- past a whole record of a known kind
  pub standing-onward : at + 12 ≤ end → known_at b at ≡ true → next_place b at ≤ end → (at < next_place b at) × Standing found b end (count + 1) (next_place b at)
  standing-onward h e n = told (onward h e n)
