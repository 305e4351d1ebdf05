-- Laws of `behind_of`: a step in the bytes is a step of the walk over the words that are left.
-- Assumes nothing.
use Rattle.std.specs.Prelude.{Err, Ok, Result}
use Rattle.scan.specs.declared.walk.Torn.TheVariants.{Cut, Unknown}
use Rattle.scan.specs.declared.walk.Torn.{Torn}
use Rattle.paper.specs.declared.Place.{Place}
use Prim.Native.Nat.{ℕ, zero, suc, ◌+◌, ◌*◌, ◌≤◌, ◌<◌}
use mathlib.Core.Path.{◌≡◌, refl}
use mathlib.Core.Bool.{Bool, true, false, cond}
use mathlib.Core.List.{List, [], ◌∷◌}
use native.Mathlib.Omega.{arith}
use borrow.Author.Tests.{leb-true, leb-false, le-leb, lt-leb}
use lib.Dec.{leb}
use lib.ListN.{length, drop}
use Rattle.paper.specs.rules.Header.{order_of}
use Rattle.paper.specs.rules.Table.{kind_in, tail_length}
use Rattle.paper.specs.rules.Walk.{Walked, records, stopped, ahead, known, walk_record, walk_from}
use Rattle.paper.specs.rules.Word.{word_at}
use Rattle.paper.proofs.bytes.Sections.{record_from}
use Rattle.scan.specs.Phase2.{behind_of}

-- ── how a step goes ──

-- the place behind a record, by its info word
abbrev pub next_place : List ℕ → ℕ → ℕ
next_place b at = at + 12 + 4 * tail_length (word_at (order_of b) b (at + 4))

abbrev pub known_at : List ℕ → ℕ → Bool
known_at b at = known (kind_in (word_at (order_of b) b (at + 4)))

-- the four ways of a step
pub data Way (b : List ℕ) (at end : ℕ) : Result Place Torn → Type 0 where
  head-cut : end < at + 12 → Way b at end (Err Cut)
  unknown : at + 12 ≤ end → known_at b at ≡ false → Way b at end (Err Unknown)
  tail-cut : at + 12 ≤ end → known_at b at ≡ true → end < next_place b at → Way b at end (Err Cut)
  onward : at + 12 ≤ end → known_at b at ≡ true → next_place b at ≤ end → Way b at end (Ok (record { 0 = next_place b at }))

pub behind_of-way : (b : List ℕ) (at end : ℕ) → Way b at end (behind_of b at end)
unfolding behind_of
behind_of-way b at end = go (leb (at + 12) end) refl (known_at b at) refl (leb (next_place b at) end) refl
  where
    go : (t : Bool) → leb (at + 12) end ≡ t → (k : Bool) → known_at b at ≡ k → (n : Bool) → leb (next_place b at) end ≡ n
        → Way b at end (cond t (cond k (cond n (Ok (record { 0 = next_place b at })) (Err Cut)) (Err Unknown)) (Err Cut))
    go false e k ek n en = head-cut (leb-false _ _ e)
    go true e false ek n en = unknown (leb-true _ _ e) ek
    go true e true ek false en = tail-cut (leb-true _ _ e) ek (leb-false _ _ en)
    go true e true ek true en = onward (leb-true _ _ e) ek (leb-true _ _ en)

-- and back: each way is that of `behind_of`
pub way-behind_of : {b : List ℕ} {at end : ℕ} {s : Result Place Torn} → Way b at end s → behind_of b at end ≡ s
unfolding behind_of
way-behind_of (head-cut h) = simp (lt-leb _ _ h)
way-behind_of (unknown h k) = simp (le-leb _ _ h, k)
way-behind_of (tail-cut h k n) = simp (le-leb _ _ h, k, lt-leb _ _ n)
way-behind_of (onward h k n) = simp (le-leb _ _ h, k, le-leb _ _ n)

-- ── a step of the walk ──

-- where no words are left, the walk is done
pub walk_from-done : (room k p : ℕ) → walk_from room k p [] ≡ records []
walk_from-done zero k p = refl
walk_from-done (suc room) k p = refl

-- words are left and there is no room for a record more
pub walk_from-full : (k p : ℕ) (ws : List ℕ) → 0 < length ws → walk_from 0 k p ws ≡ stopped 8 k p
walk_from-full k p [] h = absurd (omega arith)
walk_from-full k p (w ∷ ws) h = refl

-- fewer words are left than a head has
pub walk_from-short : (room k p : ℕ) (ws : List ℕ) → 0 < length ws → length ws < 3 → walk_from (suc room) k p ws ≡ stopped 6 k p
walk_from-short room k p [] h l = absurd (omega arith)
walk_from-short room k p (n ∷ []) h l = refl
walk_from-short room k p (n ∷ i ∷ []) h l = refl
walk_from-short room k p (n ∷ i ∷ t ∷ ws) h l = absurd (omega arith)

module _ (rest : List ℕ → Walked) (k p n i t : ℕ) (ws : List ℕ) where
  pub walk_record-unknown : known (kind_in i) ≡ false → walk_record rest k p n i t ws ≡ stopped 7 k p
  unfolding walk_record
  walk_record-unknown e = rw e

  pub walk_record-cut : known (kind_in i) ≡ true → length ws < tail_length i → walk_record rest k p n i t ws ≡ stopped 6 k p
  unfolding walk_record
  walk_record-cut e h = rw (e, lt-leb _ _ h)

  pub walk_record-onward : known (kind_in i) ≡ true → tail_length i ≤ length ws
      → walk_record rest k p n i t ws ≡ ahead (record_from n i t ws) (rest (drop (tail_length i) ws))
  unfolding walk_record
  walk_record-onward e h = rw (e, le-leb _ _ h)
