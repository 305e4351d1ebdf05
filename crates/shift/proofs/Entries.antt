-- The loop over the entries of a tail: what is left to be put, put behind what is, is all of it.
-- Assumes nothing.
use Prim.Native.Nat.{ℕ, zero, suc, ◌+◌, ◌-◌, ◌*◌, ◌≤◌, ◌<◌}
use mathlib.Core.Path.{◌≡◌, refl, sym, ap, ap₂, ◌∙◌}
use mathlib.Core.List.{List}
use native.Mathlib.Nat.{suc-mul}
use native.Mathlib.Omega.{arith}
use lib.ListN.{length}
use Rattle.shift.specs.Raising.{raised_from, GroupOf, GroupAsk, GroupPut, EntriesAsk, EntriesPut}
use Rattle.shift.specs.declared.groups.Group.{Group}
use Rattle.shift.specs.declared.groups.Shift.{Shift}
use Rattle.paper.proofs.bytes.Puts.{put-none, put-put}
use Rattle.shift.proofs.RaisedWords.{length-raised_from, raised_from-append}
use Rattle.paper.specs.rules.Choice.{times}
use Rattle.paper.specs.rules.Kind.{Role}
use Rattle.paper.specs.terms.Put.{put}

-- so many entries are left, of v from a place on
pub record Entering (by : Shift) (g : Group) (s : List ℕ) (v at : ℕ) (before : List ℕ) (p left : ℕ) (after : List ℕ) : Type 0 where
  pub few : left ≤ v
  pub fits : p + left * (4 * g.words) ≤ length before
  pub same_length : length after ≡ length before
  pub rest : (ρs : List Role) → GroupOf g ρs → put after p (raised_from by s p (times left ρs)) ≡ put before at (raised_from by s at (times v ρs))

module _ {by : Shift} {g : Group} {s : List ℕ} {v at : ℕ} {before : List ℕ} (a : EntriesAsk g v at (length before)) where
  pub entering-start : {p : ℕ} → p ≡ at → Entering by g s v at before p v before
  entering-start {p} e =
      record {
        few = omega arith;
        fits = omega (arith, a.fits);
        same_length = refl;
        rest = λ ρs h. ap (λ (q : ℕ). put before q (raised_from by s q (times v ρs))) e;
      }

  module _ {p left : ℕ} {after : List ℕ} (e : Entering by g s v at before p left after) where
    pub entering-done : left ≤ 0 → EntriesPut by g v s at before after
    unfolding raised_from
    entering-done h = record { puts = λ ρs o. put-none after p ∙ ap (λ (n : ℕ). put after p (raised_from by s p (times n ρs))) none ∙ e.rest ρs o }
      where
        none : 0 ≡ left
        none = omega arith

    module _ (some : 0 < left) where
      -- an entry's bytes behind those of the entries after it
      step : left * (4 * g.words) ≡ 4 * g.words + (left - 1) * (4 * g.words)
      step = go left some
        where
          go : (n : ℕ) → 0 < n → n * (4 * g.words) ≡ 4 * g.words + (n - 1) * (4 * g.words)
          go zero l = absurd (omega arith)
          go (suc n) l = let back : suc n - 1 ≡ n = omega arith in suc-mul n (4 * g.words) ∙ rw back (omega arith)

      pub entering-ask : GroupAsk g p (length after)
      entering-ask =
          let f = e.fits in
          let l = e.same_length in
          let st = step in
          record { few = a.few; fits = omega arith; small = omega (arith, a.small) }

      pub entering-next : {after₂ : List ℕ} → length after₂ ≡ length after → GroupPut by g s p after after₂
          → Entering by g s v at before (p + 4 * g.words) (left - 1) after₂
      entering-next {after₂} same one =
          let f = e.fits in
          let k = e.few in
          let st = step in
          record {
            few = omega arith;
            fits = omega arith;
            same_length = same ∙ e.same_length;
            rest = λ ρs o. more ρs o ∙ e.rest ρs o;
          }
        where
          more : (ρs : List Role) → GroupOf g ρs
              → put after₂ (p + 4 * g.words) (raised_from by s (p + 4 * g.words) (times (left - 1) ρs)) ≡ put after p (raised_from by s p (times left ρs))
          more ρs o =
              let run : List ℕ = raised_from by s p ρs in
              let c = o.counted in
              let long = length-raised_from by s p ρs in
              let f = e.fits in
              let l = e.same_length in
              let st = step in
              let there : p + 4 * g.words ≡ p + 4 * length ρs = omega arith in
              let one_more : suc (left - 1) ≡ left = omega arith in
              ap₂ (λ (o : List ℕ) (n : ℕ). put o (p + 4 * g.words) (raised_from by s n (times (left - 1) ρs))) (one.puts ρs o) there
              ∙ put-put after p run (omega arith) (omega arith) (raised_from by s (p + 4 * length ρs) (times (left - 1) ρs))
              ∙ ap (put after p) (sym (raised_from-append by s p ρs (times (left - 1) ρs)))
              ∙ ap (λ (n : ℕ). put after p (raised_from by s p (times n ρs))) one_more
