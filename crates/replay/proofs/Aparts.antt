-- Laws of `Apart`: what is seen of taking a table apart.
-- Assumes nothing.
use Rattle.std.specs.Prelude.{Result, ℕ}
use Rattle.parts.specs.declared.SplitError.{SplitError}
use Prim.Native.Nat.{ℕ}
use mathlib.Core.Path.{◌≡◌, refl, ◌∙◌}
use mathlib.Core.List.{List, ◌++◌}
use Rattle.paper.specs.declared.Order.TheVariants.{LowFirst}
use Rattle.paper.specs.rules.Answer.{Answer}
use Rattle.paper.specs.rules.Word.{bytes_of_words}
use Rattle.parts.specs.Cut.{parted_as_paper}
use Rattle.replay.specs.Apart.{apart_seen}
use Rattle.replay.specs.Case.{seen_sums}
use Rattle.replay.specs.declared.cases.Seen.{Seen}
use Rattle.split.specs.Parting.{SplitOf}
use Rattle.sums.specs.Sum.{sum_of, lent_bytes}

module _ (n s : ℕ) (a : List ℕ) where
  -- the answer and all four slices are those of the cut
  pub apart-seen : (places work_places bytes others : ℕ) {seen : Seen} {r : Answer} {i w o o' : List ℕ} {x y z : ℕ} → seen ≡ seen_sums r x y z
      → x ≡ sum_of (bytes_of_words LowFirst i) → y ≡ sum_of (bytes_of_words LowFirst w) → z ≡ sum_of (o ++ o')
      → {p q : ℕ} {out out' : List ℕ} → p ≡ places → q ≡ work_places → out ≡ lent_bytes bytes → out' ≡ lent_bytes others
      → (v : Result (ℕ × ℕ) SplitError) → r ≡ parted_as_paper v → SplitOf v a n s p q out out' i w o o' → seen ≡ apart_seen n s a places work_places bytes others
  apart-seen places work_places bytes others e ex ey ez ep eq eo eo' v er k =
      rw (e, ex, ey, ez, er, k.answers, k.indexes, k.works, k.firsts, k.seconds, ep, eq, eo, eo') refl

  -- as many places and bytes are lent as a case says
  pub apart-cut : {seen : Seen} {p q o o' places work_places bytes others : ℕ} → p ≡ places → q ≡ work_places → o ≡ bytes → o' ≡ others
      → seen ≡ apart_seen n s a p q o o' → seen ≡ apart_seen n s a places work_places bytes others
  apart-cut ep eq eo eo' e = e ∙ (λ i. apart_seen n s a (ep i) (eq i) (eo i) (eo' i))
