-- Laws of `Kept`: what is seen of a list that is read and of one that is written.
-- Assumes nothing.
use Rattle.std.specs.Prelude.{Result, ℕ}
use Rattle.lists.specs.declared.WriteError.{WriteError}
use Rattle.lists.specs.declared.MakeError.{MakeError}
use Prim.Native.Nat.{ℕ}
use mathlib.Core.Path.{◌≡◌, refl, ◌∙◌}
use mathlib.Core.List.{List, ◌++◌}
use Rattle.list.specs.Listing.{WriteOf}
use Rattle.list.specs.Reading.{ReadOf}
use Rattle.lists.specs.Kept.{made_as_paper, wrote_as_paper}
use Rattle.paper.specs.declared.Order.TheVariants.{LowFirst}
use Rattle.paper.specs.rules.Answer.{Answer}
use Rattle.paper.specs.rules.Word.{bytes_of_words}
use Rattle.replay.specs.Case.{seen_sums}
use Rattle.replay.specs.Kept.{read_seen, write_seen}
use Rattle.replay.specs.declared.cases.Seen.{Seen}
use Rattle.sums.specs.Sum.{sum_of, lent_bytes}

module _ (a : List ℕ) where
  -- the answer and all four slices are those of the reading
  pub read-seen : (places work_places bytes lent : ℕ) {seen : Seen} {r : Answer} {i w o o' : List ℕ} {x y z : ℕ} → seen ≡ seen_sums r x y z
      → x ≡ sum_of (bytes_of_words LowFirst i) → y ≡ sum_of (bytes_of_words LowFirst w) → z ≡ sum_of (o ++ o')
      → {p q l : ℕ} {out : List ℕ} → p ≡ places → q ≡ work_places → l ≡ lent → out ≡ lent_bytes bytes
      → (v : Result ℕ MakeError) → r ≡ made_as_paper v → ReadOf v a p q l out i w o' o → seen ≡ read_seen a places work_places bytes lent
  read-seen places work_places bytes lent e ex ey ez ep eq el eo v er k =
      rw (e, ex, ey, ez, er, k.told.answers, k.told.indexes, k.told.works, k.told.outputs, k.blanks, ep, eq, el, eo) refl

  -- and all three of the writing
  pub write-seen : (places work_places bytes : ℕ) {seen : Seen} {r : Answer} {i w o : List ℕ} {x y z : ℕ} → seen ≡ seen_sums r x y z
      → x ≡ sum_of (bytes_of_words LowFirst i) → y ≡ sum_of (bytes_of_words LowFirst w) → z ≡ sum_of o
      → {p q : ℕ} {out : List ℕ} → p ≡ places → q ≡ work_places → out ≡ lent_bytes bytes
      → (v : Result ℕ WriteError) → r ≡ wrote_as_paper v → WriteOf v a p q out i w o → seen ≡ write_seen a places work_places bytes
  write-seen places work_places bytes e ex ey ez ep eq eo v er k =
      rw (e, ex, ey, ez, er, k.answers, k.indexes, k.works, k.outputs, ep, eq, eo) refl

  -- as many places and bytes are lent as a case says
  pub read-cut : {seen : Seen} {p q o l places work_places bytes lent : ℕ} → p ≡ places → q ≡ work_places → o ≡ bytes → l ≡ lent
      → seen ≡ read_seen a p q o l → seen ≡ read_seen a places work_places bytes lent
  read-cut ep eq eo el e = e ∙ (λ i. read_seen a (ep i) (eq i) (eo i) (el i))

  pub write-cut : {seen : Seen} {p q o places work_places bytes : ℕ} → p ≡ places → q ≡ work_places → o ≡ bytes
      → seen ≡ write_seen a p q o → seen ≡ write_seen a places work_places bytes
  write-cut ep eq eo e = e ∙ (λ i. write_seen a (ep i) (eq i) (eo i))
