-- Laws of report 10 by the words of a head: each test that fails decides, and the last decides where the others pass.
-- Assumes nothing.
use Prim.Native.Nat.{ℕ}
use mathlib.Core.Path.{◌≡◌, refl, sym, ◌∙◌}
use mathlib.Core.Bool.{Bool, true, false, not}
use mathlib.Core.List.{List}
use borrow.Author.Tests.{not-true, not-false}
use Rattle.paper.specs.rules.Heads.{allowed, spare_zero, head_ok}
use Rattle.paper.specs.rules.Kind.{row_of}
use Rattle.paper.specs.terms.Reading.{record_in}
use Rattle.paper.specs.rules.Table.{kind_in, vlen_in, flag_in}
use Rattle.paper.specs.declared.Order.{Order}
use Rattle.paper.specs.rules.Word.{word_at}
use Rattle.heads.specs.HeadBy.{head_by}

module _ (info third : ℕ) {k : ℕ} (kind : k ≡ kind_in info) {a : Bool} (spare : a ≡ spare_zero info) where
  pub head-spare : not a ≡ true → false ≡ head_by info third
  head-spare n = rw (sym spare ∙ not-true a n) refl

  module _ (fair : not a ≡ false) {g : ℕ} (flag : g ≡ flag_in info) {b : Bool} (flagged : b ≡ allowed (row_of k).flag g) where
    flag-test : allowed (row_of (kind_in info)).flag (flag_in info) ≡ b
    flag-test = sym (flagged ∙ (λ i. allowed (row_of (kind i)).flag (flag i)))

    pub head-flag : not b ≡ true → false ≡ head_by info third
    head-flag n = rw (sym spare ∙ not-false a fair, flag-test ∙ not-true b n) refl

    module _ (set : not b ≡ false) {v : ℕ} (vlen : v ≡ vlen_in info) {c : Bool} (counted : c ≡ allowed (row_of k).vlen v) where
      vlen-test : allowed (row_of (kind_in info)).vlen (vlen_in info) ≡ c
      vlen-test = sym (counted ∙ (λ i. allowed (row_of (kind i)).vlen (vlen i)))

      pub head-vlen : not c ≡ true → false ≡ head_by info third
      head-vlen n = rw (sym spare ∙ not-false a fair, flag-test ∙ not-false b set, vlen-test ∙ not-true c n) refl

      pub head-third : not c ≡ false → {d : Bool} → d ≡ allowed (row_of k).third_values third → d ≡ head_by info third
      head-third n e =
          rw (sym spare ∙ not-false a fair, flag-test ∙ not-false b set, vlen-test ∙ not-false c n)
          (e ∙ (λ i. allowed (row_of (kind i)).third_values third))

-- the head of the record that some bytes begin with
pub head_by-record : (order : Order) (s : List ℕ) {info third : ℕ} → info ≡ word_at order s 4 → third ≡ word_at order s 8 → {r : Bool} → r ≡ head_by info third
    → r ≡ head_ok (record_in order s)
unfolding head_ok record_in
head_by-record order s e f d = d ∙ (λ i. head_by (e i) (f i))
