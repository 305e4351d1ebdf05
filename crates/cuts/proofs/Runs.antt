-- Laws of the records on one side of a cut, gone over one by one; and of the whole test, part by part.
-- Assumes nothing.
use Prim.Native.Nat.{ℕ, suc, ◌+◌, ◌-◌, ◌≤◌, ◌<◌}
use native.Mathlib.Numerals.{add-one}
use mathlib.Core.Path.{◌≡◌, refl, sym, ap, ap₂, ◌∙◌}
use mathlib.Core.Bool.{Bool, true, false, not, ◌&&◌}
use mathlib.Core.List.{List, [], ◌++◌}
use native.Mathlib.Omega.{arith}
use borrow.Author.Tests.{not-true, not-false, le-leb, lt-leb}
use lib.Dec.{eqb, leb}
use lib.ListN.{length, get_or, take, drop, length-drop}
use lib.Seq.{drop-cons, take_all}
use Rattle.cuts.specs.Sides.{ends_at}
use Rattle.paper.proofs.basics.Choices.{and-nothing}
use Rattle.paper.specs.rules.Choice.{every}
use Rattle.paper.specs.rules.Header.{strings_in}
use Rattle.paper.specs.rules.Table.{Record, Table, count, nothing, record_at, every_word}
use Rattle.parts.specs.Cut.{points, points_before, points_behind, cut_ok}
use Rattle.views.proofs.Shows.{strings_in-none, table_by-count}
use Rattle.views.specs.Shown.{table_by}
use Rattle.views.specs.declared.View.{View}

-- ── so many records, of which those before a type are passed ──

pub record Running (f : Record → Bool) (T : Table) (from to t : ℕ) : Type 0 where
  pub low : from ≤ t
  pub high : t ≤ to
  pub inside : to ≤ count T
  pub rest : every f (take (to - from) (drop from T.records)) ≡ every f (take (to - t) (drop t T.records))

module _ {f : Record → Bool} {T : Table} {from to t : ℕ} (r : Running f T from to t) where
  pub running-done : to ≤ t → true ≡ every f (take (to - from) (drop from T.records))
  running-done h =
      let none : to - t ≡ 0 = omega arith in
      sym (r.rest ∙ ap (λ (k : ℕ). every f (take k (drop t T.records))) none)

  module _ (more : t < to) {z : Bool} (asked : z ≡ f (record_at T (t + 1))) where
    after : every f (take (to - from) (drop from T.records)) ≡ z && every f (take (to - (t + 1)) (drop (t + 1) T.records))
    after =
        let one : to - t ≡ suc (to - (t + 1)) = omega arith in
        r.rest
        ∙ ap₂ (λ (k : ℕ) (rs : List Record). every f (take k rs)) one (drop-cons T.records t nothing (omega (arith, r.inside)))
        ∙ ap₂ (λ (k : ℕ) (y : Bool). y && every f (take (to - (t + 1)) (drop k T.records))) (sym (add-one t)) (ap (λ (k : ℕ). f (record_at T k)) (sym (add-one t)) ∙ sym asked)

    pub running-bad : not z ≡ true → false ≡ every f (take (to - from) (drop from T.records))
    running-bad n = sym (after ∙ ap (λ (y : Bool). y && every f (take (to - (t + 1)) (drop (t + 1) T.records))) (not-true z n))

    pub running-next : not z ≡ false → Running f T from to (t + 1)
    running-next n =
        record {
          low = omega (arith, r.low);
          high = omega arith;
          inside = r.inside;
          rest = after ∙ ap (λ (y : Bool). y && every f (take (to - (t + 1)) (drop (t + 1) T.records))) (not-false z n);
        }

-- ── the strings ──

module _ (strings : List ℕ) (s : ℕ) where
  pub ends-empty : s ≡ 0 → false ≡ ends_at strings s
  unfolding ends_at
  ends-empty e = sym (ap (λ (k : ℕ). leb 1 k && leb k (length strings) && eqb (get_or strings (k - 1) 0) 0) e)

  pub ends-past : length strings < s → false ≡ ends_at strings s
  unfolding ends_at
  ends-past h =
      sym (ap (λ (z : Bool). z && eqb (get_or strings (s - 1) 0) 0)
      (ap₂ (λ (x y : Bool). x && y) (le-leb 1 s (omega arith)) (lt-leb s (length strings) h)))

  pub ends-byte : (s ≡ 0 → ⊥) → s ≤ length strings → eqb (get_or strings (s - 1) 0) 0 ≡ ends_at strings s
  unfolding ends_at
  ends-byte n h =
      sym (ap (λ (z : Bool). z && eqb (get_or strings (s - 1) 0) 0)
      (ap₂ (λ (x y : Bool). x && y) (le-leb 1 s (omega arith)) (le-leb s (length strings) h)))

-- ── the whole test ──

regroup : (a b c d e f : Bool) → a && (b && c && d) && e && f ≡ a && (b && (c && (d && (e && (f && true)))))
regroup false b c d e f = refl
regroup true false c d e f = refl
regroup true true false d e f = refl
regroup true true true false e f = refl
regroup true true true true false f = refl
regroup true true true true true f = sym (and-nothing f)

module _ (b index : List ℕ) (v : View) (n s : ℕ) where
  abbrev T : Table
  T = table_by [] b index v

  abbrev before : Bool
  before = every (every_word (points n s false)) (take (n - 0) (drop 0 T.records))

  abbrev behind : Bool
  behind = every (every_word (points n s true)) (take (v.n - n) (drop n T.records))

  strings-shown : (table_by [] b index v).strings ≡ strings_in b
  unfolding table_by
  strings-shown = ap (λ (x : List ℕ). x ++ strings_in b) strings_in-none

  all-behind : take (v.n - n) (drop n (table_by [] b index v).records) ≡ drop n (table_by [] b index v).records
  all-behind = let c = table_by-count [] b index v in let d = length-drop n T.records in take_all (v.n - n) (drop n T.records) (omega arith)

  by_parts : leb n v.n && ends_at (strings_in b) s && before && behind ≡ cut_ok n s (table_by [] b index v)
  unfolding cut_ok ends_at
  by_parts =
      let c = table_by-count [] b index v in
      let zero-less : n - 0 ≡ n = omega arith in
      ap₂ (λ (x : ℕ) (y : List ℕ). leb n x && ends_at y s && before && behind) (sym c) (sym strings-shown)
      ∙ ap₂ (λ (k : ℕ) (rs : List Record).
      leb n (count T) && ends_at T.strings s && every (every_word (points_before n s)) (take k T.records) && every (every_word (points_behind n s)) rs) zero-less all-behind
      ∙ regroup (leb n (count T)) (leb 1 s) (leb s (length T.strings)) (eqb (get_or T.strings (s - 1) 0) 0)
      (every (every_word (points_before n s)) (take n T.records)) (every (every_word (points_behind n s)) (drop n T.records))

  pub cut-many : v.n < n → false ≡ cut_ok n s (table_by [] b index v)
  cut-many h = sym (ap (λ (x : Bool). x && ends_at (strings_in b) s && before && behind) (lt-leb n v.n h)) ∙ by_parts

  module _ (few : n ≤ v.n) {x : Bool} (ends : x ≡ ends_at (strings_in b) s) where
    with-strings : x && before && behind ≡ cut_ok n s (table_by [] b index v)
    with-strings = ap₂ (λ (k y : Bool). k && y && before && behind) (sym (le-leb n v.n few)) ends ∙ by_parts

    pub cut-unended : not x ≡ true → false ≡ cut_ok n s (table_by [] b index v)
    cut-unended e = sym (ap (λ (k : Bool). k && before && behind) (not-true x e)) ∙ with-strings

    module _ (ended : not x ≡ false) {y : Bool} (first : y ≡ before) where
      with_first : y && behind ≡ cut_ok n s (table_by [] b index v)
      with_first = ap₂ (λ (j k : Bool). j && k && behind) (sym (not-false x ended)) first ∙ with-strings

      pub cut-crossed : not y ≡ true → false ≡ cut_ok n s (table_by [] b index v)
      cut-crossed e = sym (ap (λ (k : Bool). k && behind) (not-true y e)) ∙ with_first

      pub cut-through : not y ≡ false → {z : Bool} → z ≡ behind → z ≡ cut_ok n s (table_by [] b index v)
      cut-through e second = second ∙ ap (λ (k : Bool). k && behind) (sym (not-false y e)) ∙ with_first
