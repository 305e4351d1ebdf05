-- The parts of a join, cut at the first table's own numbers, are the tables that were joined; the parts of a table that fits a blob fit one.
-- Assumes nothing.
use Prim.Native.Nat.{ℕ, suc, ◌+◌, ◌-◌, ◌≤◌, ◌<◌}
use mathlib.Core.Path.{◌≡◌, refl, sym, ap, ap₂, ◌∙◌, subst}
use mathlib.Core.Bool.{true}
use mathlib.Core.List.{List, [], ◌∷◌, ◌++◌, map}
use native.Mathlib.Omega.{arith}
use lib.ListN.{length, get_or, take, drop, take-append-drop, get_or-append}
use lib.Seq.{take-append_seam, drop-append_seam}
use Rattle.parts.proofs.Cutting.{CutFacts, count-first, count-second, join-parts, closed-first, closed-second, good-first, good-second}
use Rattle.parts.proofs.Lowering.{lowered-raised, raised-behind}
use Rattle.parts.specs.Cut.{points_before, points_behind, first_part, lowered, second_part}
use Rattle.paper.proofs.basics.Choices.{and-true}
use Rattle.paper.proofs.bytes.Bytes.{below-append, below_left, below_right, below-take, below-drop}
use Rattle.paper.proofs.bytes.Places.{flat_append}
use Rattle.paper.proofs.joins.Grouping.{length-join}
use Rattle.paper.proofs.joins.Joining.{count-join, length-strings}
use Rattle.paper.proofs.joins.Neutral.{join_tables-empty-left, join_tables-empty-right, opened}
use Rattle.paper.proofs.renaming.Renaming.{inside, Inside}
use Rattle.paper.proofs.walks.Insides.{sound-inside}
use Rattle.paper.specs.rules.Choice.{every}
use Rattle.paper.specs.rules.Join.{raised, join_tables}
use Rattle.paper.specs.rules.Kind.{Role, names, refers, holds, number}
use Rattle.paper.specs.rules.Limits.{byte_limit}
use Rattle.paper.specs.rules.Rename.{rename_word, rename_words, rename, raise}
use Rattle.paper.specs.rules.Table.{Record, Table, count, nothing, roles_of, tail_roles, words_of, every_word}
use Rattle.paper.specs.rules.Walk.{flat, blob_length}
use Rattle.paper.specs.terms.Fit.{Below, word_bound, Fits}
use Rattle.paper.specs.terms.Full.{empty_table}
use Rattle.paper.specs.terms.Good.{Closed, Good}

-- ── a join, cut where it was joined ──

every-raised : (n s : ℕ) → 1 ≤ s → (rs : List Record) → every (every_word (points_behind n s)) (map (rename (raise n) (raise (s - 1))) rs) ≡ true
every-raised n s filled [] = refl
every-raised n s filled (r ∷ rs) = and-true (raised-behind n s filled r) (every-raised n s filled rs)

lowered-all : (n s : ℕ) (rs : List Record) → map (lowered n s) (map (rename (raise n) (raise (s - 1))) rs) ≡ rs
lowered-all n s [] = refl
lowered-all n s (r ∷ rs) = ap₂ {C = List Record} ◌∷◌ (lowered-raised n s r) (lowered-all n s rs)

module _ (A B : Table) (a : Good A) (b : Closed B.strings) where
  abbrev n : ℕ
  n = count A

  abbrev s : ℕ
  s = length A.strings

  abbrev seconds : List Record
  seconds = map (raised A) B.records

  same-inside : (ρ : Role) (w : ℕ) → inside A ρ w ≡ points_before n s ρ w
  same-inside (names rule) w = refl
  same-inside (refers rule) w = refl
  same-inside (holds rule) w = refl
  same-inside number w = refl

  every-inside : (rs : List Record) → ((i : ℕ) → i < length rs → Inside A (get_or rs i nothing)) → every (every_word (points_before n s)) rs ≡ true
  every-inside [] h = refl
  every-inside (r ∷ rs) h =
      and-true ((λ i. every_word (λ ρ w. sym (same-inside ρ w) i) r) ∙ h 0 (omega arith)) (every-inside rs (λ i l. h (suc i) (omega arith)))

  pub first-join : first_part (count A) (length A.strings) (join_tables A B) ≡ A
  unfolding first_part join_tables
  first-join = λ i. record { records = take-append_seam A.records seconds i; strings = take-append_seam A.strings (drop 1 B.strings) i }

  pub second-join : second_part (count A) (length A.strings) (join_tables A B) ≡ B
  unfolding second_part join_tables
  second-join =
      λ i. record {
        records = (ap (map (lowered n s)) (drop-append_seam A.records seconds) ∙ lowered-all n s B.records) i;
        strings = (ap {B = List ℕ} (λ u. 0 ∷ u) (drop-append_seam A.strings (drop 1 B.strings)) ∙ opened B.strings b) i;
      }

  pub cut-join : CutFacts (count A) (length A.strings) (join_tables A B)
  unfolding join_tables
  cut-join =
      let f = a.closed.filled in
      let k = count-join A B in
      let l = length-strings A B a.closed b in
      record {
        few = omega arith;
        filled = f;
        long = omega arith;
        zero_before = get_or-append A.strings (drop 1 B.strings) 0 (s - 1) (omega arith) ∙ a.closed.last;
        before =
            ap (every (every_word (points_before n s))) (take-append_seam A.records seconds)
            ∙ every-inside A.records (λ i h. sound-inside a.sound f (suc i) h);
        behind = ap (every (every_word (points_behind n s))) (drop-append_seam A.records seconds) ∙ every-raised n s f B.records;
      }

-- in front of all types, and behind them, a good table can always be cut: the empty table and the whole
empty-closed : Closed empty_table.strings
empty-closed = record { filled = omega arith; first = refl; last = refl }

empty-good : Good empty_table
empty-good = record { sound = λ t low high. absurd (omega arith); closed = empty-closed; whole = tt }

pub cut-none : (T : Table) → Good T → CutFacts 0 1 T
cut-none T g = subst (CutFacts 0 1) (join_tables-empty-left T g.closed) (cut-join empty_table T empty-good g.closed)

pub cut_all : (T : Table) → Good T → CutFacts (count T) (length T.strings) T
cut_all T g = subst (CutFacts (count T) (length T.strings)) (join_tables-empty-right T) (cut-join T empty_table g empty-closed)

-- ── the words and bytes of the parts fit a blob ──

module _ (n s : ℕ) where
  word_fits : (ρ : Role) (w : ℕ) → w < word_bound → rename_word (λ v. v - n) (λ v. v - (s - 1)) ρ w < word_bound
  word_fits (names rule) w h = omega arith
  word_fits (refers rule) w h = omega arith
  word_fits (holds rule) w h = omega arith
  word_fits number w h = h

  words-fit : (ρs : List Role) (ws : List ℕ) → Below word_bound ws → Below word_bound (rename_words (λ v. v - n) (λ v. v - (s - 1)) ρs ws)
  words-fit [] ws h = h
  words-fit (ρ ∷ ρs) [] h = tt
  words-fit (ρ ∷ ρs) (w ∷ ws) h = (word_fits ρ w h.0, words-fit ρs ws h.1)

  flat-fits : (rs : List Record) → Below word_bound (flat rs) → Below word_bound (flat (map (lowered n s) rs))
  unfolding lowered rename tail_roles
  flat-fits [] h = tt
  flat-fits (r ∷ rs) h =
      below-append word_bound (words_of (lowered n s r)) (flat (map (lowered n s) rs))
      (words-fit (roles_of r) (words_of r) (below_left word_bound (words_of r) (flat rs) h))
      (flat-fits rs (below_right word_bound (words_of r) (flat rs) h))

module _ {n s : ℕ} {T : Table} (c : CutFacts n s T) (g : Good T) where
  abbrev A : Table
  A = first_part n s T

  abbrev B : Table
  B = second_part n s T

  both_long : blob_length (first_part n s T) + blob_length (second_part n s T) ≡ blob_length T + 25
  both_long =
      sym (length-join A B (closed-first c g.closed) (closed-second c g.closed)) ∙ ap (λ (U : Table). blob_length U + 25) (join-parts c)

  pub short-first : blob_length (first_part n s T) ≤ blob_length T
  short-first = omega (arith, both_long, (closed-second c g.closed).filled)

  pub short-second : blob_length (second_part n s T) ≤ blob_length T
  short-second = omega (arith, both_long, (closed-first c g.closed).filled)

  module _ (f : Fits T) (short : blob_length T ≤ byte_limit) where
    flat-parts : Below word_bound (flat (take n T.records) ++ flat (drop n T.records))
    flat-parts =
        subst (Below word_bound)
        (sym (ap flat (take-append-drop n T.records)) ∙ flat_append (take n T.records) (drop n T.records)) f.words-fit

    pub fits-first : Fits (first_part n s T)
    unfolding first_part
    fits-first =
        record {
          whole = (good-first c g).whole;
          words-fit = below_left word_bound (flat (take n T.records)) (flat (drop n T.records)) flat-parts;
          bytes_fit = below-take 256 s T.strings f.bytes_fit;
          section_fits = omega (arith, short-first, short);
          strings-fit = omega (arith, short-first, short);
          types_fit = omega (arith, count-first c, c.few, f.types_fit);
        }

    pub fits-second : Fits (second_part n s T)
    unfolding second_part
    fits-second =
        record {
          whole = (good-second c g).whole;
          words-fit = flat-fits n s (drop n T.records) (below_right word_bound (flat (take n T.records)) (flat (drop n T.records)) flat-parts);
          bytes_fit = (omega arith, below-drop 256 s T.strings f.bytes_fit);
          section_fits = omega (arith, short-second, short);
          strings-fit = omega (arith, short-second, short);
          types_fit = omega (arith, count-second c, f.types_fit);
        }
