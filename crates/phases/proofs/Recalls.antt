-- Where phases 4 and 5 say nothing, phase 6 by what they have left says what the paper's phase 6 says.
-- Assumes nothing.
use Rattle.std.specs.Prelude.{Ok}
use Prim.Native.Nat.{ℕ, zero, suc, ◌+◌, ◌≤◌, ◌<◌}
use mathlib.Core.Path.{◌≡◌, refl, sym, ap, ap₂, ◌∙◌, subst}
use mathlib.Core.Bool.{Bool, true, false, not, cond, ◌&&◌}
use mathlib.Core.List.{List, [], ◌∷◌}
use mathlib.Core.Logic.{inl, inr}
use mathlib.Core.Option.{Option, none, some}
use native.Mathlib.Omega.{arith}
use borrow.Author.Tests.{eqb-true, eqb-false, le-leb, lt-ltb, not-false}
use lib.Dec.{eqb, leb}
use lib.ListN.{drop}
use Rattle.layout.proofs.Telling.{Right, layout-same}
use Rattle.links.specs.Links.{searched, links_say, LinksOf}
use Rattle.links.specs.Search.{done, mark_at}
use Rattle.paper.proofs.bytes.Bytes.{below-drop}
use Rattle.paper.proofs.bytes.Words.{word_of-bound}
use Rattle.paper.proofs.gates.Gates.{over_types-silent}
use Rattle.paper.proofs.walks.Chains.{ends_held}
use Rattle.paper.proofs.walks.Insides.{held-inside}
use Rattle.paper.specs.declared.Order.{Order}
use Rattle.paper.specs.rules.Answer.{Answer}
use Rattle.paper.specs.rules.Chain.{endless}
use Rattle.paper.specs.rules.Choice.{◌when◌, or_else}
use Rattle.paper.specs.rules.Gate.{first_of, over_types, phase4, phase5, phase6}
use Rattle.paper.specs.rules.Layout.{layout_bad}
use Rattle.paper.specs.rules.Limits.{type_limit}
use Rattle.paper.specs.rules.References.{refs_ok, ref_bad}
use Rattle.paper.specs.rules.Size.{step_in}
use Rattle.paper.specs.rules.Table.{Record, Table, count, record_at, tail_length}
use Rattle.paper.specs.rules.Word.{word_at, first_word}
use Rattle.paper.specs.terms.Fit.{Below, Bytes, word_bound}
use Rattle.paper.specs.terms.Reading.{words_from, record_in}
use Rattle.phases.specs.Said.{phase6_told, over_shown}
use Rattle.recall.proofs.Everywhere.{Inside, base-everywhere, size-everywhere, named-everywhere}
use Rattle.recall.proofs.Lines.{OrVoid}
use Rattle.recall.proofs.Recalling.{Kept}
use Rattle.recall.proofs.Steps.{goes-held}
use Rattle.recall.specs.Recall.{told, goes_to, code_at}
use Rattle.views.proofs.Shows.{table_by-count, bytes_by-record}
use Rattle.views.specs.Shown.{place_by, table_by, bytes_by, start_in, holder}
use Rattle.views.specs.declared.View.{View}

-- ── a record's words have 32 bits ──

first_word-low : (order : Order) (s : List ℕ) → Bytes s → first_word order s < word_bound
first_word-low order [] h = omega arith
first_word-low order (a ∷ []) h = omega arith
first_word-low order (a ∷ b ∷ []) h = omega arith
first_word-low order (a ∷ b ∷ c ∷ []) h = omega arith
first_word-low order (a ∷ b ∷ c ∷ d ∷ s) h = word_of-bound order h.0 h.1.0 h.1.1.0 h.1.1.1.0

words_from-low : (order : Order) (s : List ℕ) → Bytes s → (p n : ℕ) → Below word_bound (words_from order s p n)
unfolding word_at
words_from-low order s h p zero = tt
words_from-low order s h p (suc n) = (first_word-low order (drop p s) (below-drop 256 p s h), words_from-low order s h (p + 4) n)

module _ (base b index : List ℕ) (v : View) (low : Bytes base) (high : Bytes b) where
  abbrev T : Table
  T = table_by base b index v

  bytes_low : (t : ℕ) → Bytes (bytes_by base b index v t)
  unfolding bytes_by
  bytes_low t = below-drop 256 (start_in (holder v t base b) index v t) (holder v t base b) (go (leb t v.before))
    where
      go : (z : Bool) → Bytes (cond z base b)
      go true = low
      go false = high

  tail-low : (t : ℕ) → Below word_bound (record_at T t).tail
  unfolding record_in
  tail-low t =
      let s = bytes_by base b index v t in
      subst (λ (r : Record). Below word_bound r.tail) (bytes_by-record base b index v t)
      (words_from-low v.order s (bytes_low t) 12 (tail_length (word_at v.order s 4)))

  -- ── what phases 4 and 5 have left is right ──

  module _ (few : v.n ≤ type_limit) {room : ℕ} (enough : v.n < room) {memo : List ℕ} (linked : LinksOf T v.n room (Ok (record {})) memo) where
    on : searched v.n room ≡ true
    on = ap₂ (λ (x y : Bool). x && y) (le-leb v.n type_limit few) (lt-ltb v.n room enough)

    both-silent : or_else (over_types phase4 T) (over_types phase5 T) ≡ none
    unfolding links_say
    both-silent = sym (linked.says ∙ ap (λ (z : Bool). cond z (or_else (over_types phase4 T) (over_types phase5 T)) none) on)

    silent-first : (x y : Option Answer) → or_else x y ≡ none → x ≡ none
    silent-first none y e = refl
    silent-first (some a) y e = e

    silent-second : (x y : Option Answer) → or_else x y ≡ none → y ≡ none
    silent-second none y e = e
    silent-second (some a) y e = absurd (Rattle.paper.proofs.gates.Gates.some≢none e)

    pub fourth-silent : over_types phase4 T ≡ none
    fourth-silent = silent-first (over_types phase4 T) (over_types phase5 T) both-silent

    pub fifth-silent : over_types phase5 T ≡ none
    fifth-silent = silent-second (over_types phase4 T) (over_types phase5 T) both-silent

    refs : (t : ℕ) → 1 ≤ t → t ≤ count T → refs_ok T (record_at T t) ≡ true
    unfolding phase4 ref_bad
    refs t l h = not-false (refs_ok T (record_at T t)) (over_types-silent T phase4 fourth-silent t l h).0

    ends : (t : ℕ) → 1 ≤ t → t ≤ count T → endless T t ≡ false
    unfolding phase5
    ends t l h = (over_types-silent T phase5 fifth-silent t l h).0

    told-right : (t : ℕ) → Inside T t → told memo t ≡ code_at T t
    unfolding done
    told-right t d =
        let n = table_by-count base b index v in
        let marked =
        linked.leaves t
        ∙ ap (λ (z : Bool). cond z (mark_at T v.n t) 0) on
        ∙ ap₂ (λ (x y : Bool). cond (x && y) (done T t) 0) (le-leb 1 t d.0) (le-leb t v.n (omega arith)) in
        omega arith

    kept : Kept T memo (Inside T)
    kept =
        record {
          low = λ t d. d.0;
          ends = λ t d. ends_held T t (ends t d.0 d.1);
          closed = λ t d. next t (eqb (goes_to (step_in T t)) 0) refl;
          right = told-right;
        }
      where
        next : (t : ℕ) (z : Bool) → eqb (goes_to (step_in T t)) 0 ≡ z → OrVoid (Inside T) (goes_to (step_in T t))
        next t true e = inl (eqb-true _ _ e)
        next t false e = inr (held-inside T refs t (goes_to (step_in T t)) (goes-held T t (eqb-false _ _ e))).2

    right : Right (record { table = T; memo = memo })
    right = record { bases = base-everywhere kept; sizes = size-everywhere kept; named = named-everywhere kept }

    pub sixth-same : over_shown base b index v (phase6_told memo) ≡ over_shown base b index v phase6
    unfolding over_shown phase6_told phase6 layout_bad
    sixth-same = λ i. first_of (place_by index v) (λ t. 15 when not (layout-same right (record_at T t) (tail-low t) i) ∷ []) v.n 1
