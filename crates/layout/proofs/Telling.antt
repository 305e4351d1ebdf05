-- Where what the slice tells is right, the rules by it are the paper's.
-- Assumes nothing.
use Prim.Native.Nat.{ℕ, ◌<◌}
use mathlib.Core.Path.{◌≡◌, refl, sym, ap, ap₂, ◌∙◌}
use mathlib.Core.Bool.{Bool, true, false, cond, ◌&&◌, ◌||◌}
use mathlib.Core.List.{List, [], ◌∷◌}
use mathlib.Core.Option.{Option, none, some}
use native.Mathlib.Omega.{arith}
use borrow.Author.Tests.{leb-false, lt-leb, eqb-true}
use lib.Dec.{eqb, leb}
use lib.ListN.{get_or}
use Rattle.layout.proofs.LayoutKinds.{by_kind}
use Rattle.layout.specs.Told.{Recalled, sized, span_sized, span_told, member_told, members_told, array_told, variable_told, function_told, entry_told, section_told, layout_told}
use Rattle.paper.specs.rules.Choice.{every, is_some}
use Rattle.paper.specs.rules.KindNo.{FUNC_PROTO}
use Rattle.paper.specs.rules.Layout.{all_named, offsets_ok, member_ok, members_ok, array_ok, function_ok, tag_ok, layout_ok}
use Rattle.paper.specs.rules.Limits.{size_limit}
use Rattle.paper.specs.rules.Section.{entries_in, entries_of, covers_size, entry_covers, placed_from, section_ok}
use Rattle.paper.specs.rules.Size.{exact_size, within, small_size, has_size, has_small_size}
use Rattle.paper.specs.rules.Span.{Member, members_of, base_from, base_of, field_span, plain_span, span_of_size, span_of, ends_by, is_regular}
use Rattle.paper.specs.rules.Table.{Record, Table, count, record_at, kind_at, kind_of, flag_of}
use Rattle.paper.specs.rules.Tails.{parameters_of}
use Rattle.paper.specs.terms.Fit.{Below, word_bound}
use Rattle.recall.specs.Recall.{told, cut_size, base_told}
use Rattle.sizes.specs.SizeStep.{cut}

-- ── sizes that agree as far as they matter ──

within-cut : (x : Option ℕ) → within (cut_size x) ≡ within x
unfolding cut
within-cut none = refl
within-cut (some s) = go (leb s 4294967296) refl
  where
    go : (z : Bool) → leb s 4294967296 ≡ z → within (some (cond z s 4294967296)) ≡ within (some s)
    go true e = refl
    go false e = let l = leb-false s 4294967296 e in sym (ap (λ (z : Bool). cond z (some s) none) (lt-leb s size_limit (omega arith)))

some-cut : (x : Option ℕ) → is_some (cut_size x) ≡ is_some x
some-cut none = refl
some-cut (some s) = refl

covers-cut : (size : ℕ) → size < word_bound → (x : Option ℕ) → covers_size size (cut_size x) ≡ covers_size size x
unfolding cut
covers-cut size h none = refl
covers-cut size h (some s) = go (leb s 4294967296) refl
  where
    go : (z : Bool) → leb s 4294967296 ≡ z → leb (cond z s 4294967296) size ≡ leb s size
    go true e = refl
    go false e = let l = leb-false s 4294967296 e in lt-leb 4294967296 size h ∙ sym (lt-leb s size (omega arith))

every-same : {A : Type 0} (f g : A → Bool) → ((x : A) → f x ≡ g x) → (xs : List A) → every f xs ≡ every g xs
every-same f g h [] = refl
every-same f g h (x ∷ xs) = ap₂ (λ (a b : Bool). a && b) (h x) (every-same f g h xs)

-- ── what is told is right ──

pub record Right (X : Recalled) : Type 0 where
  pub bases : (t : ℕ) → base_told X.memo X.table t ≡ base_from X.table (count X.table) t
  pub sizes : (t : ℕ) → cut_size (sized X t) ≡ cut_size (exact_size X.table t)
  pub named : (t : ℕ) → kind_at X.table t ≡ FUNC_PROTO → eqb (told X.memo t) 0 ≡ all_named (parameters_of (record_at X.table t))

module _ {X : Recalled} (right : Right X) where
  abbrev T : Table
  T = X.table

  small : (t : ℕ) → within (sized X t) ≡ within (exact_size T t)
  small t = sym (within-cut (sized X t)) ∙ ap within (right.sizes t) ∙ within-cut (exact_size T t)

  has : (t : ℕ) → is_some (sized X t) ≡ is_some (exact_size T t)
  has t = sym (some-cut (sized X t)) ∙ ap is_some (right.sizes t) ∙ some-cut (exact_size T t)

  covers : (size t : ℕ) → size < word_bound → covers_size size (sized X t) ≡ covers_size size (exact_size T t)
  covers size t h = sym (covers-cut size h (sized X t)) ∙ ap (covers_size size) (right.sizes t) ∙ covers-cut size h (exact_size T t)

  span_same : (flag : ℕ) (m : Member) → span_told X flag m ≡ span_of T flag m
  unfolding span_told span_of small_size base_of
  span_same flag m = ap (span_sized X flag m) (small m.type) ∙ go (within (exact_size T m.type))
    where
      go : (size : Option ℕ) → span_sized X flag m size ≡ span_of_size T flag m size
      go none = refl
      go (some size) =
          ap (λ (t : ℕ). let base = record_at T t in cond (eqb flag 1) (field_span base m size) (plain_span base m size)) (right.bases m.type)

  members-same : (r : Record) → members_told X r ≡ members_ok T r
  unfolding members_told members_ok member_told member_ok
  members-same r =
      ap (λ (z : Bool). z && offsets_ok r)
      (every-same (member_told X r) (member_ok T r) (λ m. ap (ends_by _) (span_same (flag_of r) m)) (members_of r))

  array_same : (r : Record) → array_told X r ≡ array_ok T r
  unfolding array_told array_ok has_size
  array_same r = ap (λ (z : Bool). z && is_regular (record_at T (get_or r.tail 1 0))) (has (get_or r.tail 0 0))

  variable-same : (t : ℕ) → variable_told X t ≡ has_small_size T t
  unfolding variable_told has_small_size small_size
  variable-same t = ap is_some (small t)

  function-same : (r : Record) → function_told X r ≡ function_ok T r
  unfolding function_told function_ok
  function-same r = go (eqb (kind_at T r.third) FUNC_PROTO) refl
    where
      go : (z : Bool) → eqb (kind_at T r.third) FUNC_PROTO ≡ z
          → cond z (eqb (told X.memo r.third) 0) (all_named (parameters_of (record_at T r.third))) ≡ all_named (parameters_of (record_at T r.third))
      go true e = right.named r.third (eqb-true _ _ e)
      go false e = refl

  entries-same : (ws : List ℕ) → Below word_bound ws → every (entry_told X) (entries_in ws) ≡ every (entry_covers T) (entries_in ws)
  unfolding entry_told entry_covers
  entries-same [] h = refl
  entries-same (v ∷ []) h = refl
  entries-same (v ∷ o ∷ []) h = refl
  entries-same (v ∷ o ∷ s ∷ ws) h = ap₂ (λ (a b : Bool). a && b) (covers s v h.1.1.0) (entries-same ws h.1.1.1)

  section-same : (r : Record) → Below word_bound r.tail → section_told X r ≡ section_ok T r
  unfolding section_told section_ok
  section-same r h =
      ap (λ (z : Bool). z && (eqb r.third 0 || placed_from r.third 0 (entries_of r))) (entries-same r.tail h)

  pub layout-same : (r : Record) → Below word_bound r.tail → layout_told X r ≡ layout_ok T r
  unfolding layout_told layout_ok
  layout-same r h = λ i.
      by_kind (kind_of r) (members-same r i) (array_same r i) (variable-same r.third i) (function-same r i) (tag_ok T r) (section-same r h i)
