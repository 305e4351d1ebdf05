-- Laws of a section's header as code reads it: its first four bytes, 43, each part's place in the row, and 44.
-- Assumes nothing.
use Prim.Native.Nat.{ℕ, ◌+◌, ◌%◌, ◌≤◌, ◌<◌}
use mathlib.Core.Path.{◌≡◌, refl, sym, ap, ap₂, ◌∙◌}
use mathlib.Core.Bool.{Bool, true, false, not, cond, ◌&&◌, ◌||◌}
use mathlib.Core.List.{List, [], ◌∷◌}
use mathlib.Core.Option.{Option, some}
use native.Mathlib.Omega.{arith}
use borrow.Author.Tests.{lt-leb, le-leb, lt-ltb, le-ltb, eq-eqb, ne_eqb}
use lib.Dec.{eqb, leb, ltb}
use lib.ListN.{length, get_or, take, length-take}
use Rattle.exts.specs.Ext.{head_length_bad, part_ok, parts_follow, parts_bad, fault_number}
use Rattle.exts.specs.Items.{head_length, part_offset, part_length, parts}
use Rattle.exts.specs.Sorts.{header_place, in_fours, sorts}
use Rattle.exts.specs.declared.Fault.TheVariants.{HeaderLength, Parts}
use Rattle.exts.specs.declared.Sort.{Sort}
use Rattle.exts.specs.declared.Sort.TheVariants.{Function, Line, Relocation}
use Rattle.groups.specs.Fronts.{EndsAt, FrontIn}
use Rattle.paper.proofs.basics.Choices.{and-nothing, same_true}
use Rattle.paper.specs.declared.Order.{Order}
use Rattle.paper.specs.rules.Choice.{same, ◌when◌, first_due}
use Rattle.paper.specs.rules.Header.{opening, order_of, opening_bad}
use Rattle.paper.specs.rules.Word.{word_at}

-- ── the first four bytes ──

pub opens-short : (s o : List ℕ) → 4 ≤ length s → length o < 4 → false ≡ same (take 4 s) (take 4 o)
opens-short s o h k = go (same (take 4 s) (take 4 o)) refl
  where
    go : (z : Bool) → same (take 4 s) (take 4 o) ≡ z → false ≡ z
    go true e = absurd (omega (arith, simp length-take at (ap length (same_true (take 4 s) (take 4 o) e))))
    go false e = refl

regroup : (a b c d : Bool) → ((a && b) && c) && d ≡ a && (b && (c && (d && true)))
regroup true true true d = sym (and-nothing d)
regroup true true false d = refl
regroup true false c d = refl
regroup false b c d = refl

pub opens-alike : (s o : List ℕ) → 4 ≤ length s → 4 ≤ length o
    → ((eqb (get_or s 0 0) (get_or o 0 0) && eqb (get_or s 1 0) (get_or o 1 0)) && eqb (get_or s 2 0) (get_or o 2 0)) && eqb (get_or s 3 0) (get_or o 3 0) ≡ same (take 4 s) (take 4 o)
opens-alike [] o h k = absurd (omega arith)
opens-alike (a ∷ []) o h k = absurd (omega arith)
opens-alike (a ∷ b ∷ []) o h k = absurd (omega arith)
opens-alike (a ∷ b ∷ c ∷ []) o h k = absurd (omega arith)
opens-alike (a ∷ b ∷ c ∷ d ∷ s) [] h k = absurd (omega arith)
opens-alike (a ∷ b ∷ c ∷ d ∷ s) (e ∷ []) h k = absurd (omega arith)
opens-alike (a ∷ b ∷ c ∷ d ∷ s) (e ∷ f ∷ []) h k = absurd (omega arith)
opens-alike (a ∷ b ∷ c ∷ d ∷ s) (e ∷ f ∷ g ∷ []) h k = absurd (omega arith)
opens-alike (a ∷ b ∷ c ∷ d ∷ s) (e ∷ f ∷ g ∷ i ∷ o) h k = regroup (eqb a e) (eqb b f) (eqb c g) (eqb d i)

not-not : (z : Bool) → z ≡ not (not z)
not-not true = refl
not-not false = refl

-- the opening of the order that the first two bytes say
pub opens-either : (s : List ℕ) (order : Order) {o : Order} → o ≡ order_of s → o ≡ order → {r : Bool} → r ≡ same (take 4 s) (opening order)
    → r ≡ not (opening_bad s)
unfolding opening_bad
opens-either s order e is {r} asked =
    asked ∙ ap (λ (x : Order). same (take 4 s) (opening x)) (sym is ∙ e) ∙ not-not (same (take 4 s) (opening (order_of s)))

-- ── 43 ──

module _ (s : List ℕ) {h : ℕ} (read : h ≡ word_at (order_of s) s 4) where
  by-head : not ((not (eqb h 24 || eqb h 32)) || ltb (length s) h) ≡ not (head_length_bad s)
  unfolding head_length_bad head_length
  by-head = ap (λ (k : ℕ). not ((not (eqb k 24 || eqb k 32)) || ltb (length s) k)) read

  past : (z : Bool) → false ≡ not (z || true)
  past true = refl
  past false = refl

  pub head-past : length s < h → false ≡ not (head_length_bad s)
  head-past l = past (not (eqb h 24 || eqb h 32)) ∙ ap (λ (z : Bool). not ((not (eqb h 24 || eqb h 32)) || z)) (sym (lt-ltb (length s) h l)) ∙ by-head

  module _ (inside : h ≤ length s) where
    inner : (a b : Bool) → a || b ≡ not ((not (a || b)) || false)
    inner true b = refl
    inner false true = refl
    inner false false = refl

    either : eqb h 24 || eqb h 32 ≡ not (head_length_bad s)
    either = inner (eqb h 24) (eqb h 32) ∙ ap (λ (z : Bool). not ((not (eqb h 24 || eqb h 32)) || z)) (sym (le-ltb (length s) h inside)) ∙ by-head

    pub head-short : h ≡ 24 → eqb h 24 ≡ not (head_length_bad s)
    head-short e = eq-eqb h 24 e ∙ ap (λ (z : Bool). z || eqb h 32) (sym (eq-eqb h 24 e)) ∙ either

    pub head-long : (h ≡ 24 → ⊥) → eqb h 32 ≡ not (head_length_bad s)
    head-long n = ap (λ (z : Bool). z || eqb h 32) (sym (ne_eqb h 24 n)) ∙ either

-- ── a part in the row ──

pub place-small : (sort : Sort) → header_place sort ≤ 24
place-small Function = omega arith
place-small Line = omega arith
place-small Relocation = omega arith

module _ (s : List ℕ) (sort : Sort) (from : ℕ) {h at : ℕ} (read : h ≡ word_at (order_of s) s 4) (placed : at ≡ header_place sort) where
  described : (z : Bool) → leb (at + 8) h ≡ z → leb (header_place sort + 8) (head_length s) ≡ z
  unfolding head_length
  described z e = ap₂ (λ (p k : ℕ). leb (p + 8) k) (sym placed) (sym read) ∙ e

  pub next-none : h < at + 8 → EndsAt s sort from from
  unfolding part_length part_ok
  next-none l =
      let d = described false (lt-leb (at + 8) h l) in
      let e : part_length s sort ≡ 0 = ap (λ (z : Bool). cond z (word_at (order_of s) s (header_place sort + 4)) 0) d in
      let stays : from + part_length s sort ≡ from = omega arith in
      record {
        ends = sym stays;
        small = omega arith;
        is = λ later.
            ap (λ (z : Bool). (not z || (eqb (part_offset s sort) from && in_fours (part_length s sort))) && parts_follow s (from + part_length s sort) later) d
            ∙ ap (λ (o : ℕ). parts_follow s o later) stays;
      }

  module _ (has : at + 8 ≤ h) where
    has_words : leb (header_place sort + 8) (head_length s) ≡ true
    has_words = described true (le-leb (at + 8) h has)

    by-words : {o : ℕ} → o ≡ word_at (order_of s) s at → part_ok s sort from ≡ eqb o from && in_fours (part_length s sort)
    unfolding part_ok part_offset
    by-words e =
        ap (λ (z : Bool). not z || (eqb (part_offset s sort) from && in_fours (part_length s sort))) has_words
        ∙ ap (λ (o : ℕ). eqb o from && in_fours (part_length s sort)) (ap (word_at (order_of s) s) (sym placed) ∙ sym e)

    long : {len : ℕ} → len ≡ word_at (order_of s) s (at + 4) → part_length s sort ≡ len
    unfolding part_length
    long e =
        ap (λ (z : Bool). cond z (word_at (order_of s) s (header_place sort + 4)) 0) has_words
        ∙ ap (λ (p : ℕ). word_at (order_of s) s (p + 4)) (sym placed) ∙ sym e

    pub next-moved : {o : ℕ} → o ≡ word_at (order_of s) s at → (o ≡ from → ⊥) → part_ok s sort from ≡ false
    next-moved {o} e n = by-words e ∙ ap (λ (z : Bool). z && in_fours (part_length s sort)) (ne_eqb o from n)

    module _ {o : ℕ} (offset : o ≡ word_at (order_of s) s at) (there : o ≡ from) {len : ℕ} (length-is : len ≡ word_at (order_of s) s (at + 4)) where
      by_length : part_ok s sort from ≡ in_fours len
      by_length =
          by-words offset ∙ ap₂ (λ (z : Bool) (n : ℕ). z && in_fours n) (eq-eqb o from there) (long length-is)

      pub next-odd : (len % 4 ≡ 0 → ⊥) → part_ok s sort from ≡ false
      next-odd n = by_length ∙ ne_eqb (len % 4) 0 n

      pub next-to : len % 4 ≡ 0 → len < 4294967296 → EndsAt s sort from (from + len)
      next-to e small =
          record {
            ends = ap (λ (n : ℕ). from + n) (sym (long length-is));
            small = omega arith;
            is = λ later.
                ap (λ (z : Bool). z && parts_follow s (from + part_length s sort) later) (by_length ∙ eq-eqb (len % 4) 0 e)
                ∙ ap (λ (n : ℕ). parts_follow s (from + n) later) (long length-is);
          }

-- ── 43 and 44 ──

module _ (s : List ℕ) where
  abbrev front_fault : Option ℕ
  front_fault = first_due (43 when head_length_bad s ∷ 44 when parts_bad s ∷ [])

  pub front-head : {ok : Bool} → ok ≡ not (head_length_bad s) → not ok ≡ true → front_fault ≡ some (fault_number HeaderLength)
  unfolding fault_number
  front-head {ok} e n =
      ap (λ (z : Bool). first_due (43 when z ∷ 44 when parts_bad s ∷ [])) (not-not (head_length_bad s) ∙ ap not (sym e) ∙ n)

  module _ {ok : Bool} (asked : ok ≡ not (head_length_bad s)) (good : not ok ≡ false) where
    head-good : head_length_bad s ≡ false
    head-good = not-not (head_length_bad s) ∙ ap not (sym asked) ∙ good

    pub front-parts : parts_follow s 0 sorts ≡ false → front_fault ≡ some (fault_number Parts)
    unfolding fault_number parts_bad
    front-parts e = ap₂ (λ (y z : Bool). first_due (43 when y ∷ 44 when not z ∷ [])) head-good e

    -- a part that does not follow, behind those that do
    pub front-first : part_ok s Function 0 ≡ false → front_fault ≡ some (fault_number Parts)
    front-first e = front-parts (ap (λ (z : Bool). z && parts_follow s (0 + part_length s Function) (Line ∷ Relocation ∷ [])) e)

    pub front-second : {first : ℕ} → EndsAt s Function 0 first → part_ok s Line first ≡ false → front_fault ≡ some (fault_number Parts)
    front-second {first} a e =
        front-parts
        (a.is (Line ∷ Relocation ∷ []) ∙ ap (λ (z : Bool). z && parts_follow s (first + part_length s Line) (Relocation ∷ [])) e)

    pub front-third : {first second : ℕ} → EndsAt s Function 0 first → EndsAt s Line first second → part_ok s Relocation second ≡ false
        → front_fault ≡ some (fault_number Parts)
    front-third {first} {second} a b e =
        front-parts
        (a.is (Line ∷ Relocation ∷ []) ∙ b.is (Relocation ∷ []) ∙ ap (λ (z : Bool). z && parts_follow s (second + part_length s Relocation) []) e)

    module _ {first second third : ℕ} (a : EndsAt s Function 0 first) (b : EndsAt s Line first second) (c : EndsAt s Relocation second third) {h : ℕ} (read : h ≡ word_at (order_of s) s 4) where
      by-ends : parts_follow s 0 sorts ≡ eqb (h + third) (length s)
      unfolding head_length
      by-ends =
          a.is (Line ∷ Relocation ∷ []) ∙ b.is (Relocation ∷ []) ∙ c.is [] ∙ ap (λ (k : ℕ). eqb (k + third) (length s)) (sym read)

      pub front-unfilled : (h + third ≡ length s → ⊥) → front_fault ≡ some (fault_number Parts)
      front-unfilled n = front-parts (by-ends ∙ ne_eqb (h + third) (length s) n)

      pub front-in : h + third ≡ length s → FrontIn s h (h + first) (h + second) (h + third)
      unfolding parts_bad parts head_length
      front-in e =
          let f = a.ends in
          let g = b.ends in
          let k = c.ends in
          let x : head_length s + part_length s Function ≡ h + first = omega arith in
          let y : head_length s + part_length s Function + part_length s Line ≡ h + second = omega arith in
          let z : head_length s + part_length s Function + part_length s Line + part_length s Relocation ≡ h + third = omega arith in
          record {
            header = head-good;
            follow = ap not (by-ends ∙ eq-eqb (h + third) (length s) e);
            there = λ i.
                record { sort = Function; from = sym read i; end = x i }
                ∷ record { sort = Line; from = x i; end = y i }
                ∷ record { sort = Relocation; from = y i; end = z i }
                ∷ [];
            first_inside = omega arith;
            second_inside = omega arith;
            fills = e;
          }
