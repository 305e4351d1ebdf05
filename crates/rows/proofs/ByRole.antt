-- Laws of a test of words by their roles, whatever it tests: three words at a time, entry by entry, and the whole of a record.
-- Assumes nothing.
use Prim.Native.Nat.{ℕ, zero, suc, ◌+◌, ◌-◌, ◌*◌, ◌<◌, ◌≤◌}
use mathlib.Core.Path.{◌≡◌, refl, sym, ap, ◌∙◌}
use mathlib.Core.Bool.{Bool, true, false, not, ◌&&◌, false≢true}
use mathlib.Core.List.{List, [], ◌∷◌, ◌++◌}
use native.Mathlib.Omega.{arith}
use borrow.Author.Tests.{not-true, not-false}
use lib.ListN.{length, get_or}
use Rattle.paper.specs.rules.Choice.{every, times}
use Rattle.paper.specs.rules.Kind.{Role, names, refers, holds, number, row_of}
use Rattle.paper.specs.terms.Reading.{record_in, roled, tail_roled}
use Rattle.paper.specs.rules.Table.{kind_in, vlen_in, every_word}
use Rattle.paper.specs.declared.Order.{Order}
use Rattle.paper.specs.rules.Word.{word_at}
use Rattle.paper.proofs.basics.Choices.{and_left, and-nothing, and_right}
use Rattle.paper.proofs.bytes.Reading.{roled-append, every_word-record_in}
use Rattle.kindrows.specs.Codes.{name_code, role_code, role_of, role_at}
use Rattle.rows.specs.Numbers.{is_number, only_numbers}
use Rattle.rows.proofs.RoleCodes.{role_of-name_code, role_of-role_code}

-- ── plain numbers ──

numbers-append : (ρs σs : List Role) → every is_number ρs ≡ true → every is_number σs ≡ true → every is_number (ρs ++ σs) ≡ true
numbers-append [] σs h e = e
numbers-append (number ∷ ρs) σs h e = numbers-append ρs σs h e
numbers-append (names rule ∷ ρs) σs h e = absurd (false≢true h)
numbers-append (refers rule ∷ ρs) σs h e = absurd (false≢true h)
numbers-append (holds rule ∷ ρs) σs h e = absurd (false≢true h)

numbers-times : (n : ℕ) (ρs : List Role) → every is_number ρs ≡ true → every is_number (times n ρs) ≡ true
numbers-times zero ρs h = refl
numbers-times (suc n) ρs h = numbers-append ρs (times n ρs) h (numbers-times n ρs h)

module _ (order : Order) (f : Role → ℕ → Bool) (s : List ℕ) where
  abbrev at : ℕ → ℕ
  at p = word_at order s p

  -- ── three words, the first that fails decides ──

  module _ (p : ℕ) (ρ σ τ : Role) {a : Bool} (first : a ≡ f ρ (at p)) where
    pub three-first : not a ≡ true → false ≡ roled order f s p (ρ ∷ σ ∷ τ ∷ [])
    unfolding roled
    three-first n = rw (sym first ∙ not-true a n) refl

    module _ (ok : not a ≡ false) {b : Bool} (second : b ≡ f σ (at (p + 4))) where
      pub three-second : not b ≡ true → false ≡ roled order f s p (ρ ∷ σ ∷ τ ∷ [])
      unfolding roled
      three-second n = rw (sym first ∙ not-false a ok, sym second ∙ not-true b n) refl

      pub three_third : not b ≡ false → {c : Bool} → c ≡ f τ (at (p + 8)) → c ≡ roled order f s p (ρ ∷ σ ∷ τ ∷ [])
      unfolding roled
      three_third n third =
          let eight : p + 8 ≡ p + 4 + 4 = omega arith in
          rw (sym first ∙ not-false a ok, sym second ∙ not-false b n)
          (third ∙ ap (λ (q : ℕ). f τ (at q)) eight ∙ sym (and-nothing (f τ (at (p + 4 + 4)))))

  -- ── at most three roles, where the test asks nothing of a plain number ──

  module _ (plain : (w : ℕ) → true ≡ f number w) where
    -- made three with plain numbers
    padded : (p : ℕ) (ρs : List Role) → length ρs ≤ 3
        → roled order f s p (get_or ρs 0 number ∷ get_or ρs 1 number ∷ get_or ρs 2 number ∷ []) ≡ roled order f s p ρs
    unfolding roled
    padded p [] h =
        sym (λ i. plain (at p) i && (plain (at (p + 4)) i && (plain (at (p + 4 + 4)) i && true)))
    padded p (ρ ∷ []) h = sym (λ i. f ρ (at p) && (plain (at (p + 4)) i && (plain (at (p + 4 + 4)) i && true)))
    padded p (ρ ∷ σ ∷ []) h = sym (λ i. f ρ (at p) && (f σ (at (p + 4)) && (plain (at (p + 4 + 4)) i && true)))
    padded p (ρ ∷ σ ∷ τ ∷ []) h = refl
    padded p (ρ ∷ σ ∷ τ ∷ υ ∷ ρs) h = absurd (omega arith)

    -- by the codes of the roles
    pub three-codes : (p : ℕ) (ρs : List Role) → length ρs ≤ 3 → {a b c : ℕ} → a ≡ role_at ρs 0 → b ≡ role_at ρs 1 → c ≡ role_at ρs 2
        → roled order f s p (role_of a ∷ role_of b ∷ role_of c ∷ []) ≡ roled order f s p ρs
    three-codes p ρs few {a} {b} {c} e g h =
        let e' : role_of a ≡ get_or ρs 0 number = ap role_of e ∙ role_of-role_code _ in
        let g' : role_of b ≡ get_or ρs 1 number = ap role_of g ∙ role_of-role_code _ in
        let h' : role_of c ≡ get_or ρs 2 number = ap role_of h ∙ role_of-role_code _ in
        (λ i. roled order f s p (e' i ∷ g' i ∷ h' i ∷ [])) ∙ padded p ρs few

    -- ── a tail of plain numbers alone ──

    numbers-pass : (p : ℕ) (ρs : List Role) → every is_number ρs ≡ true → true ≡ roled order f s p ρs
    unfolding roled
    numbers-pass p [] h = refl
    numbers-pass p (number ∷ ρs) h = (λ i. plain (at p) i && numbers-pass (p + 4) ρs h i)
    numbers-pass p (names rule ∷ ρs) h = absurd (false≢true h)
    numbers-pass p (refers rule ∷ ρs) h = absurd (false≢true h)
    numbers-pass p (holds rule ∷ ρs) h = absurd (false≢true h)

    pub tail-numbers : (info : ℕ) {k : ℕ} → k ≡ kind_in info → {z : Bool} → z ≡ only_numbers (row_of k) → z ≡ true → true ≡ tail_roled order f s info
    tail-numbers info {k} kind {z} asked e =
        let row = row_of (kind_in info) in
        let all : only_numbers row ≡ true = ap (λ (j : ℕ). only_numbers (row_of j)) (sym kind) ∙ sym asked ∙ e in
        let once : every is_number row.once ≡ true = and_left (every is_number row.once) (every is_number row.each) all in
        let each : every is_number row.each ≡ true = and_right (every is_number row.once) (every is_number row.each) all in
        (λ i. numbers-pass 12 row.once once i
        && numbers-pass (12 + 4 * length row.once) (times (vlen_in info) row.each) (numbers-times (vlen_in info) row.each each) i)

  -- ── the whole of a record: the head's three words, then the tail ──

  -- what the code reads: the info word, its kind, and the codes of the head's roles
  module _ {info kind a c : ℕ} (read : info ≡ word_at order s 4) (is : kind ≡ kind_in info) (e : a ≡ name_code (row_of kind).name)
      (g : c ≡ role_code (row_of kind).third_role) {t : Bool} (head : t ≡ roled order f s 0 (role_of a ∷ role_of 0 ∷ role_of c ∷ [])) where
    head-roled : t ≡ roled order f s 0 (names (row_of (kind_in (at 4))).name ∷ number ∷ (row_of (kind_in (at 4))).third_role ∷ [])
    head-roled =
        let kind' : kind ≡ kind_in (at 4) = is ∙ ap kind_in read in
        let e' : role_of a ≡ names (row_of kind).name = ap role_of e ∙ role_of-name_code _ in
        let g' : role_of c ≡ (row_of kind).third_role = ap role_of g ∙ role_of-role_code _ in
        head
        ∙ (λ i. roled order f s 0 (e' i ∷ number ∷ g' i ∷ []))
        ∙ ap (λ (k : ℕ). roled order f s 0 (names (row_of k).name ∷ number ∷ (row_of k).third_role ∷ [])) kind'

    pub record-head : not t ≡ true → false ≡ every_word f (record_in order s)
    record-head n =
        sym (ap (λ (b : Bool). b && tail_roled order f s (at 4)) (sym head-roled ∙ not-true t n)) ∙ every_word-record_in order f s

    pub record-tail : not t ≡ false → {r : Bool} → r ≡ tail_roled order f s info → r ≡ every_word f (record_in order s)
    record-tail n d =
        d
        ∙ ap (tail_roled order f s) read
        ∙ sym (ap (λ (b : Bool). b && tail_roled order f s (at 4)) (sym head-roled ∙ not-false t n))
        ∙ every_word-record_in order f s

  -- ── the whole of a tail: the words that stand once, then the entries ──

  module _ (info : ℕ) {k : ℕ} (kind : k ≡ kind_in info) {t : Bool} (once : t ≡ roled order f s 12 (row_of k).once) where
    once-test : roled order f s 12 (row_of (kind_in info)).once ≡ t
    once-test = sym (once ∙ ap (λ (j : ℕ). roled order f s 12 (row_of j).once) kind)

    pub tail-once : not t ≡ true → false ≡ tail_roled order f s info
    tail-once e = rw (once-test ∙ not-true t e) refl

    pub tail-entries : not t ≡ false → {w v : ℕ} → w ≡ length (row_of k).once → v ≡ vlen_in info → {r : Bool}
        → r ≡ roled order f s (12 + 4 * w) (times v (row_of k).each) → r ≡ tail_roled order f s info
    tail-entries e {w} {v} words vlen d =
        let few : w ≡ length (row_of (kind_in info)).once = words ∙ ap (λ (j : ℕ). length (row_of j).once) kind in
        rw (once-test ∙ not-false t e) (d ∙ (λ i. roled order f s (12 + 4 * few i) (times (vlen i) (row_of (kind i)).each)))

-- ── what is left of the entries ──

-- so many entries of n are passed, and the next begins at a place: those left pass where all do, since the ones passed do
pub record Entering (order : Order) (f : Role → ℕ → Bool) (s : List ℕ) (ρs : List Role) (from n p i : ℕ) : Type 0 where
  pub left : ℕ
  pub whole : i + left ≡ n
  pub rest : roled order f s from (times n ρs) ≡ roled order f s p (times left ρs)

pub entering-start : {order : Order} {f : Role → ℕ → Bool} {s : List ℕ} {ρs : List Role} {from n p : ℕ} → p ≡ from → Entering order f s ρs from n p 0
entering-start {order} {f} {s} {ρs} {from} {n} e =
    record { left = n; whole = omega arith; rest = ap (λ (q : ℕ). roled order f s q (times n ρs)) (sym e) }

module _ {order : Order} {f : Role → ℕ → Bool} {s : List ℕ} {ρs : List Role} {from n p i : ℕ} (here : Entering order f s ρs from n p i) where
  pub entering-done : n ≤ i → true ≡ roled order f s from (times n ρs)
  unfolding roled
  entering-done h =
      let none : here.left ≡ 0 = omega (arith, here.whole) in
      sym (here.rest ∙ ap (λ (m : ℕ). roled order f s p (times m ρs)) none)

  module _ (some : i < n) {t : Bool} (entry : t ≡ roled order f s p ρs) where
    after : roled order f s from (times n ρs) ≡ t && roled order f s (p + 4 * length ρs) (times (here.left - 1) ρs)
    after =
        let one : here.left ≡ suc (here.left - 1) = omega (arith, here.whole) in
        here.rest
        ∙ ap (λ (m : ℕ). roled order f s p (times m ρs)) one
        ∙ roled-append order f s p ρs (times (here.left - 1) ρs)
        ∙ ap (λ (b : Bool). b && roled order f s (p + 4 * length ρs) (times (here.left - 1) ρs)) (sym entry)

    pub entering-bad : not t ≡ true → false ≡ roled order f s from (times n ρs)
    entering-bad e = sym (after ∙ ap (λ (b : Bool). b && roled order f s (p + 4 * length ρs) (times (here.left - 1) ρs)) (not-true t e))

    pub entering-next : not t ≡ false → {w q : ℕ} → w ≡ length ρs → q ≡ p + 4 * w → Entering order f s ρs from n q (i + 1)
    entering-next e {w} {q} words next =
        let behind : p + 4 * length ρs ≡ q = omega (arith, words, next) in
        record {
          left = here.left - 1;
          whole = omega (arith, here.whole);
          rest =
              after
              ∙ ap (λ (b : Bool). b && roled order f s (p + 4 * length ρs) (times (here.left - 1) ρs)) (not-false t e)
              ∙ ap (λ (m : ℕ). roled order f s m (times (here.left - 1) ρs)) behind;
        }

-- an entry of at most three words, of fewer than 65,536, begins no further than this behind the first
pub entry-near : (words i : ℕ) (ρs : List Role) → words ≡ length ρs → length ρs ≤ 3 → i < 65536 → 4 * words * i ≤ 786432
entry-near words i ρs is three few = let most : words * i ≤ 3 * i = grind (arith) in omega arith
