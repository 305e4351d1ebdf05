-- The records that a section hands out: all there are, in order, each inside the section; and what an accepted section's records point at.
-- Assumes nothing.
use Prim.Native.Nat.{ℕ, zero, suc, ◌+◌, ◌≤◌, ◌<◌}
use mathlib.Core.Path.{◌≡◌, refl, sym, ap, ap₂, ◌∙◌, subst}
use mathlib.Core.Bool.{Bool, true, false, not, cond, ◌&&◌}
use mathlib.Core.List.{List, [], ◌∷◌, ◌++◌}
use mathlib.Core.Option.{Option, none, some}
use native.Mathlib.Omega.{arith}
use lib.ListN.{length, take}
use Rattle.exts.proofs.Accepting.{head-facts, facts-head}
use Rattle.exts.proofs.Insides.{part-inside}
use Rattle.exts.proofs.Records.{nth-none, nth-below}
use Rattle.exts.specs.Entries.{nth, part_at, entries_in, unbroken, is_whole, entries_at, part_entries, record_asked}
use Rattle.exts.specs.Ext.{head_length_bad, parts_bad}
use Rattle.exts.specs.Facts.{HeadFacts, EntrySound, ItemsSound, Extends, also, answers_from}
use Rattle.exts.specs.Items.{Entry, Item, broken, group, entry, entry_at, Part, part_items, parts, items_of, items}
use Rattle.exts.specs.Sorts.{least_size}
use Rattle.exts.specs.declared.Sort.{Sort}
use Rattle.paper.proofs.basics.Choices.{and_left, and_right, and-true, same_refl}
use Rattle.paper.proofs.gates.Acceptance.{accepted-meets}
use Rattle.paper.specs.declared.Order.{Order}
use Rattle.paper.specs.declared.Order.TheVariants.{LowFirst, HighFirst}
use Rattle.paper.specs.rules.Choice.{every, same}
use Rattle.paper.specs.rules.Header.{opening, order_of, magic, length_bad, opening_bad}
use Rattle.paper.specs.rules.Table.{Table}
use Rattle.paper.specs.rules.Walk.{table_of}

-- ── a section that is whole ──

module _ (s : List ℕ) where
  -- none of 41, 43 and 44 holds, the opening is of either order, and nothing is broken
  pub whole-facts : is_whole s ≡ true → HeadFacts s × (opening_bad s ≡ false) × (every unbroken (items s) ≡ true)
  unfolding is_whole
  whole-facts e =
      let a : Bool = not (length_bad s) in
      let b : Bool = not (opening_bad s) in
      let c : Bool = not (head_length_bad s) in
      let d : Bool = not (parts_bad s) in
      let u : Bool = every unbroken (items s) in
      let one = and_right a (b && (c && (d && (u && true)))) e in
      let two = and_right b (c && (d && (u && true))) one in
      let three = and_right c (d && (u && true)) two in
      let four = and_right d (u && true) three in (
        head-facts s (back (length_bad s) (and_left a (b && (c && (d && (u && true)))) e)) (back (head_length_bad s) (and_left c (d && (u && true)) two))
            (back (parts_bad s) (and_left d (u && true) three)),
        back (opening_bad s) (and_left b (c && (d && (u && true))) one),
        and_left u true four,
      )
    where
      back : (z : Bool) → not z ≡ true → z ≡ false
      back true x = sym x
      back false x = refl

  pub facts-whole : HeadFacts s → opening_bad s ≡ false → every unbroken (items s) ≡ true → is_whole s ≡ true
  unfolding is_whole
  facts-whole h o u =
      let f = facts-head s h in
      and-true (ap not f.0) (and-true (ap not o) (and-true (ap not f.1) (and-true (ap not f.2) (and-true u refl))))

-- ── all the records there are, in order ──

module _ {A : Type 0} where
  answers_from-cong : {f g : ℕ → Option A} → ((k : ℕ) → f k ≡ g k) → (n k : ℕ) → answers_from f n k ≡ answers_from g n k
  answers_from-cong e zero k = refl
  answers_from-cong e (suc n) k = ap₂ also (e k) (answers_from-cong e n (suc k))

  answers_from-later : (x : A) (xs : List A) (n k : ℕ) → answers_from (nth (x ∷ xs)) n (suc k) ≡ answers_from (nth xs) n k
  answers_from-later x xs zero k = refl
  answers_from-later x xs (suc n) k = ap (also (nth xs k)) (answers_from-later x xs n (suc k))

  nth-all : (xs : List A) → answers_from (nth xs) (length xs) 0 ≡ xs
  nth-all [] = refl
  nth-all (x ∷ xs) = ap (λ (ys : List A). x ∷ ys) (answers_from-later x xs (length xs) 0 ∙ nth-all xs)

  nth-there : (xs : List A) (k : ℕ) → k < length xs → (x : A) × (nth xs k ≡ some x)
  nth-there [] k h = absurd (omega arith)
  nth-there (x ∷ xs) zero h = (x, refl)
  nth-there (x ∷ xs) (suc k) h = nth-there xs k (omega arith)

module _ (s : List ℕ) (x : ℕ) where
  -- what is asked of a section that is not whole is not there
  pub asked-whole : (y : ℕ) {e : Entry} → record_asked s x y ≡ some e → (is_whole s ≡ true) × (nth (part_entries s x) y ≡ some e)
  unfolding record_asked
  asked-whole y {e} p = go (is_whole s) refl p
    where
      go : (z : Bool) → is_whole s ≡ z → cond z (nth (part_entries s x) y) none ≡ some e → (is_whole s ≡ true) × (nth (part_entries s x) y ≡ some e)
      go true w q = (w, q)
      go false w q = absurd (let z : ◌≡◌ {A = ℕ} 0 1 = cc in omega arith)

  module _ (whole : is_whole s ≡ true) where
    pub asked-part : (y : ℕ) → record_asked s x y ≡ nth (part_entries s x) y
    unfolding record_asked
    asked-part y = ap (λ (z : Bool). cond z (nth (part_entries s x) y) none) whole

    -- record y is there exactly for y below the number of the part's records
    pub asked-there : (y : ℕ) → y < length (part_entries s x) → (e : Entry) × (record_asked s x y ≡ some e)
    asked-there y h = let t = nth-there (part_entries s x) y h in (t.0, asked-part y ∙ t.1)

    pub asked-past : (y : ℕ) → length (part_entries s x) ≤ y → record_asked s x y ≡ none
    asked-past y h = asked-part y ∙ nth-none (part_entries s x) y h

    pub asked-below : (y : ℕ) {e : Entry} → record_asked s x y ≡ some e → y < length (part_entries s x)
    asked-below y p = nth-below (part_entries s x) y (sym (asked-part y) ∙ p)

    -- and one after the other they are all of them
    pub asked-all : answers_from (record_asked s x) (length (part_entries s x)) 0 ≡ part_entries s x
    asked-all = answers_from-cong asked-part (length (part_entries s x)) 0 ∙ nth-all (part_entries s x)

-- ── each inside the section ──

-- a record of a part is one of that part's
part_of : (s : List ℕ) (o : Option Part) (y : ℕ) {e : Entry} → nth (entries_at s o) y ≡ some e → (q : Part) × (o ≡ some q) × (nth (entries_in (part_items s q)) y ≡ some e)
part_of s none y p = absurd (let z : ◌≡◌ {A = ℕ} 0 1 = cc in omega arith)
part_of s (some q) y p = (q, refl, p)

abbrev end_of : Option Part → ℕ
end_of none = 0
end_of (some q) = q.end

-- the parts fill the section, so none ends past it
parts-end : (s : List ℕ) → HeadFacts s → (x : ℕ) → end_of (part_at (parts s) x) ≤ length s
unfolding parts
parts-end s h zero = omega arith
parts-end s h (suc zero) = let f = h.follow.1.1.1 in omega arith
parts-end s h (suc (suc zero)) = let f = h.follow.1.1.1 in omega arith
parts-end s h (suc (suc (suc zero))) = let f = h.follow.1.1.1 in omega arith
parts-end s h (suc (suc (suc (suc x)))) = omega arith

-- a record that is handed out says what stands at its place
pub asked-reads : (s : List ℕ) (x y : ℕ) {e : Entry} → record_asked s x y ≡ some e → entry_at s e.sort e.name e.place ≡ e
unfolding part_entries
asked-reads s x y {e} p =
    let q = part_of s (part_at (parts s) x) y (asked-whole s x y p).1 in
    let i = part-inside s q.0.sort q.0.from q.0.end y q.2 in
    ap (λ (sort : Sort). entry_at s sort e.name e.place) i.sort_is ∙ i.reads

-- and has the bytes of its sort inside the section
pub asked-inside : (s : List ℕ) (x y : ℕ) {e : Entry} → record_asked s x y ≡ some e → e.place + least_size e.sort ≤ length s
unfolding part_entries
asked-inside s x y {e} p =
    let w = asked-whole s x y p in
    let q = part_of s (part_at (parts s) x) y w.1 in
    let i = part-inside s q.0.sort q.0.from q.0.end y q.2 in
    let l = parts-end s (whole-facts s w.0).0 x in
    let m : end_of (part_at (parts s) x) ≡ q.0.end = ap end_of q.1 in
    let n : least_size e.sort ≡ least_size q.0.sort = ap least_size i.sort_is in
    omega (arith, i.high)

-- ── what an accepted section's records point at ──

module _ (T : Table) where
  sound-front : (xs ys : List Item) → ItemsSound T (xs ++ ys) → ItemsSound T xs
  sound-front [] ys h = tt
  sound-front (x ∷ xs) ys h = (h.0, sound-front xs ys h.1)

  sound-behind : (xs ys : List Item) → ItemsSound T (xs ++ ys) → ItemsSound T ys
  sound-behind [] ys h = h
  sound-behind (x ∷ xs) ys h = sound-behind xs ys h.1

  sound-entry : (is : List Item) → ItemsSound T is → (y : ℕ) {e : Entry} → nth (entries_in is) y ≡ some e → EntrySound T e
  sound-entry [] h y p = absurd (let z : ◌≡◌ {A = ℕ} 0 1 = cc in omega arith)
  sound-entry (broken n ∷ is) h y p = sound-entry is h.1 y p
  sound-entry (group name ∷ is) h y p = sound-entry is h.1 y p
  sound-entry (entry x ∷ is) h zero {e} p = let same : x ≡ e = cc in subst (EntrySound T) same h.0
  sound-entry (entry x ∷ is) h (suc y) p = sound-entry is h.1 y p

  sound-part : (s : List ℕ) (xs : List Part) (x : ℕ) {q : Part} → ItemsSound T (items_of s xs) → nth xs x ≡ some q → ItemsSound T (part_items s q)
  sound-part s [] x h p = absurd (let z : ◌≡◌ {A = ℕ} 0 1 = cc in omega arith)
  sound-part s (y ∷ xs) zero {q} h p = let same : y ≡ q = cc in subst (λ (z : Part). ItemsSound T (part_items s z)) same (sound-front (part_items s y) (items_of s xs) h)
  sound-part s (y ∷ xs) (suc x) h p = sound-part s xs x (sound-behind (part_items s y) (items_of s xs) h) p

  sound-at : (s : List ℕ) (xs : List Part) (x : ℕ) {q : Part} → ItemsSound T (items_of s xs) → part_at xs x ≡ some q → ItemsSound T (part_items s q)
  sound-at s xs zero h p = absurd (let z : ◌≡◌ {A = ℕ} 0 1 = cc in omega arith)
  sound-at s xs (suc x) h p = sound-part s xs x h p

  sound-unbroken : (is : List Item) → ItemsSound T is → every unbroken is ≡ true
  sound-unbroken [] h = refl
  sound-unbroken (broken n ∷ is) h = absurd h.0
  sound-unbroken (group name ∷ is) h = sound-unbroken is h.1
  sound-unbroken (entry x ∷ is) h = sound-unbroken is h.1

-- the order of a section is that of its opening
order-opening : (s : List ℕ) (o : Order) → take 4 s ≡ opening o → order_of s ≡ o
unfolding order_of
order-opening s o e = by_two (take-two s) ∙ by_order o
  where
    take-two : (s : List ℕ) → take 2 s ≡ take 2 (take 4 s)
    take-two [] = refl
    take-two (a ∷ []) = refl
    take-two (a ∷ b ∷ s) = refl

    by_two : take 2 s ≡ take 2 (take 4 s) → cond (same (take 2 s) (magic HighFirst)) HighFirst LowFirst ≡ cond (same (take 2 (opening o)) (magic HighFirst)) HighFirst LowFirst
    by_two t = ap (λ (b : List ℕ). cond (same b (magic HighFirst)) HighFirst LowFirst) (t ∙ ap (take 2) e)

    by_order : (o : Order) → cond (same (take 2 (opening o)) (magic HighFirst)) HighFirst LowFirst ≡ o
    by_order LowFirst = refl
    by_order HighFirst = refl

module _ {b s : List ℕ} {places work : ℕ} (x : Extends b s places work) where
  -- what is accepted hands out its records
  pub extends-whole : is_whole s ≡ true
  unfolding opening_bad
  extends-whole =
      let opens = x.opens ∙ (accepted-meets b places work x.table).readable.header.opens in
      facts-whole s x.head
      (ap not (ap₂ (λ (u : List ℕ) (o : Order). same u (opening o)) opens (order-opening s (order_of b) opens) ∙ same_refl (opening (order_of b))))
      (sound-unbroken (table_of b) (items s) x.sound)

  -- and each points at names and types of the table
  pub extends-record : (part y : ℕ) {e : Entry} → record_asked s part y ≡ some e → EntrySound (table_of b) e
  unfolding part_entries items
  extends-record part y p =
      let w = asked-whole s part y p in
      let q = part_of s (part_at (parts s) part) y w.1 in
      sound-entry (table_of b) (part_items s q.0) (sound-at (table_of b) s (parts s) part x.sound q.1) y q.2
