-- Demand 3: grouping does not matter and the empty table is neutral, over the defined join, bytes and refusals.
-- Assumes nothing.
use Prim.Native.Nat.{ℕ, ◌+◌, ◌-◌}
use mathlib.Core.Path.{◌≡◌, refl, sym, ap, ap₂, ◌∙◌}
use mathlib.Core.Bool.{Bool, true, false, cond, ◌&&◌, false≢true}
use mathlib.Core.List.{List, [], ◌∷◌, ◌++◌, map, map-map, map-append, append_assoc}
use mathlib.Core.Option.{Option, none, some}
use native.Mathlib.Omega.{arith}
use borrow.Author.Tests.{leb-true, le-leb}
use lib.Dec.{leb}
use lib.ListN.{length, drop, length-append}
use lib.Seq.{drop-append-le}
use Rattle.paper.proofs.gates.Acceptance.{accepted-fits, accepted-good, good-accepted}
use Rattle.paper.proofs.basics.Choices.{and_left, and_right, and-true}
use Rattle.paper.proofs.basics.Orders.{same_order-true}
use Rattle.paper.proofs.joins.FullJoins.{joined-accepted, first-refused, second-refused, mixed-refused, join_full-order}
use Rattle.paper.proofs.joins.Joining.{count-join, length-strings}
use Rattle.paper.proofs.joins.JoinFits.{good-join, fits-join}
use Rattle.paper.proofs.bytes.Places.{flat_append}
use Rattle.paper.proofs.renaming.Rename.{raise-compose, length-rename}
use Rattle.paper.proofs.bytes.Tables.{order-bytes_of, table_of-bytes_of}
use Rattle.paper.specs.rules.Answer.{Answer}
use Rattle.paper.specs.terms.Fit.{Bytes, Fits, Accepted}
use Rattle.paper.specs.terms.Full.{join_full, and_then, within_limits}
use Rattle.paper.specs.rules.Gate.{refusal}
use Rattle.paper.specs.terms.Good.{Closed, Good}
use Rattle.paper.specs.rules.Header.{order_of}
use Rattle.paper.specs.rules.Join.{raised, join_tables, joined_bytes}
use Rattle.paper.specs.rules.Limits.{type_limit, byte_limit, full_places}
use Rattle.paper.specs.rules.Rename.{rename, raise}
use Rattle.paper.specs.rules.Table.{Record, Table, count, words_of}
use Rattle.paper.specs.rules.Walk.{table_of, flat, blob_length, bytes_of}
use Rattle.paper.specs.rules.Word.{same_order}
use Rattle.paper.specs.declared.Order.{Order}

-- ── tables ──

module _ (A B C : Table) (a : Closed A.strings) (b : Closed B.strings) where
  -- joining tables in either grouping is one join
  pub join_tables-assoc : join_tables (join_tables A B) C ≡ join_tables A (join_tables B C)
  unfolding join_tables
  join_tables-assoc = λ i. record { records = records-assoc i; strings = strings-assoc i }
    where
      up : ℕ → ℕ → Record → Record
      up n s = rename (raise n) (raise s)

      n_a : ℕ
      n_a = count A

      s_a : ℕ
      s_a = length A.strings - 1

      s_b : ℕ
      s_b = length B.strings - 1

      shift : (r : Record) → up (count (join_tables A B)) (length (join_tables A B).strings - 1) r ≡ up n_a s_a (up (count B) s_b r)
      shift r =
          let f = a.filled in
          let s : length (join_tables A B).strings - 1 ≡ s_a + s_b = ap (λ (n : ℕ). n - 1) (length-strings A B a b) ∙ omega arith in
          ap₂ (λ (n s : ℕ). up n s r) (count-join A B) s ∙ sym (raise-compose n_a (count B) s_a s_b r)

      records-assoc : (A.records ++ map (up n_a s_a) B.records) ++ map (up (count (join_tables A B)) (length (join_tables A B).strings - 1)) C.records
          ≡ A.records ++ map (up n_a s_a) (B.records ++ map (up (count B) s_b) C.records)
      records-assoc =
          append_assoc A.records (map (up n_a s_a) B.records) _
          ∙ ap (λ (rs : List Record). A.records ++ (map (up n_a s_a) B.records ++ rs))
          ((λ i. map (λ r. shift r i) C.records) ∙ sym (map-map (up n_a s_a) (up (count B) s_b) C.records))
          ∙ ap (λ (rs : List Record). A.records ++ rs) (sym (map-append (up n_a s_a) B.records (map (up (count B) s_b) C.records)))

      strings-assoc : (A.strings ++ drop 1 B.strings) ++ drop 1 C.strings ≡ A.strings ++ drop 1 (B.strings ++ drop 1 C.strings)
      strings-assoc =
          append_assoc A.strings (drop 1 B.strings) (drop 1 C.strings)
          ∙ ap (λ (s : List ℕ). A.strings ++ s) (sym (drop-append-le 1 B.strings (drop 1 C.strings) b.filled))

-- ── the length of a join ──

-- a renamed record has as many words
pub flat-rename : (type name : ℕ → ℕ) (rs : List Record) → length (flat (map (rename type name) rs)) ≡ length (flat rs)
flat-rename type name [] = refl
flat-rename type name (r ∷ rs) =
    length-append (words_of (rename type name r)) (flat (map (rename type name) rs))
    ∙ ap₂ ◌+◌ (length-rename type name r) (flat-rename type name rs)
    ∙ sym (length-append (words_of r) (flat rs))

-- the words of both
pub words-join : (A B : Table) → length (flat (join_tables A B).records) ≡ length (flat A.records) + length (flat B.records)
unfolding join_tables
words-join A B =
    let up = raised A in
    ap length (flat_append A.records (map up B.records))
    ∙ length-append (flat A.records) (flat (map up B.records))
    ∙ ap (λ (n : ℕ). length (flat A.records) + n) (flat-rename (raise (count A)) (raise (length A.strings - 1)) B.records)

module _ (A B : Table) (a : Closed A.strings) (b : Closed B.strings) where
  pub length-join : blob_length (join_tables A B) + 25 ≡ blob_length A + blob_length B
  length-join =
      let s = length-strings A B a b in
      let fb = b.filled in
      let t = words-join A B in
      omega arith

  -- the parts of a table within the limits are within them
  within_limits-parts : within_limits (join_tables A B) ≡ true → (within_limits A ≡ true) × (within_limits B ≡ true)
  within_limits-parts e =
      let n = leb-true (count (join_tables A B)) type_limit (and_left (leb (count (join_tables A B)) type_limit) _ e) in
      let l = leb-true (blob_length (join_tables A B)) byte_limit (and_right (leb (count (join_tables A B)) type_limit) _ e) in
      let c = count-join A B in
      let j = length-join in
      let fa = a.filled in
      let fb = b.filled in (
        and-true (le-leb (count A) type_limit (omega arith)) (le-leb (blob_length A) byte_limit (omega arith)),
        and-true (le-leb (count B) type_limit (omega arith)) (le-leb (blob_length B) byte_limit (omega arith)),
      )

-- ── either grouping ──

-- the bytes of a table within the limits, else nothing
abbrev result : Order → Table → Option (List ℕ)
result order T = cond (within_limits T) (some (bytes_of order T)) none

-- the blob of an accepted table's join, and that of the next
module _ (order : Order) (T : Table) (g : Good T) (f : (within_limits T ≡ true) → Fits T) (e : within_limits T ≡ true) where
  within_limits-accepted : Accepted (bytes_of order T)
  within_limits-accepted =
      let n = leb-true (count T) type_limit (and_left (leb (count T) type_limit) _ e) in
      good-accepted order T g (f e) (leb-true (blob_length T) byte_limit (and_right (leb (count T) type_limit) _ e))
      full_places full_places (omega arith) (omega arith)

  within_limits-table : table_of (bytes_of order T) ≡ T
  within_limits-table = table_of-bytes_of order T (f e)

fits-within_limits : (A B : Table) → Good A → Good B → Fits A → Fits B → within_limits (join_tables A B) ≡ true → Fits (join_tables A B)
fits-within_limits A B a b fa fb e =
    let J = join_tables A B in
    fits-join A B a b fa fb (leb-true (count J) type_limit (and_left (leb (count J) type_limit) _ e))
    (leb-true (blob_length J) byte_limit (and_right (leb (count J) type_limit) _ e))

-- a join whose bytes go into the next: within the limits both are made, else nothing is
grouped : (o p : Order) (XY J : Table) (next : List ℕ → Option (List ℕ)) → (within_limits XY ≡ true → next (bytes_of o XY) ≡ result p J)
    → (within_limits J ≡ true → within_limits XY ≡ true) → and_then (result o XY) next ≡ result p J
grouped o p XY J next on part = go (within_limits XY) refl (within_limits J) refl
  where
    go : (s : Bool) → within_limits XY ≡ s → (t : Bool) → within_limits J ≡ t → and_then (cond s (some (bytes_of o XY)) none) next ≡ result p J
    go true x t y = on x
    go false x true y = absurd (false≢true (sym x ∙ part y))
    go false x false y = ap (λ (t : Bool). cond t (some (bytes_of p J)) none) (sym y)

good : (b : List ℕ) → Accepted b → Good (table_of b)
good b p = accepted-good b full_places full_places p

fits : (b : List ℕ) → Bytes b → Accepted b → Fits (table_of b)
fits b bytes p = accepted-fits b full_places full_places p bytes

module _ (a b c : List ℕ) (ba : Bytes a) (bb : Bytes b) (bc : Bytes c) (p : Accepted a) (q : Accepted b) (r : Accepted c)
    (s : order_of a ≡ order_of b) (t : order_of b ≡ order_of c) where
  module _ (o o' : List ℕ) (full : length o ≡ byte_limit) (full' : length o' ≡ byte_limit) where
    left-grouped : and_then (join_full o a b) (λ (ab : List ℕ). join_full o' ab c)
        ≡ result (order_of a) (join_tables (join_tables (table_of a) (table_of b)) (table_of c))
    unfolding joined_bytes
    left-grouped =
        let J = join_tables (table_of a) (table_of b) in
        let g = good-join (table_of a) (table_of b) (good a p) (good b q) in
        let f = fits-within_limits (table_of a) (table_of b) (good a p) (good b q) (fits a ba p) (fits b bb q) in
        ap (λ (x : Option (List ℕ)). and_then x (λ (ab : List ℕ). join_full o' ab c)) (joined-accepted o a b full p q s)
        ∙ grouped (order_of a) (order_of a) J (join_tables J (table_of c)) (λ (ab : List ℕ). join_full o' ab c)
        (λ e. joined-accepted o' (bytes_of (order_of a) J) c full' (within_limits-accepted (order_of a) J g f e) r (order-bytes_of (order_of a) J ∙ s ∙ t)
        ∙ ap₂ (λ (o : Order) (T : Table). result o (join_tables T (table_of c))) (order-bytes_of (order_of a) J) (within_limits-table (order_of a) J g f e))
        (λ e. (within_limits-parts J (table_of c) g.closed (good c r).closed e).0)

    right-grouped : and_then (join_full o b c) (λ (bc : List ℕ). join_full o' a bc)
        ≡ result (order_of a) (join_tables (table_of a) (join_tables (table_of b) (table_of c)))
    unfolding joined_bytes
    right-grouped =
        let J = join_tables (table_of b) (table_of c) in
        let g = good-join (table_of b) (table_of c) (good b q) (good c r) in
        let f = fits-within_limits (table_of b) (table_of c) (good b q) (good c r) (fits b bb q) (fits c bc r) in
        ap (λ (x : Option (List ℕ)). and_then x (λ (bc : List ℕ). join_full o' a bc)) (joined-accepted o b c full q r t)
        ∙ grouped (order_of b) (order_of a) J (join_tables (table_of a) J) (λ (bc : List ℕ). join_full o' a bc)
        (λ e. joined-accepted o' a (bytes_of (order_of b) J) full' p (within_limits-accepted (order_of b) J g f e) (s ∙ sym (order-bytes_of (order_of b) J))
        ∙ ap (λ (T : Table). result (order_of a) (join_tables (table_of a) T)) (within_limits-table (order_of b) J g f e))
        (λ e. (within_limits-parts (table_of a) J (good a p).closed g.closed e).1)

-- nothing is handed on where the next join refuses whatever it is given
and_then-none : (o : Option (List ℕ)) (next : List ℕ → Option (List ℕ)) → ((b : List ℕ) → o ≡ some b → next b ≡ none) → and_then o next ≡ none
and_then-none none next h = refl
and_then-none (some b) next h = h b refl

-- Demand 3, grouping: three tables joined in either grouping, with slices of full size, give the same bytes, or both groupings refuse.
module _ (o₁ o₂ o₃ o₄ : List ℕ) (f₁ : length o₁ ≡ byte_limit) (f₂ : length o₂ ≡ byte_limit) (f₃ : length o₃ ≡ byte_limit) (f₄ : length o₄ ≡ byte_limit) where
  -- tables of two orders are refused in either grouping, whatever they are
  pub mixed-grouped : (a b c : List ℕ) → same_order (order_of a) (order_of b) && same_order (order_of b) (order_of c) ≡ false
      → (and_then (join_full o₁ a b) (λ (ab : List ℕ). join_full o₂ ab c) ≡ none) × (and_then (join_full o₃ b c) (λ (bc : List ℕ). join_full o₄ a bc) ≡ none)
  mixed-grouped a b c e = go (same_order (order_of a) (order_of b)) refl e
    where
      left : Option (List ℕ)
      left = and_then (join_full o₁ a b) (λ (ab : List ℕ). join_full o₂ ab c)

      right : Option (List ℕ)
      right = and_then (join_full o₃ b c) (λ (bc : List ℕ). join_full o₄ a bc)

      go : (s : Bool) → same_order (order_of a) (order_of b) ≡ s → s && same_order (order_of b) (order_of c) ≡ false → (left ≡ none) × (right ≡ none)
      go false s t = (
        ap (λ (o : Option (List ℕ)). and_then o (λ (ab : List ℕ). join_full o₂ ab c)) (mixed-refused o₁ a b f₁ s),
        and_then-none (join_full o₃ b c) (λ (bc : List ℕ). join_full o₄ a bc)
            (λ bc x. mixed-refused o₄ a bc f₄ (ap (same_order (order_of a)) (join_full-order o₃ b c f₃ bc x) ∙ s)),
      )
      go true s t = (
        and_then-none (join_full o₁ a b) (λ (ab : List ℕ). join_full o₂ ab c)
            (λ ab x. mixed-refused o₂ ab c f₂
            (ap (λ (o : Order). same_order o (order_of c)) (join_full-order o₁ a b f₁ ab x ∙ same_order-true (order_of a) (order_of b) s) ∙ t)),
        ap (λ (o : Option (List ℕ)). and_then o (λ (bc : List ℕ). join_full o₄ a bc)) (mixed-refused o₃ b c f₃ t),
      )

  pub join-assoc : (a b c : List ℕ) → Bytes a → Bytes b → Bytes c
      → and_then (join_full o₁ a b) (λ (ab : List ℕ). join_full o₂ ab c) ≡ and_then (join_full o₃ b c) (λ (bc : List ℕ). join_full o₄ a bc)
  join-assoc a b c ba bb bc = go (refusal a full_places full_places) refl (refusal b full_places full_places) refl (refusal c full_places full_places) refl
    where
      left : Option (List ℕ)
      left = and_then (join_full o₁ a b) (λ (ab : List ℕ). join_full o₂ ab c)

      right : Option (List ℕ)
      right = and_then (join_full o₃ b c) (λ (bc : List ℕ). join_full o₄ a bc)

      accepted : Accepted a → Accepted b → Accepted c → (s : Bool) → same_order (order_of a) (order_of b) && same_order (order_of b) (order_of c) ≡ s → left ≡ right
      accepted p q r false e = let mixed = mixed-grouped a b c e in mixed.0 ∙ sym mixed.1
      accepted p q r true e =
          let s = same_order-true (order_of a) (order_of b) (and_left (same_order (order_of a) (order_of b)) _ e) in
          let t = same_order-true (order_of b) (order_of c) (and_right (same_order (order_of a) (order_of b)) _ e) in
          left-grouped a b c ba bb bc p q r s t o₁ o₂ f₁ f₂
          ∙ ap (result (order_of a)) (join_tables-assoc (table_of a) (table_of b) (table_of c) (good a p).closed (good b q).closed)
          ∙ sym (right-grouped a b c ba bb bc p q r s t o₃ o₄ f₃ f₄)

      go : (x : Option Answer) → refusal a full_places full_places ≡ x → (y : Option Answer) → refusal b full_places full_places ≡ y
          → (z : Option Answer) → refusal c full_places full_places ≡ z → left ≡ right
      go none p none q none r = accepted p q r (same_order (order_of a) (order_of b) && same_order (order_of b) (order_of c)) refl
      go (some x) p y q z r =
          ap (λ (o : Option (List ℕ)). and_then o (λ (ab : List ℕ). join_full o₂ ab c)) (first-refused o₁ a b f₁ p)
          ∙ sym (and_then-none (join_full o₃ b c) (λ (bc : List ℕ). join_full o₄ a bc) (λ bc x. first-refused o₄ a bc f₄ p))
      go none p (some y) q z r =
          ap (λ (o : Option (List ℕ)). and_then o (λ (ab : List ℕ). join_full o₂ ab c)) (second-refused o₁ a b f₁ q)
          ∙ sym (ap (λ (o : Option (List ℕ)). and_then o (λ (bc : List ℕ). join_full o₄ a bc)) (first-refused o₃ b c f₃ q))
      go none p none q (some z) r =
          and_then-none (join_full o₁ a b) (λ (ab : List ℕ). join_full o₂ ab c) (λ ab x. second-refused o₂ ab c f₂ r)
          ∙ sym (ap (λ (o : Option (List ℕ)). and_then o (λ (bc : List ℕ). join_full o₄ a bc)) (second-refused o₃ b c f₃ r))
