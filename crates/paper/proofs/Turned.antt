-- What "once, over the byte order" means to a reader: an accepted table turned round is accepted, with the same index, and a join of tables
-- turned round is the join turned round, byte for byte. Assumes nothing.
use Prim.Native.Nat.{ℕ, suc, ◌+◌}
use mathlib.Core.Path.{◌≡◌, refl, sym, ap, ap₂, ◌∙◌}
use mathlib.Core.List.{List, [], ◌∷◌, ◌++◌}
use mathlib.Core.Option.{Option, none}
use native.Mathlib.Omega.{arith}
use lib.ListN.{length, take, drop}
use lib.Seq.{take_at}
use Rattle.paper.proofs.Demands.{join-fits, join-bytes, join-accepted, first-accepted, second-accepted}
use Rattle.paper.proofs.bytes.Bytes.{length-bytes_of_words, bytes_of_words-append}
use Rattle.paper.proofs.bytes.Tables.{order-bytes_of, type_len-bytes_of, strings_in-bytes_of, bytes-bytes_of, table_of-bytes_of, length-bytes_of}
use Rattle.paper.proofs.gates.Acceptance.{accepted-meets, accepted-fits, accepted-good, accepted-bytes, accepted-short, good-accepted}
use Rattle.paper.proofs.joins.JoinRefusals.{join_refusal-joinable, joinable-join_refusal}
use Rattle.paper.specs.declared.Order.{Order}
use Rattle.paper.specs.declared.Order.TheVariants.{LowFirst, HighFirst}
use Rattle.paper.specs.rules.Answer.{Answer}
use Rattle.paper.specs.rules.Gate.{refusal, outcome, gate}
use Rattle.paper.specs.rules.Header.{header_length, opening, order_of, type_len, strings_in}
use Rattle.paper.specs.rules.Join.{join_tables, joined_bytes, join_refusal}
use Rattle.paper.specs.rules.Table.{Table, count}
use Rattle.paper.specs.rules.Walk.{table_of, flat, type_len_of, bytes_of}
use Rattle.paper.specs.rules.Word.{bytes_of_words}
use Rattle.paper.specs.terms.Fit.{Bytes, Fits}
use Rattle.paper.specs.terms.Turn.{other_order, turn_words, turned}

-- ── words ──

other-twice : (o : Order) → other_order (other_order o) ≡ o
other-twice LowFirst = refl
other-twice HighFirst = refl

turn_words-bytes : (o : Order) (ws : List ℕ) → turn_words (bytes_of_words o ws) ≡ bytes_of_words (other_order o) ws
turn_words-bytes LowFirst [] = refl
turn_words-bytes HighFirst [] = refl
turn_words-bytes LowFirst (w ∷ ws) = ap (λ (s : List ℕ). bytes_of_words HighFirst (w ∷ []) ++ s) (turn_words-bytes LowFirst ws)
turn_words-bytes HighFirst (w ∷ ws) = ap (λ (s : List ℕ). bytes_of_words LowFirst (w ∷ []) ++ s) (turn_words-bytes HighFirst ws)

-- ── the blob of a table ──

module _ (order : Order) (T : Table) (h : Fits T) where
  numbers : List ℕ
  numbers = header_length ∷ 0 ∷ type_len_of T.records ∷ type_len_of T.records ∷ length T.strings ∷ []

  -- the words behind the opening
  words-first : take (20 + type_len (bytes_of order T)) (drop 4 (bytes_of order T)) ≡ bytes_of_words order (numbers ++ flat T.records)
  unfolding bytes_of numbers
  words-first =
      ap (λ (n : ℕ). take (20 + n) (drop 4 (bytes_of order T))) (type_len-bytes_of order T h)
      ∙ take_at (bytes_of_words order numbers ++ bytes_of_words order (flat T.records)) T.strings (20 + type_len_of T.records)
      (omega (arith, length-bytes_of_words order (flat T.records)))
      ∙ sym (bytes_of_words-append order numbers (flat T.records))

  -- turned round it is the blob of the same table in the other order
  pub turned-bytes_of : turned (bytes_of order T) ≡ bytes_of (other_order order) T
  unfolding turned bytes_of numbers
  turned-bytes_of =
      let other = other_order order in
      ap (λ (o : Order). opening (other_order o) ++ turn_words (take (20 + type_len (bytes_of order T)) (drop 4 (bytes_of order T))) ++ strings_in (bytes_of order T))
      (order-bytes_of order T)
      ∙ ap₂ (λ (ws s : List ℕ). opening other ++ turn_words ws ++ s) words-first (strings_in-bytes_of order T h)
      ∙ ap (λ (ws : List ℕ). opening other ++ ws ++ T.strings)
      (turn_words-bytes order (numbers ++ flat T.records) ∙ bytes_of_words-append other numbers (flat T.records))

-- ── an accepted table ──

module _ (b : List ℕ) (bytes : Bytes b) (places work : ℕ) (accepted : refusal b places work ≡ none) where
  fits : Fits (table_of b)
  fits = accepted-fits b places work accepted bytes

  turned-is : turned b ≡ bytes_of (other_order (order_of b)) (table_of b)
  turned-is = ap turned (sym (accepted-bytes b places work accepted bytes)) ∙ turned-bytes_of (order_of b) (table_of b) fits

  -- it has bytes, the other order, the same table, and is accepted with the same index
  pub turned-bytes : Bytes (turned b)
  turned-bytes = rw turned-is (bytes-bytes_of (other_order (order_of b)) (table_of b) fits)

  pub turned-order : order_of (turned b) ≡ other_order (order_of b)
  turned-order = ap order_of turned-is ∙ order-bytes_of (other_order (order_of b)) (table_of b)

  pub turned-table : table_of (turned b) ≡ table_of b
  turned-table = ap table_of turned-is ∙ table_of-bytes_of (other_order (order_of b)) (table_of b) fits

  pub turned-accepted : refusal (turned b) places work ≡ none
  turned-accepted =
      let enough = (accepted-meets b places work accepted).readable in
      ap (λ (s : List ℕ). refusal s places work) turned-is
      ∙ good-accepted (other_order (order_of b)) (table_of b) (accepted-good b places work accepted) fits (accepted-short b places work accepted bytes) places work
      enough.enough_places enough.enough_work

  pub turned-gate : gate (turned b) places work ≡ gate b places work
  unfolding gate
  turned-gate = ap₂ (λ (T : Table) (o : Option Answer). outcome T places work o) turned-table (turned-accepted ∙ sym accepted)

  -- turned round twice it is what it was
  pub turned-twice : turned (turned b) ≡ b
  turned-twice =
      ap turned turned-is
      ∙ turned-bytes_of (other_order (order_of b)) (table_of b) fits
      ∙ ap (λ (o : Order). bytes_of o (table_of b)) (other-twice (order_of b))
      ∙ accepted-bytes b places work accepted bytes

-- ── a join ──

module _ (a b : List ℕ) (bytes-a : Bytes a) (bytes-b : Bytes b) (places work room : ℕ) (made : join_refusal a b places work room ≡ none) where
  first : refusal a places work ≡ none
  first = first-accepted a b bytes-a bytes-b places work room made

  second : refusal b places work ≡ none
  second = second-accepted a b bytes-a bytes-b places work room made

  -- the join of both turned round is the joined table in the other order
  turned-joins : joined_bytes (turned a) (turned b) ≡ bytes_of (other_order (order_of a)) (join_tables (table_of a) (table_of b))
  unfolding joined_bytes
  turned-joins =
      ap₂ (λ (A B : Table). bytes_of (order_of (turned a)) (join_tables A B)) (turned-table a bytes-a places work first) (turned-table b bytes-b places work second)
      ∙ ap (λ (o : Order). bytes_of o (join_tables (table_of a) (table_of b))) (turned-order a bytes-a places work first)

  -- it is made too, with the same slices
  pub turned-made : join_refusal (turned a) (turned b) places work room ≡ none
  unfolding joined_bytes
  turned-made =
      let j = join_refusal-joinable a b places work room made in
      let J = join_tables (table_of a) (table_of b) in
      let n = ap₂ (λ (A B : Table). count A + count B) (turned-table a bytes-a places work first) (turned-table b bytes-b places work second) in
      let long : length (joined_bytes (turned a) (turned b)) ≡ length (joined_bytes a b)
      = ap length turned-joins ∙ length-bytes_of (other_order (order_of a)) J ∙ sym (length-bytes_of (order_of a) J) in
      joinable-join_refusal (turned a) (turned b) places work room
      (record {
        first = turned-accepted a bytes-a places work first;
        second = turned-accepted b bytes-b places work second;
        one-order =
            turned-order a bytes-a places work first ∙ ap other_order j.one-order ∙ sym (turned-order b bytes-b places work second);
        few = omega (arith, j.few);
        short = omega (arith, j.short);
        fits = omega (arith, j.fits);
      })

  pub turned-join : joined_bytes (turned a) (turned b) ≡ turned (joined_bytes a b)
  unfolding joined_bytes
  turned-join =
      turned-joins
      ∙ sym (turned-bytes_of (order_of a) (join_tables (table_of a) (table_of b)) (join-fits a b bytes-a bytes-b places work room made))

  -- the joined bytes are the turned-round bytes of the join of the turned-round tables
  pub join-turned : joined_bytes a b ≡ turned (joined_bytes (turned a) (turned b))
  join-turned =
      sym (turned-twice (joined_bytes a b) (join-bytes a b bytes-a bytes-b places work room made) (suc (count (table_of a) + count (table_of b)))
      (suc (count (table_of a) + count (table_of b))) (join-accepted a b bytes-a bytes-b places work room made _ _ (omega arith) (omega arith)))
      ∙ ap turned (sym turned-join)
