-- Demand 3 through the questions that people ask: the name at an offset and the size of a type, of the joined blob and of each part.
-- Assumes nothing.
use Prim.Native.Nat.{ℕ, zero, suc, ◌+◌, ◌-◌, ◌≤◌, ◌<◌}
use mathlib.Core.Path.{◌≡◌, sym, ap, ap₂, ◌∙◌}
use mathlib.Core.Bool.{Bool, not, cond, ◌||◌}
use mathlib.Core.List.{List, []}
use mathlib.Core.Option.{Option, none}
use native.Mathlib.Omega.{arith}
use borrow.Author.Tests.{lt-ltb}
use lib.ListN.{length}
use Rattle.paper.proofs.gates.Acceptance.{accepted-header, accepted-closed}
use Rattle.paper.proofs.bytes.Blobs.{strings-table_of, strings-length}
use Rattle.paper.proofs.Demands.{first-accepted, second-accepted, join-bytes, join-table, join-count, join-accepted}
use Rattle.paper.proofs.Demands.{join-name-first, join-name-second, join-size-first, join-size-second}
use Rattle.paper.proofs.bytes.Headers.{header_report-facts}
use Rattle.paper.proofs.joins.Joining.{first-renaming, second-renaming}
use Rattle.paper.proofs.Outcomes.{whole-size}
use Rattle.paper.specs.rules.Choice.{is_some}
use Rattle.paper.specs.terms.Fit.{Bytes}
use Rattle.paper.specs.rules.Gate.{refusal, gate}
use Rattle.paper.specs.terms.Good.{Closed}
use Rattle.paper.specs.rules.Header.{str_len, strings_in}
use Rattle.paper.specs.rules.Join.{join_tables, joined_bytes, join_refusal}
use Rattle.paper.specs.rules.Name.{name_in, nameless, name_at}
use Rattle.paper.specs.rules.Rename.{raise}
use Rattle.paper.specs.rules.Size.{exact_size, answer_of, size_of}
use Rattle.paper.specs.rules.Table.{Table, count}
use Rattle.paper.specs.rules.Walk.{table_of}

-- ── the name at an offset of an accepted blob is that of its table ──

module _ (b : List ℕ) (places work : ℕ) (accepted : refusal b places work ≡ none) where
  accepted-strings : length (table_of b).strings ≡ str_len b
  accepted-strings = strings-length b (header_report-facts b (accepted-header b places work accepted))

  pub named-accepted : (n : ℕ) → n < str_len b → name_at b n ≡ name_in (table_of b).strings n
  unfolding name_at nameless
  named-accepted n h =
      ap₂ (λ (o : Option ℕ) (t : Bool). cond (is_some o || not t) [] (name_in (strings_in b) n)) (accepted-header b places work accepted) (lt-ltb n (str_len b) h)
      ∙ ap (λ (s : List ℕ). name_in s n) (sym (strings-table_of b))

-- a number of a table's, raised by another's count, is a number of both
pub raise-inside : (n t : ℕ) {m : ℕ} → t ≤ m → raise n t ≤ n + m
raise-inside n zero h = omega arith
raise-inside n (suc t) h = omega arith

-- ── whatever two blobs are joined, with whatever slices ──

module _ (a b : List ℕ) (bytes-a : Bytes a) (bytes-b : Bytes b) (places work room : ℕ) (made : join_refusal a b places work room ≡ none) where
  J : List ℕ
  J = joined_bytes a b

  enough : ℕ
  enough = suc (count (table_of a) + count (table_of b))

  first : refusal a places work ≡ none
  first = first-accepted a b bytes-a bytes-b places work room made

  second : refusal b places work ≡ none
  second = second-accepted a b bytes-a bytes-b places work room made

  accepted-J : refusal J enough enough ≡ none
  unfolding J enough
  accepted-J = join-accepted a b bytes-a bytes-b places work room made _ _ (omega arith) (omega arith)

  -- an offset inside the joined table's strings is inside the joined blob's
  inside-J : (n : ℕ) → n < length (join_tables (table_of a) (table_of b)).strings → n < str_len J
  unfolding J
  inside-J n h =
      let l = accepted-strings J enough enough accepted-J in
      let e = ap (λ (T : Table). length T.strings) (join-table a b bytes-a bytes-b places work room made) in
      omega arith

  closed-a : Closed (table_of a).strings
  closed-a = accepted-closed a places work first

  closed-b : Closed (table_of b).strings
  closed-b = accepted-closed b places work second

  -- the name at an offset of the first is that at the same offset of the joined blob
  pub join-named-first : (n : ℕ) → n < str_len a → name_at (joined_bytes a b) n ≡ name_at a n
  unfolding J
  join-named-first n h =
      let l = accepted-strings a places work first in
      let in-a : n < length (table_of a).strings = omega arith in
      named-accepted J enough enough accepted-J n (inside-J n ((first-renaming (table_of a) (table_of b) closed-a closed-b).name_inside n in-a))
      ∙ join-name-first a b bytes-a bytes-b places work room made n in-a
      ∙ sym (named-accepted a places work first n h)

  -- that of the second at its raised offset
  pub join-named-second : (n : ℕ) → n < str_len b → name_at (joined_bytes a b) (raise (str_len a - 1) n) ≡ name_at b n
  unfolding J
  join-named-second n h =
      let l = accepted-strings b places work second in
      let in_b : n < length (table_of b).strings = omega arith in
      let up : ℕ → ℕ = λ (m : ℕ). raise (m - 1) n in
      ap (λ (m : ℕ). name_at J (up m)) (sym (accepted-strings a places work first))
      ∙ named-accepted J enough enough accepted-J (up (length (table_of a).strings))
      (inside-J _ ((second-renaming (table_of a) (table_of b) closed-a closed-b).name_inside n in_b))
      ∙ join-name-second a b bytes-a bytes-b places work room made n in_b
      ∙ sym (named-accepted b places work second n h)

  -- sizes, each asked with the index that a check has left
  module _ (places' work' : ℕ) (p : count (table_of a) + count (table_of b) < places') (w : count (table_of a) + count (table_of b) < work') where
    asked-J : (t : ℕ) → t ≤ count (table_of a) + count (table_of b) → size_of J (gate J places' work').index t ≡ answer_of (exact_size (table_of J) t)
    unfolding J
    asked-J t h =
        whole-size J (join-bytes a b bytes-a bytes-b places work room made) places' work'
        (join-accepted a b bytes-a bytes-b places work room made places' work' p w) t
        (let n = join-count a b bytes-a bytes-b places work room made in omega arith)

    pub join-sized-first : (t : ℕ) → t ≤ count (table_of a)
        → size_of (joined_bytes a b) (gate (joined_bytes a b) places' work').index t ≡ size_of a (gate a places work).index t
    unfolding J
    join-sized-first t h =
        asked-J t (omega arith)
        ∙ ap answer_of (join-size-first a b bytes-a bytes-b places work room made t h)
        ∙ sym (whole-size a bytes-a places work first t h)

    pub join-sized-second : (t : ℕ) → t ≤ count (table_of b)
        → size_of (joined_bytes a b) (gate (joined_bytes a b) places' work').index (raise (count (table_of a)) t) ≡ size_of b (gate b places work).index t
    unfolding J
    join-sized-second t h =
        asked-J (raise (count (table_of a)) t) (raise-inside (count (table_of a)) t h)
        ∙ ap answer_of (join-size-second a b bytes-a bytes-b places work room made t h)
        ∙ sym (whole-size b bytes-b places work second t h)
