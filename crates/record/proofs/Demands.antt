-- Order 3 of the code: what it means that `member` has answered, in the demands' words. Each from contracts alone.
-- Assumes nothing.
use Rattle.std.specs.Prelude.{Ok, Result, ℕ}
use Rattle.paper.specs.declared.JoinError.{JoinError}
use Rattle.paper.specs.declared.Report.{Report}
use Prim.Native.Nat.{ℕ, ◌+◌, ◌≤◌, ◌<◌}
use mathlib.Core.Path.{◌≡◌, refl, sym, ap, ap₂, ◌∙◌}
use mathlib.Core.Bool.{true}
use mathlib.Core.List.{List, [], ◌∷◌}
use mathlib.Core.Option.{Option, none}
use lib.ListN.{length, take}
use Rattle.gate.specs.Check.{CheckOf}
use Rattle.join.proofs.Demands.{joined-bytes, joined-joinable}
use Rattle.join.specs.Joins.{JoinOf}
use Rattle.members.specs.Looked.{sought_at}
use Rattle.paper.proofs.Demands.{join-accepted}
use Rattle.paper.proofs.bytes.Tables.{order-bytes_of}
use Rattle.paper.proofs.gates.Acceptance.{accepted-good}
use Rattle.paper.proofs.joins.JoinRefusals.{joinable-join_refusal}
use Rattle.paper.specs.rules.Answer.{Answer}
use Rattle.paper.specs.rules.Choice.{member}
use Rattle.paper.specs.rules.Gate.{refusal}
use Rattle.paper.specs.rules.Header.{order_of}
use Rattle.paper.specs.rules.Join.{joined_bytes, join_refusal}
use Rattle.paper.specs.rules.KindNo.{STRUCT, UNION}
use Rattle.paper.specs.rules.Rename.{raise}
use Rattle.paper.specs.rules.Span.{base_of}
use Rattle.paper.specs.rules.Table.{count, record_at, kind_of, vlen_of}
use Rattle.paper.specs.rules.Walk.{table_of}
use Rattle.paper.specs.declared.Order.{Order}
use Rattle.paper.specs.declared.Order.TheVariants.{LowFirst}
use Rattle.paper.specs.terms.Fit.{Bytes}
use Rattle.record.proofs.Giving.{member-accepted}
use Rattle.record.specs.Gives.{unless_refused, member_gives, MemberOf}
use Rattle.values.proofs.GivenOnes.{given-one}
use Rattle.values.proofs.JoinValues.{join-read-first, join-read-second}
use Rattle.values.proofs.Spans.{member-span, read-value}
use Rattle.values.specs.Given.{found_as_paper, read_found, given_bits, given, given_as_paper}
use Rattle.values.specs.Value.{span_bits, is_numeric, is_signed, member_of, read_member}
use Rattle.values.specs.declared.MemberSpan.{MemberSpan}
use Rattle.values.specs.declared.MemberValue.{MemberValue}

-- what an accepted table gives
gives-accepted : (b : List ℕ) (places work t m : ℕ) (s : List ℕ) → refusal b places work ≡ none
    → member_gives b places work t m s ≡ unless_refused none (order_of b) (read_member (table_of b) t m s)
unfolding member_gives
gives-accepted b places work t m s e = ap (λ (o : Option Answer). unless_refused o (order_of b) (read_member (table_of b) t m s)) e

module _ {r : MemberValue} {b : List ℕ} {places work t m : ℕ} {s index left : List ℕ} (h : MemberOf r b places work t m s index left)
    (accepted : refusal b places work ≡ none) (low_first : order_of b ≡ LowFirst) where
  -- of an accepted table every member whose base is an integer or an enum has its value, for every record that is long enough: its span's bits
  pub member-value : (low : 1 ≤ t) (high : t ≤ count (table_of b)) (struct : member (kind_of (record_at (table_of b) t)) (STRUCT ∷ UNION ∷ []) ≡ true)
      (there : m < vlen_of (record_at (table_of b) t)) → is_numeric (base_of (table_of b) (member_of (record_at (table_of b) t) m).type) ≡ true
      → (record_at (table_of b) t).third ≤ length s
      → let p = (member-span (table_of b) (accepted-good b places work accepted) t low high struct m there).span in
      given_as_paper r ≡ given_bits p (is_signed (base_of (table_of b) (member_of (record_at (table_of b) t) m).type)) (span_bits p s)
  unfolding given
  member-value low high struct there numeric long =
      h.answers
      ∙ gives-accepted b places work t m s accepted
      ∙ ap (λ (o : Order). unless_refused none o (read_member (table_of b) t m s)) low_first
      ∙ ap given (read-value (table_of b) (accepted-good b places work accepted) t low high struct m there numeric s long)

-- any two results that the contract allows are the same, slice by slice
pub member-one : {r r' : MemberValue} {b : List ℕ} {places work t m : ℕ} {s index index' left left' : List ℕ} → MemberOf r b places work t m s index left
    → MemberOf r' b places work t m s index' left' → (r ≡ r') × (index ≡ index') × (left ≡ left')
member-one {r} {r'} h k = (given-one r r' (h.answers ∙ sym k.answers), h.indexes ∙ sym k.indexes, h.works ∙ sym k.works)

-- check once, read a million: with an accepted blob and the index that its check left, `span_of` and `value_of` give what `member` gives
pub once-checked : {c : Result ℕ Report} {b : List ℕ} {places work : ℕ} {index left : List ℕ} → CheckOf c b places work index left → Bytes b
    → (n : ℕ) → c ≡ Ok n → (t m : ℕ) (f : MemberSpan) → found_as_paper f ≡ sought_at b index t m
    → (s : List ℕ) (v : MemberValue) → given_as_paper v ≡ given (read_found (found_as_paper f) s)
    → {r : MemberValue} {index' left' : List ℕ} → MemberOf r b places work t m s index' left' → v ≡ r
once-checked h bytes n p t m f found s v gives {r} k =
    given-one v r ((member-accepted h t m s bytes n p f found v gives).answers ∙ sym k.answers)

-- ── joining changes no value ──

joined-order : (a b : List ℕ) → order_of (joined_bytes a b) ≡ order_of a
unfolding joined_bytes
joined-order a b = order-bytes_of (order_of a) _

module _ {j : Result ℕ JoinError} {a b : List ℕ} {places work : ℕ} {out index left output : List ℕ} (h : JoinOf j a b places work out index left output)
    (n : ℕ) (p : j ≡ Ok n) (x : Bytes a) (y : Bytes b) where
  made : join_refusal a b places work (length out) ≡ none
  made = joinable-join_refusal a b places work (length out) (joined-joinable h n p)

  -- as many types as both have
  abbrev both : ℕ
  both = count (table_of a) + count (table_of b)

  accepted : {p₁ w₁ : ℕ} → both < p₁ → both < w₁ → refusal (take n output) p₁ w₁ ≡ none
  accepted {p₁} {w₁} enough enough' =
      ap (λ (o : List ℕ). refusal o p₁ w₁) (joined-bytes h n p) ∙ join-accepted a b x y places work (length out) made p₁ w₁ enough enough'

  -- what was joined gives of a type what a part gives of it at its own number
  same-value : (part : List ℕ) → order_of a ≡ order_of part → (t u m : ℕ) (s : List ℕ)
      → read_member (table_of (joined_bytes a b)) t m s ≡ read_member (table_of part) u m s
      → {r : MemberValue} {p₁ w₁ : ℕ} {i₁ l₁ : List ℕ} → MemberOf r (take n output) p₁ w₁ t m s i₁ l₁ → both < p₁ → both < w₁
      → {r' : MemberValue} {p₂ w₂ : ℕ} {i₂ l₂ : List ℕ} → MemberOf r' part p₂ w₂ u m s i₂ l₂ → refusal part p₂ w₂ ≡ none
      → r ≡ r'
  same-value part order t u m s reads {r} {p₁} {w₁} whole enough enough' {r'} {p₂} {w₂} of_part e' =
      given-one r r'
      (whole.answers
      ∙ gives-accepted (take n output) p₁ w₁ t m s (accepted enough enough')
      ∙ ap (λ (o : List ℕ). unless_refused none (order_of o) (read_member (table_of o) t m s)) (joined-bytes h n p)
      ∙ ap₂ (unless_refused none) (joined-order a b ∙ order) reads
      ∙ sym (of_part.answers ∙ gives-accepted part p₂ w₂ u m s e'))

  -- what a member of a type of the first says of every record after the join it said before
  pub joined-value-first : (t m : ℕ) (s : List ℕ) → t ≤ count (table_of a)
      → {r : MemberValue} {p₁ w₁ : ℕ} {i₁ l₁ : List ℕ} → MemberOf r (take n output) p₁ w₁ t m s i₁ l₁ → both < p₁ → both < w₁
      → {r' : MemberValue} {p₂ w₂ : ℕ} {i₂ l₂ : List ℕ} → MemberOf r' a p₂ w₂ t m s i₂ l₂ → refusal a p₂ w₂ ≡ none
      → r ≡ r'
  joined-value-first t m s high = same-value a refl t t m s (join-read-first a b x y places work (length out) made t m s high)

  -- and so does a member of a type of the second, at its raised number
  pub joined-value-second : (t m : ℕ) (s : List ℕ) → t ≤ count (table_of b)
      → {r : MemberValue} {p₁ w₁ : ℕ} {i₁ l₁ : List ℕ} → MemberOf r (take n output) p₁ w₁ (raise (count (table_of a)) t) m s i₁ l₁
      → both < p₁ → both < w₁
      → {r' : MemberValue} {p₂ w₂ : ℕ} {i₂ l₂ : List ℕ} → MemberOf r' b p₂ w₂ t m s i₂ l₂ → refusal b p₂ w₂ ≡ none
      → r ≡ r'
  joined-value-second t m s high =
      same-value b (joined-joinable h n p).one-order (raise (count (table_of a)) t) t m s (join-read-second a b x y places work (length out) made t m s high)
