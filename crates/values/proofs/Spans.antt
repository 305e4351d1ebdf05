-- Laws of `Value` for an accepted table: a numeric member has its span inside its record, and so its value; and only the span's bits count.
-- Assumes nothing.
use Prim.Native.Nat.{ℕ, zero, suc, ◌+◌, ◌*◌, ◌^◌, ◌≤◌, ◌<◌}
use mathlib.Core.Path.{◌≡◌, refl, sym, ap, ap₂, ◌∙◌, subst}
use mathlib.Core.Bool.{Bool, true, not, ◌||◌, false≢true}
use mathlib.Core.List.{List, [], ◌∷◌}
use mathlib.Core.Option.{Option, none, some}
use native.Mathlib.Omega.{arith}
use borrow.Author.Tests.{leb-true}
use lib.ListN.{length, get_or, take, drop, length-drop}
use lib.Seq.{get_or-drop, length-take-le}
use Rattle.paper.proofs.basics.Choices.{and_left, and_right, member-each}
use Rattle.paper.proofs.joins.Joining.{good-whole}
use Rattle.paper.proofs.renaming.RenamingTails.{tail-length}
use Rattle.values.proofs.Bits.{length-record_bits, bits-span_bits, number_bound, Signed, value-signed, StandsFor, filled-value}
use Rattle.values.proofs.Numeric.{Few, span-few}
use Rattle.values.proofs.Values.{read-span}
use Rattle.paper.specs.rules.Choice.{member, every}
use Rattle.paper.specs.rules.Kind.{rows, row_of}
use Rattle.paper.specs.rules.KindNo.{STRUCT, UNION}
use Rattle.paper.specs.rules.Layout.{member_ok, members_ok, layout_ok}
use Rattle.paper.specs.rules.Span.{Span, members_in, members_of, base_of, span_of, ends_by}
use Rattle.paper.specs.rules.Table.{Record, Table, count, record_at, kind_of, vlen_of, flag_of}
use Rattle.values.specs.Value.{record_bits, bits_number, value_of, filled_up, span_bits, is_numeric, is_signed, no_member, member_of, reads, read_span, read_member}
use Rattle.paper.specs.terms.Fit.{Whole}
use Rattle.paper.specs.terms.Good.{Good}

-- ── the bits of a span ──

-- where it ends inside the record it has all its bits
pub length-span_bits : (p : Span) (s : List ℕ) → p.from + p.size ≤ 8 * length s → length (span_bits p s) ≡ p.size
unfolding span_bits
length-span_bits p s h =
    let all = length-record_bits s in let left = length-drop p.from (record_bits s) in
    length-take-le p.size (drop p.from (record_bits s)) (omega arith)

take_same : (n : ℕ) (xs ys : List ℕ) → n ≤ length xs → n ≤ length ys → ((i : ℕ) → i < n → get_or xs i 0 ≡ get_or ys i 0) → take n xs ≡ take n ys
take_same zero xs ys hx hy h = refl
take_same (suc n) [] ys hx hy h = absurd (omega arith)
take_same (suc n) (x ∷ xs) [] hx hy h = absurd (omega arith)
take_same (suc n) (x ∷ xs) (y ∷ ys) hx hy h =
    ap₂ ◌∷◌ (h 0 (omega arith)) (take_same n xs ys (omega arith) (omega arith) (λ i l. h (suc i) (omega arith)))

-- records that agree at the bits of a span have the same: no other bit counts
pub span_bits-same : (p : Span) (s s' : List ℕ) → p.from + p.size ≤ 8 * length s → p.from + p.size ≤ 8 * length s'
    → ((i : ℕ) → p.from ≤ i → i < p.from + p.size → get_or (record_bits s) i 0 ≡ get_or (record_bits s') i 0) → span_bits p s ≡ span_bits p s'
unfolding span_bits
span_bits-same p s s' h h' agree =
    let all = length-record_bits s in
    let all' = length-record_bits s' in
    let left = length-drop p.from (record_bits s) in
    let left' = length-drop p.from (record_bits s') in
    take_same p.size (drop p.from (record_bits s)) (drop p.from (record_bits s')) (omega arith) (omega arith)
    (λ i l. get_or-drop p.from (record_bits s) i 0 ∙ agree (p.from + i) (omega arith) (omega arith) ∙ sym (get_or-drop p.from (record_bits s') i 0))

-- ── members ──

every-at : {X : Type 0} (f : X → Bool) (xs : List X) (d : X) (k : ℕ) → every f xs ≡ true → k < length xs → f (get_or xs k d) ≡ true
every-at f [] d k e h = absurd (omega arith)
every-at f (x ∷ xs) d zero e h = and_left (f x) _ e
every-at f (x ∷ xs) d (suc k) e h = every-at f xs d k (and_right (f x) _ e) (omega arith)

length-members : (v : ℕ) (ws : List ℕ) → length ws ≡ v * 3 → length (members_in ws) ≡ v
length-members zero [] h = refl
length-members zero (n ∷ ws) h = absurd (omega arith)
length-members (suc v) [] h = absurd (omega arith)
length-members (suc v) (n ∷ []) h = absurd (omega arith)
length-members (suc v) (n ∷ t ∷ []) h = absurd (omega arith)
length-members (suc v) (n ∷ t ∷ o ∷ ws) h = ap suc (length-members v ws (omega arith))

members-number : (r : Record) → Whole r → member (kind_of r) (STRUCT ∷ UNION ∷ []) ≡ true → length (members_of r) ≡ vlen_of r
unfolding row_of rows
members-number r w e =
    length-members (vlen_of r) r.tail (
    member-each (λ (c : ℕ). kind_of r ≡ c → length r.tail ≡ vlen_of r * 3) (kind_of r) (STRUCT ∷ UNION ∷ []) e
    ((λ k. tail-length r STRUCT w k ∙ omega arith), ((λ k. tail-length r UNION w k ∙ omega arith), tt)) refl
    )

layout-members : (T : Table) (r : Record) → layout_ok T r ≡ true → member (kind_of r) (STRUCT ∷ UNION ∷ []) ≡ true → members_ok T r ≡ true
unfolding layout_ok
layout-members T r e struct =
    sym (ap (λ (b : Bool). not b || members_ok T r) struct)
    ∙ and_left _ _ (and_left _ _ (and_left _ _ (and_left _ _ (and_left _ _ e))))

-- a member's span, inside so many bytes
pub record HasSpan (T : Table) (r : Record) (m n : ℕ) : Type 0 where
  pub span : Span
  pub spans : span_of T (flag_of r) (member_of r m) ≡ some span
  pub ends : span.from + span.size ≤ 8 * n

spanned : (n : ℕ) {T : Table} {r : Record} {m : ℕ} (o : Option Span) → span_of T (flag_of r) (member_of r m) ≡ o → ends_by (8 * n) o ≡ true → HasSpan T r m n
spanned n none e h = absurd (false≢true h)
spanned n (some p) e h = record { span = p; spans = e; ends = leb-true _ _ h }

module _ (T : Table) (g : Good T) (t : ℕ) (low : 1 ≤ t) (high : t ≤ count T) (struct : member (kind_of (record_at T t)) (STRUCT ∷ UNION ∷ []) ≡ true)
    (m : ℕ) (there : m < vlen_of (record_at T t)) where
  -- of an accepted table every member has its span, and it ends inside the type
  pub member-span : HasSpan T (record_at T t) m (record_at T t).third
  unfolding member_ok members_ok
  member-span =
      let r = record_at T t in
      let all = and_left _ _ (layout-members T r (g.sound t low high).layouts struct) in
      let many = members-number r (good-whole T g t low high) struct in
      spanned r.third (span_of T (flag_of r) (member_of r m)) refl (every-at (member_ok T r) (members_of r) no_member m all (omega arith))

  -- so for every record that is long enough a numeric member has its value
  module _ (numeric : is_numeric (base_of T (member_of (record_at T t) m).type) ≡ true) (s : List ℕ) (long : (record_at T t).third ≤ length s) where
    pub read-value : read_member T t m s
        ≡ reads member-span.span (is_signed (base_of T (member_of (record_at T t) m).type)) (span_bits member-span.span s)
    unfolding read_member
    read-value =
        read-span T t (record_at T t) m s high struct long there numeric
        ∙ ap (read_span (is_signed (base_of T (member_of (record_at T t) m).type)) s) member-span.spans

    -- of as many bits as its span has, which are 1 to 128
    pub value-bits : length (span_bits member-span.span s) ≡ member-span.span.size
    value-bits = length-span_bits member-span.span s (omega (arith, member-span.ends))

    pub value-few : (1 ≤ member-span.span.size) × (member-span.span.size ≤ 128)
    value-few = subst Few member-span.spans (span-few T g (flag_of (record_at T t)) (member_of (record_at T t) m) numeric)

    -- unsigned it is below 2^bits, signed from -2^(bits-1) to 2^(bits-1) - 1
    pub value-below : bits_number (span_bits member-span.span s) < 2 ^ member-span.span.size
    value-below =
        subst (λ (k : ℕ). bits_number (span_bits member-span.span s) < 2 ^ k) value-bits (number_bound (span_bits member-span.span s) (bits-span_bits member-span.span s))

    pub value-between : (n : ℕ) → member-span.span.size ≡ suc n → Signed n (value_of true (span_bits member-span.span s))
    value-between n e = value-signed n (span_bits member-span.span s) (bits-span_bits member-span.span s) (value-bits ∙ e)

    -- and filled up to sixteen bytes it stands for itself
    pub value-filled : (signed : Bool) → StandsFor (bits_number (filled_up signed (span_bits member-span.span s))) (value_of signed (span_bits member-span.span s))
    value-filled = filled-value (span_bits member-span.span s) (bits-span_bits member-span.span s) (let n = value-bits in omega (arith, value-few))

    -- and a record that agrees with it at the span's bits has the same
    pub read_same : (s' : List ℕ) → (record_at T t).third ≤ length s'
        → ((i : ℕ) → member-span.span.from ≤ i → i < member-span.span.from + member-span.span.size → get_or (record_bits s) i 0 ≡ get_or (record_bits s') i 0)
        → read_member T t m s ≡ read_member T t m s'
    unfolding read_member
    read_same s' long' agree =
        let p = member-span.span in
        read-value
        ∙ ap (reads p (is_signed (base_of T (member_of (record_at T t) m).type)))
        (span_bits-same p s s' (omega (arith, member-span.ends)) (omega (arith, member-span.ends)) agree)
        ∙ sym (read-span T t (record_at T t) m s' high struct long' there numeric
        ∙ ap (read_span (is_signed (base_of T (member_of (record_at T t) m).type)) s') member-span.spans)
