-- Laws of `Sought`: of an accepted table, what is found of a member says of every record what the member says; and a renamed table finds the same.
-- Assumes nothing.
use Prim.Native.Nat.{ℕ, zero, suc, ◌+◌, ◌*◌, ◌≤◌, ◌<◌}
use mathlib.Core.Path.{◌≡◌, refl, sym, ap, ap₂, ◌∙◌}
use mathlib.Core.Bool.{Bool, true, false, cond, ◌&&◌, false≢true}
use mathlib.Core.List.{List, [], ◌∷◌}
use mathlib.Core.Option.{Option, none, some}
use native.Mathlib.Omega.{arith}
use borrow.Author.Tests.{leb-true, leb-false, ltb-true, ltb-false, le-leb, lt-ltb, le-ltb}
use lib.Dec.{leb, ltb}
use lib.ListN.{length}
use Rattle.paper.proofs.joins.Joining.{good-whole}
use Rattle.paper.proofs.renaming.Renaming.{Renaming}
use Rattle.paper.proofs.renaming.RenamingLayout.{members-kind}
use Rattle.paper.proofs.walks.Insides.{sound-refs, sound-ends, sound-inside}
use Rattle.paper.specs.rules.Choice.{member}
use Rattle.paper.specs.rules.KindNo.{STRUCT, UNION}
use Rattle.paper.specs.rules.Rename.{rename}
use Rattle.paper.specs.rules.Span.{Span, base_of, span_of}
use Rattle.paper.specs.rules.Table.{Record, Table, count, record_at, kind_of, vlen_of, flag_of}
use Rattle.paper.specs.terms.Good.{Good}
use Rattle.values.proofs.Spans.{member-span, read-value, value-few}
use Rattle.values.proofs.Values.{read-31, read-30, read-32, read-33, is_signed-rename, base-rename, span-rename}
use Rattle.values.specs.Given.{Finding, read_found}
use Rattle.values.specs.Sought.{no_span, span_found, sought_in}
use Rattle.values.specs.Value.{span_bits, is_numeric, is_signed, member_of, refused, reads, read_member}

-- ── with a record ──

-- a refusal behind the record's length, and a span, ask for the record first
module _ (s : List ℕ) where
  found-short : (f : Finding) → member f.number (35 ∷ 21 ∷ 31 ∷ []) ≡ false → length s < f.size → read_found f s ≡ refused 30
  unfolding read_found
  found-short f later h = rw (later, lt-ltb (length s) f.size h) refl

  found-32 : (size : ℕ) → size ≤ length s → read_found (no_span 32 size) s ≡ refused 32
  unfolding read_found
  found-32 size h = rw (le-ltb (length s) size h) refl

  found-33 : (size : ℕ) → size ≤ length s → read_found (no_span 33 size) s ≡ refused 33
  unfolding read_found
  found-33 size h = rw (le-ltb (length s) size h) refl

  -- a span of 1 to 128 bits inside the record is read
  module _ (size : ℕ) (p : Span) (long : size ≤ length s) (low : 1 ≤ p.size) (high : p.size ≤ 128) (ends : p.from + p.size ≤ 8 * length s) where
    abbrev span_at : Bool → Finding
    span_at signed = record { number = cond signed 1 0; size = size; from = p.from; bits = p.size }

    by_sign : (signed : Bool) → read_found (span_at signed) s ≡ reads p signed (span_bits p s)
    unfolding read_found
    by_sign true =
        rw (le-ltb (length s) size long, le-leb 1 p.size low, le-leb p.size 128 high, le-ltb (8 * length s) (p.from + p.size) ends) refl
    by_sign false =
        rw (le-ltb (length s) size long, le-leb 1 p.size low, le-leb p.size 128 high, le-ltb (8 * length s) (p.from + p.size) ends) refl

    found-read : (signed : Bool) → read_found (span_found size signed (some p)) s ≡ reads p signed (span_bits p s)
    found-read signed =
        ap₂ (λ (a b : Bool). read_found (cond (a && b) (span_at signed) (no_span 33 size)) s) (le-leb 1 p.size low) (le-leb p.size 128 high) ∙ by_sign signed

  span-short : (size : ℕ) (signed : Bool) (o : Option Span) → length s < size → read_found (span_found size signed o) s ≡ refused 30
  span-short size signed none h = found-short (no_span 33 size) refl h
  span-short size signed (some p) h = go (leb 1 p.size && leb p.size 128) signed
    where
      go : (b signed : Bool) → read_found (cond b (record { number = cond signed 1 0; size = size; from = p.from; bits = p.size }) (no_span 33 size)) s ≡ refused 30
      go true true = found-short _ refl h
      go true false = found-short _ refl h
      go false signed = found-short (no_span 33 size) refl h

-- ── of an accepted table ──

abbrev structs : List ℕ
structs = STRUCT ∷ UNION ∷ []

-- void is no struct
struct-low : (T : Table) (t : ℕ) → member (kind_of (record_at T t)) structs ≡ true → 1 ≤ t
struct-low T zero e = absurd (false≢true e)
struct-low T (suc t) e = omega arith

module _ (T : Table) (g : Good T) (t m : ℕ) (s : List ℕ) (high : t ≤ count T) where
  abbrev r : Record
  r = record_at T t

  abbrev base : Record
  base = base_of T (member_of r m).type

  -- by what each test finds
  abbrev sought : Bool → Bool → Bool → Finding
  sought struct far numeric =
      cond struct (cond far (no_span 32 r.third) (cond numeric (span_found r.third (is_signed base) (span_of T (flag_of r) (member_of r m))) (no_span 33 r.third)))
      (no_span 31 0)

  abbrev Reads : Bool → Bool → Bool → Type 0
  Reads struct far numeric = read_found (sought struct far numeric) s ≡ read_member T t m s

  no-struct : member (kind_of r) structs ≡ false → Reads false (leb (vlen_of r) m) (is_numeric base)
  unfolding read_found read_member
  no-struct e = sym (read-31 T t r m s high e)

  module _ (low : 1 ≤ t) (struct : member (kind_of r) structs ≡ true) where
    short : length s < r.third → (far numeric : Bool) → Reads true far numeric
    unfolding read_member
    short h true numeric = found-short s (no_span 32 r.third) refl h ∙ sym (read-30 T t r m s high struct h)
    short h false true =
        span-short s r.third (is_signed base) (span_of T (flag_of r) (member_of r m)) h ∙ sym (read-30 T t r m s high struct h)
    short h false false = found-short s (no_span 33 r.third) refl h ∙ sym (read-30 T t r m s high struct h)

    module _ (long : r.third ≤ length s) where
      long-enough : (far numeric : Bool) → leb (vlen_of r) m ≡ far → is_numeric base ≡ numeric → Reads true far numeric
      unfolding read_member
      long-enough true numeric f n = found-32 s r.third long ∙ sym (read-32 T t r m s high struct long (leb-true _ _ f))
      long-enough false false f n = found-33 s r.third long ∙ sym (read-33 T t r m s high struct long (leb-false _ _ f) n)
      long-enough false true f n =
          let there = leb-false _ _ f in
          let spanned = member-span T g t low high struct m there in
          let few = value-few T g t low high struct m there n s long in
          ap (λ (o : Option Span). read_found (span_found r.third (is_signed base) o) s) spanned.spans
          ∙ found-read s r.third spanned.span long few.0 few.1 (omega (arith, spanned.ends)) (is_signed base)
          ∙ sym (read-value T g t low high struct m there n s long)

  -- what is found of a member says of every record what the member says
  found-reads : (struct : Bool) → member (kind_of r) structs ≡ struct → Reads struct (leb (vlen_of r) m) (is_numeric base)
  found-reads false e = no-struct e
  found-reads true e = go (ltb (length s) r.third) refl
    where
      go : (b : Bool) → ltb (length s) r.third ≡ b → Reads true (leb (vlen_of r) m) (is_numeric base)
      go true h = short (struct-low T t e) e (ltb-true _ _ h) (leb (vlen_of r) m) (is_numeric base)
      go false h = long-enough (struct-low T t e) e (ltb-false _ _ h) (leb (vlen_of r) m) (is_numeric base) refl refl

  pub read-sought : read_found (sought_in T (record_at T t) m) s ≡ read_member T t m s
  unfolding sought_in
  read-sought = found-reads (member (kind_of r) structs) refl

-- ── of a renamed table ──

sought-31 : (T : Table) (r : Record) (m : ℕ) → member (kind_of r) structs ≡ false → sought_in T r m ≡ no_span 31 0
unfolding sought_in
sought-31 T r m e =
    let base = base_of T (member_of r m).type in
    ap (λ (b : Bool). cond b (cond (leb (vlen_of r) m) (no_span 32 r.third)
    (cond (is_numeric base) (span_found r.third (is_signed base) (span_of T (flag_of r) (member_of r m))) (no_span 33 r.third))) (no_span 31 0)) e

module _ {A B : Table} {type name : ℕ → ℕ} (R : Renaming A B type name) (g : Good A) where
  module _ (t m : ℕ) (low : 1 ≤ t) (high : t ≤ count A) (struct : member (kind_of (record_at A t)) structs ≡ true) where
    struct-sought : sought_in B (rename type name (record_at A t)) m ≡ sought_in A (record_at A t) m
    unfolding sought_in rename is_numeric
    struct-sought =
        let r = record_at A t in
        let sound = g.sound in
        let in-A = sound-inside sound g.closed.filled in
        let whole = good-whole A g t low high in
        let kind = members-kind R (sound-refs sound) (sound-ends sound) in-A (good-whole A g) r struct in
        let base = base_of A (member_of r m).type in
        let span_b = span_of B (flag_of r) (member_of (rename type name r) m) in
        let tell : ℕ → Record → Bool → Option Span → Finding =
        λ size b signed span.
        cond (member (kind_of r) structs) (cond (leb (vlen_of r) m) (no_span 32 size) (cond (is_numeric b) (span_found size signed span) (no_span 33 size))) (no_span 31 0) in
        ap (λ (size : ℕ). tell size (base_of B (member_of (rename type name r) m).type) (is_signed (base_of B (member_of (rename type name r) m).type)) span_b) kind.0
        ∙ ap (λ (b : Record). tell r.third b (is_signed b) span_b) (base-rename R g r (in-A t high) whole struct m)
        ∙ ap₂ (λ (signed : Bool) (span : Option Span). tell r.third base signed span) (is_signed-rename R g base) (span-rename R g r (in-A t high) whole struct m)

  -- neither struct nor union before, nor behind
  other-sought : (t m : ℕ) → member (kind_of (record_at A t)) structs ≡ false → sought_in B (rename type name (record_at A t)) m ≡ sought_in A (record_at A t) m
  unfolding sought_in rename
  other-sought t m e = sought-31 B (rename type name (record_at A t)) m e ∙ sym (sought-31 A (record_at A t) m e)

  -- a member of a renamed type is found where it was
  pub sought-rename : (t m : ℕ) → t ≤ count A → sought_in B (record_at B (type t)) m ≡ sought_in A (record_at A t) m
  sought-rename t m high =
      ap (λ (r : Record). sought_in B r m) (R.same_record t high) ∙ go (member (kind_of (record_at A t)) structs) refl
    where
      go : (b : Bool) → member (kind_of (record_at A t)) structs ≡ b → sought_in B (rename type name (record_at A t)) m ≡ sought_in A (record_at A t) m
      go true e = struct-sought t m (struct-low A t e) high e
      go false e = other-sought t m e
