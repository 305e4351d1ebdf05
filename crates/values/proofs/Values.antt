-- Laws of `Value`: what a member of a record says, and that a renamed table says the same.
-- Assumes nothing.
use Prim.Native.Nat.{ℕ, zero, suc, ◌≤◌, ◌<◌}
use mathlib.Core.Path.{◌≡◌, refl, sym, ap, ap₂, ◌∙◌}
use mathlib.Core.Bool.{Bool, true, false, not, false≢true}
use mathlib.Core.List.{List, [], ◌∷◌}
use mathlib.Core.Option.{Option}
use native.Mathlib.Omega.{arith}
use borrow.Author.Tests.{eqb-true, leb-true, le-leb, lt-leb, le-ltb, lt-ltb}
use lib.Dec.{eqb, leb, ltb}
use lib.ListN.{length, get_or, get_or-map}
use Rattle.paper.proofs.basics.Choices.{cond-cong, every-get_d}
use Rattle.paper.proofs.joins.Joining.{good-whole}
use Rattle.paper.proofs.renaming.Renaming.{Renaming, Inside}
use Rattle.paper.proofs.renaming.RenamingBases.{base_of-rename}
use Rattle.paper.proofs.renaming.RenamingLayout.{members-kind, members-rename, members-agree}
use Rattle.paper.proofs.renaming.RenamingSizes.{type-0, name-0}
use Rattle.paper.proofs.renaming.RenamingSpans.{rename_member, span_of-rename}
use Rattle.paper.proofs.renaming.RenamingTails.{int_word-rename}
use Rattle.paper.proofs.walks.Insides.{sound-refs, sound-ends, sound-inside}
use Rattle.paper.specs.rules.Choice.{◌when◌, first_due, member, every}
use Rattle.paper.specs.rules.KindNo.{INT, STRUCT, UNION}
use Rattle.paper.specs.rules.Rename.{rename}
use Rattle.paper.specs.rules.Span.{Member, Span, members_of, base_of, span_of}
use Rattle.paper.specs.rules.Table.{Record, Table, count, record_at, kind_of, vlen_of, flag_of}
use Rattle.paper.specs.rules.Tails.{encoding_in}
use Rattle.values.specs.Value.{is_numeric, is_signed, no_member, member_of, Read, refused, read_span, read_unless, read_record, read_member}
use Rattle.paper.specs.terms.Fit.{Whole}
use Rattle.paper.specs.terms.Good.{Good}

abbrev structs : List ℕ
structs = STRUCT ∷ UNION ∷ []

-- what is said, by what each rule finds
abbrev said : Bool → Bool → Bool → Bool → Bool → Read → Read
said above struct short far numeric x =
    read_unless (first_due (21 when above ∷ 31 when not struct ∷ 30 when short ∷ 32 when far ∷ 33 when not numeric ∷ [])) x

-- ── the grounds of a refusal, in their order ──

module _ (T : Table) (t : ℕ) (r : Record) (m : ℕ) (s : List ℕ) where
  base : Record
  base = base_of T (member_of r m).type

  told : Bool → Bool → Bool → Bool → Bool → Read
  told above struct short far numeric = said above struct short far numeric (read_span (is_signed base) s (span_of T (flag_of r) (member_of r m)))

  -- 21: the number is above n
  pub read-21 : count T < t → read_record T t r m s ≡ refused 21
  unfolding told base
  read-21 h = ap (λ (x : Bool). told x (member (kind_of r) structs) (ltb (length s) r.third) (leb (vlen_of r) m) (is_numeric base)) (lt-ltb (count T) t h)

  module _ (known : t ≤ count T) where
    -- 31: it is of another kind
    pub read-31 : member (kind_of r) structs ≡ false → read_record T t r m s ≡ refused 31
    unfolding told base
    read-31 e = ap₂ (λ (x y : Bool). told x y (ltb (length s) r.third) (leb (vlen_of r) m) (is_numeric base)) (le-ltb (count T) t known) e

    module _ (struct : member (kind_of r) structs ≡ true) where
      struct_told : read_record T t r m s ≡ told false true (ltb (length s) r.third) (leb (vlen_of r) m) (is_numeric base)
      unfolding told base
      struct_told = ap₂ (λ (x y : Bool). told x y (ltb (length s) r.third) (leb (vlen_of r) m) (is_numeric base)) (le-ltb (count T) t known) struct

      -- 30: the record is shorter than the type
      pub read-30 : length s < r.third → read_record T t r m s ≡ refused 30
      unfolding told
      read-30 h = struct_told ∙ ap (λ (x : Bool). told false true x (leb (vlen_of r) m) (is_numeric base)) (lt-ltb (length s) r.third h)

      module _ (long : r.third ≤ length s) where
        -- 32: there is no such member
        pub read-32 : vlen_of r ≤ m → read_record T t r m s ≡ refused 32
        unfolding told
        read-32 h =
            struct_told ∙ ap₂ (λ (x y : Bool). told false true x y (is_numeric base)) (le-ltb (length s) r.third long) (le-leb (vlen_of r) m h)

        module _ (there : m < vlen_of r) where
          member-told : read_record T t r m s ≡ told false true false false (is_numeric base)
          member-told =
              struct_told ∙ ap₂ (λ (x y : Bool). told false true x y (is_numeric base)) (le-ltb (length s) r.third long) (lt-leb (vlen_of r) m there)

          -- 33: it is neither integer nor enum
          pub read-33 : is_numeric (base_of T (member_of r m).type) ≡ false → read_record T t r m s ≡ refused 33
          unfolding told base
          read-33 e = member-told ∙ ap (told false true false false) e

          -- none of these: its span is read
          pub read-span : is_numeric (base_of T (member_of r m).type) ≡ true
              → read_record T t r m s ≡ read_span (is_signed (base_of T (member_of r m).type)) s (span_of T (flag_of r) (member_of r m))
          unfolding told base
          read-span e = member-told ∙ ap (told false true false false) e

-- ── a renamed table ──

every-all : (ms : List Member) → every (λ m. true) ms ≡ true
every-all [] = refl
every-all (m ∷ ms) = every-all ms

module _ {A B : Table} {type name : ℕ → ℕ} (R : Renaming A B type name) (g : Good A) where
  pub is_signed-rename : (r : Record) → is_signed (rename type name r) ≡ is_signed r
  unfolding is_signed rename
  is_signed-rename r =
      cond-cong (eqb (kind_of r) INT) (eqb (flag_of r) 1) (λ e. ap (λ (w : ℕ). eqb (encoding_in w) 1) (int_word-rename R r (eqb-true _ _ e)))

  module _ (r : Record) (inside : Inside A r) (whole : Whole r) (struct : member (kind_of r) (STRUCT ∷ UNION ∷ []) ≡ true) where
    pub member_of-rename : (m : ℕ) → member_of (rename type name r) m ≡ rename_member type name (member_of r m)
    member_of-rename m =
        let s = g.sound in
        let in-A = sound-inside s g.closed.filled in
        ap₂ (λ (ms : List Member) (d : Member). get_or ms m d) (members-rename R (sound-refs s) (sound-ends s) in-A (good-whole A g) r whole struct)
        (ap₂ (λ (n u : ℕ). record { name = n; type = u; offset = 0 }) (sym (name-0 R)) (sym (type-0 R)))
        ∙ get_or-map (rename_member type name) (members_of r) m no_member

    member-inside : (m : ℕ) → (member_of r m).type ≤ count A
    member-inside m =
        let s = g.sound in
        let in-A = sound-inside s g.closed.filled in
        leb-true _ _ (every-get_d (λ (x : Member). leb x.type (count A)) (members_of r) no_member
        (members-agree R (sound-refs s) (sound-ends s) in-A (good-whole A g) r inside whole struct (λ x. true) (λ (x : Member). leb x.type (count A)) (λ x h. le-leb _ _ h)
        ∙ every-all (members_of r))
        (le-leb 0 (count A) (omega arith)) m)

    pub base-rename : (m : ℕ) → base_of B (member_of (rename type name r) m).type ≡ rename type name (base_of A (member_of r m).type)
    base-rename m =
        let s = g.sound in
        ap (λ (x : Member). base_of B x.type) (member_of-rename m) ∙ base_of-rename R (sound-refs s) (sound-ends s) (member_of r m).type (member-inside m)

    pub span-rename : (m : ℕ) → span_of B (flag_of (rename type name r)) (member_of (rename type name r) m) ≡ span_of A (flag_of r) (member_of r m)
    unfolding rename
    span-rename m =
        let s = g.sound in
        ap (span_of B (flag_of r)) (member_of-rename m) ∙ span_of-rename R (sound-refs s) (sound-ends s) (flag_of r) (member_of r m) (member-inside m)

    struct-read : (t m : ℕ) (s : List ℕ) → t ≤ count A → type t ≤ count B → read_record B (type t) (rename type name r) m s ≡ read_record A t r m s
    unfolding rename is_numeric
    struct-read t m s high high' =
        let sound = g.sound in
        let in-A = sound-inside sound g.closed.filled in
        let kind = members-kind R (sound-refs sound) (sound-ends sound) in-A (good-whole A g) r struct in
        let base = base_of A (member_of r m).type in
        let span_b = span_of B (flag_of r) (member_of (rename type name r) m) in
        let tell : Bool → ℕ → Record → Bool → Option Span → Read =
        λ above size b signed span.
        said above (member (kind_of r) (STRUCT ∷ UNION ∷ [])) (ltb (length s) size) (leb (vlen_of r) m) (is_numeric b) (read_span signed s span) in
        ap₂ (λ (above : Bool) (size : ℕ). tell above size (base_of B (member_of (rename type name r) m).type) (is_signed (base_of B (member_of (rename type name r) m).type)) span_b)
        (le-ltb (count B) (type t) high' ∙ sym (le-ltb (count A) t high)) kind.0
        ∙ ap (λ (b : Record). tell (ltb (count A) t) r.third b (is_signed b) span_b) (base-rename m)
        ∙ ap₂ (λ (signed : Bool) (span : Option Span). tell (ltb (count A) t) r.third base signed span) (is_signed-rename base) (span-rename m)

  -- a member of a renamed type says of every record what it said before
  pub read-rename : (t m : ℕ) (s : List ℕ) → t ≤ count A → type t ≤ count B → read_member B (type t) m s ≡ read_member A t m s
  unfolding read_member rename
  read-rename t m s high high' =
      ap (λ (r : Record). read_record B (type t) r m s) (R.same_record t high) ∙ go t high high' (member (kind_of (record_at A t)) (STRUCT ∷ UNION ∷ [])) refl
    where
      go : (t : ℕ) → t ≤ count A → type t ≤ count B → (b : Bool) → member (kind_of (record_at A t)) (STRUCT ∷ UNION ∷ []) ≡ b
          → read_record B (type t) (rename type name (record_at A t)) m s ≡ read_record A t (record_at A t) m s
      go zero h h' true e = absurd (false≢true e)
      go (suc t) h h' true e =
          struct-read (record_at A (suc t)) (sound-inside g.sound g.closed.filled (suc t) h) (good-whole A g (suc t) (omega arith) h) e (suc t) m s h h'
      go t h h' false e =
          read-31 B (type t) (rename type name (record_at A t)) m s h' e ∙ sym (read-31 A t (record_at A t) m s h e)
