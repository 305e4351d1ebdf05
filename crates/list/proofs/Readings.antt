-- Laws of the answers: by what a list is read as, the lengths of the slices, and what the check says of its table.
-- Assumes nothing.
use Rattle.std.specs.Prelude.{Err, Ok, Result, ℕ}
use Rattle.lists.specs.declared.MakeError.TheVariants.{Refused, Short, Unread}
use Rattle.lists.specs.declared.MakeError.{MakeError}
use Prim.Native.Nat.{ℕ, ◌+◌, ◌-◌, ◌≤◌, ◌<◌}
use mathlib.Core.Path.{◌≡◌, refl, sym, ap, ap₂, ◌∙◌, subst}
use mathlib.Core.Bool.{Bool, true, false, ◌||◌}
use mathlib.Core.List.{List, [], ◌∷◌, ◌++◌}
use mathlib.Core.Option.{Option, none, some}
use native.Mathlib.Omega.{arith}
use borrow.Author.Tests.{leb-false, leb-true, le-leb, le-ltb, lt-leb, lt-ltb}
use lib.Dec.{leb, ltb}
use lib.ListN.{length, take, drop, length-append, length-replicate}
use lib.Seq.{take_at}
use Rattle.gate.specs.Check.{CheckOf}
use Rattle.list.specs.Making.{MakeAsk, blob_in}
use Rattle.list.specs.Reading.{LaidOf, LookedOf, ReadOf}
use Rattle.lists.specs.Kept.{ReadOutcome, fault_number, looked, made_as_paper, made_outcome, read_into, read_outcome, too_short}
use Rattle.lists.specs.List.{Listed, unread, table, read_list}
use Rattle.lists.specs.declared.Fault.{Fault}
use Rattle.paper.proofs.Figures.{more_bytes}
use Rattle.paper.proofs.bytes.Puts.{laid-fits, put_front}
use Rattle.paper.proofs.bytes.Tables.{length-bytes_of}
use Rattle.paper.proofs.gates.Answered.{checked-accepted, checked_refused}
use Rattle.paper.specs.declared.Report.{Report}
use Rattle.paper.specs.declared.Report.TheVariants.{Length}
use Rattle.paper.specs.rules.Answer.{Answer, checked_as_paper, report_as_paper, value}
use Rattle.paper.specs.rules.Choice.{◌when◌, first_due}
use Rattle.paper.specs.rules.Gate.{Outcome, gate, outcome, refusal, zeros}
use Rattle.paper.specs.rules.Join.{refused_inside}
use Rattle.paper.specs.rules.Limits.{byte_limit}
use Rattle.paper.specs.rules.Walk.{bytes_of, table_of}
use Rattle.paper.specs.terms.Fit.{Bytes}
use Rattle.paper.specs.terms.Put.{laid}
use Rattle.taking.specs.Measuring.{TableIn}
use Rattle.taking.specs.declared.whole.Sections.{Sections}

-- a header and so many bytes fit where so many do behind it
pub holds-rest : (room sections : ℕ) → 24 ≤ room → leb sections (room - 24) ≡ leb (24 + sections) room
holds-rest room sections h = go (leb sections (room - 24)) refl
  where
    go : (z : Bool) → leb sections (room - 24) ≡ z → z ≡ leb (24 + sections) room
    go true e = sym (le-leb (24 + sections) room (omega (arith, leb-true sections (room - 24) e)))
    go false e = sym (lt-leb (24 + sections) room (omega (arith, leb-false sections (room - 24) e)))

-- what is checked is what was laid
pub laid-checked : {c : Result ℕ Report} {s : List ℕ} {places work : ℕ} {index left bytes : List ℕ} → bytes ≡ blob_in (read_list s)
    → CheckOf c bytes places work index left → LaidOf c s places work index left bytes
laid-checked {c} {s} {places} {work} {index} {left} e k =
    record { checks = subst (λ (b : List ℕ). CheckOf c b places work index left) e k; lays = e }

-- a slice that was cleared is as many zeros as it is long
pub cleared-long : (n : ℕ) {s : List ℕ} → s ≡ zeros n → s ≡ zeros (length s)
cleared-long n {s} e = e ∙ ap zeros (sym (ap length e ∙ length-replicate n 0))

-- some bytes in front of others
pub front_fits : (bytes rest : List ℕ) {n : ℕ} → length bytes ≡ n → n ≤ length (bytes ++ rest)
front_fits bytes rest long = omega (arith, length-append bytes rest)

pub front_long : (bytes rest : List ℕ) {n : ℕ} → length bytes ≡ n → n ≡ length (take n (bytes ++ rest))
front_long bytes rest {n} long = sym (ap length (take_at bytes rest n long) ∙ long)

-- the first bytes of an output, laid out of the front of some others
pub output-laid : (out bytes rest : List ℕ) {n : ℕ} → length bytes ≡ n → n ≤ length out → {output : List ℕ} → output ≡ laid out 0 (take n (bytes ++ rest))
    → output ≡ bytes ++ drop n out
output-laid out bytes rest {n} long room e =
    e
    ∙ ap (laid out 0) (take_at bytes rest n long)
    ∙ sym (laid-fits out 0 bytes (omega arith))
    ∙ put_front out bytes
    ∙ ap (λ (k : ℕ). bytes ++ drop k out) long

module _ (s : List ℕ) (places work lent : ℕ) (out : List ℕ) where
  -- by what the list is read as
  pub by-listed : {l : Listed} → read_list s ≡ l → read_into s places work lent out ≡ read_outcome l places work lent out
  unfolding read_into
  by-listed e = ap (λ (l : Listed). read_outcome l places work lent out) e

  -- whatever the outcome is, an answer and slices that are its own
  told : (r : Result ℕ MakeError) {o : ReadOutcome} → read_into s places work lent out ≡ o → made_as_paper r ≡ o.answer → {index left output : List ℕ} → index ≡ o.index
      → left ≡ o.work → output ≡ o.output → LookedOf r s places work lent out index left output
  told r e a i w u =
      record {
        answers = a ∙ sym (ap (λ (o : ReadOutcome). o.answer) e);
        indexes = i ∙ sym (ap (λ (o : ReadOutcome). o.index) e);
        works = w ∙ sym (ap (λ (o : ReadOutcome). o.work) e);
        outputs = u ∙ sym (ap (λ (o : ReadOutcome). o.output) e);
      }

  -- the lent bytes end all 0, whatever is answered
  pub read-blank : zeros lent ≡ (read_into s places work lent out).bytes
  unfolding read_into
  read-blank = by-list (read_list s)
    where
      by-look : (made : List ℕ) (o : Option Answer) → zeros lent ≡ (looked made (gate made places work) lent out o).bytes
      by-look made none = refl
      by-look made (some a) = refl

      by-room : (made : List ℕ) (o : Option ℕ) → zeros lent ≡ (made_outcome made places work lent out o).bytes
      by-room made (some n) = refl
      by-room made none = by-look made (refused_inside 54 (refusal made places work))

      by-list : (l : Listed) → zeros lent ≡ (read_outcome l places work lent out).bytes
      by-list (unread n) = refl
      by-list (table order T) = by-room (bytes_of order T) (too_short (bytes_of order T) lent out)

  -- ── 50 to 52 ──

  pub look-unread : (f : Fault) → read_list s ≡ unread (fault_number f) → {index left : List ℕ} → index ≡ zeros places → left ≡ zeros work
      → LookedOf (Err (Unread f)) s places work lent out index left out
  unfolding made_as_paper
  look-unread f e i w = told (Err (Unread f)) (by-listed e) refl i w refl

  -- ── a table ──

  module _ {x : Sections} (t : TableIn s x) where
    abbrev blob : List ℕ
    blob = bytes_of x.order t.made

    pub blob-long : length blob ≡ 24 + (x.strings + x.records.bytes)
    blob-long = length-bytes_of x.order t.made ∙ omega (arith, t.strings, t.bytes)

    by-room : {y z : Bool} → ltb (length out) (length blob) ≡ y → ltb lent (length blob) ≡ z
        → read_into s places work lent out ≡ made_outcome blob places work lent out (first_due (53 when (y || z) ∷ []))
    by-room e f =
        by-listed t.reads ∙ ap₂ (λ (y z : Bool). made_outcome blob places work lent out (first_due (53 when (y || z) ∷ []))) e f

    module _ {index left : List ℕ} (clear : index ≡ zeros places) (clear' : left ≡ zeros work) where
      -- 53: the output, then the lent bytes
      pub look-output : length out < 24 + (x.strings + x.records.bytes) → LookedOf (Err Short) s places work lent out index left out
      unfolding made_as_paper
      look-output h = told (Err Short) (by-room (lt-ltb (length out) (length blob) (omega (arith, blob-long))) refl) refl clear clear' refl

      module _ (room : 24 + (x.strings + x.records.bytes) ≤ length out) where
        pub look-lent : lent < 24 + (x.strings + x.records.bytes) → LookedOf (Err Short) s places work lent out index left out
        unfolding made_as_paper
        look-lent h = told (Err Short) (by-room (le-ltb (length out) (length blob) (omega (arith, blob-long))) (lt-ltb lent (length blob) (omega (arith, blob-long)))) refl clear clear' refl

    module _ (room : 24 + (x.strings + x.records.bytes) ≤ length out) (room' : 24 + (x.strings + x.records.bytes) ≤ lent) where
      by-look : {o : Option Answer} → refusal blob places work ≡ o
          → read_into s places work lent out ≡ looked blob (gate blob places work) lent out (refused_inside 54 o)
      by-look e =
          by-room (le-ltb (length out) (length blob) (omega (arith, blob-long))) (le-ltb lent (length blob) (omega (arith, blob-long)))
          ∙ ap (λ (o : Option Answer). looked blob (gate blob places work) lent out (refused_inside 54 o)) e

      -- 54 with 1: no table of this length is accepted, so it is not laid
      pub look-long : byte_limit < 24 + (x.strings + x.records.bytes) → {index left : List ℕ} → index ≡ zeros places → left ≡ zeros work
          → LookedOf (Err (Refused Length)) s places work lent out index left out
      unfolding made_as_paper report_as_paper gate
      look-long h i w =
          let e = more_bytes blob places work (omega (arith, blob-long)) in
          let o = ap (outcome (table_of blob) places work) e in
          told (Err (Refused Length)) (by-look e) refl (i ∙ sym (ap (λ (x : Outcome). x.index) o)) (w ∙ sym (ap (λ (x : Outcome). x.work) o)) refl

      -- what is asked of it where it is laid
      pub look-ask : Bytes s → 24 + (x.strings + x.records.bytes) ≤ byte_limit → {len : ℕ} → len ≡ 24 + (x.strings + x.records.bytes)
          → MakeAsk s x.order x.records.bytes x.strings len
      look-ask bytes short e =
          record {
            made = t.made;
            reads = t.reads;
            bytes = bytes;
            types_long = sym t.bytes;
            strings-long = sym t.strings;
            room_is = omega (arith, t.strings, t.bytes);
            short = omega (arith, t.strings, t.bytes);
          }

      blob-is : blob_in (read_list s) ≡ blob
      blob-is = ap blob_in t.reads

      module _ {c : Result ℕ Report} {index left bytes : List ℕ} (h : LaidOf c s places work index left bytes) where
        checks : CheckOf c blob places work index left
        checks = subst (λ (b : List ℕ). CheckOf c b places work index left) blob-is h.checks

        pub laid-long : length bytes ≡ 24 + (x.strings + x.records.bytes)
        laid-long = ap length (h.lays ∙ blob-is) ∙ blob-long

        pub look-refused : (r : Report) → c ≡ Err r → LookedOf (Err (Refused r)) s places work lent out index left out
        unfolding made_as_paper
        look-refused r p =
            let e = checked_refused blob places work r (ap checked_as_paper (sym p) ∙ checks.told.answers) in
            told (Err (Refused r)) (by-look e) refl checks.told.indexes checks.cleared refl

        pub look-made : {m : ℕ} → c ≡ Ok m → {n : ℕ} → n ≡ 24 + (x.strings + x.records.bytes) → {output : List ℕ}
            → output ≡ bytes ++ drop n out → LookedOf (Ok n) s places work lent out index left output
        unfolding made_as_paper
        look-made p {n} long e =
            let a = (checked-accepted blob places work (ap checked_as_paper (sym p) ∙ checks.told.answers)).0 in
            let same : n ≡ length blob = long ∙ sym blob-long in
            told (Ok n) (by-look a) (ap value same) checks.told.indexes checks.cleared
            (e ∙ ap₂ (λ (b : List ℕ) (k : ℕ). b ++ drop k out) (h.lays ∙ blob-is) same)

-- ── the whole ──

pub read_whole : {r : Result ℕ MakeError} {s : List ℕ} {places work lent : ℕ} {out index left output : List ℕ} → LookedOf r s places work lent out index left output
    → {n : ℕ} → n ≡ lent → {bytes : List ℕ} → bytes ≡ zeros n → ReadOf r s places work lent out index left bytes output
read_whole {s = s} {places} {work} {lent} {out} h same e = record { told = h; blanks = e ∙ ap zeros same ∙ read-blank s places work lent out }

-- slices that were cleared have the lengths that they had
pub look-lengths : {r : Result ℕ MakeError} {s : List ℕ} {places places' work work' lent : ℕ} {out index left output : List ℕ} → places ≡ places' → work ≡ work'
    → LookedOf r s places work lent out index left output → LookedOf r s places' work' lent out index left output
look-lengths {r} {s} {places} {places'} {work} {work'} {lent} {out} {index} {left} {output} p w h =
    subst (λ (k : ℕ). LookedOf r s places' k lent out index left output) w (subst (λ (k : ℕ). LookedOf r s k work lent out index left output) p h)
