-- Laws of the answers: an accepted table by its index, 60, 61 and both parts, and the whole by what the check says.
-- Assumes nothing.
use Rattle.parts.specs.declared.SplitError.TheVariants.{NoCut, OutputShort, Refused}
use Rattle.parts.specs.declared.SplitError.{SplitError}
use Rattle.std.specs.Prelude.{Err, Ok, Result, ℕ}
use Prim.Native.Nat.{ℕ, suc, ◌+◌, ◌-◌, ◌≤◌, ◌<◌}
use native.Mathlib.Numerals.{add-one}
use mathlib.Core.Path.{◌≡◌, refl, sym, ap, ap₂, ◌∙◌}
use mathlib.Core.Bool.{Bool, true, false, not, ◌||◌}
use mathlib.Core.List.{List, [], ◌∷◌, ◌++◌}
use mathlib.Core.Option.{Option, none, some}
use native.Mathlib.Omega.{arith}
use borrow.Author.Tests.{le-ltb, lt-ltb}
use lib.Dec.{ltb}
use lib.ListN.{length, get_or, take, drop}
use lib.Seq.{take_all}
use Rattle.gate.proofs.Stands.{stands-place, stands-shows}
use Rattle.gate.specs.Check.{CheckOf}
use Rattle.gate.specs.Standing.{Standing}
use Rattle.paper.proofs.Outcomes.{gate-accepted, get_d-index_of, length-index_of}
use Rattle.paper.proofs.basics.Choices.{false-or, or_left, or_right}
use Rattle.paper.proofs.bytes.Blobs.{types-length}
use Rattle.paper.proofs.bytes.Places.{places_of-at}
use Rattle.paper.proofs.gates.Acceptance.{accepted-meets}
use Rattle.paper.proofs.gates.Answered.{checked-accepted, checked_refused}
use Rattle.paper.specs.declared.Report.{Report}
use Rattle.paper.specs.rules.Answer.{Answer, accepted, checked_as_paper, report}
use Rattle.paper.specs.rules.Choice.{◌when◌, first_due, or_else}
use Rattle.paper.specs.rules.Gate.{Outcome, gate, index_of, naming}
use Rattle.paper.specs.rules.Header.{order_of, type_len}
use Rattle.paper.specs.rules.Walk.{place_at, table_of, type_len_of}
use Rattle.paper.specs.rules.Word.{word_at}
use Rattle.paper.specs.terms.Fit.{Bytes}
use Rattle.parts.proofs.Cutting.{cut_ok-facts}
use Rattle.parts.proofs.Refusals.{cut-report}
use Rattle.parts.specs.Cut.{CutOutcome, cut, cut_ok, cut_outcome, cut_refusal, cut_rules, first_bytes, second_bytes, parted_as_paper}
use Rattle.split.proofs.Pieces.{widths}
use Rattle.split.specs.Parting.{AcceptedBy, ApartOf, CutAsk, SplitOf, apart_outcome}
use Rattle.views.specs.Shown.{place_by, table_by}
use Rattle.views.specs.declared.View.{View}

-- ── an accepted table by the index that its check has left ──

module _ {b index : List ℕ} {n : ℕ} (a : AcceptedBy b index n) where
  index_is : index ≡ index_of (table_of b) a.places
  index_is = a.indexed ∙ ap (λ (o : Outcome). o.index) (gate-accepted b a.places a.work a.accepted)

  standing : Standing b index n
  standing =
      let m = accepted-meets b a.places a.work a.accepted in
      let enough = m.readable.enough_places in
      let long = ap length index_is ∙ length-index_of (table_of b) a.places enough in
      let c = a.counted in
      record {
        bytes = a.bytes;
        readable = record { header = m.readable.header; section = m.readable.section; enough_places = omega arith; enough_work = omega arith };
        counted = c;
        placed = λ t h. ap (λ (i : List ℕ). get_or i (suc t) 0) index_is ∙ get_d-index_of (table_of b) a.places enough t (omega arith);
      }

  module _ (v : View) (many : v.n ≡ n) where
    -- the cut of the table that the index shows is that of the blob's own
    pub cut-shown : v.order ≡ order_of b → v.before ≡ 0 → (t s : ℕ) → cut_ok t s (table_by [] b index v) ≡ cut_ok t s (table_of b)
    cut-shown o alone t s = ap (cut_ok t s) (stands-shows standing v many o alone)

    -- where the records behind a type begin
    pub middle-next : (t : ℕ) → t < n → {p : ℕ} → p ≡ place_by index v (t + 1) → p ≡ 24 + type_len_of (take t (table_of b).records)
    unfolding place_at
    middle-next t h e =
        let c = a.counted in
        e ∙ ap (place_by index v) (add-one t) ∙ stands-place standing v many (suc t) ∙ places_of-at (table_of b) t (omega arith)

    pub middle-end : (t : ℕ) → n ≤ t → {w : ℕ} → w ≡ word_at (order_of b) b 12 → 24 + w ≡ 24 + type_len_of (take t (table_of b).records)
    unfolding type_len
    middle-end t h e =
        let m = (accepted-meets b a.places a.work a.accepted).readable in
        let c = a.counted in
        ap (λ (k : ℕ). 24 + k) (e ∙ sym (types-length b m.header m.section) ∙ ap type_len_of (sym (take_all t (table_of b).records (omega arith))))

    -- the section's length leaves room for the header in 32 bits
    pub middle-fits : {w : ℕ} → w ≡ word_at (order_of b) b 12 → 24 + w < 4294967296
    unfolding type_len
    middle-fits e = let h = (accepted-meets b a.places a.work a.accepted).readable.header in omega (arith, h.sum, h.short)

  -- where a cut goes through, both parts can be written
  pub cut-ask : (t s : ℕ) {middle : ℕ} → cut_ok t s (table_of b) ≡ true → middle ≡ 24 + type_len_of (take t (table_of b).records) → CutAsk b t s middle
  cut-ask t s ok e = record { places = a.places; work = a.work; accepted = a.accepted; bytes = a.bytes; goes = ok; there = e }

  pub cut-few : (t s : ℕ) → cut_ok t s (table_of b) ≡ true → t ≤ n
  cut-few t s ok = omega (arith, (cut_ok-facts t s (table_of b) ok).few, a.counted)

-- how long they are
module _ {b : List ℕ} {n s middle : ℕ} (w : CutAsk b n s middle) where
  pub first-long : length (first_bytes b n s) ≡ middle + s
  first-long = (widths w).first-long

  pub second-long : length (second_bytes b n s) ≡ length b + 25 - (middle + s)
  second-long = let l = widths w in omega (arith, l.second-long, l.sum, l.types, l.ends, l.filled, w.there)

  pub both-inside : (middle + s ≤ length b + 25) × (length b + 25 < 4294967296)
  both-inside = let l = widths w in (omega (arith, l.sum, l.types, l.ends, w.there), omega (arith, l.short))

-- ── 60, 61 and both parts ──

module _ (b : List ℕ) (n s : ℕ) (out out' : List ℕ) where
  abbrev short : Bool
  short = ltb (length out) (length (first_bytes b n s)) || ltb (length out') (length (second_bytes b n s))

  abbrev left : Option Answer → CutOutcome
  left o = cut_outcome b n s (record { answer = accepted 0; index = []; work = [] }) out out' o

  by-rules : {ok z : Bool} → cut_ok n s (table_of b) ≡ ok → short ≡ z
      → apart_outcome b n s out out' ≡ left (naming 0 (first_due (60 when not ok ∷ 61 when z ∷ [])))
  unfolding apart_outcome
  by-rules e f = ap₂ (λ (ok z : Bool). left (naming 0 (first_due (60 when not ok ∷ 61 when z ∷ [])))) e f

  told : (r : Result (ℕ × ℕ) SplitError) (o : Option Answer) → apart_outcome b n s out out' ≡ left o → parted_as_paper r ≡ (left o).answer → {first second : List ℕ}
      → first ≡ (left o).first → second ≡ (left o).second → ApartOf r b n s out out' first second
  told r o e answer f g =
      record {
        answers = answer ∙ sym (ap (λ (x : CutOutcome). x.answer) e);
        firsts = f ∙ sym (ap (λ (x : CutOutcome). x.first) e);
        seconds = g ∙ sym (ap (λ (x : CutOutcome). x.second) e);
      }

  pub apart-60 : cut_ok n s (table_of b) ≡ false → ApartOf (Err NoCut) b n s out out' out out'
  unfolding parted_as_paper
  apart-60 e = told (Err NoCut) (some (report 60 0)) (by-rules e refl) refl refl refl

  module _ (ok : cut_ok n s (table_of b) ≡ true) where
    pub apart-61-first : length out < length (first_bytes b n s) → ApartOf (Err OutputShort) b n s out out' out out'
    unfolding parted_as_paper
    apart-61-first h =
        told (Err OutputShort) (some (report 61 0)) (by-rules ok (or_left (ltb (length out') (length (second_bytes b n s))) (lt-ltb _ _ h))) refl refl refl

    pub apart-61-second : length out' < length (second_bytes b n s) → ApartOf (Err OutputShort) b n s out out' out out'
    unfolding parted_as_paper
    apart-61-second h =
        told (Err OutputShort) (some (report 61 0)) (by-rules ok (or_right (ltb (length out) (length (first_bytes b n s))) (lt-ltb _ _ h))) refl refl refl

    pub apart-made : length (first_bytes b n s) ≤ length out → length (second_bytes b n s) ≤ length out' → {one two : ℕ} {first second : List ℕ}
        → one ≡ length (first_bytes b n s) → two ≡ length (second_bytes b n s) → first ≡ first_bytes b n s → second ≡ second_bytes b n s
        → ApartOf (Ok (one, two)) b n s out out' (first ++ drop one out) (second ++ drop two out')
    unfolding parted_as_paper
    apart-made h k e f p q =
        told (Ok (_, _)) none (by-rules ok (false-or (le-ltb _ _ h) (le-ltb _ _ k))) (λ i. record { number = 0; inner = 0; t = e i; p = f i })
        (ap₂ (λ (x : List ℕ) (j : ℕ). x ++ drop j out) p e) (ap₂ (λ (x : List ℕ) (j : ℕ). x ++ drop j out') q f)

-- ── the whole, by what the check says ──

module _ {c : Result ℕ Report} {b : List ℕ} {places work : ℕ} {index left : List ℕ} (h : CheckOf c b places work index left) (n s : ℕ) (out out' : List ℕ) where
  slices : (o : Option Answer) → let x = cut_outcome b n s (gate b places work) out out' o in (index ≡ x.index) × (left ≡ x.work)
  slices none = (h.told.indexes, h.cleared)
  slices (some a) = (h.told.indexes, h.cleared)

  pub split-refused : (r : Report) → c ≡ Err r → SplitOf (Err (Refused r)) b n s places work out out' index left out out'
  unfolding cut parted_as_paper
  split-refused r p =
      let e = cut-report b n s places work (length out) (length out') (checked_refused b places work r (ap checked_as_paper (sym p) ∙ h.told.answers)) in
      let end = slices (cut_refusal b n s places work (length out) (length out')) in
      record {
        answers = sym (ap (λ (o : Option Answer). (cut_outcome b n s (gate b places work) out out' o).answer) e);
        indexes = end.0;
        works = end.1;
        firsts = sym (ap (λ (o : Option Answer). (cut_outcome b n s (gate b places work) out out' o).first) e);
        seconds = sym (ap (λ (o : Option Answer). (cut_outcome b n s (gate b places work) out out' o).second) e);
      }

  module _ {m : ℕ} (p : c ≡ Ok m) where
    pub split-accepted : Bytes b → AcceptedBy b index m
    split-accepted bytes =
        let e = checked-accepted b places work (ap checked_as_paper (sym p) ∙ h.told.answers) in
        record { places = places; work = work; accepted = e.0; bytes = bytes; indexed = h.told.indexes; counted = e.1 }

    pub split-apart : {r : Result (ℕ × ℕ) SplitError} {first second : List ℕ} → ApartOf r b n s out out' first second
        → SplitOf r b n s places work out out' index left first second
    unfolding cut cut_refusal apart_outcome
    split-apart {r} {first} {second} a =
        let e = (checked-accepted b places work (ap checked_as_paper (sym p) ∙ h.told.answers)).0 in
        let rest : Option Answer = naming 0 (first_due (cut_rules b n s (length out) (length out'))) in
        let whole : cut_refusal b n s places work (length out) (length out') ≡ rest = ap (λ (o : Option Answer). or_else o rest) e in
        let end = slices (cut_refusal b n s places work (length out) (length out')) in
        record {
          answers = a.answers ∙ same_answer rest ∙ sym (ap (λ (o : Option Answer). (cut_outcome b n s (gate b places work) out out' o).answer) whole);
          indexes = end.0;
          works = end.1;
          firsts = a.firsts ∙ same_first rest ∙ sym (ap (λ (o : Option Answer). (cut_outcome b n s (gate b places work) out out' o).first) whole);
          seconds = a.seconds ∙ same_second rest ∙ sym (ap (λ (o : Option Answer). (cut_outcome b n s (gate b places work) out out' o).second) whole);
        }
      where
        none_left : Outcome
        none_left = record { answer = accepted 0; index = []; work = [] }

        same_answer : (o : Option Answer) → (cut_outcome b n s none_left out out' o).answer ≡ (cut_outcome b n s (gate b places work) out out' o).answer
        same_answer none = refl
        same_answer (some x) = refl

        same_first : (o : Option Answer) → (cut_outcome b n s none_left out out' o).first ≡ (cut_outcome b n s (gate b places work) out out' o).first
        same_first none = refl
        same_first (some x) = refl

        same_second : (o : Option Answer) → (cut_outcome b n s none_left out out' o).second ≡ (cut_outcome b n s (gate b places work) out out' o).second
        same_second none = refl
        same_second (some x) = refl
