-- Laws of `Name`: the place of the first zero byte, and names by what phase 1 says.
-- Assumes nothing.
use Rattle.std.specs.Prelude.{Err, Ok, Result}
use Prim.Native.Nat.{ℕ, zero, suc, ◌+◌, ◌<◌, ◌≤◌}
use mathlib.Core.Path.{◌≡◌, refl, sym, ap, ap₂, subst, ◌∙◌}
use mathlib.Core.Bool.{Bool, true, false, not, cond, ◌||◌, false≢true}
use mathlib.Core.List.{List, [], ◌∷◌}
use mathlib.Core.Option.{Option, none, some}
use native.Mathlib.Numerals.{one-add}
use native.Mathlib.Omega.{arith}
use borrow.Author.Tests.{ltb-true, ltb-false, not-false}
use denote.Ref.{Bor}
use lib.Dec.{eqb, ltb}
use lib.ListN.{length, take, drop, length-drop}
use lib.Seq.{drop-drop, length-take-le}
use Rattle.paper.proofs.bytes.Headers.{header_report-facts}
use Rattle.paper.proofs.gates.Gates.{naming-none}
use Rattle.std.specs.List.{position_or_len}
use Rattle.std.specs.Option.{unwrap_or}
use Rattle.std.proofs.Common as option
use Rattle.std.proofs.Common.{Some, None}
use Rattle.header.specs.Behind.{HeaderBehind, nameless_behind, name_at_behind, name_start_behind, PartBehind, NamePartBehind}
use Rattle.header.specs.Part.{Ending, nameless_by, name_if, start_if, Held, PartIf, PartOf, CutOut, NamePart}
use Rattle.header.specs.Header.{HeaderOf, HeaderBy}
use Rattle.header.specs.declared.first.Sections.{Sections}
use Rattle.pairs.proofs.Headers.{behind_report-facts}
use Rattle.paper.specs.declared.Part.{Part}
use Rattle.paper.specs.declared.Report.{Report}
use Rattle.paper.specs.rules.Answer.{Answer}
use Rattle.paper.specs.rules.Choice.{is_some}
use Rattle.paper.specs.rules.Gate.{naming, phase1}
use Rattle.paper.specs.rules.Header.{order_of, str_len, type_len, strings_in, header_report}
use Rattle.pairs.specs.Lean.{behind_report}
use Rattle.paper.specs.rules.Name.{until_zero, name_in, nameless, name_at, name_start}
use Rattle.paper.specs.rules.Word.{word_at}

-- ── a search ──

abbrev first_zero : List ℕ → ℕ
first_zero s = position_or_len (λ (c : ℕ). eqb c 0) s

first_zero-inside : (s : List ℕ) → first_zero s ≤ length s
first_zero-inside [] = omega arith
first_zero-inside (c ∷ s) = go (eqb c 0) (first_zero-inside s)
  where
    go : (t : Bool) → first_zero s ≤ length s → cond (not t) (1 + first_zero s) 0 ≤ suc (length s)
    go true h = omega arith
    go false h = omega arith

first_zero-until : (s : List ℕ) → take (first_zero s) s ≡ until_zero s
first_zero-until [] = refl
first_zero-until (c ∷ s) = go (eqb c 0) (first_zero-until s)
  where
    go : (t : Bool) → take (first_zero s) s ≡ until_zero s → take (cond (not t) (1 + first_zero s) 0) (c ∷ s) ≡ cond t [] (c ∷ until_zero s)
    go true h = refl
    go false h = rw one-add (ap (λ (r : List ℕ). c ∷ r) h)

-- the place of the first zero byte, or the end, is where the name ends
pub ending-first : {n : ℕ} {r : option.Option ℕ} (s : List ℕ) → r ≡ cond (ltb (first_zero s) (length s)) (Some (first_zero s)) None
    → n ≡ unwrap_or r (length s) → Ending s n
ending-first {n} s e is = go (ltb (first_zero s) (length s)) refl
  where
    at : n ≡ first_zero s → Ending s n
    at same = subst (Ending s) (sym same) (record { inside = first_zero-inside s; until = first_zero-until s })

    told : {t : Bool} → ltb (first_zero s) (length s) ≡ t → n ≡ unwrap_or (cond t (Some (first_zero s)) None) (length s)
    told t = is ∙ ap (λ (o : option.Option ℕ). unwrap_or o (length s)) (e ∙ ap (λ (b : Bool). cond b (Some (first_zero s)) None) t)

    go : (t : Bool) → ltb (first_zero s) (length s) ≡ t → Ending s n
    go true t = at (told t)
    go false t =
        let inside = first_zero-inside s in
        let past = ltb-false (first_zero s) (length s) t in
        at (omega (arith, told t))

until_zero-short : (s : List ℕ) → length (until_zero s) ≤ length s
until_zero-short [] = omega arith
until_zero-short (c ∷ s) = go (eqb c 0) (until_zero-short s)
  where
    go : (t : Bool) → length (until_zero s) ≤ length s → length (cond t [] (c ∷ until_zero s)) ≤ suc (length s)
    go true h = omega arith
    go false h = omega arith

-- what stands up to the first zero byte is the front of the bytes
until_zero-take : (s : List ℕ) → take (length (until_zero s)) s ≡ until_zero s
until_zero-take [] = refl
until_zero-take (c ∷ s) = go (eqb c 0) (until_zero-take s)
  where
    go : (t : Bool) → take (length (until_zero s)) s ≡ until_zero s → take (length (cond t [] (c ∷ until_zero s))) (c ∷ s) ≡ cond t [] (c ∷ until_zero s)
    go true h = refl
    go false h = ap (λ (r : List ℕ). c ∷ r) h

-- ── a name by what phase 1 says ──

naming-some : {C : Type 0} (o : Option ℕ) {r : Answer} → naming 0 o ≡ some r → ((n : ℕ) → o ≡ some n → C) → C
naming-some none e f = absurd (let z : ◌≡◌ {A = ℕ} 0 1 = cc in omega arith)
naming-some (some n) e f = f n refl

-- what the header in code says decides, by the report that is due
nameless-due : (h : Result Sections Report) (due : Option ℕ) (b : List ℕ) (off : ℕ) → HeaderBy due h b → nameless_by h off ≡ (is_some due || not (ltb off (str_len b)))
nameless-due (Ok s) due b off e = rw (e.strings, e.silent) refl
nameless-due (Err r) due b off e = naming-some due e (λ n q. rw q refl)

pub nameless_by-good : {h : Result Sections Report} {s : Sections} (off : ℕ) → h ≡ Ok s → not (ltb off s.strings) ≡ nameless_by h off
nameless_by-good off e = sym (ap (λ (h : Result Sections Report). nameless_by h off) e)

pub nameless_by-bad : {h : Result Sections Report} {r : Report} (off : ℕ) → h ≡ Err r → true ≡ nameless_by h off
nameless_by-bad off e = sym (ap (λ (h : Result Sections Report). nameless_by h off) e)

-- of phase 1 by itself
header_of-due : (h : Result Sections Report) (b : List ℕ) → HeaderOf h b → HeaderBy (header_report b) h b
unfolding phase1
header_of-due (Ok s) b e = record { silent = naming-none 0 (header_report b) e.silent; types = e.types; strings = e.strings }
header_of-due (Err r) b e = e

pub nameless-alone : (h : Result Sections Report) (b : List ℕ) (off : ℕ) → HeaderOf h b → nameless_by h off ≡ nameless b off
unfolding nameless
nameless-alone h b off e = nameless-due h (header_report b) b off (header_of-due h b e)

pub nameless-behind : (h : Result Sections Report) (before : ℕ) (b : List ℕ) (off : ℕ) → HeaderBehind h before b → nameless_by h off ≡ nameless_behind before b off
unfolding nameless_behind
nameless-behind h before b off e = nameless-due h (behind_report before b) b off e

-- ── where a name is not missing ──

silent-due : (due : Option ℕ) (off n : ℕ) → (is_some due || not (ltb off n)) ≡ false → (due ≡ none) × (off < n)
silent-due none off n e = (refl, ltb-true off n (not-false _ e))
silent-due (some r) off n e = absurd (false≢true (sym e))

module _ (b : List ℕ) (off : ℕ) where
  pub alone-held : Held (nameless b off) b off
  unfolding nameless
  alone-held =
      record {
        inside = λ e. let d = silent-due (header_report b) off (str_len b) e in omega (arith, (header_report-facts b d.0).sum, d.1);
        short = λ e. (header_report-facts b (silent-due (header_report b) off (str_len b) e).0).short;
      }

  pub behind-held : (before : ℕ) → Held (nameless_behind before b off) b off
  unfolding nameless_behind
  behind-held before =
      record {
        inside = λ e. let d = silent-due (behind_report before b) off (str_len b) e in omega (arith, (behind_report-facts before b d.0).sections.sum, d.1);
        short = λ e. omega (arith, (behind_report-facts before b (silent-due (behind_report before b) off (str_len b) e).0).short);
      }

module _ (missing : Bool) (b : List ℕ) (off : ℕ) where
  -- where there is no name, the part begins at 0 and is empty
  pub start_if-none : missing ≡ true → 0 ≡ start_if missing b off
  unfolding start_if
  start_if-none e = rw e refl

  pub name_if-none : missing ≡ true → name_if missing b off ≡ []
  unfolding name_if
  name_if-none e = rw e refl

  module _ (e : missing ≡ false) where
    -- else it begins so far into the strings
    pub start_if-some : {w : ℕ} → w ≡ word_at (order_of b) b 12 → 24 + w + off ≡ start_if missing b off
    unfolding start_if type_len
    start_if-some d = rw (e, d) refl

    pub start_if-inside : Held missing b off → start_if missing b off < length b
    unfolding start_if
    start_if-inside held = rw e (held.inside e)

    name_if-bytes : until_zero (drop (start_if missing b off) b) ≡ name_if missing b off
    unfolding start_if name_if name_in strings_in
    name_if-bytes = rw (e, drop-drop) refl

    -- what stands from there up to the first zero byte is the name
    pub name_if-long : {n : ℕ} → Ending (drop (start_if missing b off) b) n → n ≡ length (name_if missing b off)
    name_if-long ends = sym (length-take-le _ _ ends.inside) ∙ ap length (ends.until ∙ name_if-bytes)

  -- ── a name is a part of the blob ──

  pub name_if-inside : Held missing b off → start_if missing b off + length (name_if missing b off) ≤ length b
  name_if-inside held = go missing refl
    where
      go : (t : Bool) → missing ≡ t → start_if missing b off + length (name_if missing b off) ≤ length b
      go true e = let s = start_if-none e in let n = ap length (name_if-none e) in omega arith
      go false e =
          let inside = start_if-inside e held in
          let n = until_zero-short (drop (start_if missing b off) b) in
          let l = length-drop (start_if missing b off) b in
          omega (arith, ap length (name_if-bytes e))

  pub name_if-part : take (length (name_if missing b off)) (drop (start_if missing b off) b) ≡ name_if missing b off
  name_if-part = go missing refl
    where
      go : (t : Bool) → missing ≡ t → take (length (name_if missing b off)) (drop (start_if missing b off) b) ≡ name_if missing b off
      go true e = ap (λ (n : List ℕ). take (length n) (drop (start_if missing b off) b)) (name_if-none e) ∙ sym (name_if-none e)
      go false e =
          ap (λ (n : List ℕ). take (length n) (drop (start_if missing b off) b)) (sym (name_if-bytes e))
          ∙ until_zero-take (drop (start_if missing b off) b) ∙ name_if-bytes e

-- a part that is cut out is what stands there
cut-name : {r b : Bor (List ℕ)} {p : Part} (start : ℕ) (s : List ℕ) → CutOut r b p → p.start.0 ≡ start → p.length ≡ length s
    → take (length s) (drop start b.now) ≡ s → (r.now ≡ s) × (r.ref_ptr ≡ (b.ref_ptr.0, start + b.ref_ptr.1))
cut-name {r} {b} {p} start s cut starts long part = (
  cut.bytes ∙ ap₂ (λ (n q : ℕ). take n (drop q b.now)) long starts ∙ part,
  cut.place ∙ ap {B = ℕ × ℕ} (λ (q : ℕ). (b.ref_ptr.0, q + b.ref_ptr.1)) starts,
)

-- ── by itself, and behind a base ──

-- told by a test, the name is that of what the test says
pub part_if-told : {p : Part} {missing m : Bool} (b : List ℕ) (off : ℕ) → missing ≡ m → PartIf p missing b off → PartIf p m b off
part_if-told {p} b off e h = subst (λ (t : Bool). PartIf p t b off) e h

pub held-told : {missing m : Bool} (b : List ℕ) (off : ℕ) → missing ≡ m → Held m b off → Held missing b off
held-told b off e h = subst (λ (t : Bool). Held t b off) (sym e) h

module _ (b : List ℕ) (off : ℕ) where
  pub part-alone : {p : Part} → PartIf p (nameless b off) b off → PartOf p b off
  unfolding name_start name_at start_if name_if
  part-alone h = record { starts = h.starts; long = h.long }

  pub name_at-inside : name_start b off + length (name_at b off) ≤ length b
  unfolding name_start name_at start_if name_if
  name_at-inside = name_if-inside (nameless b off) b off (alone-held b off)

  pub name_at-part : take (length (name_at b off)) (drop (name_start b off) b) ≡ name_at b off
  unfolding name_start name_at start_if name_if
  name_at-part = name_if-part (nameless b off) b off

  module _ (before : ℕ) where
    pub part-behind : {p : Part} → PartIf p (nameless_behind before b off) b off → PartBehind p before b off
    unfolding name_start_behind name_at_behind
    part-behind h = record { starts = h.starts; long = h.long }

    pub name_at_behind-inside : name_start_behind before b off + length (name_at_behind before b off) ≤ length b
    unfolding name_start_behind name_at_behind
    name_at_behind-inside = name_if-inside (nameless_behind before b off) b off (behind-held b off before)

    pub name_at_behind-part : take (length (name_at_behind before b off)) (drop (name_start_behind before b off) b) ≡ name_at_behind before b off
    unfolding name_start_behind name_at_behind
    name_at_behind-part = name_if-part (nameless_behind before b off) b off

module _ {r b : Bor (List ℕ)} {p : Part} (cut : CutOut r b p) (off : ℕ) where
  pub name_at-cut : PartOf p b.now off → NamePart r b off
  name_at-cut e =
      let n = cut-name (name_start b.now off) (name_at b.now off) cut e.starts e.long (name_at-part b.now off) in
      record { bytes = n.0; place = n.1 }

  pub name_at_behind-cut : (before : ℕ) → PartBehind p before b.now off → NamePartBehind r before b off
  name_at_behind-cut before e =
      let n = cut-name (name_start_behind before b.now off) (name_at_behind before b.now off) cut e.starts e.long
      (name_at_behind-part b.now off before) in
      record { bytes = n.0; place = n.1 }
