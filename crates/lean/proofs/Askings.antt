-- Whose strings hold an offset, by what phase 1 of both blobs finds; and the name there is the one of that blob.
-- Assumes nothing.
use Rattle.lean.specs.declared.questions.Side.TheVariants.{Base, Own}
use Rattle.lean.specs.declared.questions.Lying.TheVariants.{InBase, InOwn}
use Rattle.lean.specs.declared.questions.Side.{Side}
use Rattle.std.specs.Prelude.{Err, Ok, Result, None, Option as RustOption, Some, is_some as rust_is_some}
use Prim.Native.Nat.{ℕ, ◌+◌, ◌-◌, ◌≤◌, ◌<◌}
use mathlib.Core.Path.{◌≡◌, refl, sym, ap, subst, ◌∙◌}
use mathlib.Core.Bool.{Bool, true, false, not, ◌||◌}
use mathlib.Core.List.{List, []}
use mathlib.Core.Option.{Option, none, some}
use native.Mathlib.Omega.{arith}
use borrow.Author.Tests.{lt-ltb, le-ltb, ltb-true, ltb-false, not-false, not-true}
use denote.Ref.{Bor}
use lib.Dec.{ltb}
use lib.ListN.{length}
use Rattle.header.proofs.Scans.{name_at-inside, name_at_behind-inside}
use Rattle.header.specs.Behind.{HeaderBehind, nameless_behind, name_at_behind, name_start_behind, PartBehind, NamePartBehind}
use Rattle.header.specs.Header.{HeaderOf}
use Rattle.header.specs.Part.{PartOf, NamePart, name_if, start_if}
use Rattle.header.specs.declared.first.Sections.{Sections}
use Rattle.lean.specs.Asked.{SideBy, SideOf, LyingOf, holder, NameLeaning}
use Rattle.pairs.proofs.Headers.{behind_report-facts}
use Rattle.pairs.specs.Lean.{other_opening, behind_report, name_over, nameless_over, name_at_over, in_base, name_start_over}
use Rattle.paper.proofs.basics.Choices.{or_left, or_right, or-false}
use Rattle.paper.proofs.bytes.Blobs.{strings_in-length}
use Rattle.paper.proofs.bytes.Headers.{header_report-facts}
use Rattle.paper.proofs.gates.Gates.{naming-none}
use Rattle.paper.specs.declared.Part.{Part}
use Rattle.paper.specs.declared.Report.{Report}
use Rattle.paper.specs.rules.Answer.{Answer}
use Rattle.paper.specs.rules.Choice.{is_some}
use Rattle.paper.specs.rules.Gate.{naming, phase1}
use Rattle.paper.specs.rules.Header.{str_len, strings_in, header_report}
use Rattle.paper.specs.rules.Limits.{byte_limit}
use Rattle.paper.specs.rules.Name.{nameless, name_at, name_start}

due-some : (o : Option ℕ) {a : Answer} → naming 0 o ≡ some a → is_some o ≡ true
due-some none e = absurd (let z : ◌≡◌ {A = ℕ} 0 1 = cc in omega arith)
due-some (some n) e = refl

not_some : (o : Option ℕ) → is_some o ≡ false → o ≡ none
not_some none e = refl
not_some (some n) e = absurd (let z : ◌≡◌ {A = ℕ} 0 1 = cc in omega arith)

-- ── whose strings ──

module _ (base own : List ℕ) (off : ℕ) where
  pub nameless-26 : other_opening base own ≡ true → nameless_over base own off ≡ true
  unfolding nameless_over
  nameless-26 e = or_left _ (or_left _ (or_right (is_some (header_report base)) e))

  pub nameless-base : (h : Result Sections Report) {r : Report} → HeaderOf h base → h ≡ Err r → nameless_over base own off ≡ true
  unfolding nameless_over phase1
  nameless-base h k e = or_left _ (or_left _ (or_left _ (due-some (header_report base) (subst (λ (x : Result Sections Report). HeaderOf x base) e k))))

  pub nameless-own : (h : Result Sections Report) {r : Report} → HeaderBehind h (length base) own → h ≡ Err r → nameless_over base own off ≡ true
  unfolding nameless_over
  nameless-own h k e =
      or_left _
      (or_right (is_some (header_report base) || other_opening base own)
      (due-some (behind_report (length base) own) (subst (λ (x : Result Sections Report). HeaderBehind x (length base) own) e k)))

  -- both blobs have passed phase 1, in one order: their strings decide
  module _ (e : header_report base ≡ none) (one : other_opening base own ≡ false) (f : behind_report (length base) own ≡ none) where
    there : off < str_len base + str_len own → nameless_over base own off ≡ false
    unfolding nameless_over
    there h = rw (e, one, f, lt-ltb _ _ h) refl

    past : str_len base + str_len own ≤ off → nameless_over base own off ≡ true
    unfolding nameless_over
    past h = rw (e, one, f, le-ltb _ _ h) refl

    side-good : (r : RustOption Side) → SideBy r (str_len base) (str_len own) off → SideOf r base own off
    unfolding in_base
    side-good (Some (Base o)) h = (there (omega arith), lt-ltb _ _ h.0, h.1)
    side-good (Some (Own o)) h = (there h.1, le-ltb _ _ h.0, h.2)
    side-good None h = past h

  pub side-both : (h k : Result Sections Report) {s t : Sections} (r : RustOption Side) → other_opening base own ≡ false → HeaderOf h base → h ≡ Ok s
      → HeaderBehind k (length base) own → k ≡ Ok t → SideBy r s.strings t.strings off → SideOf r base own off
  unfolding phase1
  side-both h k {s} {t} r one b p o q side =
      let b' = subst (λ (x : Result Sections Report). HeaderOf x base) p b in
      let o' = subst (λ (x : Result Sections Report). HeaderBehind x (length base) own) q o in
      let side' : SideBy r (str_len base) (str_len own) off = subst (λ (n : ℕ). SideBy r n (str_len own) off) b'.strings
      (subst (λ (m : ℕ). SideBy r s.strings m off) o'.strings side) in
      side-good (naming-none 0 (header_report base) b'.silent) one o'.silent r side'

  -- what is known of a side is known of what it is found to be
  pub side-none : (r : RustOption Side) → SideOf r base own off → (z : Bool) → rust_is_some r ≡ not z → z ≡ nameless_over base own off
  side-none (Some (Base o)) h z e = not-true z (sym e) ∙ sym h.0
  side-none (Some (Own o)) h z e = not-true z (sym e) ∙ sym h.0
  side-none None h z e = not-false z (sym e) ∙ sym h

  pub side-as : {r r' : RustOption Side} → r ≡ r' → SideOf r base own off → SideOf r' base own off
  side-as e h = subst (λ (x : RustOption Side). SideOf x base own off) e h

  -- ── the name is the one of that blob ──

  module _ (named : nameless_over base own off ≡ false) where
    passed : ((is_some (header_report base) || other_opening base own || is_some (behind_report (length base) own)) ≡ false) × (off < str_len base + str_len own)
    unfolding nameless_over
    passed =
        let h = or-false (is_some (header_report base) || other_opening base own || is_some (behind_report (length base) own))
        (not (ltb off (str_len base + str_len own))) named in
        (h.0, ltb-true _ _ (not-false _ h.1))

    base-silent : header_report base ≡ none
    base-silent = not_some _ (or-false _ _ (or-false _ _ passed.0).0).0

    own-silent : behind_report (length base) own ≡ none
    own-silent = not_some _ (or-false (is_some (header_report base) || other_opening base own) _ passed.0).1

    base-long : length (strings_in base) ≡ str_len base
    base-long = strings_in-length base (header_report-facts base base-silent)

    module _ (e : in_base base own off ≡ true) where
      base-name : name_at base off ≡ name_at_over base own off
      unfolding name_at nameless name_at_over name_over in_base
      base-name = rw (named, base-long, base-silent, e) refl

      base-start : name_start base off ≡ name_start_over base own off
      unfolding name_start nameless name_start_over in_base
      base-start = rw (named, base-silent, e) refl

    module _ (e : in_base base own off ≡ false) where
      own_below : ltb (off - str_len base) (str_len own) ≡ true
      unfolding in_base
      own_below = let h = ltb-false off (str_len base) e in lt-ltb (off - str_len base) (str_len own) (omega (arith, passed.1))

      own_name : name_at_behind (length base) own (off - str_len base) ≡ name_at_over base own off
      unfolding name_at_behind name_if nameless_behind name_at_over name_over in_base
      own_name = rw (named, base-long, own-silent, own_below, e) refl

      own-start : name_start_behind (length base) own (off - str_len base) ≡ name_start_over base own off
      unfolding name_start_behind start_if nameless_behind name_start_over in_base
      own-start = rw (named, own-silent, own_below, e) refl

  -- it is no longer than a blob may be
  short-if : nameless_over base own off ≡ false → (t : Bool) → in_base base own off ≡ t → length (name_at_over base own off) ≤ byte_limit
  short-if named true e =
      omega (arith, ap length (base-name named e), name_at-inside base off, (header_report-facts base (base-silent named)).short)
  short-if named false e =
      omega (
        arith,
        ap length (own_name named e),
        name_at_behind-inside own (off - str_len base) (length base),
        (behind_report-facts (length base) own (own-silent named)).short,
      )

  short_none : nameless_over base own off ≡ true → length (name_at_over base own off) ≤ byte_limit
  unfolding name_at_over
  short_none e = rw e (omega arith)

  pub name_at_over-short : length (name_at_over base own off) ≤ byte_limit
  name_at_over-short = go (nameless_over base own off) refl
    where
      go : (t : Bool) → nameless_over base own off ≡ t → length (name_at_over base own off) ≤ byte_limit
      go true e = short_none e
      go false e = short-if e (in_base base own off) refl

  -- where it lies
  pub lying-base : nameless_over base own off ≡ false → in_base base own off ≡ true → {n : ℕ} → n ≡ off → {p : Part} → PartOf p base n
      → LyingOf (Some (InBase p)) base own off
  lying-base named e q {p} k =
      let k' = subst (λ (m : ℕ). PartOf p base m) q k in
      (named, e, record { starts = k'.starts ∙ base-start named e; long = k'.long ∙ ap length (base-name named e) })

  pub lying-own : nameless_over base own off ≡ false → in_base base own off ≡ false → {n : ℕ} → n ≡ off - str_len base → {p : Part}
      → PartBehind p (length base) own n → LyingOf (Some (InOwn p)) base own off
  lying-own named e q {p} k =
      let k' = subst (λ (m : ℕ). PartBehind p (length base) own m) q k in
      (named, e, record { starts = k'.starts ∙ own-start named e; long = k'.long ∙ ap length (own_name named e) })

-- and the reference to it
module _ {r : Bor (List ℕ)} (base own : Bor (List ℕ)) (off : ℕ) where
  pub name-base : nameless_over base.now own.now off ≡ false → in_base base.now own.now off ≡ true → {n : ℕ} → n ≡ off → NamePart r base n
      → NameLeaning r base own off
  name-base named e q k =
      let k' = subst (λ (m : ℕ). NamePart r base m) q k in
      let held : base ≡ holder base own off = rw (named, e) refl in
      let start = base-start base.now own.now off named e in
      record {
        bytes = k'.bytes ∙ base-name base.now own.now off named e;
        place = k'.place ∙ (λ i. ((held i).ref_ptr.0, start i + (held i).ref_ptr.1));
      }

  pub name-own : nameless_over base.now own.now off ≡ false → in_base base.now own.now off ≡ false → {n : ℕ} → n ≡ off - str_len base.now
      → NamePartBehind r (length base.now) own n → NameLeaning r base own off
  name-own named e q k =
      let k' = subst (λ (m : ℕ). NamePartBehind r (length base.now) own m) q k in
      let held : own ≡ holder base own off = rw (named, e) refl in
      let start = own-start base.now own.now off named e in
      record {
        bytes = k'.bytes ∙ own_name base.now own.now off named e;
        place = k'.place ∙ (λ i. ((held i).ref_ptr.0, start i + (held i).ref_ptr.1));
      }

  pub name-none : nameless_over base.now own.now off ≡ true → r.now ≡ [] → r.ref_ptr ≡ own.ref_ptr → NameLeaning r base own off
  unfolding name_at_over name_start_over
  name-none named e at =
      let first : own.ref_ptr.1 ≡ 0 + own.ref_ptr.1 = omega arith in
      record { bytes = rw named e; place = rw named (at ∙ (λ i. (own.ref_ptr.0, first i))) }
