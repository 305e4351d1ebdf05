-- Laws of phases 3 to 6 one after the other, over the table that an index shows.
-- Assumes nothing.
use Rattle.std.specs.Prelude.{Err, Ok, Result}
use Rattle.links.specs.declared.whole.Unlinked.TheVariants.{Endless, Reference}
use Rattle.links.specs.declared.whole.Unlinked.{Unlinked}
use Prim.Native.Nat.{ℕ, ◌-◌, ◌≤◌, ◌<◌}
use mathlib.Core.Path.{◌≡◌, refl, sym, ap, ap₂, ◌∙◌, subst}
use mathlib.Core.Bool.{Bool, true, false, not, cond, ◌&&◌}
use mathlib.Core.List.{List, [], ◌∷◌}
use mathlib.Core.Option.{Option, none, some}
use borrow.Author.Tests.{le-leb, lt-leb, le-ltb, lt-ltb}
use lib.Dec.{leb, ltb}
use lib.ListN.{length, get_or}
use Rattle.links.specs.Links.{linked_as_paper, links_say, LinksOf}
use Rattle.paper.proofs.basics.Answers.{report-one}
use Rattle.paper.proofs.gates.Gates.{some≢none, some_one}
use Rattle.paper.specs.rules.Answer.{Answer, report_at}
use Rattle.pairs.proofs.NamesOver.{names_over-one}
use Rattle.pairs.proofs.Replaced.{replaced, replaced-first_of, replaced-or_else}
use Rattle.paper.specs.rules.Choice.{Rule, ◌when◌, or_else}
use Rattle.paper.specs.rules.Gate.{first_of, over_types, phase3, phase4, phase5, phase6, zeros}
use Rattle.paper.specs.rules.Heads.{head_ok, head_bad}
use Rattle.paper.specs.rules.Names.{name_bad}
use Rattle.paper.specs.rules.Tails.{tail_ok, tail_bad}
use Rattle.paper.specs.rules.Header.{strings_in}
use Rattle.paper.specs.rules.Limits.{type_limit}
use Rattle.paper.specs.rules.Table.{Table, count, record_at}
use Rattle.paper.specs.rules.Walk.{place_at}
use Rattle.paper.specs.declared.Report.{Report}
use Rattle.paper.specs.declared.TypeNo.{TypeNo}
use Rattle.phases.specs.Said.{said_as_paper, phase3_by, phase6_told, over_shown, behind_third, later_says, judged, LaterOf, JudgeOf}
use Rattle.phases.proofs.Recalls.{sixth-same}
use Rattle.paper.specs.terms.Fit.{Bytes}
use Rattle.views.proofs.Shows.{table_by-count}
use Rattle.views.specs.Shown.{place_by, table_by}
use Rattle.views.specs.declared.View.{View}

module _ (base b index : List ℕ) (v : View) (room : ℕ) where
  abbrev T : Table
  T = table_by base b index v

  -- a phase over the types that are shown, at the index's places
  shown-over : (phase : Table → ℕ → List Rule) → over_shown base b index v phase ≡ replaced (place_by index v) (over_types phase T)
  unfolding over_shown over_types
  shown-over phase =
      ap (λ (n : ℕ). first_of (place_by index v) (phase T) n 1) (sym (table_by-count base b index v))
      ∙ replaced-first_of (place_at T) (place_by index v) (phase T) (count T) 1

  -- ── what is said of a table that is the one that is shown, at its own places ──

  module _ {S : Table} (shows : T ≡ S) {place : ℕ → ℕ} (places : (t : ℕ) → place_by index v t ≡ place t) where
    abbrev over : (Table → ℕ → List Rule) → Option Answer
    over phase = first_of place (phase S) (count S) 1

    shown-phase : (phase : Table → ℕ → List Rule) → over_shown base b index v phase ≡ over phase
    unfolding over_shown
    shown-phase phase =
        let counted = sym (table_by-count base b index v) ∙ ap count shows in
        λ i. first_of (λ t. places t i) (phase (shows i)) (counted i) 1

    -- names by the two sections are names by the strings of both
    phase3-one : get_or (strings_in base) (length (strings_in base) - 1) 0 ≡ 0 → (t : ℕ) → phase3_by (strings_in base) (strings_in b) T t ≡ phase3 T t
    unfolding phase3_by phase3 head_bad name_bad tail_bad table_by
    phase3-one last t =
        ap (λ (z : Bool). 10 when not (head_ok (record_at T t)) ∷ 11 when not z ∷ 12 when not (tail_ok (record_at T t)) ∷ [])
        (names_over-one (strings_in base) (strings_in b) last (record_at T t))

    pub judged-over : get_or (strings_in base) (length (strings_in base) - 1) 0 ≡ 0 → v.n ≤ type_limit → v.n < room
        → judged base b index v room ≡ or_else (over phase3) (or_else (over phase4) (or_else (over phase5) (over phase6)))
    unfolding judged later_says behind_third over_shown
    judged-over last few enough =
        (λ i. or_else (first_of (place_by index v) (λ t. phase3-one last t i) v.n 1) (later_says base b index v room))
        ∙ rw (le-leb v.n type_limit few, lt-ltb v.n room enough)
        (λ i. or_else (shown-phase phase3 i) (or_else (shown-phase phase4 i) (or_else (shown-phase phase5 i) (shown-phase phase6 i))))

  -- ── phases 4 to 6 ──

  asked : v.n ≤ type_limit → v.n < room → leb v.n type_limit && ltb v.n room ≡ true
  asked few enough = ap₂ (λ (x y : Bool). x && y) (le-leb v.n type_limit few) (lt-ltb v.n room enough)

  module _ (few : v.n ≤ type_limit) (enough : v.n < room) (w : Result (Unit {0}) Unlinked) {memo : List ℕ} (linked : LinksOf T v.n room w memo) where
    -- what phases 4 and 5 say, at the index's places
    links-shown : replaced (place_by index v) (linked_as_paper T w) ≡ or_else (over_shown base b index v phase4) (over_shown base b index v phase5)
    unfolding links_say
    links-shown =
        ap (replaced (place_by index v))
        (linked.says
        ∙ ap (λ (z : Bool). cond z (or_else (over_types phase4 T) (over_types phase5 T)) none) (asked few enough))
        ∙ sym (replaced-or_else (place_by index v) (over_types phase4 T) (over_types phase5 T))
        ∙ sym (λ i. or_else (shown-over phase4 i) (shown-over phase5 i))

    grouped : (x y z : Option Answer) → or_else (or_else x y) z ≡ or_else x (or_else y z)
    grouped none y z = refl
    grouped (some a) y z = refl

    behind-links : {x : Result (Unit {0}) Unlinked} → w ≡ x
        → or_else (replaced (place_by index v) (linked_as_paper T x)) (over_shown base b index v phase6) ≡ behind_third base b index v
    unfolding behind_third
    behind-links {x} q =
        ap (λ (o : Option Answer). or_else o (over_shown base b index v phase6))
        (ap (λ (y : Result (Unit {0}) Unlinked). replaced (place_by index v) (linked_as_paper T y)) (sym q) ∙ links-shown)
        ∙ grouped (over_shown base b index v phase4) (over_shown base b index v phase5) (over_shown base b index v phase6)

    pub behind-reference : {t : TypeNo} {p : ℕ} → w ≡ (Err (Reference t)) → p ≡ place_by index v t.0 → some (report_at 13 t.0 p) ≡ behind_third base b index v
    behind-reference {t} q at = ap (λ (p : ℕ). some (report_at 13 t.0 p)) at ∙ behind-links q

    pub behind-endless : {t : TypeNo} {p : ℕ} → w ≡ (Err (Endless t)) → p ≡ place_by index v t.0 → some (report_at 14 t.0 p) ≡ behind_third base b index v
    behind-endless {t} q at = ap (λ (p : ℕ). some (report_at 14 t.0 p)) at ∙ behind-links q

    pub behind-sixth : Bytes base → Bytes b → w ≡ (Ok (record {})) → {o : Option Answer} → o ≡ over_shown base b index v (phase6_told memo) → o ≡ behind_third base b index v
    behind-sixth low high q e =
        e ∙ sixth-same base b index v low high few enough (subst (λ (y : Result (Unit {0}) Unlinked). LinksOf T v.n room y memo) q linked) ∙ behind-links q

  -- ── phases 4 to 6, of so many types and places ──

  by-test : {test : Bool} → leb v.n type_limit && ltb v.n room ≡ test → cond test (behind_third base b index v) none ≡ later_says base b index v room
  unfolding later_says
  by-test e = ap (λ (z : Bool). cond z (behind_third base b index v) none) (sym e)

  pub later-many : type_limit < v.n → none ≡ later_says base b index v room
  later-many h = by-test (ap (λ (z : Bool). z && ltb v.n room) (lt-leb v.n type_limit h))

  pub later-short : v.n ≤ type_limit → room ≤ v.n → none ≡ later_says base b index v room
  later-short few h = by-test (ap₂ (λ (x y : Bool). x && y) (le-leb v.n type_limit few) (le-ltb v.n room h))

  pub later-behind : v.n ≤ type_limit → v.n < room → {o : Option Answer} → o ≡ behind_third base b index v → o ≡ later_says base b index v room
  later-behind few enough e = e ∙ by-test (asked few enough)

  -- a table of which they have nothing to say, whatever its types and the places
  later-none : none ≡ behind_third base b index v → none ≡ later_says base b index v room
  later-none e = go (leb v.n type_limit && ltb v.n room) refl
    where
      go : (test : Bool) → leb v.n type_limit && ltb v.n room ≡ test → none ≡ later_says base b index v room
      go true q = e ∙ by-test q
      go false q = by-test q

  -- ── all of them ──

  module _ (s₃ : Result (Unit {0}) Report) (e₃ : said_as_paper s₃ ≡ over_shown base b index v (phase3_by (strings_in base) (strings_in b))) where
    by-third : {o : Option Answer} → said_as_paper s₃ ≡ o → or_else o (later_says base b index v room) ≡ judged base b index v room
    unfolding judged
    by-third {o} e = ap (λ (x : Option Answer). or_else x (later_says base b index v room)) (sym e ∙ e₃)

    pub judge-third : {r : Report} → s₃ ≡ Err r → said_as_paper s₃ ≡ judged base b index v room
    judge-third p = ap said_as_paper p ∙ by-third (ap said_as_paper p)

    module _ (n₃ : s₃ ≡ (Ok (record {}))) where
      pub judge-glance : none ≡ behind_third base b index v → none ≡ judged base b index v room
      judge-glance e = later-none e ∙ by-third (ap said_as_paper n₃)

      pub judge-later : {r : Result (Unit {0}) Report} {places : ℕ} {work : List ℕ} → places ≡ room → LaterOf base b index v places r work → JudgeOf base b index v room r work
      judge-later {r} same h =
          record {
            says = h.says ∙ ap (later_says base b index v) same ∙ by-third (ap said_as_paper n₃);
            cleared = h.cleared ∙ ap zeros same;
          }

-- ── any two results that the contract allows are the same ──

said-one : (a b : Result (Unit {0}) Report) → said_as_paper a ≡ said_as_paper b → a ≡ b
said-one (Ok _) (Ok _) e = refl
said-one (Ok _) (Err r) e = absurd (some≢none (sym e))
said-one (Err r) (Ok _) e = absurd (some≢none e)
said-one (Err r) (Err q) e = ap Err (report-one r q (some_one e))

pub later-one : {base b index : List ℕ} {v : View} {room : ℕ} {r r' : Result (Unit {0}) Report} {work work' : List ℕ} → LaterOf base b index v room r work
    → LaterOf base b index v room r' work' → (r ≡ r') × (work ≡ work')
later-one {r = r} {r' = r'} h k = (said-one r r' (h.says ∙ sym k.says), h.cleared ∙ sym k.cleared)

pub judge-one : {base b index : List ℕ} {v : View} {room : ℕ} {r r' : Result (Unit {0}) Report} {work work' : List ℕ} → JudgeOf base b index v room r work
    → JudgeOf base b index v room r' work' → (r ≡ r') × (work ≡ work')
judge-one {r = r} {r' = r'} h k = (said-one r r' (h.says ∙ sym k.says), h.cleared ∙ sym k.cleared)
