-- Of a table that is good at a glance phases 4 to 6 say nothing; and of one that is quiet phase 3.
-- Assumes nothing.
use Prim.Native.Nat.{ℕ, zero, suc, ◌+◌, ◌≤◌, ◌<◌}
use native.Mathlib.Omega.{arith}
use mathlib.Core.Path.{◌≡◌, refl, sym, ap, ◌∙◌}
use mathlib.Core.Bool.{Bool, not}
use mathlib.Core.List.{List, [], ◌∷◌}
use mathlib.Core.Option.{Option, none}
use Rattle.glance.specs.Glance.{SurelyGood}
use Rattle.paper.specs.rules.Answer.{Answer}
use Rattle.paper.specs.rules.Choice.{Rule, ◌when◌, first_due, or_else}
use Rattle.paper.specs.rules.Gate.{first_of, naming_at, phase4, phase5, phase6}
use Rattle.paper.specs.rules.Layout.{layout_bad}
use Rattle.paper.specs.rules.References.{ref_bad}
use Rattle.paper.specs.rules.Header.{strings_in}
use Rattle.paper.specs.rules.Table.{Table, record_at}
use Rattle.phases.specs.Said.{behind_third, judged, later_says, over_shown, phase3_by}
use Rattle.rules.specs.Phase.{rules_of}
use Rattle.views.specs.Shown.{table_by}
use Rattle.views.specs.declared.View.{View}

-- where nothing is due of any type, nothing is said
none_first : (place : ℕ → ℕ) (rules : ℕ → List Rule) (left k : ℕ) → ((t : ℕ) → k ≤ t → t < k + left → first_due (rules t) ≡ none)
    → first_of place rules left k ≡ none
none_first place rules zero k h = refl
none_first place rules (suc left) k h =
    ap (λ (o : Option ℕ). or_else (naming_at k (place k) o) (first_of place rules left (suc k))) (h k (omega arith) (omega arith))
    ∙ none_first place rules left (suc k) (λ t low high. h t (omega arith) (omega arith))

module _ (base b index : List ℕ) (v : View) (good : SurelyGood (table_by base b index v) v.n) where
  abbrev T : Table
  T = table_by base b index v

  fourth : over_shown base b index v phase4 ≡ none
  unfolding over_shown phase4 ref_bad
  fourth =
      none_first _ (phase4 T) v.n 1 (λ t low high. ap (λ (z : Bool). first_due (13 when not z ∷ [])) (good.refs t low (omega arith)))

  fifth : over_shown base b index v phase5 ≡ none
  unfolding over_shown phase5
  fifth = none_first _ (phase5 T) v.n 1 (λ t low high. ap (λ (z : Bool). first_due (14 when z ∷ [])) (good.ends t low (omega arith)))

  last : over_shown base b index v phase6 ≡ none
  unfolding over_shown phase6 layout_bad
  last = none_first _ (phase6 T) v.n 1 (λ t low high. ap (λ (z : Bool). first_due (15 when not z ∷ [])) (good.layout t low (omega arith)))

  pub behind-glance : none ≡ behind_third base b index v
  unfolding behind_third
  behind-glance = sym (λ i. or_else (fourth i) (or_else (fifth i) (last i)))

-- where phase 3 has nothing to say of any type, the later ones judge
pub quiet-judged : (base b index : List ℕ) (v : View) (room : ℕ)
    → ((t : ℕ) → 1 ≤ t → t ≤ v.n → none ≡ first_due (rules_of (strings_in base) (strings_in b) (record_at (table_by base b index v) t)))
    → later_says base b index v room ≡ judged base b index v room
unfolding judged over_shown phase3_by
quiet-judged base b index v room quiet =
    sym
    (ap (λ (o : Option Answer). or_else o (later_says base b index v room))
    (none_first _ (phase3_by (strings_in base) (strings_in b) (table_by base b index v)) v.n 1 (λ t low high. sym (quiet t low (omega arith)))))
