-- `phases::types::third` meets its contract: phase 3 says of the types passed nothing.
use mathlib.Core.Path.{◌≡◌, ◌∙◌, refl}
use mathlib.Core.List.{List}
use Prim.Native.Nat.{ℕ}
use Rattle.paper.proofs.basics.Exits.{exit-same}
use Rattle.paper.proofs.gates.Looks.{looking-start, looking-next, looking-says, looking-done}
use Rattle.paper.specs.rules.Gate.{first_of}
use Rattle.paper.specs.rules.Header.{strings_in}
use Rattle.phases.specs.Said.{over_shown, phase3_by}
use Rattle.views.specs.Shown.{place_by, table_by}
use Rattle.views.specs.declared.View.{View}
use Rattle.phases.proofs.types.third.Goals as goal

-- what is said with the sections that were found is said with the blobs' own
sections : (base b index : List ℕ) (view : View) {x y : List ℕ} → x ≡ strings_in base → y ≡ strings_in b
    → first_of (place_by index view) (phase3_by x y (table_by base b index view)) view.n 1 ≡ over_shown base b index view (phase3_by (strings_in base) (strings_in b))
unfolding over_shown
sections base b index view e f = λ i. first_of (place_by index view) (phase3_by (e i) (f i) (table_by base b index view)) view.n 1

pub loop-k-init : goal.loop-k-init
loop-k-init c = looking-start _ _ _

pub loop-k-preserved : goal.loop-k-preserved
loop-k-preserved c = looking-next c.loop-k.invariant c.loop-k-test.true c.in_ok-heads_at.ensures refl

pub returns-in_err-heads_at : goal.returns-in_err-heads_at
returns-in_err-heads_at c =
    let a = c.args in
    rw (exit-same c.from_residual.result c.from_residual.ensures.1)
    (looking-says c.loop-k.invariant c.loop-k-test.true c.in_err-heads_at.ensures refl
    ∙ sections a.base.now a.b.now a.index.now a.view c.strings_in-before.ensures.bytes c.strings_in-strings.ensures.bytes)

pub returns : goal.returns
returns c =
    let a = c.args in
    looking-done c.loop-k.invariant c.loop-k-test.false
    ∙ sections a.base.now a.b.now a.index.now a.view c.strings_in-before.ensures.bytes c.strings_in-strings.ensures.bytes
