-- Any two results that the contract of an entry point for C allows are the same, slice by slice.
-- Assumes nothing.
use Prim.Native.Nat.{ℕ}
use mathlib.Core.Path.{◌≡◌, sym, ◌∙◌}
use mathlib.Core.List.{List}
use Rattle.abi.specs.Told.{CheckTold, ExtTold, JoinTold, LeanTold, ListTold, MakeTold, MemberTold, SplitTold, ValueTold, part_answer, part_over, record_in, span_in, told_in}
use Rattle.pairs.specs.Lean.{size_over}
use Rattle.paper.specs.rules.Size.{size_of}
use Rattle.values.specs.Given.{Finding, Given}

pub check-told-one : {b told : List ℕ} {places work_places : ℕ} {index index' work work' answer answer' : List ℕ}
    → CheckTold b places work_places told index work answer → CheckTold b places work_places told index' work' answer'
    → (index ≡ index') × (work ≡ work') × (answer ≡ answer')
check-told-one h k = (h.indexes ∙ sym k.indexes, h.works ∙ sym k.works, h.answers ∙ sym k.answers)

pub size-told-one : (b index told : List ℕ) (t : ℕ) {answer answer' : List ℕ}
    → answer ≡ told_in (size_of b index t) told → answer' ≡ told_in (size_of b index t) told → answer ≡ answer'
size-told-one b index told t h k = h ∙ sym k

pub name-told-one : (b told : List ℕ) (offset : ℕ) {answer answer' : List ℕ}
    → answer ≡ told_in (part_answer b offset) told → answer' ≡ told_in (part_answer b offset) told → answer ≡ answer'
name-told-one b told offset h k = h ∙ sym k

pub join-told-one : {a b : List ℕ} {places work_places : ℕ} {out told index index' work work' output output' answer answer' : List ℕ}
    → JoinTold a b places work_places out told index work output answer → JoinTold a b places work_places out told index' work' output' answer'
    → (index ≡ index') × (work ≡ work') × (output ≡ output') × (answer ≡ answer')
join-told-one h k =
    (h.indexes ∙ sym k.indexes, h.works ∙ sym k.works, h.outputs ∙ sym k.outputs, h.answers ∙ sym k.answers)

pub split-told-one : {b : List ℕ} {n s places work_places : ℕ} {out out' told index index' work work' first first' second second' answer answer' : List ℕ}
    → SplitTold b n s places work_places out out' told index work first second answer
    → SplitTold b n s places work_places out out' told index' work' first' second' answer'
    → (index ≡ index') × (work ≡ work') × (first ≡ first') × (second ≡ second') × (answer ≡ answer')
split-told-one h k =
    (h.indexes ∙ sym k.indexes, h.works ∙ sym k.works, h.firsts ∙ sym k.firsts, h.seconds ∙ sym k.seconds, h.answers ∙ sym k.answers)

pub list-told-one : {b : List ℕ} {places work_places : ℕ} {out told index index' work work' output output' answer answer' : List ℕ}
    → ListTold b places work_places out told index work output answer → ListTold b places work_places out told index' work' output' answer'
    → (index ≡ index') × (work ≡ work') × (output ≡ output') × (answer ≡ answer')
list-told-one h k =
    (h.indexes ∙ sym k.indexes, h.works ∙ sym k.works, h.outputs ∙ sym k.outputs, h.answers ∙ sym k.answers)

pub make-told-one : {s : List ℕ} {places work_places lent : ℕ} {out told index index' work work' bytes bytes' output output' answer answer' : List ℕ}
    → MakeTold s places work_places lent out told index work bytes output answer
    → MakeTold s places work_places lent out told index' work' bytes' output' answer'
    → (index ≡ index') × (work ≡ work') × (bytes ≡ bytes') × (output ≡ output') × (answer ≡ answer')
make-told-one h k =
    (h.indexes ∙ sym k.indexes, h.works ∙ sym k.works, h.blanks ∙ sym k.blanks, h.outputs ∙ sym k.outputs, h.answers ∙ sym k.answers)

pub ext-told-one : {b s : List ℕ} {places work_places : ℕ} {told index index' work work' answer answer' : List ℕ}
    → ExtTold b s places work_places told index work answer → ExtTold b s places work_places told index' work' answer'
    → (index ≡ index') × (work ≡ work') × (answer ≡ answer')
ext-told-one h k = (h.indexes ∙ sym k.indexes, h.works ∙ sym k.works, h.answers ∙ sym k.answers)

pub record-told-one : (s told : List ℕ) (x y : ℕ) {answer answer' : List ℕ} → answer ≡ record_in s x y told → answer' ≡ record_in s x y told → answer ≡ answer'
record-told-one s told x y h k = h ∙ sym k

pub span-told-one : (f : Finding) (told : List ℕ) {span span' : List ℕ} → span ≡ span_in f told → span' ≡ span_in f told → span ≡ span'
span-told-one f told h k = h ∙ sym k

pub value-told-one : {g : Given} {told room answer answer' value value' : List ℕ} → ValueTold g told room answer value → ValueTold g told room answer' value'
    → (answer ≡ answer') × (value ≡ value')
value-told-one h k = (h.answers ∙ sym k.answers, h.values ∙ sym k.values)

pub member-told-one : {b s told room : List ℕ} {places work_places t m : ℕ} {index index' work work' answer answer' value value' : List ℕ}
    → MemberTold b places work_places t m s told room index work answer value → MemberTold b places work_places t m s told room index' work' answer' value'
    → (index ≡ index') × (work ≡ work') × (answer ≡ answer') × (value ≡ value')
member-told-one h k =
    let v = value-told-one h.gives k.gives in (h.indexes ∙ sym k.indexes, h.works ∙ sym k.works, v.0, v.1)

-- ── over a base ──

pub lean-told-one : {base own told : List ℕ} {places work_places : ℕ} {index index' work work' answer answer' : List ℕ}
    → LeanTold base own places work_places told index work answer → LeanTold base own places work_places told index' work' answer'
    → (index ≡ index') × (work ≡ work') × (answer ≡ answer')
lean-told-one h k = (h.indexes ∙ sym k.indexes, h.works ∙ sym k.works, h.answers ∙ sym k.answers)

pub size-over-told-one : (base : List ℕ) (before : ℕ) (own index told : List ℕ) (t : ℕ) {answer answer' : List ℕ}
    → answer ≡ told_in (size_over base before own index t) told → answer' ≡ told_in (size_over base before own index t) told → answer ≡ answer'
size-over-told-one base before own index told t h k = h ∙ sym k

pub name-over-told-one : (base own told : List ℕ) (offset : ℕ) {answer answer' : List ℕ}
    → answer ≡ told_in (part_over base own offset) told → answer' ≡ told_in (part_over base own offset) told → answer ≡ answer'
name-over-told-one base own told offset h k = h ∙ sym k
