-- Laws of a size asked of the table that an index shows: any table, any type.
-- Assumes nothing.
use Prim.Native.Nat.{ℕ}
use mathlib.Core.Path.{◌≡◌, refl, sym, ap, ◌∙◌}
use mathlib.Core.List.{List}
use native.Mathlib.Omega.{arith}
use lib.ListN.{length, get_or}
use Rattle.sizes.specs.SizeStep.{cut, step_words}
use Rattle.sizes.proofs.SizeSteps.{step_words-read}
use Rattle.sizes.proofs.Scales.{Left, left-all, size_answer-cut}
use Rattle.paper.proofs.gates.SizeAsked.{step_by-same, row_of-counts}
use Rattle.paper.specs.rules.Answer.{Answer}
use Rattle.paper.specs.rules.Kind.{row_of}
use Rattle.paper.specs.terms.Reading.{record_in}
use Rattle.paper.specs.rules.Size.{Step, Found, exactly, none_at, lost_at, too_far, scale, step_by, size_by, step_in, size_found, exact_size, answer_of}
use Rattle.paper.specs.rules.Table as table
use Rattle.paper.specs.rules.Table.{Record, Table, record_at, kind_in, kind_of, kind_at, tail_length}
use Rattle.paper.specs.declared.Order.{Order}
use Rattle.paper.specs.rules.Word.{word_at}
use Rattle.rows.proofs.RecordWords.{get_d-words_from, kind-read}
use Rattle.kindrows.specs.Codes.{size_code, size_rule_of}

-- ── what is told of what a walk finds: 21 and 22 are no size ──

abbrev pub tell_in : Found → Answer
tell_in x = answer_of (size_found x)

pub tell_in-cut : (q : ℕ) (x : Found) → tell_in (scale (cut q) x) ≡ tell_in (scale q x)
tell_in-cut q (exactly s) = size_answer-cut q (exactly s)
tell_in-cut q none_at = refl
tell_in-cut q lost_at = refl
tell_in-cut q too_far = refl

pub left-shown : (T : Table) (t : ℕ) {n : ℕ} → n ≡ table.count T → Left tell_in (step_in T) (answer_of (exact_size T t)) t 1 n
unfolding exact_size
left-shown T t e = left-all tell_in (step_in T) (ap (λ (k : ℕ). tell_in (size_by (step_in T) k t)) e)

-- ── what a record says, from its words ──

abbrev step_for : Record → Step
step_for r = step_by (row_of (kind_of r)).size r.third (get_or r.tail 0 0) (get_or r.tail 2 0)

step_words-record : (order : Order) (s : List ℕ) → step_words order s ≡ step_for (record_in order s)
unfolding record_in tail_length
step_words-record order s =
    let k = kind_in (word_at order s 4) in
    let long = tail_length (word_at order s 4) in
    step_by-same (row_of k).size (length (row_of k).once) (row_of-counts k) refl
    (λ h. (sym (get_d-words_from order s 12 long 0 (omega arith)), sym (get_d-words_from order s 12 long 2 (omega arith))))

-- by the code of the rule of its kind, and the words of the bytes that its record begins
pub step_in-rule : (T : Table) (t : ℕ) (order : Order) (s : List ℕ) → record_in order s ≡ record_at T t → {k r : ℕ} → k ≡ kind_at T t → r ≡ size_code (row_of k).size
    → {x : Step} → x ≡ step_by (size_rule_of r) (word_at order s 8) (word_at order s 12) (word_at order s 20) → x ≡ step_in T t
unfolding step_in
step_in-rule T t order s is kind code says =
    step_words-read order s refl (kind ∙ sym (kind-read order s is refl refl)) refl refl refl code says ∙ step_words-record order s ∙ ap step_for is
