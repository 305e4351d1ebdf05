-- Laws of `finding_of`: what phase 2 says and which records there are, from what a walk has found; and what phase 1 gives the walk.
-- Assumes nothing.
use Prim.Native.Nat.{ℕ, ◌+◌, ◌%◌, ◌≤◌}
use mathlib.Core.Path.{◌≡◌, refl, ap, ◌∙◌}
use mathlib.Core.List.{List}
use mathlib.Core.Option.{none, some}
use native.Mathlib.Omega.{arith}
use lib.ListN.{length}
use Rattle.pairs.proofs.Headers.{behind_report-facts}
use Rattle.paper.specs.rules.Answer.{Answer}
use Rattle.paper.specs.rules.Gate.{walk_report}
use Rattle.paper.specs.rules.Header.{header_length, header_report, type_len, str_len}
use Rattle.pairs.specs.Lean.{behind_report}
use Rattle.paper.specs.rules.Limits.{byte_limit}
use Rattle.paper.specs.rules.Walk.{Walked, records, stopped, records_in}
use Rattle.paper.proofs.bytes.Headers.{header_report-facts}
use Rattle.scan.specs.Phase2.{TypeSection, counted, refused, finding_of, behind}

-- what phase 1 has shown where it is silent, by itself and behind a base
section-of : (b : List ℕ) {n : ℕ} → n ≡ type_len b → type_len b % 4 ≡ 0 → header_length + type_len b + str_len b ≡ length b → length b ≤ byte_limit → TypeSection b n
section-of b e whole sum short = record { is_type_len = e; whole_words = ap (λ (m : ℕ). m % 4) e ∙ whole; inside = omega arith; short = short }

pub header_report-section : (b : List ℕ) {n : ℕ} → header_report b ≡ none → n ≡ type_len b → TypeSection b n
header_report-section b silent e = let f = header_report-facts b silent in section-of b e f.type_len_is f.sum f.short

pub behind_report-section : (before : ℕ) (b : List ℕ) {n : ℕ} → behind_report before b ≡ none → n ≡ type_len b → TypeSection b n
behind_report-section before b silent e =
    let f = behind_report-facts before b silent in
    section-of b e f.sections.type_len_is f.sections.sum (omega (arith, f.short))

-- ── a finding behind so many types ──

-- a walk that counted has found as many records
pub behind-records : (first : ℕ) (w : Walked) {n : ℕ} → behind first (finding_of w) ≡ counted n
    → (w ≡ records (records_in w)) × (first + length (records_in w) ≡ n)
behind-records first (records rs) e = (refl, cc)
behind-records first (stopped n t p) e = absurd (let z : ◌≡◌ {A = ℕ} 0 1 = cc in omega arith)

-- and there is nothing to report
pub behind-silent : (first : ℕ) (w : Walked) {n : ℕ} → behind first (finding_of w) ≡ counted n → walk_report w ≡ none
behind-silent first (records rs) e = refl
behind-silent first (stopped n t p) e = absurd (let z : ◌≡◌ {A = ℕ} 0 1 = cc in omega arith)

-- a walk that is refused has that report
pub behind-report : (first : ℕ) (w : Walked) {a : Answer} → behind first (finding_of w) ≡ refused a → walk_report w ≡ some a
behind-report first (records rs) e = absurd (let z : ◌≡◌ {A = ℕ} 0 1 = cc in omega arith)
behind-report first (stopped n t p) e = cc

-- a walk of which there is nothing to report has counted its records
pub silent-records : (w : Walked) → walk_report w ≡ none → w ≡ records (records_in w)
silent-records (records rs) e = refl
silent-records (stopped n t p) e = absurd (let z : ◌≡◌ {A = ℕ} 0 1 = cc in omega arith)
