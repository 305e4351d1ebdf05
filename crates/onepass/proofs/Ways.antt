-- Laws of both ways together: what the pass forth begins with, and what it has told.
-- Assumes nothing.
use Rattle.std.specs.Prelude.{Ok, Result}
use Rattle.paper.specs.declared.Report.{Report}
use Prim.Native.Nat.{ℕ, ◌+◌, ◌≤◌}
use native.Mathlib.Omega.{arith}
use mathlib.Core.Path.{◌≡◌, refl, sym, ap, subst, ◌∙◌}
use mathlib.Core.List.{List, []}
use lib.ListN.{length, length-replicate}
use Rattle.glance.specs.Glance.{All}
use Rattle.header.specs.Header.{HeaderOf, SectionsOf}
use Rattle.header.specs.declared.first.Sections.{Sections}
use Rattle.onepass.specs.Forth.{Begins, RanOf, Through}
use Rattle.onepass.specs.Pass.{SureOf}
use Rattle.onepass.specs.declared.forth.Ran.{Ran}
use Rattle.onepass.specs.declared.forth.Ran.TheVariants.{Settled, Open}
use Rattle.onepass.specs.declared.whole.Sure.{Sure}
use Rattle.paper.proofs.bytes.Headers.{header_report-facts}
use Rattle.paper.proofs.gates.Gates.{naming-none}
use Rattle.paper.specs.declared.Order.{Order}
use Rattle.paper.specs.rules.Gate.{phase1, zeros}
use Rattle.paper.specs.rules.Header.{header_report, order_of, strings_in}
use Rattle.paper.specs.rules.Limits.{byte_limit}
use Rattle.paper.specs.terms.Fit.{Bytes}

-- as many zeros as there are
pub zeros-length : {s : List ℕ} (n : ℕ) → s ≡ zeros n → length s ≡ n
zeros-length n e = ap length e ∙ length-replicate {A = ℕ} n 0

zeros-own : {s : List ℕ} (n : ℕ) → s ≡ zeros n → s ≡ zeros (length s)
zeros-own n e = e ∙ ap zeros (sym (zeros-length n e))

module _ (b : List ℕ) {h : Result Sections Report} {s : Sections} (header : HeaderOf h b) (good : h ≡ Ok s) where
  sections : SectionsOf s b
  sections = subst (λ (x : Result Sections Report). HeaderOf x b) good header

  -- the type section ends within the byte limit
  pub section-small : 24 + s.types ≤ byte_limit
  unfolding phase1
  section-small =
      let f = header_report-facts b (naming-none 0 (header_report b) sections.silent) in
      omega (arith, sections.types, f.sum, f.short)

  pub begins : Bytes b → {order o : Order} → o ≡ order_of b → o ≡ order → {index work : List ℕ} (places room : ℕ) → index ≡ zeros places → work ≡ zeros room
      → Begins order [] (strings_in b) b (24 + s.types) index work
  begins bytes reads is places room first second =
      record {
        bytes = bytes;
        silent = sections.silent;
        ordered = sym is ∙ reads;
        alone = refl;
        own = refl;
        section = omega (arith, sections.types);
        index_clear = zeros-own places first;
        work_clear = zeros-own room second;
      }

module _ {b : List ℕ} {places room : ℕ} {index work : List ℕ} {r : Ran} (ran : RanOf r b places room index work) {n : ℕ} where
  pub ran_settled : r ≡ Settled n → Through n b places room index work × All n work
  ran_settled e = subst (λ (x : Ran). RanOf x b places room index work) e ran

  pub ran_open : r ≡ Open n → Through n b places room index work
  ran_open e = subst (λ (x : Ran). RanOf x b places room index work) e ran

-- slices have the lengths that they had
pub through-lengths : {n : ℕ} {b : List ℕ} {places room places' room' : ℕ} {index work : List ℕ} → Through n b places room index work
    → places' ≡ places → room' ≡ room → Through n b places' room' index work
through-lengths {n} {b} {places} {room} {places'} {room'} {index} {work} t e d =
    subst (λ (p : ℕ). Through n b p room' index work) (sym e) (subst (λ (q : ℕ). Through n b places q index work) (sym d) t)

pub sure-lengths : (r : Sure) (b index : List ℕ) {places room places' room' : ℕ} → places ≡ places' → room ≡ room' → SureOf r b places room index
    → SureOf r b places' room' index
sure-lengths r b index {places} {room} {places'} {room'} e d s =
    subst (λ (p : ℕ). SureOf r b p room' index) e (subst (λ (q : ℕ). SureOf r b places q index) d s)
