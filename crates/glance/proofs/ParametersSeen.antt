-- Laws of a look at a FUNC_PROTO or a FUNC, by what is read of it, and of what is left of a prototype's parameters.
-- Assumes nothing.
use Prim.Native.Nat.{ℕ, suc, ◌+◌, ◌-◌, ◌*◌, ◌<◌, ◌≤◌}
use native.Mathlib.Omega.{arith}
use mathlib.Core.Path.{◌≡◌, refl, sym, ap, ◌∙◌}
use mathlib.Core.Bool.{Bool, true, false, not, cond}
use mathlib.Core.List.{List}
use borrow.Author.Tests.{not-false}
use Rattle.glance.specs.Glance.{unsized, named, not_plain, waiting_kinds, state_of, behind, parameter_seen, Looks, prototype, function}
use Rattle.glance.proofs.Parameters.{some-seen}
use Rattle.paper.proofs.basics.Choices.{and-true}
use Rattle.paper.specs.declared.Order.{Order}
use Rattle.paper.specs.rules.Choice.{every, member}
use Rattle.paper.specs.rules.KindNo.{FUNC, FUNC_PROTO}
use Rattle.paper.specs.rules.Layout.{all_named}
use Rattle.paper.specs.rules.Table.{Record, kind_of, tail_length}
use Rattle.paper.specs.rules.Tails.{parameters_in, parameters_of}
use Rattle.paper.specs.rules.Word.{word_at}
use Rattle.paper.specs.terms.Reading.{record_in}
use Rattle.recall.proofs.NamedLeft.{parameters_from, parameters-few, parameters-first}
use Rattle.rows.proofs.RecordWords.{tail-read, third-read}
use Rattle.rows.proofs.RoleCodes.{tail_length-few}

-- ── what is left of the parameters ──

-- so many words of a tail are left, from a place on: where their parameters are seen, all are
pub record Seeing (work : List ℕ) (order : Order) (s : List ℕ) (p left : ℕ) : Type 0 where
  pub near : p + 4 * left ≤ 786444
  pub rest : every (parameter_seen work) (parameters_from order s p left) ≡ true → every (parameter_seen work) (parameters_of (record_in order s)) ≡ true

pub seeing-start : (work : List ℕ) (order : Order) (s : List ℕ) {w n : ℕ} → w ≡ word_at order s 4 → n ≡ tail_length w → Seeing work order s 12 n
seeing-start work order s {w} {n} e d =
    record {
      near = omega (arith, d, tail_length-few w);
      rest = λ h. ap (λ (ws : List ℕ). every (parameter_seen work) (parameters_in ws)) (tail-read order s e d) ∙ h;
    }

module _ {work : List ℕ} {order : Order} {s : List ℕ} {p left : ℕ} (now : Seeing work order s p left) where
  pub seeing-done : left < 2 → every (parameter_seen work) (parameters_of (record_in order s)) ≡ true
  seeing-done h = now.rest (ap (every (parameter_seen work)) (parameters-few order s p left h))

  pub seeing-next : 2 ≤ left → {u v : ℕ} → u ≡ word_at order s (p + 4) → v ≡ behind work u → (v ≡ 0 → ⊥) → Seeing work order s (p + 8) (left - 2)
  seeing-next some type d n =
      let two : left ≡ suc (suc (left - 2)) = omega arith in
      record {
        near = omega (arith, now.near);
        rest = λ h.
            now.rest
            (ap (λ (n : ℕ). every (parameter_seen work) (parameters_from order s p n)) two
            ∙ ap (every (parameter_seen work)) (parameters-first order s p (left - 2))
            ∙ and-true (some-seen (λ z. n (d ∙ ap (behind work) type ∙ z))) h);
      }

-- ── the records ──

pub proto-waits : {k : ℕ} → k ≡ FUNC_PROTO → member k waiting_kinds ≡ true
proto-waits e = ap (λ (k : ℕ). member k waiting_kinds) e

module _ (order : Order) (s : List ℕ) (work : List ℕ) where
  abbrev r : Record
  r = record_in order s

  pub looks-prototype : kind_of r ≡ FUNC_PROTO → {u v : ℕ} → u ≡ word_at order s 8 → v ≡ behind work u → (v ≡ 0 → ⊥)
      → {x : Bool} → (x ≡ true → every (parameter_seen work) (parameters_of r) ≡ true) → not x ≡ false
      → {y z : Bool} → y ≡ all_named (parameters_of r) → y ≡ z → Looks work r (cond z named unsized)
  looks-prototype kind third d n {x} seen good names is =
      prototype kind (λ z. n (d ∙ ap (behind work) (third-read order s refl third) ∙ z)) (seen (not-false x good))
      (ap (λ (b : Bool). cond b named unsized) (sym is ∙ names))

  pub looks-function : kind_of r ≡ FUNC → {u v : ℕ} → u ≡ word_at order s 8 → v ≡ state_of work u → v ≡ named → Looks work r not_plain
  looks-function kind third d e = function kind (ap (state_of work) (sym (third-read order s refl third)) ∙ sym d ∙ e) refl
