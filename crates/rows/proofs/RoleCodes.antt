-- Laws of roles as numbers: code and role undo each other, and what stands past a row's words is a plain number.
-- Assumes nothing.
use Prim.Native.Nat.{ℕ, zero, suc, ◌+◌, ◌*◌, ◌≤◌, ◌<◌}
use mathlib.Core.Path.{◌≡◌, refl, sym, ap}
use mathlib.Core.Bool.{Bool, true, false, ◌&&◌, false≢true}
use mathlib.Core.Logic.{◌⊎◌, inl, inr}
use native.Mathlib.Nat.{mul-le-mul}
use native.Mathlib.Omega.{arith}
use borrow.Author.Tests.{leb-true, leb-false}
use lib.Dec.{leb}
use lib.ListN.{length, get_or-eq_default}
use mathlib.Core.List.{List}
use Rattle.paper.specs.rules.Kind.{NameRule, offset0, any_name, offset0_or_identifier, identifier, non_empty, section_name}
use Rattle.paper.specs.rules.Kind.{RefRule, void_or_plain, plain, an_int, a_proto, a_var, taggable, Role, names, refers, holds, number}
use Rattle.paper.specs.rules.Kind.{SizeRule, eight, size_word, count_times, referent, no_size, Row, rows, row_of}
use Rattle.paper.specs.rules.Table.{kind_in, vlen_in, tail_length}
use Rattle.paper.proofs.basics.Rows.{row_of-every}
use Rattle.kindrows.specs.Codes.{name_code, ref_code, role_code, role_of, role_at, between, size_code, size_rule_of}

-- ── codes and what they stand for ──

pub role_of-name_code : (rule : NameRule) → role_of (name_code rule) ≡ names rule
role_of-name_code offset0 = refl
role_of-name_code any_name = refl
role_of-name_code offset0_or_identifier = refl
role_of-name_code identifier = refl
role_of-name_code non_empty = refl
role_of-name_code section_name = refl

role_of-ref_code : (rule : RefRule) → role_of (ref_code rule) ≡ refers rule
role_of-ref_code void_or_plain = refl
role_of-ref_code plain = refl
role_of-ref_code an_int = refl
role_of-ref_code a_proto = refl
role_of-ref_code a_var = refl
role_of-ref_code taggable = refl

role_of-holds : (rule : RefRule) → role_of (ref_code rule + 6) ≡ holds rule
role_of-holds void_or_plain = refl
role_of-holds plain = refl
role_of-holds an_int = refl
role_of-holds a_proto = refl
role_of-holds a_var = refl
role_of-holds taggable = refl

-- a role comes back from its code, so the codes are one to one
pub role_of-role_code : (ρ : Role) → role_of (role_code ρ) ≡ ρ
role_of-role_code number = refl
role_of-role_code (names rule) = role_of-name_code rule
role_of-role_code (refers rule) = role_of-ref_code rule
role_of-role_code (holds rule) = role_of-holds rule

pub size_rule_of-size_code : (s : SizeRule) → size_rule_of (size_code s) ≡ s
size_rule_of-size_code eight = refl
size_rule_of-size_code size_word = refl
size_rule_of-size_code count_times = refl
size_rule_of-size_code referent = refl
size_rule_of-size_code no_size = refl

-- ── which codes are what ──

pub name_code-range : (rule : NameRule) → (1 ≤ name_code rule) × (name_code rule ≤ 6)
name_code-range offset0 = omega arith
name_code-range any_name = omega arith
name_code-range offset0_or_identifier = omega arith
name_code-range identifier = omega arith
name_code-range non_empty = omega arith
name_code-range section_name = omega arith

pub ref_code-range : (rule : RefRule) → (7 ≤ ref_code rule) × (ref_code rule ≤ 12)
ref_code-range void_or_plain = omega arith
ref_code-range plain = omega arith
ref_code-range an_int = omega arith
ref_code-range a_proto = omega arith
ref_code-range a_var = omega arith
ref_code-range taggable = omega arith

pub role_code-high : (ρ : Role) → role_code ρ ≤ 18
role_code-high number = omega arith
role_code-high (names rule) = omega (arith, name_code-range rule)
role_code-high (refers rule) = omega (arith, ref_code-range rule)
role_code-high (holds rule) = omega (arith, ref_code-range rule)

pub between_in : (low high code : ℕ) → between low high code ≡ true → (low ≤ code) × (code ≤ high)
between_in low high code e = go (leb low code) refl e
  where
    go : (z : Bool) → leb low code ≡ z → z && leb code high ≡ true → (low ≤ code) × (code ≤ high)
    go true p q = (leb-true low code p, leb-true code high q)
    go false p q = absurd (false≢true q)

pub between-out : (low high code : ℕ) → between low high code ≡ false → (code < low) ⊎ (high < code)
between-out low high code e = go (leb low code) refl e
  where
    go : (z : Bool) → leb low code ≡ z → z && leb code high ≡ false → (code < low) ⊎ (high < code)
    go true p q = inr (leb-false code high q)
    go false p q = inl (leb-false low code p)

-- ── how many words a row has ──

-- the words of a kind's tail that stand once, and those of an entry
abbrev once_of : ℕ → ℕ
once_of k = length (row_of k).once

abbrev each_of : ℕ → ℕ
each_of k = length (row_of k).each

pub once-few : (k : ℕ) → once_of k ≤ 3
once-few k = leb-true _ _ (row_of-every (λ (r : Row). leb (length r.once) 3) (unfold rows in refl) k)

pub each-few : (k : ℕ) → each_of k ≤ 3
each-few k = leb-true _ _ (row_of-every (λ (r : Row). leb (length r.each) 3) (unfold rows in refl) k)

-- no tail has over 196,608 words, where a 16-bit number counts its entries
pub tail-few : (k v : ℕ) → v < 65536 → once_of k + v * each_of k ≤ 196608
tail-few k v h =
    omega (arith, once-few k, mul-le-mul {n₁ = v} {m₁ = each_of k} {n₂ = 65535} {m₂ = 3} (omega arith) (each-few k))

pub tail_length-few : (info : ℕ) → tail_length info ≤ 196608
unfolding tail_length
tail_length-few info = tail-few (kind_in info) (vlen_in info) (omega arith)

-- ── words that a row does not have ──

-- behind at most three words, a place that is none of the first three has a plain number
pub role_at-past : (ρs : List Role) (i : ℕ) → length ρs ≤ 3 → (i ≡ 0 → ⊥) → (i ≡ 1 → ⊥) → (i ≡ 2 → ⊥) → 0 ≡ role_at ρs i
role_at-past ρs i few a b c = sym (ap role_code (get_or-eq_default ρs number (later i a b c)))
  where
    later : (j : ℕ) → (j ≡ 0 → ⊥) → (j ≡ 1 → ⊥) → (j ≡ 2 → ⊥) → length ρs ≤ j
    later zero a b c = absurd (a refl)
    later (suc zero) a b c = absurd (b refl)
    later (suc (suc zero)) a b c = absurd (c refl)
    later (suc (suc (suc j))) a b c = omega arith
