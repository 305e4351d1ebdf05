-- The renaming law for tail words (12): an INT's word and a linkage stand, and a parameter is void where its renamed one is.
-- Assumes nothing.
use Prim.Native.Nat.{ℕ, zero, suc, ◌+◌, ◌*◌, ◌≤◌}
use mathlib.Core.Path.{◌≡◌, refl, ap, ap₂, ◌∙◌}
use mathlib.Core.Bool.{not, ◌&&◌, ◌||◌}
use mathlib.Core.List.{List, [], ◌∷◌, ◌++◌, map}
use native.Mathlib.Omega.{arith}
use lib.ListN.{length, get_or}
use Rattle.paper.proofs.basics.Choices.{when-same, is_empty-map}
use Rattle.paper.proofs.renaming.Renaming.{Renaming}
use Rattle.paper.proofs.renaming.RenamingSizes.{type-0, name-0, get_d-rename}
use Rattle.paper.specs.rules.Choice.{times}
use Rattle.paper.specs.terms.Fit.{Whole}
use Rattle.paper.specs.rules.Kind.{Role, names, refers, number, void_or_plain, offset0_or_identifier, rows, row_of}
use Rattle.paper.specs.rules.KindNo.{INT, VAR, FUNC_PROTO}
use Rattle.paper.specs.rules.Rename.{rename_word, rename_words, rename}
use Rattle.paper.specs.rules.Table.{Record, Table, kind_of, vlen_of, tail_roles, tail_length}
use Rattle.paper.specs.rules.Tails.{int_word, int_word_ok, linkage_word_ok, Parameter, parameters_in, parameters_of, is_last00, voids_last, tail_ok}

-- ── the tail of a record of a kind ──

pub tail_roles-kind : (r : Record) (c : ℕ) → kind_of r ≡ c → tail_roles r ≡ (row_of c).once ++ times (vlen_of r) (row_of c).each
unfolding tail_roles
tail_roles-kind r c e = ap (λ (k : ℕ). (row_of k).once ++ times (vlen_of r) (row_of k).each) e

pub tail-length : (r : Record) (c : ℕ) → Whole r → kind_of r ≡ c → length r.tail ≡ length (row_of c).once + vlen_of r * length (row_of c).each
unfolding tail_length
tail-length r c w e = w.whole_tail ∙ ap (λ (k : ℕ). length (row_of k).once + vlen_of r * length (row_of k).each) e

abbrev pub rename_parameter : (ℕ → ℕ) → (ℕ → ℕ) → Parameter → Parameter
rename_parameter type name p = record { name = name p.name; type = type p.type }

-- ── a word of a kind's tail, and its third word ──

module _ {A B : Table} {type name : ℕ → ℕ} (R : Renaming A B type name) where
  -- a word of the tail that is a plain number in every record of the kind
  pub tail-number : (r : Record) (c i : ℕ) → kind_of r ≡ c → ((v : ℕ) → get_or ((row_of c).once ++ times v (row_of c).each) i number ≡ number)
      → get_or (rename type name r).tail i 0 ≡ get_or r.tail i 0
  unfolding rename
  tail-number r c i e h =
      get_d-rename type name (type-0 R) (name-0 R) i (tail_roles r) r.tail
      ∙ ap (λ (ρ : Role). rename_word type name ρ (get_or r.tail i 0))
      (ap (λ (ρs : List Role). get_or ρs i number) (tail_roles-kind r c e) ∙ h (vlen_of r))

  -- the third word, by the role that it has in every record of the kind
  pub third-role : (r : Record) (c : ℕ) {ρ : Role} → kind_of r ≡ c → (row_of c).third_role ≡ ρ
      → (rename type name r).third ≡ rename_word type name ρ r.third
  unfolding rename
  third-role r c e h = ap (λ (ρ : Role). rename_word type name ρ r.third) (ap (λ (k : ℕ). (row_of k).third_role) e ∙ h)

  -- ── INT and VAR ──

  pub int_word-rename : (r : Record) → kind_of r ≡ INT → int_word (rename type name r) ≡ int_word r
  unfolding row_of rows
  int_word-rename r e = tail-number r INT 0 e (λ v. refl)

  -- ── parameters ──

  -- a prototype's words are its parameters', one by one
  parameters_in-rename : (v : ℕ) (ws : List ℕ) → length ws ≤ v * 2
      → parameters_in (rename_words type name (times v (names offset0_or_identifier ∷ refers void_or_plain ∷ [])) ws)
      ≡ map (rename_parameter type name) (parameters_in ws)
  parameters_in-rename zero [] h = refl
  parameters_in-rename zero (n ∷ ws) h = absurd (omega arith)
  parameters_in-rename (suc v) [] h = refl
  parameters_in-rename (suc v) (n ∷ []) h = refl
  parameters_in-rename (suc v) (n ∷ t ∷ ws) h =
      ap {B = List Parameter} (λ ps. record { name = name n; type = type t } ∷ ps) (parameters_in-rename v ws (omega arith))

  pub parameters_of-rename : (r : Record) → Whole r → kind_of r ≡ FUNC_PROTO
      → parameters_of (rename type name r) ≡ map (rename_parameter type name) (parameters_of r)
  unfolding rename row_of rows
  parameters_of-rename r w e =
      let len : length r.tail ≡ 0 + vlen_of r * 2 = tail-length r FUNC_PROTO w e in
      ap (λ (ρs : List Role). parameters_in (rename_words type name ρs r.tail)) (tail_roles-kind r FUNC_PROTO e)
      ∙ parameters_in-rename (vlen_of r) r.tail (omega arith)

  pub is_last00-rename : (p : Parameter) (ps : List Parameter)
      → is_last00 (rename_parameter type name p) (map (rename_parameter type name) ps) ≡ is_last00 p ps
  unfolding is_last00
  is_last00-rename p ps = ap₂ ◌&&◌ (ap₂ ◌&&◌ (is_empty-map (rename_parameter type name) ps) (R.type_zero p.type)) (R.name_zero p.name)

  voids_last-rename : (ps : List Parameter) → voids_last (map (rename_parameter type name) ps) ≡ voids_last ps
  voids_last-rename [] = refl
  voids_last-rename (p ∷ ps) =
      ap₂ ◌&&◌ (ap₂ ◌||◌ (ap not (R.type_zero p.type)) (is_last00-rename p ps)) (voids_last-rename ps)

  -- ── tail words (12) ──

  pub tail_ok-rename : (r : Record) → Whole r → tail_ok (rename type name r) ≡ tail_ok r
  unfolding tail_ok rename row_of rows
  tail_ok-rename r w =
      ap₂ ◌&&◌
      (ap₂ ◌&&◌
      (when-same (kind_of r) INT (λ e. ap₂ int_word_ok (int_word-rename r e) (third-role r INT e refl)))
      (when-same (kind_of r) VAR (λ e. ap linkage_word_ok (tail-number r VAR 0 e (λ v. refl)))))
      (when-same (kind_of r) FUNC_PROTO (λ e. ap voids_last (parameters_of-rename r w e) ∙ voids_last-rename (parameters_of r)))
