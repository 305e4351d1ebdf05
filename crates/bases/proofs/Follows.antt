-- Laws of `Based`: how far a chain of aliases is followed.
-- Assumes nothing.
use Prim.Native.Nat.{ℕ, suc, ◌-◌, ◌<◌, ◌≤◌}
use mathlib.Core.Path.{◌≡◌, refl, sym, ap, ap₂, ◌∙◌}
use mathlib.Core.Bool.{Bool, true, false, not, cond}
use mathlib.Core.List.{List}
use native.Mathlib.Omega.{arith}
use borrow.Author.Tests.{lt-ltb, le-ltb, not-true, not-false}
use denote.Ref.{Bor}
use lib.ListN.{length, get_or, drop}
use Rattle.paper.specs.rules.Header.{order_of}
use Rattle.paper.specs.rules.Span.{is_alias}
use Rattle.paper.specs.rules.Table.{kind_in}
use Rattle.paper.specs.declared.Order.{Order}
use Rattle.paper.specs.rules.Word.{word_at}
use Rattle.words.specs.Rest.{RestOf}
use Rattle.bases.specs.Based.{place_in, word_in, base_in}

-- ── a place ──

pub place-past : (blob index : List ℕ) (t : ℕ) → length index ≤ t → length blob ≡ place_in blob index t
unfolding place_in
place-past blob index t h = sym (rw (le-ltb t (length index) h) refl)

pub place_inside : (blob index : List ℕ) (t : ℕ) → t < length index → get_or index t 0 ≡ place_in blob index t
unfolding place_in
place_inside blob index t h = sym (rw (lt-ltb t (length index) h) refl)

-- what stands at one place stands at another that is the same
pub rest_at : {r s : Bor (List ℕ)} {p q : ℕ} → p ≡ q → RestOf r s p → RestOf r s q
rest_at e h = record { bytes = rw e at h.bytes; place = rw e at h.place }

-- ── a chain ──

-- so many steps are left, from a type that has the same base
pub record Following (blob index : List ℕ) (t at left : ℕ) : Type 0 where
  pub base : base_in blob index left at ≡ base_in blob index (length index) t

pub following-start : (blob index : List ℕ) (t : ℕ) → Following blob index t t (length index)
following-start blob index t = record { base = refl }

module _ {blob index : List ℕ} {t at left : ℕ} (g : Following blob index t at left) where
  pub following-end : left ≤ 0 → at ≡ base_in blob index (length index) t
  unfolding base_in
  following-end h = let none : 0 ≡ left = omega arith in ap (λ (n : ℕ). base_in blob index n at) none ∙ g.base

  module _ (more : 0 < left) {o : Order} (order : o ≡ order_of blob) {r : List ℕ} (bytes : r ≡ drop (place_in blob index at) blob) {info k : ℕ} {a : Bool} (word : info ≡ word_at o r 4)
      (kind : k ≡ kind_in info) (alias : a ≡ is_alias k) where
    one : left ≡ suc (left - 1)
    one = omega arith

    step : base_in blob index left at ≡ cond a (base_in blob index (left - 1) (word_in blob index at 8)) at
    unfolding base_in word_in
    step =
        ap (λ (n : ℕ). base_in blob index n at) one
        ∙ ap (λ (x : Bool). cond x (base_in blob index (left - 1) (word_in blob index at 8)) at)
        (sym (alias ∙ ap is_alias (kind ∙ ap kind_in (word ∙ ap₂ (λ (q : Order) (s : List ℕ). word_at q s 4) order bytes))))

    pub following-base : not a ≡ true → at ≡ base_in blob index (length index) t
    following-base e = sym (step ∙ ap (λ (x : Bool). cond x (base_in blob index (left - 1) (word_in blob index at 8)) at) (not-true a e)) ∙ g.base

    pub following-next : not a ≡ false → {next rest : ℕ} → next ≡ word_at o r 8 → rest ≡ left - 1 → Following blob index t next rest
    unfolding word_in
    following-next e {next} third fewer =
        record {
          base =
              ap (λ (steps : ℕ). base_in blob index steps next) fewer ∙
              ap (base_in blob index (left - 1)) (third ∙ ap₂ (λ (q : Order) (s : List ℕ). word_at q s 8) order bytes)
              ∙ sym (step ∙ ap (λ (x : Bool). cond x (base_in blob index (left - 1) (word_in blob index at 8)) at) (not-false a e))
              ∙ g.base;
        }
