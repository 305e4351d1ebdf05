-- Laws of a made header: where there is room for it, and where there is none.
-- Assumes nothing.
use Prim.Native.Nat.{ℕ, ◌≤◌, ◌<◌}
use mathlib.Core.Path.{◌≡◌, sym, ap, ap₂}
use mathlib.Core.Bool.{Bool, cond, ◌&&◌}
use mathlib.Core.List.{List}
use borrow.Author.Tests.{le-leb, lt-leb}
use lib.Dec.{leb}
use lib.ListN.{length}
use Rattle.paper.specs.declared.Order.{Order}
use Rattle.paper.specs.terms.Put.{put}
use Rattle.shift.specs.Made.{made_header, header_over}

module _ (order : Order) (a : List ℕ) (types strings : ℕ) (out : List ℕ) where
  abbrev chosen : Bool → List ℕ
  chosen t = cond t (put out 0 (made_header order a types strings)) out

  pub header-short : length a < 12 → out ≡ header_over order a types strings out
  unfolding header_over
  header-short h = sym (ap (λ (t : Bool). chosen (t && leb 24 (length out))) (lt-leb 12 (length a) h))

  module _ (long : 12 ≤ length a) where
    pub header-roomless : length out < 24 → out ≡ header_over order a types strings out
    unfolding header_over
    header-roomless h = sym (ap₂ (λ (t u : Bool). chosen (t && u)) (le-leb 12 (length a) long) (lt-leb 24 (length out) h))

    pub header-put : 24 ≤ length out → put out 0 (made_header order a types strings) ≡ header_over order a types strings out
    unfolding header_over
    header-put h = sym (ap₂ (λ (t u : Bool). chosen (t && u)) (le-leb 12 (length a) long) (le-leb 24 (length out) h))
