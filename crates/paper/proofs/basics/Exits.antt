-- What the exit of a `?` returns, where the error goes on as it is.
-- Assumes nothing.
use mathlib.Core.Path.{◌≡◌, refl, sym, ap, ◌∙◌, subst}
use Rattle.std.specs.Prelude.{Result, Ok, Err, IsErrAnd, MatchResult}
use Rattle.std.proofs.lemmas.Result.{err_from_is_err_and}

pub exit-same : {T E : Type 0} {e : E} (r : Result T E) → IsErrAnd r (λ (y : E). y ≡ e) → r ≡ Err e
exit-same {T} {E} r h = let (y, is, same) = err_from_is_err_and r h in is ∙ ap (λ (x : E). Err x) same

-- What a `map_err` in front of it has mapped: an `Ok` stands, and an `Err` comes of one.
module _ {T E F : Type 0} where
  pub mapped-ok : (P : E → F → Type 0) (s : Result T E) {t : Result T F} → MatchResult s (λ (x : T). t ≡ Ok x) (λ (e : E). IsErrAnd t (P e))
      → {m : T} → t ≡ Ok m → s ≡ Ok m
  mapped-ok P (Ok x) h {m} is =
      let z : ◌≡◌ {A = Result T F} (Ok x) (Ok m) = sym h ∙ is in
      let same : x ≡ m = cc in
      ap (λ (x : T). Ok x) same
  mapped-ok P (Err e) h {m} is =
      let (y, it, _) = err_from_is_err_and _ h in
      absurd (let z : ◌≡◌ {A = Result T F} (Err y) (Ok m) = sym it ∙ is in cc)

  pub mapped-err : (P : E → F → Type 0) (s : Result T E) {t : Result T F} → MatchResult s (λ (x : T). t ≡ Ok x) (λ (e : E). IsErrAnd t (P e))
      → {f : F} → t ≡ Err f → (e : E) × (s ≡ Err e) × P e f
  mapped-err P (Ok x) h {f} is = absurd (let z : ◌≡◌ {A = Result T F} (Ok x) (Err f) = sym h ∙ is in cc)
  mapped-err P (Err e) h {f} is =
      let (y, it, p) = err_from_is_err_and _ h in
      let z : ◌≡◌ {A = Result T F} (Err y) (Err f) = sym it ∙ is in
      let same : y ≡ f = cc in
      (e, refl, subst (P e) same p)
