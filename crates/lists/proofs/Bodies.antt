-- A record's body by its info word, which stands in the first field: when it is one whole record of its tag's kind.
-- Assumes nothing.
use Prim.Native.Nat.{ℕ, zero, suc, ◌+◌, ◌*◌, ◌/◌, ◌≤◌}
use mathlib.Core.Path.{◌≡◌, refl, sym, ap, ◌∙◌, subst}
use mathlib.Core.Bool.{Bool, true, false, cond}
use mathlib.Core.List.{List, [], ◌∷◌, ◌++◌, append_assoc, append-nil}
use mathlib.Core.Option.{some}
use native.Mathlib.Omega.{arith}
use borrow.Author.Tests.{ltb-false}
use lib.Dec.{ltb}
use lib.ListN.{length, take, drop, take-append-drop}
use lib.Seq.{drop-append-le, length-take-le}
use Rattle.lists.proofs.OneReading.{record_of-recorded}
use Rattle.lists.proofs.Written.{record_of-bytes}
use Rattle.lists.specs.List.{carry_tag, field, field_most, fields_in, body_fields, record_of}
use Rattle.paper.proofs.bytes.Bytes.{bytes_of_words-words, length-bytes_of_words, length-words, words-fit}
use Rattle.paper.proofs.bytes.Places.{first_word-at}
use Rattle.paper.proofs.bytes.Words.{drop-four}
use Rattle.paper.specs.declared.Order.{Order}
use Rattle.paper.specs.rules.Table.{Record, kind_in, kind_of, tail_length, words_of}
use Rattle.paper.specs.rules.Walk.{known}
use Rattle.paper.specs.rules.Word.{bytes_of_words, first_word, word_at, words}
use Rattle.paper.specs.terms.Fit.{Below, Bytes, Whole, word_bound}

-- ── the info word ──

-- a word inside some bytes is the same whatever stands behind them
info-front : (order : Order) (s t : List ℕ) → 8 ≤ length s → word_at order (s ++ t) 4 ≡ word_at order s 4
unfolding word_at
info-front order s t room =
    let four = drop-four s 4 room in
    ap (first_word order) (drop-append-le 4 s t (omega arith) ∙ ap (λ (u : List ℕ). u ++ t) four) ∙ sym (ap (first_word order) four)

-- of a body it stands in the first field, behind the tag and the length
pub info-in-field : (order : Order) (tag : ℕ) (body rest : List ℕ) → 8 ≤ length body
    → word_at order (drop 3 (body_fields tag body ++ rest)) 4 ≡ word_at order body 4
unfolding body_fields
info-in-field order tag body rest room = by-fields (length body)
  where
    by-fields : (k : ℕ) → word_at order (drop 3 (fields_in k tag body ++ rest)) 4 ≡ word_at order body 4
    by-fields zero = info-front order body rest room
    by-fields (suc k) = go (ltb (length body) field_most) refl
      where
        go : (z : Bool) → ltb (length body) field_most ≡ z
            → word_at order (drop 3 (cond z (field tag body) (field tag (take field_most body) ++ fields_in k carry_tag (drop field_most body)) ++ rest)) 4 ≡ word_at order body 4
        go true x = info-front order body rest room
        go false x =
            let one : List ℕ = take field_most body in
            let long = length-take-le field_most body (ltb-false (length body) field_most x) in
            ap (λ (s : List ℕ). word_at order s 4) (append_assoc one (fields_in k carry_tag (drop field_most body)) rest)
            ∙ info-front order one (fields_in k carry_tag (drop field_most body) ++ rest) (omega arith)
            ∙ sym (info-front order one (drop field_most body) (omega arith))
            ∙ ap (λ (s : List ℕ). word_at order s 4) (take-append-drop field_most body)

-- of a record's bytes it is the record's own
pub info-bytes : (order : Order) (r : Record) → Below word_bound (words_of r) → word_at order (bytes_of_words order (words_of r)) 4 ≡ r.info
unfolding word_at
info-bytes order r fits =
    ap (λ (s : List ℕ). first_word order (drop 4 s)) (sym (append-nil (bytes_of_words order (words_of r)))) ∙ first_word-at order (words_of r) [] 1 fits (omega arith)

-- ── one whole record ──

-- a body's info word says its length and its tag
pub record Says (order : Order) (tag : ℕ) (body : List ℕ) : Type 0 where
  pub head : 12 ≤ length body
  pub kind : kind_in (word_at order body 4) ≡ tag
  pub long : length body ≡ 12 + 4 * tail_length (word_at order body 4)

-- what is read as a record says so
pub record_of-says : (order : Order) (tag : ℕ) (body : List ℕ) → Bytes body → {r : Record} → record_of order tag body ≡ some r → Says order tag body
record_of-says order tag body bytes {r} e =
    let d = record_of-recorded order tag body bytes e in
    let info : word_at order body 4 ≡ r.info = ap (λ (s : List ℕ). word_at order s 4) d.is ∙ info-bytes order r d.fits in
    let l = ap length d.is ∙ length-bytes_of_words order (words_of r) in
    let tail = d.whole.whole_tail ∙ ap tail_length (sym info) in
    record { head = omega arith; kind = ap kind_in info ∙ d.kind; long = omega arith }

-- a record of a known kind that its body is read as
pub record Found (order : Order) (tag : ℕ) (body : List ℕ) : Type 0 where
  pub it : Record
  pub reads : record_of order tag body ≡ some it
  pub wide : 4 * length (words_of it) ≡ length body

-- and what says so is read as a record
pub says-record_of : (order : Order) (tag : ℕ) (body : List ℕ) → Bytes body → known tag ≡ true → Says order tag body → Found order tag body
says-record_of order tag body bytes k s = go (words order body) refl (length-words order body)
  where
    go : (ws : List ℕ) → words order body ≡ ws → length (words order body) ≡ length body / 4 → Found order tag body
    go [] e l = absurd (omega (arith, s.head, ap length e))
    go (n ∷ []) e l = absurd (omega (arith, s.head, ap length e))
    go (n ∷ i ∷ []) e l = absurd (omega (arith, s.head, ap length e))
    go (n ∷ i ∷ t ∷ ws) e l =
        let r : Record = record { name_off = n; info = i; third = t; tail = ws } in
        let whole : bytes_of_words order (words_of r) ≡ body = ap (bytes_of_words order) (sym e) ∙ bytes_of_words-words order body bytes (omega (arith, s.long)) in
        let fits : Below word_bound (words_of r) = subst (Below word_bound) e (words-fit order body bytes) in
        let info : i ≡ word_at order body 4 = sym (info-bytes order r fits) ∙ ap (λ (u : List ℕ). word_at order u 4) whole in
        let kind : kind_of r ≡ tag = ap kind_in info ∙ s.kind in
        let w : Whole r = record {
          known_kind = ap known kind ∙ k;
          whole_tail = omega (arith, s.long, ap length e, ap tail_length info);
        } in
        record {
          it = r;
          reads = sym (ap (λ (t : ℕ). record_of order t body) kind) ∙ ap (record_of order (kind_of r)) (sym whole) ∙ record_of-bytes order r w fits;
          wide = sym (length-bytes_of_words order (words_of r)) ∙ ap length whole;
        }
