-- A piece of a blob written behind a header, as code cuts its parts out and lays them.
-- Assumes nothing.
use Prim.Native.Nat.{ℕ, ◌+◌, ◌-◌, ◌≤◌}
use mathlib.Core.Path.{◌≡◌, sym, ap, ap₂, ◌∙◌}
use mathlib.Core.List.{List, [], ◌∷◌, ◌++◌, append_assoc}
use native.Mathlib.Omega.{arith}
use lib.ListN.{length, take, drop, length-append, length-drop}
use lib.Seq.{length-take-le}
use Rattle.paper.proofs.bytes.Bytes.{length-bytes_of_words, part-back, part-rest}
use Rattle.paper.proofs.bytes.Puts.{laid-fits, length-put, put-behind, put_front, put-put, put_whole}
use Rattle.paper.specs.rules.Table.{Record}
use Rattle.paper.specs.rules.Walk.{flat, type_len_of}
use Rattle.paper.specs.rules.Word.{bytes_of_words}
use Rattle.paper.specs.terms.Fit.{Below, EveryWhole, word_bound}
use Rattle.paper.specs.terms.Put.{laid, put}
use Rattle.shift.proofs.MadeHeaders.{header-put}
use Rattle.shift.proofs.RaisedRecords.{length-records_bytes, raised_run-records}
use Rattle.shift.specs.Made.{header_over, made_header}
use Rattle.shift.specs.Raising.{raised_run, records_bytes}
use Rattle.shift.specs.declared.groups.Shift.{Shift}
use Rattle.split.specs.Parting.{PartAsk, PartPut}
use Rattle.split.specs.declared.blobs.Piece.{Piece}

module _ (b : List ℕ) (piece : Piece) (by : Shift) (out : List ℕ) (ask : PartAsk (length b) piece (length out)) where
  abbrev header : List ℕ
  header = made_header by.order b piece.types piece.strings

  length-header : length header ≡ 24
  length-header =
      length-append (take 12 b) (bytes_of_words by.order (piece.types ∷ piece.types ∷ piece.strings ∷ []))
      ∙ omega (arith, length-take-le 12 b (omega (arith, ask.header)), length-bytes_of_words by.order (piece.types ∷ piece.types ∷ piece.strings ∷ []))

  module _ {out₁ part out₃ : List ℕ} (p₁ : out₁ ≡ header_over by.order b piece.types piece.strings out) (same : length out₁ ≡ length out)
      (p₂ : part ≡ raised_run by piece.records (take (length b - piece.from) (drop piece.from b)) (take (length out₁ - 24) (drop 24 out₁)))
      (p₃ : out₃ ≡ laid (take 24 out₁ ++ (part ++ drop (length out₁ - 24) (drop 24 out₁))) (24 + piece.types)
      (take (piece.start + piece.strings - piece.start) (drop piece.start b))) where
    headed : out₁ ≡ put out 0 header
    headed = p₁ ∙ sym (header-put by.order b piece.types piece.strings out (omega (arith, ask.header)) (omega (arith, ask.fits)))

    module _ (rs : List Record) (t : List ℕ) (whole : EveryWhole rs) (fit : Below word_bound (flat rs)) (many : length rs ≡ piece.records)
        (long : type_len_of rs ≡ piece.types) (there : drop piece.from b ≡ bytes_of_words by.order (flat rs) ++ t) where
      abbrev raised : List ℕ
      raised = records_bytes by rs

      abbrev strings : List ℕ
      strings = take piece.strings (drop piece.start b)

      room : type_len_of rs ≤ length (drop 24 out₁)
      room = let d = length-drop 24 out₁ in omega (arith, ask.fits)

      length-raised : length (records_bytes by rs) ≡ piece.types
      length-raised = length-records_bytes by rs ∙ long

      length-strings : length strings ≡ piece.strings
      length-strings =
          let d = length-drop piece.start b in length-take-le piece.strings (drop piece.start b) (omega (arith, ask.strings-inside))

      -- the records behind the header
      second : take 24 out₁ ++ (part ++ drop (length out₁ - 24) (drop 24 out₁)) ≡ put out₁ 24 (records_bytes by rs)
      second =
          part-back out₁ 24 part
          ∙ ap (λ (x : List ℕ). take 24 out₁ ++ x)
          (p₂
          ∙ ap₂ (raised_run by piece.records) (part-rest b piece.from ∙ there) (part-rest out₁ 24)
          ∙ ap (λ (k : ℕ). raised_run by k (bytes_of_words by.order (flat rs) ++ t) (drop 24 out₁)) (sym many)
          ∙ raised_run-records by rs t (drop 24 out₁) whole fit room
          ∙ ap (λ (k : ℕ). records_bytes by rs ++ drop k (drop 24 out₁)) (sym (length-records_bytes by rs))
          ∙ sym (put_front (drop 24 out₁) (records_bytes by rs)))
          ∙ put-behind out₁ 24 (records_bytes by rs)

      -- and the strings behind them
      pub part-written : out₃ ≡ header ++ (records_bytes by rs ++ strings)
      part-written =
          let h = length-header in
          let r = length-raised in
          let s = length-strings in
          let f = ask.fits in
          let cut : piece.start + piece.strings - piece.start ≡ piece.strings = omega arith in
          let two = length-append header raised in
          let three = length-append (header ++ raised) strings in
          let kept = length-put out 0 header (omega arith) in
          let kept₂ = length-put (put out 0 header) 24 raised (omega arith) in
          let at : ℕ = 24 + piece.types in
          p₃
          ∙ ap₂ (λ (o : List ℕ) (k : ℕ). laid o at (take k (drop piece.start b))) (second ∙ ap (λ (o : List ℕ). put o 24 raised) headed) cut
          ∙ sym (laid-fits (put (put out 0 header) 24 raised) at strings (omega arith))
          ∙ ap (λ (o : List ℕ). put o at strings) (put-put out 0 header (omega arith) (omega arith) raised)
          ∙ put-put out 0 (header ++ raised) (omega arith) (omega arith) strings
          ∙ put_whole out ((header ++ raised) ++ strings) (omega arith)
          ∙ append_assoc header raised strings

    pub part-put : PartPut b piece by out out₃
    part-put = record { puts = part-written }
