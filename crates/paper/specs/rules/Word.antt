-- Words of 32 bits and their four bytes, in a byte order. The order is a parameter of all that reads or writes words;
-- which orders there are, and what each byte counts for in one, stands here and nowhere else.
use Rattle.std.specs.Prelude.{ℕ, ◌+◌, ◌*◌, ◌/◌, ◌%◌, Bool, true, false, cond, List, [], ◌∷◌, ◌++◌, leb, length, take, drop}
use Rattle.paper.specs.declared.Order.{Order}
use Rattle.paper.specs.declared.Order.TheVariants.{LowFirst, HighFirst}

abbrev pub same_order : Order → Order → Bool
same_order LowFirst LowFirst = true
same_order LowFirst HighFirst = false
same_order HighFirst LowFirst = false
same_order HighFirst HighFirst = true

-- what the first, second, third and fourth byte of a word count for
pub record Weights : Type 0 where
  pub first : ℕ
  pub second : ℕ
  pub third : ℕ
  pub fourth : ℕ

abbrev pub weights : Order → Weights
weights LowFirst = record { first = 1; second = 256; third = 65536; fourth = 16777216 }
weights HighFirst = record { first = 16777216; second = 65536; third = 256; fourth = 1 }

module _ (order : Order) where
  -- the word of four bytes: the sum of each byte times its weight
  abbrev pub word_of : ℕ → ℕ → ℕ → ℕ → ℕ
  word_of a b c d =
      a * (weights order).first + b * (weights order).second + c * (weights order).third + d * (weights order).fourth

  -- the four bytes of a word
  abbrev pub word_bytes : ℕ → List ℕ
  word_bytes w =
      w / (weights order).first % 256
      ∷ w / (weights order).second % 256
      ∷ w / (weights order).third % 256
      ∷ w / (weights order).fourth % 256
      ∷ []

  -- the word that a run of bytes begins with, 0 where it has under four
  abbrev pub first_word : List ℕ → ℕ
  first_word [] = 0
  first_word (a ∷ []) = 0
  first_word (a ∷ b ∷ []) = 0
  first_word (a ∷ b ∷ c ∷ []) = 0
  first_word (a ∷ b ∷ c ∷ d ∷ s) = word_of a b c d

  -- the words of a run of bytes; up to three bytes that are left over count for nothing
  abbrev pub words : List ℕ → List ℕ
  words [] = []
  words (a ∷ []) = []
  words (a ∷ b ∷ []) = []
  words (a ∷ b ∷ c ∷ []) = []
  words (a ∷ b ∷ c ∷ d ∷ s) = word_of a b c d ∷ words s

  -- the bytes of a run of words
  abbrev pub bytes_of_words : List ℕ → List ℕ
  bytes_of_words [] = []
  bytes_of_words (w ∷ ws) = word_bytes w ++ bytes_of_words ws

  -- the word at a place; one that is not wholly inside reads as 0
  unfoldable pub word_at : List ℕ → ℕ → ℕ
  word_at b p = first_word (drop p b)

  -- the bytes with a word put at a place; one that is not wholly inside is not written
  unfoldable pub put_word : List ℕ → ℕ → ℕ → List ℕ
  put_word b p w = cond (leb (p + 4) (length b)) (take p b ++ (word_bytes w ++ drop (p + 4) b)) b
