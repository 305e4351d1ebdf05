-- A blob turned round: the same table with its words in the other byte order.
use Rattle.std.specs.Prelude.{ℕ, ◌+◌, List, [], ◌∷◌, ◌++◌, take, drop}
use Rattle.paper.specs.rules.Header.{opening, order_of, type_len, strings_in}
use Rattle.paper.specs.declared.Order.{Order}
use Rattle.paper.specs.declared.Order.TheVariants.{LowFirst, HighFirst}

abbrev pub other_order : Order → Order
other_order LowFirst = HighFirst
other_order HighFirst = LowFirst

-- each four bytes turned round; up to three that are left over stay
abbrev pub turn_words : List ℕ → List ℕ
turn_words [] = []
turn_words (a ∷ []) = a ∷ []
turn_words (a ∷ b ∷ []) = a ∷ b ∷ []
turn_words (a ∷ b ∷ c ∷ []) = a ∷ b ∷ c ∷ []
turn_words (a ∷ b ∷ c ∷ d ∷ s) = d ∷ c ∷ b ∷ a ∷ turn_words s

-- the other order's magic, the words of the header and of the type section turned round, the strings as they are
unfoldable pub turned : List ℕ → List ℕ
turned b = opening (other_order (order_of b)) ++ turn_words (take (20 + type_len b) (drop 4 b)) ++ strings_in b
