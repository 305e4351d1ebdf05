-- Where a type's record begins by an index, and what a type's base is, for any bytes and any index.
use Rattle.std.specs.Prelude.{ℕ, zero, suc, cond, List, ltb, length, get_or, drop}
use Rattle.paper.specs.rules.Header.{order_of}
use Rattle.paper.specs.rules.Span.{is_alias}
use Rattle.paper.specs.rules.Table.{kind_in}
use Rattle.paper.specs.rules.Word.{word_at}

-- a type that has no place in the index begins where the blob ends
unfoldable pub place_in : List ℕ → List ℕ → ℕ → ℕ
place_in blob index t = cond (ltb t (length index)) (get_or index t 0) (length blob)

-- a word of a type's record
unfoldable pub word_in : List ℕ → List ℕ → ℕ → ℕ → ℕ
word_in blob index t p = word_at (order_of blob) (drop (place_in blob index t) blob) p

-- "Follow TYPEDEF, qualifiers and TYPE_TAG to a base", so many steps at most
unfoldable pub base_in : List ℕ → List ℕ → ℕ → ℕ → ℕ
base_in blob index zero t = t
base_in blob index (suc steps) t = cond (is_alias (kind_in (word_in blob index t 4))) (base_in blob index steps (word_in blob index t 8)) t
