-- "a byte place beside the type number: the record's place" (order 9): where a record stands, whether or not the walk gets through it.
use Rattle.std.specs.Prelude.{ℕ, ◌+◌, ◌≤◌, ◌≡◌, List, ◌++◌, length}
use Rattle.paper.specs.terms.Fit.{EveryWhole}
use Rattle.paper.specs.rules.Header.{header_length}
use Rattle.paper.specs.rules.Table.{Record}
use Rattle.paper.specs.rules.Walk.{type_words, flat, type_len_of}

-- some words begin with record k, at place o; record t begins at place p, where whole records end and words are left
pub record Begins (ws : List ℕ) (k o t p : ℕ) : Type 0 where
  pub before : List Record
  pub left : List ℕ
  pub splits : ws ≡ flat before ++ left
  pub whole : EveryWhole before
  pub some_left : 1 ≤ length left
  pub numbered : t ≡ k + length before
  pub placed : p ≡ o + type_len_of before

-- the same of a blob, whose records are numbered from 1 and begin behind the header
abbrev pub StandsAt : List ℕ → ℕ → ℕ → Type 0
StandsAt b t p = Begins (type_words b) 1 header_length t p
