-- What a report below 10 tells: the header's first broken rule; the first record at fault, with all before it whole; or that the walk is
-- done and places are missing.
use Rattle.std.specs.Prelude.{ℕ, ◌+◌, ◌≤◌, ◌<◌, ◌≡◌, true, false, List, ◌⊎◌, length, get_or}
use Rattle.paper.specs.rules.Answer.{Answer}
use Rattle.paper.specs.terms.Good.{HeaderFacts, WholeWalk}
use Rattle.paper.specs.rules.Header.{header_rules}
use Rattle.paper.specs.rules.Limits.{type_limit}
use Rattle.paper.specs.terms.Smallest.{DueFirst}
use Rattle.paper.specs.rules.Table.{count, kind_in, tail_length}
use Rattle.paper.specs.rules.Walk.{known, type_words, table_of}
use Rattle.paper.specs.terms.Where.{StandsAt}

-- what is wrong, by its number, with record t, which the words that are left begin with, where so many records may stand
pub data Fault (limit number t : ℕ) (left : List ℕ) : Type 0 where
  -- "bytes remain after record" 16,384 "(before 6 and 7)"
  many : number ≡ 8 → t ≡ limit + 1 → Fault limit number t left
  -- "a record's 12-byte head .. doesn't fit the type section"
  head-cut : number ≡ 6 → t ≤ limit → length left < 3 → Fault limit number t left
  -- "head fits, kind 0 or 20 to 31"
  no_kind : number ≡ 7 → t ≤ limit → 3 ≤ length left → known (kind_in (get_or left 1 0)) ≡ false → Fault limit number t left
  -- ".. or its tail"
  tail-cut : number ≡ 6 → t ≤ limit → known (kind_in (get_or left 1 0)) ≡ true → 3 ≤ length left → length left < 3 + tail_length (get_or left 1 0)
      → Fault limit number t left

-- which phase has spoken: every earlier one is silent
pub data SpokenEarly (b : List ℕ) (places work : ℕ) (a : Answer) : Type 0 where
  -- "in phase 1 the smallest number"
  first : DueFirst a.number (header_rules b) → a.t ≡ 0 → a.p ≡ 0 → SpokenEarly b places work a
  -- "in phase 2 the walk stops at its first fault": whole records stand before the one that is named
  second : HeaderFacts b → (s : StandsAt b a.t a.p) → Fault type_limit a.number a.t s.left → SpokenEarly b places work a
  -- "walk done, index or work slice has under n + 1 places"
  ninth : HeaderFacts b → WholeWalk type_limit (type_words b) (table_of b).records → (places ≤ count (table_of b)) ⊎ (work ≤ count (table_of b))
      → a.number ≡ 9 → a.t ≡ 0 → a.p ≡ 0 → SpokenEarly b places work a
