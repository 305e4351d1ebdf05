-- Where a name lies in a blob, and where it ends in the bytes that begin with it.
use Rattle.paper.specs.declared.Report.{Report}
use Rattle.header.specs.declared.first.Sections.{Sections}
use Rattle.std.specs.Prelude.{ℕ, ◌+◌, ◌≤◌, ◌<◌, ◌≡◌, Bool, true, false, not, cond, List, [], ltb, length, take, drop, Err, Ok, Result}
use Rattle.std.specs.Borrow.{Bor}
use Rattle.paper.specs.rules.Header.{header_length, type_len, strings_in}
use Rattle.paper.specs.rules.Limits.{byte_limit}
use Rattle.paper.specs.rules.Name.{until_zero, name_in, name_at, name_start}
use Rattle.paper.specs.declared.Part.{Part}

-- the first n bytes are what stands up to the first zero byte
pub record Ending (s : List ℕ) (n : ℕ) : Type 0 where
  pub inside : n ≤ length s
  pub until : take n s ≡ until_zero s

-- both numbers of the name at an offset
pub record PartOf (p : Part) (b : List ℕ) (off : ℕ) : Type 0 where
  pub starts : p.start.0 ≡ name_start b off
  pub long : p.length ≡ length (name_at b off)

-- a reference to the name at an offset of a lent blob: its bytes, and the very place in the blob that it points to
pub record NamePart (r b : Bor (List ℕ)) (off : ℕ) : Type 0 where
  pub bytes : r.now ≡ name_at b.now off
  pub place : r.ref_ptr ≡ (b.ref_ptr.0, name_start b.now off + b.ref_ptr.1)

-- ── by itself or behind a base ──

-- there is no name, by what phase 1 in code finds
abbrev pub nameless_by : Result Sections Report → ℕ → Bool
nameless_by (Ok s) off = not (ltb off s.strings)
nameless_by (Err r) off = true

-- the name at an offset, told whether it is missing, and where it begins
unfoldable pub name_if : Bool → List ℕ → ℕ → List ℕ
name_if missing b off = cond missing [] (name_in (strings_in b) off)

unfoldable pub start_if : Bool → List ℕ → ℕ → ℕ
start_if missing b off = cond missing 0 (header_length + type_len b + off)

-- what phase 1 has shown of a name that is not missing
pub record Held (missing : Bool) (b : List ℕ) (off : ℕ) : Type 0 where
  pub inside : missing ≡ false → header_length + type_len b + off < length b
  pub short : missing ≡ false → length b ≤ byte_limit

pub record PartIf (p : Part) (missing : Bool) (b : List ℕ) (off : ℕ) : Type 0 where
  pub starts : p.start.0 ≡ start_if missing b off
  pub long : p.length ≡ length (name_if missing b off)

-- a reference to a part of a lent blob: its bytes, and the very place in the blob that it points to
pub record CutOut (r b : Bor (List ℕ)) (p : Part) : Type 0 where
  pub bytes : r.now ≡ take p.length (drop p.start.0 b.now)
  pub place : r.ref_ptr ≡ (b.ref_ptr.0, p.start.0 + b.ref_ptr.1)
