-- What the bytes of a case say, when two answers agree, and what is seen of a call.
use Rattle.std.specs.Prelude.{ℕ, Bool, cond, ◌&&◌, List, eqb, length, Result, Ok, Err}
use Rattle.paper.specs.rules.Answer as paper
use Rattle.paper.specs.rules.Gate.{gate}
use Rattle.paper.specs.rules.Join.{join}
use Rattle.paper.specs.rules.Name.{nameless, name_at}
use Rattle.paper.specs.rules.Size.{size_of}
use Rattle.paper.specs.declared.Order.TheVariants.{LowFirst}
use Rattle.paper.specs.rules.Word.{word_at, bytes_of_words}
use Rattle.handed.specs.Handed.{numbers_of, sixteen_of}
use Rattle.record.specs.Gives.{member_gives}
use Rattle.sums.specs.Sum.{sum_of, lent_places, lent_bytes}
use Rattle.replay.specs.declared.cases.Head.{Head}
use Rattle.replay.specs.declared.cases.Seen.{Seen}
use Rattle.replay.specs.declared.cases.Unopened.{Unopened}
use Rattle.replay.specs.declared.cases.Unopened.TheVariants.{Foreign}

-- "op, index places, work places, output bytes, x, y, length of a, length of b"
abbrev pub head_of : List ℕ → Head
head_of s =
    record {
      op = word_at LowFirst s 0;
      index = word_at LowFirst s 4;
      work = word_at LowFirst s 8;
      output = word_at LowFirst s 12;
      x = word_at LowFirst s 16;
      y = word_at LowFirst s 20;
      a = word_at LowFirst s 24;
      b = word_at LowFirst s 28;
    }

-- "number, inner, t, p, index sum, work sum, output sum"
abbrev pub seen_of : List ℕ → Seen
seen_of s =
    record {
      number = word_at LowFirst s 0;
      inner = word_at LowFirst s 4;
      t = word_at LowFirst s 8;
      p = word_at LowFirst s 12;
      index = word_at LowFirst s 16;
      work = word_at LowFirst s 20;
      output = word_at LowFirst s 24;
    }

-- "53 43 52 56, version 1, the number of cases"
abbrev pub opening_of : List ℕ → Result ℕ Unopened
opening_of s = cond (eqb (word_at LowFirst s 0) 1448231763 && eqb (word_at LowFirst s 4) 1) (Ok (word_at LowFirst s 8)) (Err Foreign)

-- all seven numbers are equal
abbrev pub same_seen : Seen → Seen → Bool
same_seen u v =
    eqb u.number v.number
    && (eqb u.inner v.inner
    && (eqb u.t v.t
    && (eqb u.p v.p
    && (eqb u.index v.index
    && (eqb u.work v.work
    && eqb u.output v.output)))))

-- a number and a value, with no report inside and no type
abbrev pub plainly : ℕ → ℕ → paper.Answer
plainly number p = record { number = number; inner = 0; t = 0; p = p }

-- op 3: "1 if the blob would get 1 to 5 or the offset is not below the string length, else 0", and the part's length
abbrev pub named : List ℕ → ℕ → paper.Answer
named b off = plainly (cond (nameless b off) 1 0) (length (name_at b off))

-- what is seen of a call: its answer, and the sums of what was lent, the index, the work and the output
abbrev pub seen_sums : paper.Answer → ℕ → ℕ → ℕ → Seen
seen_sums r index work output =
    record {
      number = r.number;
      inner = r.inner;
      t = r.t;
      p = r.p;
      index = index;
      work = work;
      output = output;
    }

abbrev pub seen_with : paper.Answer → List ℕ → List ℕ → List ℕ → Seen
seen_with r index work output = seen_sums r (sum_of (bytes_of_words LowFirst index)) (sum_of (bytes_of_words LowFirst work)) (sum_of output)

-- op 1: what is seen of a check with so many places lent, its answer and both u32 slices as the gate leaves them
abbrev pub check_seen : List ℕ → ℕ → ℕ → List ℕ → Seen
check_seen a places work_places output =
    seen_with (gate a places work_places).answer (gate a places work_places).index (gate a places work_places).work output

-- op 2: "size of type x in a, b is the index as u32 places"
abbrev pub size_seen : ℕ → List ℕ → List ℕ → ℕ → ℕ → ℕ → Seen
size_seen x a given index work output = seen_with (size_of a given x) (lent_places index) (lent_places work) (lent_bytes output)

-- op 3: "name in a at offset x", "the output sum is the part's"
abbrev pub name_seen : ℕ → List ℕ → ℕ → ℕ → Seen
name_seen x a index work = seen_with (named a x) (lent_places index) (lent_places work) (name_at a x)

-- op 4: what is seen of a join into an output of these bytes, its answer and all three slices as the join leaves them
abbrev pub join_seen : List ℕ → List ℕ → ℕ → ℕ → List ℕ → Seen
join_seen a b places work_places output =
    seen_with (join a b places work_places output).answer (join a b places work_places output).index (join a b places work_places output).work
    (join a b places work_places output).output

-- op 5: "member y of type x, a the table, b the record": the slices as the check of a leaves them, and the value's sixteen bytes
abbrev pub member_seen : ℕ → ℕ → List ℕ → List ℕ → ℕ → ℕ → Seen
member_seen x y a b places work_places =
    seen_with (numbers_of (member_gives a places work_places x y b)) (gate a places work_places).index (gate a places work_places).work
    (sixteen_of (member_gives a places work_places x y b))
