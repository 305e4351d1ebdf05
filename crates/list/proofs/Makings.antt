-- The table of a list laid as its blob: the header, the strings, then record by record.
-- Assumes nothing.
use Prim.Native.Nat.{ℕ, ◌+◌, ◌-◌, ◌*◌, ◌≤◌, ◌<◌}
use mathlib.Core.Path.{◌≡◌, refl, sym, ap, ap₂, ◌∙◌}
use mathlib.Core.List.{List, [], ◌∷◌, ◌++◌, append_assoc, append-nil}
use native.Mathlib.Omega.{arith}
use lib.ListN.{length, take, drop, length-append, length-drop, drop_of_length-le}
use lib.Seq.{drop_at, drop-drop, length-take-le, take-append-add, take_at}
use Rattle.list.proofs.Walking.{length-record_field, records-double}
use Rattle.list.specs.Making.{BodyPut, MakeAsk, blob_in, front_of}
use Rattle.lists.proofs.Bodies.{info-bytes, info-in-field}
use Rattle.lists.proofs.Lengths.{length-body_fields}
use Rattle.lists.proofs.OneReading.{read_list-one}
use Rattle.lists.specs.List.{body_fields, fields_length, list_of, read_list, record_field, record_fields, string_tag, table}
use Rattle.paper.proofs.bytes.Bytes.{below_left, below_right, bytes_of_words-append, length-bytes_of_words, part-rest}
use Rattle.paper.proofs.bytes.Puts.{length-put, put_front, put-none, put-put}
use Rattle.paper.proofs.bytes.Tables.{bytes_of-parts}
use Rattle.paper.specs.declared.Order.{Order}
use Rattle.paper.specs.rules.Header.{header_length, opening}
use Rattle.paper.specs.rules.Limits.{byte_limit}
use Rattle.paper.specs.rules.Table.{Record, Table, kind_of, tail_length, words_of}
use Rattle.paper.specs.rules.Walk.{blob_length, flat}
use Rattle.paper.specs.rules.Word.{bytes_of_words, word_at}
use Rattle.paper.specs.terms.Fit.{Below, EveryWhole, word_bound}
use Rattle.paper.specs.terms.Put.{put}
use Rattle.shift.proofs.MadeHeaders.{header-put}
use Rattle.shift.specs.Made.{header_over}

-- ── the header ──

-- whose first twelve bytes are those that no length changes
pub front-put : {order known : Order} → order ≡ known → (a : List ℕ) (types strings : ℕ) (out : List ℕ) {out₁ : List ℕ}
    → out₁ ≡ header_over order a types strings out → take 12 a ≡ opening known ++ bytes_of_words known (header_length ∷ 0 ∷ []) → 12 ≤ length a → 24 ≤ length out
    → out₁ ≡ put out 0 (front_of order types strings)
front-put {order} same a types strings out e fixed long room =
    e
    ∙ sym (header-put order a types strings out long room)
    ∙ ap (λ (x : List ℕ). put out 0 (x ++ bytes_of_words order (types ∷ types ∷ strings ∷ [])))
    (fixed ∙ ap (λ (o : Order). opening o ++ bytes_of_words o (header_length ∷ 0 ∷ [])) (sym same))

-- ── some bytes put over others, between what stands ──

put_last : (a d : List ℕ) (n : ℕ) (t : List ℕ) {k : ℕ} → k ≡ length a + n → length d ≡ n + length t → put (a ++ d) k t ≡ a ++ (take n d ++ t)
unfolding put
put_last a d n t {k} e long =
    let whole = length-append a d in
    let end : length (a ++ d) ≤ k + length t = omega arith in
    ap₂ (λ (x y : List ℕ). x ++ t ++ y) (ap (λ (j : ℕ). take j (a ++ d)) e ∙ take-append-add a d n) (drop_of_length-le (a ++ d) end)
    ∙ append-nil (a ++ take n d ++ t)
    ∙ append_assoc a (take n d) t

put-between : (a m b n : List ℕ) {k : ℕ} → length a ≡ k → length m ≡ length n → put (a ++ (m ++ b)) k n ≡ a ++ (n ++ b)
unfolding put
put-between a m b n {k} e long =
    ap₂ (λ (x y : List ℕ). x ++ n ++ y) (take_at a (m ++ b) k e)
    (sym (drop-drop (length n) k (a ++ (m ++ b))) ∙ ap (drop (length n)) (drop_at a (m ++ b) k e) ∙ drop_at m b (length n) long)
    ∙ append_assoc a n b

-- ── what the list is known to be ──

module _ {s : List ℕ} {order : Order} {types strings room : ℕ} (a : MakeAsk s order types strings room) where
  list-is : s ≡ body_fields (string_tag order) a.made.strings ++ record_fields order a.made.records
  unfolding list_of
  list-is = (read_list-one s a.bytes a.reads).is

  pub record Known : Type 0 where
    pub few : length s ≤ 1000000
    pub strings-fit : fields_length strings ≤ length s
    pub sum : room ≡ 24 + types + strings
    pub short : room ≤ byte_limit

  pub known : Known
  known =
      let l = ap length list-is ∙ length-append (body_fields (string_tag order) a.made.strings) (record_fields order a.made.records) in
      let first = length-body_fields (string_tag order) a.made.strings in
      let rest = records-double order a.made.records in
      let t = a.types_long in
      let n = a.strings-long in
      let r = a.room_is in
      let h = a.short in
      record { few = omega arith; strings-fit = omega arith; sum = omega arith; short = omega arith }

  -- the same of another output of that length
  abbrev asked : {other : ℕ} → other ≡ room → MakeAsk s order types strings other
  asked e =
      record {
        made = a.made;
        reads = a.reads;
        bytes = a.bytes;
        types_long = a.types_long;
        strings-long = a.strings-long;
        room_is = e ∙ a.room_is;
        short = a.short;
      }

-- a list is read as one table
same-long : {s : List ℕ} {order : Order} {types strings room others more there : ℕ} → MakeAsk s order types strings room → MakeAsk s order others more there → room ≡ there
same-long {order = order} a b =
    let same : table order a.made ≡ table order b.made = sym a.reads ∙ b.reads in
    let tables : a.made ≡ b.made = cc in
    a.room_is ∙ ap blob_length tables ∙ sym b.room_is

-- ── so many records are laid ──

pub record Making (s : List ℕ) (order : Order) (types strings : ℕ) (out : List ℕ) (p q : ℕ) : Type 0 where
  pub ask : MakeAsk s order types strings (length out)
  pub left : List Record
  pub whole : EveryWhole left
  pub fits : Below word_bound (flat left)
  pub there : drop p s ≡ record_fields order left
  pub done : List ℕ
  pub rest : done ++ flat left ≡ flat ask.made.records
  pub far : q ≡ 24 + 4 * length done
  pub middle : List ℕ
  pub wide : length middle ≡ types
  pub puts : out ≡ put (front_of order types strings ++ (middle ++ ask.made.strings)) 24 (bytes_of_words order done)

pub making-start : {s : List ℕ} {order : Order} {types strings : ℕ} (out : List ℕ) (a : MakeAsk s order types strings (length out)) {out₁ out₂ : List ℕ}
    → out₁ ≡ put out 0 (front_of order types strings) → BodyPut s 0 strings out₁ (24 + types) out₂ → {p : ℕ} → p ≡ fields_length strings
    → Making s order types strings out₂ p 24
making-start {s} {order} {types} {strings} out a {out₁} {out₂} e b {p} long =
    let k = known a in
    let T : Table = a.made in
    let front : List ℕ = front_of order types strings in
    let records : List ℕ = record_fields order T.records in
    let tail : List ℕ = drop 24 out in
    let tail-long = length-drop 24 out in
    let n = a.strings-long in
    let sum = k.sum in
    let middle-long : length (take types tail) ≡ types = length-take-le types tail (omega arith) in
    let laid : out₂ ≡ front ++ (take types tail ++ T.strings) =
    b.puts (string_tag order) T.strings records (list-is a) (sym n)
    ∙ ap (λ (o : List ℕ). put o (24 + types) T.strings) (e ∙ put_front out front)
    ∙ put_last front tail types T.strings refl (omega arith) in
    let l = ap length laid in
    let l₁ = length-append (take types tail) T.strings in
    let first = length-body_fields (string_tag order) T.strings in
    let r = read_list-one s a.bytes a.reads in
    record {
      ask = asked a (omega arith);
      left = T.records;
      whole = r.whole;
      fits = r.fits;
      there = ap (drop p) (list-is a) ∙ drop_at (body_fields (string_tag order) T.strings) records p (omega arith);
      done = [];
      rest = refl;
      far = refl;
      middle = take types tail;
      wide = middle-long;
      puts = laid ∙ put-none (front ++ (take types tail ++ T.strings)) 24;
    }

-- ── one more record ──

-- its info word stands in the first field of its body
first-info : (order : Order) (r : Record) (rest : List ℕ) → Below word_bound (words_of r) → word_at order (drop 3 (record_field order r ++ rest)) 4 ≡ r.info
unfolding record_field
first-info order r rest fit =
    let l = length-bytes_of_words order (words_of r) in
    info-in-field order (kind_of r) (bytes_of_words order (words_of r)) rest (omega arith) ∙ info-bytes order r fit

field-front : (order : Order) (r : Record) (rs : List Record) → record_fields order (r ∷ rs) ≡ body_fields (kind_of r) (bytes_of_words order (words_of r)) ++ record_fields order rs
unfolding record_field
field-front order r rs = refl

module _ {s : List ℕ} {order : Order} {types strings : ℕ} {out : List ℕ} {p q : ℕ} (m : Making s order types strings out p q) where
  left-long : length s - p ≡ length (record_fields order m.left)
  left-long = sym (length-drop p s) ∙ ap length m.there

  -- a field's head and the words that every record has
  pub making-more : p < length s → p + 15 ≤ length s
  making-more more = go m.left left-long
    where
      go : (rs : List Record) → length s - p ≡ length (record_fields order rs) → p + 15 ≤ length s
      go [] e = absurd (omega arith)
      go (r ∷ rs) e = omega (arith, length-append (record_field order r) (record_fields order rs), length-record_field order r)

  pub record MakeStep (size : ℕ) : Type 0 where
    pub low : 12 ≤ size
    pub high : q + size ≤ 24 + types
    pub fields : p + fields_length size ≤ length s
    pub next : (out₁ : List ℕ) → BodyPut s p size out q out₁ → (k : ℕ) → k ≡ fields_length size → Making s order types strings out₁ (p + k) (q + size)

  module _ (more : p < length s) {info size : ℕ} (read : info ≡ word_at order (take (length s - (p + 3)) (drop (p + 3) s)) 4)
      (long : size ≡ 12 + 4 * tail_length info) where
    abbrev base : List ℕ
    base = front_of order types strings ++ (m.middle ++ m.ask.made.strings)

    base-long : length base ≡ 24 + types + strings
    base-long = let l = length-append m.middle m.ask.made.strings in omega (arith, m.wide, m.ask.strings-long)

    one_more : (rs : List Record) → m.left ≡ rs → EveryWhole rs → Below word_bound (flat rs) → drop p s ≡ record_fields order rs
        → m.done ++ flat rs ≡ flat m.ask.made.records → MakeStep size
    one_more [] is whole fits there rest = absurd (omega (arith, left-long, ap (λ (rs : List Record). length (record_fields order rs)) is))
    one_more (r ∷ rs) is whole fits there rest =
        let fit = below_left word_bound (words_of r) (flat rs) fits in
        let words : List ℕ = bytes_of_words order (words_of r) in
        let laid : List ℕ = bytes_of_words order m.done in
        let told : info ≡ r.info =
        read
        ∙ ap (λ (x : List ℕ). word_at order x 4) (part-rest s (p + 3) ∙ sym (drop-drop 3 p s) ∙ ap (drop 3) there)
        ∙ first-info order r (record_fields order rs) fit in
        let tail = ap tail_length told ∙ sym whole.0.whole_tail in
        let size_is : size ≡ 4 * length (words_of r) = omega arith in
        let wide : length words ≡ size = length-bytes_of_words order (words_of r) ∙ sym size_is in
        let f = length-record_field order r ∙ ap fields_length (sym size_is) in
        let all = sym (length-drop p s) ∙ ap length there ∙ length-append (record_field order r) (record_fields order rs) in
        let k = known m.ask in
        let words-all = sym (ap length rest) ∙ length-append m.done (words_of r ++ flat rs) in
        let two = length-append (words_of r) (flat rs) in
        let far = m.far in
        let laid-long = length-bytes_of_words order m.done in
        let high : q + size ≤ 24 + types = omega (arith, m.ask.types_long) in
        record {
          low = omega arith;
          high = high;
          fields = omega arith;
          next = λ out₁ b j e.
              let put-it = b.puts (kind_of r) words (record_fields order rs) (there ∙ field-front order r rs) wide in
              let after : out₁ ≡ put base 24 (bytes_of_words order (m.done ++ words_of r)) =
              put-it
              ∙ ap (λ (o : List ℕ). put o q words) m.puts
              ∙ put-put base 24 laid (omega (arith, base-long)) (omega arith) words
              ∙ ap (put base 24) (sym (bytes_of_words-append order m.done (words_of r))) in
              record {
                ask = asked m.ask (ap length put-it ∙ length-put out q words (omega (arith, k.sum)));
                left = rs;
                whole = whole.1;
                fits = below_right word_bound (words_of r) (flat rs) fits;
                there =
                    sym (drop-drop j p s)
                    ∙ ap (drop j) there
                    ∙ drop_at (record_field order r) (record_fields order rs) j (f ∙ sym e);
                done = m.done ++ words_of r;
                rest = append_assoc m.done (words_of r) (flat rs) ∙ rest;
                far = omega (arith, length-append m.done (words_of r));
                middle = m.middle;
                wide = m.wide;
                puts = after;
              };
        }

    pub making-step : MakeStep size
    making-step = one_more m.left refl m.whole m.fits m.there m.rest

  -- ── all of them ──

  pub making-long : {room : ℕ} → MakeAsk s order types strings room → length out ≡ room
  making-long a = same-long m.ask a

  pub making-done : length s ≤ p → out ≡ blob_in (read_list s)
  making-done last =
      let T : Table = m.ask.made in
      let wide = m.wide in
      let t = m.ask.types_long in
      let n = m.ask.strings-long in
      let l = length-bytes_of_words order (flat T.records) in
      m.puts
      ∙ ap (λ (ws : List ℕ). put (front_of order types strings ++ (m.middle ++ T.strings)) 24 (bytes_of_words order ws)) (none m.left left-long m.rest)
      ∙ put-between (front_of order types strings) m.middle T.strings (bytes_of_words order (flat T.records)) refl (omega arith)
      ∙ ap₂ (λ (i j : ℕ). front_of order i j ++ (bytes_of_words order (flat T.records) ++ T.strings)) t n
      ∙ sym (bytes_of-parts order T)
      ∙ sym (ap blob_in m.ask.reads)
    where
      none : (rs : List Record) → length s - p ≡ length (record_fields order rs) → m.done ++ flat rs ≡ flat m.ask.made.records
          → m.done ≡ flat m.ask.made.records
      none [] e rest = sym (append-nil m.done) ∙ rest
      none (r ∷ rs) e rest = absurd (omega (arith, length-append (record_field order r) (record_fields order rs), length-record_field order r))
