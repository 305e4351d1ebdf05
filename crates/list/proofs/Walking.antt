-- The records of an accepted blob gone over one by one: the list of those that are done, and behind it that of those that are left.
-- Assumes nothing.
use Prim.Native.Nat.{ℕ, ◌+◌, ◌-◌, ◌*◌, ◌≤◌, ◌<◌}
use mathlib.Core.Path.{◌≡◌, refl, sym, ap, ap₂, ◌∙◌, subst}
use mathlib.Core.List.{List, [], ◌∷◌, ◌++◌, append_assoc, append-nil}
use native.Mathlib.Omega.{arith}
use lib.ListN.{length, take, drop, length-append}
use lib.Seq.{drop_at, drop-drop, take_at}
use Rattle.list.specs.Listing.{ListAsk}
use Rattle.lists.proofs.Lengths.{length-body_fields}
use Rattle.lists.specs.Kept.{list_in}
use Rattle.lists.specs.List.{body_fields, fields_length, list_of, record_field, record_fields, string_tag}
use Rattle.paper.proofs.bytes.Blobs.{strings-table_of, types-length}
use Rattle.paper.proofs.bytes.Bytes.{below_left, below_right, bytes_of_words-append, length-bytes_of_words, part-rest}
use Rattle.paper.proofs.bytes.Puts.{length-put, put-put, put_whole}
use Rattle.paper.proofs.bytes.Reading.{record_in-whole}
use Rattle.paper.proofs.bytes.Tables.{length-bytes_of}
use Rattle.paper.proofs.gates.Acceptance.{accepted-bytes, accepted-fits, accepted-meets, accepted-sections}
use Rattle.paper.specs.declared.Order.{Order}
use Rattle.paper.specs.rules.Header.{order_of, strings_in, type_len}
use Rattle.paper.specs.rules.Limits.{byte_limit}
use Rattle.paper.specs.rules.Table.{Record, kind_in, kind_of, tail_length, words_of}
use Rattle.paper.specs.rules.Walk.{flat, table_of, type_len_of}
use Rattle.paper.specs.rules.Word.{bytes_of_words, word_at}
use Rattle.paper.specs.terms.Fit.{Below, EveryWhole, word_bound}
use Rattle.paper.specs.terms.Put.{put}
use Rattle.paper.specs.terms.Reading.{record_in}

-- ── how long a list can be ──

pub length-record_field : (order : Order) (r : Record) → length (record_field order r) ≡ fields_length (4 * length (words_of r))
unfolding record_field
length-record_field order r =
    length-body_fields (kind_of r) (bytes_of_words order (words_of r)) ∙ ap fields_length (length-bytes_of_words order (words_of r))

-- a field's head is no longer than a record's
pub records-double : (order : Order) (rs : List Record) → length (record_fields order rs) ≤ 2 * type_len_of rs
records-double order [] = omega arith
records-double order (r ∷ rs) =
    let l = length-append (record_field order r) (record_fields order rs) in
    let f = length-append (words_of r) (flat rs) in
    omega (arith, length-record_field order r, records-double order rs)

-- ── so much of it is done ──

pub record Walking (b : List ℕ) (end p q : ℕ) : Type 0 where
  pub left : List Record
  pub whole : EveryWhole left
  pub fits : Below word_bound (flat left)
  pub there : drop p b ≡ bytes_of_words (order_of b) (flat left) ++ (table_of b).strings
  pub ends : p + type_len_of left ≡ end
  pub inside : end ≤ length b
  pub short : length b ≤ byte_limit
  pub done : List ℕ
  pub long : q ≡ length done
  pub rest : done ++ record_fields (order_of b) left ≡ list_in b
  pub few : length (list_in b) ≤ 1000000

module _ {b : List ℕ} (a : ListAsk b) {w : ℕ} (e : w ≡ word_at (order_of b) b 12) where
  pub record Sections : Type 0 where
    pub types : type_len_of (table_of b).records ≡ w
    pub sum : 24 + w + length (table_of b).strings ≡ length b
    pub short : length b ≤ byte_limit
    pub strings : drop (24 + w) b ≡ (table_of b).strings

  pub sections : Sections
  unfolding type_len strings_in
  sections =
      let m = (accepted-meets b a.places a.work a.accepted).readable in
      let t = types-length b m.header m.section in
      let whole = ap length (accepted-bytes b a.places a.work a.accepted a.bytes) in
      let l = length-bytes_of (order_of b) (table_of b) in
      record {
        types = t ∙ sym e;
        sum = omega arith;
        short = m.header.short;
        strings = ap (λ (k : ℕ). drop (24 + k) b) e ∙ sym (strings-table_of b);
      }

  list-parts : body_fields (string_tag (order_of b)) (table_of b).strings ++ record_fields (order_of b) (table_of b).records ≡ list_in b
  unfolding list_in list_of
  list-parts = refl

  pub walking_start : {q : ℕ} → q ≡ fields_length (length b - (24 + w)) → Walking b (24 + w) 24 q
  walking_start long =
      let s = sections in
      let f = accepted-fits b a.places a.work a.accepted a.bytes in
      let first = length-body_fields (string_tag (order_of b)) (table_of b).strings in
      let l = sym (ap length list-parts) ∙ length-append (body_fields (string_tag (order_of b)) (table_of b).strings) (record_fields (order_of b) (table_of b).records) in
      let strings : length b - (24 + w) ≡ length (table_of b).strings = omega (arith, s.sum) in
      record {
        left = (table_of b).records;
        whole = f.whole;
        fits = f.words-fit;
        there = accepted-sections b a.places a.work a.accepted a.bytes;
        ends = omega (arith, s.types);
        inside = omega (arith, s.sum);
        short = s.short;
        done = body_fields (string_tag (order_of b)) (table_of b).strings;
        long = long ∙ ap fields_length strings ∙ sym first;
        rest = list-parts;
        few = omega (arith, first, l, records-double (order_of b) (table_of b).records, s.sum, s.types, s.short);
      }

-- ── one more record ──

-- the bytes from its place on, in front of those of the records behind it
pub record Step {b : List ℕ} {end p q : ℕ} (w : Walking b end p q) (info size : ℕ) : Type 0 where
  pub high : p + size ≤ end
  pub low : 12 ≤ size
  pub next : Walking b end (p + size) (q + fields_length size)
  pub does : next.done ≡ w.done ++ body_fields (kind_in info) (take size (drop p b))
  pub cut : length (take size (drop p b)) ≡ size
  pub room : q + fields_length size ≤ length (list_in b)

info-in : (order : Order) (s : List ℕ) → (record_in order s).info ≡ word_at order s 4
unfolding record_in
info-in order s = refl

-- the field of a record by its info word and its bytes
field_is : (order : Order) (r : Record) {kind : ℕ} → kind ≡ kind_of r → {one : List ℕ} → one ≡ bytes_of_words order (words_of r) → record_field order r ≡ body_fields kind one
unfolding record_field
field_is order r k e = sym (ap₂ body_fields k e)

module _ {b : List ℕ} {end p q : ℕ} (w : Walking b end p q) (more : p < end) {info size : ℕ}
    (read : info ≡ word_at (order_of b) (drop p b) 4) (long : size ≡ 12 + 4 * tail_length info) where
  abbrev order : Order
  order = order_of b

  one_more : (rs : List Record) → w.left ≡ rs → EveryWhole rs → Below word_bound (flat rs) → drop p b ≡ bytes_of_words order (flat rs) ++ (table_of b).strings
      → p + type_len_of rs ≡ end → w.done ++ record_fields order rs ≡ list_in b → Step w info size
  one_more [] is whole fits there ends rest = absurd (omega arith)
  one_more (r ∷ rs) is whole fits there ends rest =
      let words : List ℕ = bytes_of_words order (words_of r) in
      let later : List ℕ = bytes_of_words order (flat rs) ++ (table_of b).strings in
      let split : drop p b ≡ words ++ later =
      there
      ∙ ap (λ (s : List ℕ). s ++ (table_of b).strings) (bytes_of_words-append order (words_of r) (flat rs))
      ∙ append_assoc words (bytes_of_words order (flat rs)) (table_of b).strings in
      let same : record_in order (drop p b) ≡ r =
      ap (record_in order) split ∙ record_in-whole order r later whole.0 (below_left word_bound (words_of r) (flat rs) fits) in
      let told : info ≡ r.info = read ∙ sym (info-in order (drop p b)) ∙ ap (λ (x : Record). x.info) same in
      let tail = ap tail_length told ∙ sym whole.0.whole_tail in
      let size_is : size ≡ 4 * length (words_of r) = omega arith in
      let wide : length words ≡ size = length-bytes_of_words order (words_of r) ∙ sym size_is in
      let front : take size (drop p b) ≡ words = ap (take size) split ∙ take_at words later size wide in
      let field : record_field order r ≡ body_fields (kind_in info) (take size (drop p b)) = field_is order r (ap kind_in told) front in
      let l = length-append (words_of r) (flat rs) in
      let grown = length-append w.done (record_field order r) in
      let f = length-record_field order r ∙ ap fields_length (sym size_is) in
      let all = ap length rest in
      let both = length-append w.done (record_field order r ++ record_fields order rs) in
      let two = length-append (record_field order r) (record_fields order rs) in
      record {
        high = omega arith;
        low = omega arith;
        next = record {
          left = rs;
          whole = whole.1;
          fits = below_right word_bound (words_of r) (flat rs) fits;
          there = sym (drop-drop size p b) ∙ ap (drop size) split ∙ drop_at words later size wide;
          ends = omega arith;
          inside = w.inside;
          short = w.short;
          done = w.done ++ record_field order r;
          long = omega (arith, w.long);
          rest = append_assoc w.done (record_field order r) (record_fields order rs) ∙ rest;
          few = w.few;
        };
        does = ap (λ (x : List ℕ). w.done ++ x) field;
        cut = ap length front ∙ wide;
        room = omega (arith, w.long);
      }

  pub walking-step : Step w info size
  walking-step = one_more w.left refl w.whole w.fits w.there w.ends w.rest

module _ {b : List ℕ} {end p q : ℕ} (w : Walking b end p q) (last : end ≤ p) where
  pub walking-done : w.done ≡ list_in b
  walking-done = none w.left w.ends w.rest
    where
      none : (rs : List Record) → p + type_len_of rs ≡ end → w.done ++ record_fields (order_of b) rs ≡ list_in b → w.done ≡ list_in b
      none [] e rest = sym (append-nil w.done) ∙ rest
      none (r ∷ rs) e rest = absurd (omega (arith, length-append (words_of r) (flat rs)))

-- as code cuts it out
pub step_cut : {b : List ℕ} {end p q : ℕ} {w : Walking b end p q} {info size : ℕ} → Step w info size → length (take (p + size - p) (drop p b)) ≡ size
step_cut {b} {end} {p} {q} {w} {info} {size} s = let same : p + size - p ≡ size = omega arith in ap (λ (n : ℕ). length (take n (drop p b))) same ∙ s.cut

-- ── and laid ──

pub record Laying (b : List ℕ) (end p q : ℕ) (out : List ℕ) : Type 0 where
  pub walk : Walking b end p q
  pub before : List ℕ
  pub wide : length before ≡ length (list_in b)
  pub puts : out ≡ put before 0 walk.done

pub laying-start : {b : List ℕ} (a : ListAsk b) {w : ℕ} (e : w ≡ word_at (order_of b) b 12) {q : ℕ} → q ≡ fields_length (length b - (24 + w))
    → (before : List ℕ) → length before ≡ length (list_in b) → {tag : ℕ} → tag ≡ string_tag (order_of b) → {out : List ℕ}
    → out ≡ put before 0 (body_fields tag (take (length b - (24 + w)) (drop (24 + w) b))) → Laying b (24 + w) 24 q out
unfolding walking_start
laying-start {b} a {w} e long before wide tagged puts =
    record {
      walk = walking_start a e long;
      before = before;
      wide = wide;
      puts = puts ∙ ap₂ (λ (t : ℕ) (s : List ℕ). put before 0 (body_fields t s)) tagged (part-rest b (24 + w) ∙ (sections a e).strings);
    }

-- there is room for the strings
pub laying-room : {b : List ℕ} (a : ListAsk b) {w : ℕ} (e : w ≡ word_at (order_of b) b 12) → fields_length (length b - (24 + w)) ≤ length (list_in b)
laying-room {b} a e =
    let w = walking_start a e refl in
    omega (arith, w.long, sym (ap length w.rest) ∙ length-append w.done (record_fields (order_of b) w.left))

module _ {b : List ℕ} {end p q : ℕ} {out : List ℕ} (l : Laying b end p q out) where
  done-fits : length l.walk.done ≤ length (list_in b)
  done-fits = let w = l.walk in omega (arith, sym (ap length w.rest) ∙ length-append w.done (record_fields (order_of b) w.left))

  pub laying-long : length out ≡ length (list_in b)
  laying-long = ap length l.puts ∙ length-put l.before 0 l.walk.done (omega (arith, done-fits, l.wide)) ∙ l.wide

  pub laying-next : {info size : ℕ} (s : Step l.walk info size) {kind : ℕ} → kind ≡ kind_in info → {out₁ : List ℕ}
      → out₁ ≡ put out q (body_fields kind (take (p + size - p) (drop p b))) → {k : ℕ} → k ≡ fields_length size → Laying b end (p + size) (q + k) out₁
  laying-next {info} {size} s kinds {out₁} e long =
      subst (λ (k : ℕ). Laying b end (p + size) (q + k) out₁) (sym long)
      (record {
        walk = s.next;
        before = l.before;
        wide = l.wide;
        puts =
            e
            ∙ ap₂ (λ (k n : ℕ). put out q (body_fields k (take n (drop p b)))) kinds same
            ∙ ap (λ (o : List ℕ). put o q (body_fields (kind_in info) (take size (drop p b)))) l.puts
            ∙ put-put l.before 0 l.walk.done (omega (arith, done-fits, l.wide)) (omega (arith, l.walk.long)) (body_fields (kind_in info) (take size (drop p b)))
            ∙ ap (put l.before 0) (sym s.does);
      })
    where
      same : p + size - p ≡ size
      same = omega arith

  pub laying-done : end ≤ p → out ≡ list_in b
  laying-done last =
      l.puts
      ∙ ap (put l.before 0) (walking-done l.walk last)
      ∙ put_whole l.before (list_in b) (sym l.wide)
