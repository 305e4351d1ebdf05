-- The table of both: the base's types stand in it as they are alone, the blob of each holds its part, and a blob of its own can hold it.
-- Assumes nothing.
use Prim.Native.Nat.{ℕ, zero, suc, ◌+◌, ◌-◌, ◌*◌, ◌≤◌, ◌<◌}
use mathlib.Core.Path.{◌≡◌, refl, sym, ap, ◌∙◌, subst}
use mathlib.Core.Bool.{Bool, true, false}
use mathlib.Core.List.{List, [], ◌∷◌, ◌++◌}
use native.Mathlib.Omega.{arith}
use borrow.Author.Tests.{eqb-true, eqb-false}
use lib.Dec.{eqb}
use lib.ListN.{length, get_or, length-append, get_or-append}
use lib.Seq.{get_or-append-add}
use Rattle.pairs.specs.Lean.{own_records, table_over}
use Rattle.pairs.specs.Leaning.{Ended, own_table, PairReadable}
use Rattle.paper.proofs.bytes.Blobs.{words_long, strings-long, blob-words, type_words-fit, strings_in-bytes}
use Rattle.paper.proofs.bytes.Bytes.{below-append}
use Rattle.paper.proofs.bytes.Places.{flat_append}
use Rattle.paper.proofs.bytes.Tables.{length-bytes_of}
use Rattle.paper.proofs.gates.Acceptance.{accepted-good, accepted-fits, accepted-bytes}
use Rattle.paper.proofs.joins.Joining.{sound-rename, size-rename}
use Rattle.paper.proofs.renaming.Names.{name_in-append}
use Rattle.paper.proofs.renaming.Rename.{rename-id}
use Rattle.paper.proofs.renaming.Renaming.{Renaming}
use Rattle.paper.specs.rules.Header.{header_length, order_of, strings_in, type_len}
use Rattle.paper.specs.rules.Name.{name_in}
use Rattle.paper.specs.rules.Size.{exact_size}
use Rattle.paper.specs.rules.Table.{Record, Table, count, nothing, record_at}
use Rattle.paper.specs.rules.Walk.{table_of, flat, type_len_of, blob_length, bytes_of}
use Rattle.paper.specs.terms.Fit.{Bytes, EveryWhole, Fits, word_bound}
use Rattle.paper.specs.terms.Good.{Closed, SoundAt, Good}

-- ── lists one behind the other ──

every_append : (qs rs : List Record) → EveryWhole qs → EveryWhole rs → EveryWhole (qs ++ rs)
every_append [] rs p q = q
every_append (r ∷ qs) rs p q = (p.0, every_append qs rs p.1 q)

type_len_of-append : (qs rs : List Record) → type_len_of (qs ++ rs) ≡ type_len_of qs + type_len_of rs
type_len_of-append qs rs = omega (arith, ap length (flat_append qs rs), length-append (flat qs) (flat rs))

-- a closed section with one behind it that is empty or ends in a zero byte
closed-append : (s u : List ℕ) → Closed s → Ended u → Closed (s ++ u)
closed-append s u c e =
    let l = length-append s u in
    let f = c.filled in
    record {
      filled = omega arith;
      first = get_or-append s u 0 0 c.filled ∙ c.first;
      last = go (eqb (length u) 0) refl;
    }
  where
    go : (z : Bool) → eqb (length u) 0 ≡ z → get_or (s ++ u) (length (s ++ u) - 1) 0 ≡ 0
    go true x =
        let l = length-append s u in
        let f = c.filled in
        let empty : length u ≡ 0 = eqb-true (length u) 0 x in
        let at : length (s ++ u) - 1 ≡ length s - 1 = omega arith in
        ap (λ (n : ℕ). get_or (s ++ u) n 0) at ∙ get_or-append s u 0 (length s - 1) (omega arith) ∙ c.last
    go false x =
        let l = length-append s u in
        let filled = eqb-false (length u) 0 x in
        let at : length (s ++ u) - 1 ≡ length s + (length u - 1) = omega arith in
        ap (λ (n : ℕ). get_or (s ++ u) n 0) at ∙ get_or-append-add s u (length u - 1) 0 ∙ e

module _ (base own : List ℕ) where
  abbrev A : Table
  A = table_of base

  abbrev U : Table
  U = own_table base own

  abbrev T : Table
  T = table_over base own

  pub count-over : count T ≡ count A + length (own_records base own)
  unfolding table_over
  count-over = length-append A.records (own_records base own)

  pub strings-over : T.strings ≡ A.strings ++ strings_in own
  unfolding table_over
  strings-over = refl

  -- the base's records stand at their numbers
  pub base-record : (t : ℕ) → t ≤ count A → record_at T t ≡ record_at A t
  unfolding table_over
  base-record zero h = refl
  base-record (suc t) h = get_or-append A.records (own_records base own) nothing t h

  -- the others behind them
  pub own-record : (t : ℕ) → record_at T (suc (count A + t)) ≡ get_or (own_records base own) t nothing
  unfolding table_over
  own-record t = get_or-append-add A.records (own_records base own) t nothing

  module _ (places work : ℕ) (r : PairReadable base own places work) where
    pub base-good : Good A
    base-good = accepted-good base places work r.base-accepted

    -- the base stands in the pair, nothing renamed
    pub base-renaming : Renaming A T (λ n. n) (λ n. n)
    base-renaming =
        record {
          type_zero = λ t. refl;
          name_zero = λ n. refl;
          same_record = λ t h. base-record t h ∙ sym (rename-id (record_at A t));
          name_inside = λ n h. let l = length-append A.strings (strings_in own) in let e = ap length strings-over in omega arith;
          same_name = λ n h. ap (λ (s : List ℕ). name_in s n) strings-over ∙ name_in-append A.strings base-good.closed (strings_in own) n h;
          fewer = let c = count-over in omega arith;
        }

    -- its types keep what its check has said of them
    pub base-sound : (t : ℕ) → 1 ≤ t → t ≤ count A → SoundAt T t
    base-sound = sound-rename base-renaming base-good

    -- "a type of the base has in the pair the size and the name it has alone"
    pub base-size : (t : ℕ) → t ≤ count A → exact_size T t ≡ exact_size A t
    base-size = size-rename base-renaming base-good

    pub base-name : (n : ℕ) → n < length A.strings → name_in T.strings n ≡ name_in A.strings n
    base-name = base-renaming.same_name

    pub pair-closed : Closed T.strings
    pair-closed = subst Closed (sym strings-over) (closed-append A.strings (strings_in own) base-good.closed r.header.ended)

    pub pair-whole : EveryWhole T.records
    unfolding table_over
    pair-whole = every_append A.records (own_records base own) base-good.whole r.section.whole_found

    module _ (bytes-base : Bytes base) (bytes-own : Bytes own) where
      pub base-fits : Fits A
      base-fits = accepted-fits base places work r.base-accepted bytes-base

      own-types : type_len_of (own_records base own) ≡ type_len own
      own-types = ap (λ (ws : List ℕ). 4 * length ws) r.section.flat_found ∙ words_long own r.header.sections

      -- the own blob holds its own records and strings
      pub own-blob : bytes_of (order_of own) U ≡ own
      own-blob = blob-words own bytes-own r.header.sections U r.section.flat_found refl

      pub own-fits : Fits U
      own-fits =
          let s = r.header.sections in
          let long = strings-long own s in
          let types = own-types in
          record {
            whole = r.section.whole_found;
            words-fit = rw r.section.flat_found (type_words-fit own bytes-own);
            bytes_fit = strings_in-bytes own bytes-own;
            section_fits = omega (arith, s.sum, r.header.short);
            strings-fit = omega (arith, s.sum, r.header.short);
            types_fit = omega (arith, r.section.few_found);
          }

      -- how long the blob is that holds both: a header less than both blobs together
      pub length_over : blob_length T + header_length ≡ length base + length own
      unfolding table_over
      length_over =
          let s = r.header.sections in
          let long = strings-long own s in
          let types = own-types in
          let both = type_len_of-append A.records (own_records base own) in
          let strings = length-append A.strings (strings_in own) in
          let whole : length base ≡ blob_length A =
          ap length (sym (accepted-bytes base places work r.base-accepted bytes-base)) ∙ length-bytes_of (order_of base) A in
          omega (arith, s.sum)

      pub pair_fits : Fits T
      unfolding table_over
      pair_fits =
          let f = base-fits in
          let u = own-fits in
          let both = type_len_of-append A.records (own_records base own) in
          let strings = length-append A.strings (strings_in own) in
          let l = length_over in
          record {
            whole = pair-whole;
            words-fit = rw (flat_append A.records (own_records base own)) (below-append word_bound (flat A.records) (flat (own_records base own)) f.words-fit u.words-fit);
            bytes_fit = below-append 256 A.strings (strings_in own) f.bytes_fit u.bytes_fit;
            section_fits = omega (arith, r.header.short);
            strings-fit = omega (arith, r.header.short);
            types_fit = let c = count-over in omega (arith, f.types_fit, r.section.few_found);
          }
