-- Accepted exactly: a blob is accepted where it meets the paper and nowhere else; it then holds a good table, and the blob of a good
-- table is accepted. Assumes nothing.
use Prim.Native.Nat.{ℕ, ◌+◌, ◌-◌, ◌≤◌, ◌<◌}
use mathlib.Core.Path.{◌≡◌, refl, sym, ap, ◌∙◌, subst}
use mathlib.Core.List.{List, ◌++◌}
use mathlib.Core.Option.{none}
use native.Mathlib.Omega.{arith}
use borrow.Author.Tests.{ltb-false, le-ltb}
use lib.Dec.{ltb}
use lib.ListN.{length, get_or, drop}
use Rattle.paper.proofs.bytes.Blobs.{strings_in-length, strings-table_of, table_of-found, bytes_of-table_of, table_of-fits}
use Rattle.paper.proofs.basics.Choices.{or-false, false-or, first_due-none, none-first_due}
use Rattle.paper.proofs.gates.Gates.{or_else-none, none-or_else, naming-none, table_report-sound, sound-table_report, some≢none}
use Rattle.paper.proofs.bytes.Headers.{header_report-facts, facts-header_report}
use Rattle.paper.proofs.bytes.Sections.{walk_from-flat}
use Rattle.paper.proofs.bytes.Tables.{bytes_of-parts, length-bytes_of, walk-bytes_of, table_of-bytes_of, bytes_of-facts}
use Rattle.paper.specs.terms.Fit.{Accepted, Bytes, Fits}
use Rattle.paper.specs.rules.Gate.{naming, phase1, walk_report, phase2, slice_rules, short_slices, refusal}
use Rattle.paper.specs.terms.Good.{Readable, Closed, Sound, Meets, Good}
use Rattle.paper.specs.rules.Header.{header_length, order_of, strings_in, header_report}
use Rattle.paper.specs.rules.Limits.{byte_limit, full_places, type_limit}
use Rattle.paper.specs.rules.Table.{Table, count}
use Rattle.paper.specs.rules.Walk.{Walked, records, stopped, records_in, walk_from, walk, flat, table_of, blob_length, bytes_of}
use Rattle.paper.specs.rules.Word.{bytes_of_words}
use Rattle.paper.specs.declared.Order.{Order}

-- ── phases 1 and 2, and places enough ──

module _ (b : List ℕ) (places work : ℕ) where
  pub walk-records : phase2 b ≡ none → walk b ≡ records (table_of b).records
  unfolding phase2 table_of
  walk-records e = go (walk b) e
    where
      go : (w : Walked) → walk_report w ≡ none → w ≡ records (records_in w)
      go (records rs) p = refl
      go (stopped n t at) p = absurd (some≢none p)

  pub silent-readable : phase1 b ≡ none → phase2 b ≡ none → short_slices (count (table_of b)) places work ≡ none → Readable b places work
  unfolding phase1 short_slices
  silent-readable one two nine =
      let n = count (table_of b) in
      let due = (first_due-none (slice_rules n places work) (naming-none 0 _ nine)).0 in
      let enough = or-false (ltb places (n + 1)) (ltb work (n + 1)) due in
      record {
        header = header_report-facts b (naming-none 0 (header_report b) one);
        section = table_of-found b (table_of b).records (walk-records two);
        enough_places = omega (arith, ltb-false places (n + 1) enough.0);
        enough_work = omega (arith, ltb-false work (n + 1) enough.1);
      }

  module _ (r : Readable b places work) where
    pub readable-phase1 : phase1 b ≡ none
    unfolding phase1
    readable-phase1 = ap (naming 0) (facts-header_report b r.header)

    pub readable-walk : walk b ≡ records (table_of b).records
    unfolding walk
    readable-walk =
        let s = r.section in
        ap (walk_from type_limit 1 header_length) (sym s.flat_found)
        ∙ walk_from-flat type_limit 1 header_length (table_of b).records s.whole_found s.few_found

    pub readable-phase2 : phase2 b ≡ none
    unfolding phase2
    readable-phase2 = ap walk_report readable-walk

    pub readable-slices : short_slices (count (table_of b)) places work ≡ none
    unfolding short_slices
    readable-slices =
        let n = count (table_of b) in
        ap (naming 0) (none-first_due (slice_rules n places work)
        (false-or (le-ltb places (n + 1) (omega (arith, r.enough_places))) (le-ltb work (n + 1) (omega (arith, r.enough_work))), tt))

  -- ── accepted exactly where the paper is met ──

  pub accepted-meets : refusal b places work ≡ none → Meets b places work
  unfolding refusal
  accepted-meets e =
      let one = or_else-none (phase1 b) _ e in
      let two = or_else-none (phase2 b) _ one.1 in
      let nine = or_else-none (short_slices (count (table_of b)) places work) _ two.1 in
      record { readable = silent-readable one.0 two.0 nine.0; sound = table_report-sound (table_of b) nine.1 }

  pub meets-accepted : Meets b places work → refusal b places work ≡ none
  unfolding refusal
  meets-accepted m =
      let r = m.readable in
      none-or_else (readable-phase1 r) (none-or_else (readable-phase2 r) (none-or_else (readable-slices r) (sound-table_report (table_of b) m.sound)))

-- ── what an accepted blob holds ──

module _ (b : List ℕ) (places work : ℕ) (accepted : refusal b places work ≡ none) where
  readable : Readable b places work
  readable = (accepted-meets b places work accepted).readable

  pub accepted-header : header_report b ≡ none
  accepted-header = facts-header_report b readable.header

  pub accepted-walk : walk b ≡ records (table_of b).records
  accepted-walk = readable-walk b places work readable

  pub accepted-closed : Closed (table_of b).strings
  accepted-closed =
      let f = readable.header in
      let l = strings_in-length b f in
      subst Closed (sym (strings-table_of b))
      (record {
        filled = omega (arith, f.some_strings);
        first = f.first_zero;
        last = ap (λ (n : ℕ). get_or (strings_in b) (n - 1) 0) l ∙ f.last_zero;
      })

  pub accepted-good : Good (table_of b)
  accepted-good =
      record { sound = (accepted-meets b places work accepted).sound; closed = accepted-closed; whole = readable.section.whole_found }

  -- other slices do as well, where they have places for its types
  pub accepted-with : (places' work' : ℕ) → count (table_of b) < places' → count (table_of b) < work' → refusal b places' work' ≡ none
  accepted-with places' work' p w =
      meets-accepted b places' work'
      (record {
        readable = record { header = readable.header; section = readable.section; enough_places = p; enough_work = w };
        sound = (accepted-meets b places work accepted).sound;
      })

  -- and those of full size have them for every table
  pub accepted-full : Accepted b
  accepted-full = let few = readable.section.few_found in accepted-with full_places full_places (omega arith) (omega arith)

  module _ (bytes : Bytes b) where
    pub accepted-fits : Fits (table_of b)
    accepted-fits = table_of-fits b bytes accepted-header (table_of b).records accepted-walk

    -- the blob is that of the table that it holds
    pub accepted-bytes : bytes_of (order_of b) (table_of b) ≡ b
    accepted-bytes = bytes_of-table_of b bytes accepted-header (table_of b).records accepted-walk

    -- behind its header stand the records' words and the strings
    pub accepted-sections : drop header_length b ≡ bytes_of_words (order_of b) (flat (table_of b).records) ++ (table_of b).strings
    accepted-sections = sym (ap (drop header_length) accepted-bytes) ∙ ap (drop header_length) (bytes_of-parts (order_of b) (table_of b))

    pub accepted-short : blob_length (table_of b) ≤ byte_limit
    accepted-short = omega (arith, readable.header.short, ap length accepted-bytes, length-bytes_of (order_of b) (table_of b))

-- ── the blob of a good table ──

module _ (order : Order) (T : Table) (g : Good T) (fits : Fits T) (short : blob_length T ≤ byte_limit) where
  abbrev built : List ℕ
  built = bytes_of order T

  built-table : table_of built ≡ T
  built-table = table_of-bytes_of order T fits

  pub good-accepted : (places work : ℕ) → count T < places → count T < work → refusal (bytes_of order T) places work ≡ none
  good-accepted places work p w =
      let readable : Readable built places work = record {
        header = bytes_of-facts order T fits (omega (arith, length-bytes_of order T)) g.closed;
        section = table_of-found built T.records (walk-bytes_of order T fits);
        enough_places = subst (λ (U : Table). count U < places) (sym built-table) p;
        enough_work = subst (λ (U : Table). count U < work) (sym built-table) w;
      } in
      meets-accepted built places work (record { readable = readable; sound = subst Sound (sym built-table) g.sound })
