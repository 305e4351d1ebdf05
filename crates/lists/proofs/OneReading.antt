-- A list has one reading: what is read as a table is that table's list, field by field.
-- Assumes nothing.
use Prim.Native.Nat.{ℕ, zero, suc, ◌+◌, ◌%◌, ◌≤◌, ◌<◌}
use mathlib.Core.Path.{◌≡◌, refl, sym, ap, ap₂, ◌∙◌, subst}
use mathlib.Core.Bool.{Bool, true, false, cond}
use mathlib.Core.List.{List, [], ◌∷◌, ◌++◌, append-nil}
use mathlib.Core.Option.{Option, none, some}
use native.Mathlib.Omega.{arith}
use borrow.Author.Tests.{eqb-true}
use lib.Dec.{eqb}
use lib.ListN.{length, length-append}
use Rattle.lists.proofs.OneBody.{Taking, take_body-taking}
use Rattle.lists.proofs.Written.{fields_in-long}
use Rattle.lists.specs.List.{string_tag, is_string_tag, tag_order, field, fields_in, body_fields}
use Rattle.lists.specs.List.{record_field, record_fields, list_of, Taken, fault, taken, take_body}
use Rattle.lists.specs.List.{only_one, record_of, unread, table, RecordsRead, stop, all, in_front, on_body, read_records, with_strings, on_strings, read_list}
use Rattle.paper.proofs.basics.Choices.{or_cases}
use Rattle.paper.proofs.bytes.Bytes.{below-append, bytes_of_words-words, length-bytes_of_words, words-fit}
use Rattle.paper.proofs.bytes.Sections.{flat-walk_from}
use Rattle.paper.specs.declared.Order.{Order}
use Rattle.paper.specs.rules.Table.{Record, Table, kind_of, words_of}
use Rattle.paper.specs.rules.Walk.{Walked, records, stopped, flat, known, walk_from}
use Rattle.paper.specs.rules.Word.{bytes_of_words, words}
use Rattle.paper.specs.terms.Fit.{Below, Bytes, EveryWhole, Whole, word_bound}

-- ── a record ──

none≢some : {r : Record} → none ≡ some r → ⊥
none≢some e = let z : ◌≡◌ {A = ℕ} 0 1 = cc in omega arith

pub record Recorded (order : Order) (tag : ℕ) (body : List ℕ) (r : Record) : Type 0 where
  pub is : body ≡ bytes_of_words order (words_of r)
  pub kind : kind_of r ≡ tag
  pub whole : Whole r
  pub fits : Below word_bound (words_of r)

pub record_of-recorded : (order : Order) (tag : ℕ) (body : List ℕ) → Bytes body → {r : Record} → record_of order tag body ≡ some r → Recorded order tag body r
unfolding record_of
record_of-recorded order tag body bytes {r} e = go (eqb (length body % 4) 0) refl e
  where
    walked : (w : Walked) → walk_from 1 1 0 (words order body) ≡ w → only_one tag w ≡ some r → length body % 4 ≡ 0 → Recorded order tag body r
    walked (records []) p f four = absurd (none≢some f)
    walked (records (q ∷ x ∷ rs)) p f four = absurd (none≢some f)
    walked (stopped n t k) p f four = absurd (none≢some f)
    walked (records (q ∷ [])) p f four = by-kind (eqb (kind_of q) tag) refl f
      where
        by-kind : (z : Bool) → eqb (kind_of q) tag ≡ z → cond z (some q) none ≡ some r → Recorded order tag body r
        by-kind false x g = absurd (none≢some g)
        by-kind true x g =
            let same : q ≡ r = cc in
            let found = flat-walk_from 1 1 0 (words order body) (q ∷ []) p in
            subst (Recorded order tag body) same
            (record {
              is =
                  sym (bytes_of_words-words order body bytes four)
                  ∙ ap (bytes_of_words order) (sym found.flat_found ∙ append-nil (words_of q));
              kind = eqb-true (kind_of q) tag x;
              whole = found.whole_found.0;
              fits = subst (Below word_bound) (sym found.flat_found ∙ append-nil (words_of q)) (words-fit order body bytes);
            })

    go : (z : Bool) → eqb (length body % 4) 0 ≡ z → cond z (only_one tag (walk_from 1 1 0 (words order body))) none ≡ some r → Recorded order tag body r
    go false x f = absurd (none≢some f)
    go true x f = walked (walk_from 1 1 0 (words order body)) refl f (eqb-true (length body % 4) 0 x)

-- ── the records ──

stop≢all : {n : ℕ} {rs : List Record} → stop n ≡ all rs → ⊥
stop≢all e = let z : ◌≡◌ {A = ℕ} 0 1 = cc in omega arith

record-front : (order : Order) {s : List ℕ} {tag : ℕ} {body rest : List ℕ} {r : Record} → Taking known s tag body rest → Recorded order tag body r
    → s ≡ record_field order r ++ rest
unfolding record_field
record-front order {s} {tag} {body} {rest} t d = t.is ∙ ap₂ (λ (k : ℕ) (b : List ℕ). body_fields k b ++ rest) (sym d.kind) d.is

front-shorter : (order : Order) {s : List ℕ} {tag : ℕ} {body rest : List ℕ} {r : Record} → Taking known s tag body rest → Recorded order tag body r
    → length rest < length s
unfolding body_fields
front-shorter order {s} {tag} {body} {rest} {r} t d =
    let l = ap length t.is in
    let a = length-append (fields_in (length body) tag body) rest in
    let f = fields_in-long (length body) tag body in
    let w = ap length d.is ∙ length-bytes_of_words order (words_of r) in
    omega arith

read_records-one : (m : ℕ) (order : Order) (s : List ℕ) → Bytes s → length s ≤ m → {rs : List Record} → read_records m order s ≡ all rs
    → (s ≡ record_fields order rs) × EveryWhole rs × Below word_bound (flat rs)
read_records-one zero order [] bytes room {rs} e = let same : [] ≡ rs = cc in subst (λ (qs : List Record). ([] ≡ record_fields order qs) × EveryWhole qs × Below word_bound (flat qs)) same (refl, tt, tt)
read_records-one zero order (x ∷ s) bytes room e = absurd (omega arith)
read_records-one (suc m) order [] bytes room {rs} e =
    let same : [] ≡ rs = cc in subst (λ (qs : List Record). ([] ≡ record_fields order qs) × EveryWhole qs × Below word_bound (flat qs)) same (refl, tt, tt)
read_records-one (suc m) order (x ∷ s) bytes room {rs} e =
    go (take_body known (x ∷ s)) refl e (λ rest b l qs f. read_records-one m order rest b l f)
  where
    again : Type 0
    again = (rest : List ℕ) → Bytes rest → length rest ≤ m → (qs : List Record) → read_records m order rest ≡ all qs
        → (rest ≡ record_fields order qs) × EveryWhole qs × Below word_bound (flat qs)

    on : ℕ → List ℕ → List ℕ → RecordsRead
    on tag body rest = in_front (record_of order tag body) (read_records m order rest)

    go : (t : Taken) → take_body known (x ∷ s) ≡ t → on_body t on ≡ all rs → again → (x ∷ s ≡ record_fields order rs) × EveryWhole rs × Below word_bound (flat rs)
    go (fault n) p f next = absurd (stop≢all f)
    go (taken tag body rest) p f next = by-record (record_of order tag body) refl (read_records m order rest) refl f
      where
        by-record : (o : Option Record) → record_of order tag body ≡ o → (q : RecordsRead) → read_records m order rest ≡ q → in_front o q ≡ all rs
            → (x ∷ s ≡ record_fields order rs) × EveryWhole rs × Below word_bound (flat rs)
        by-record none a q c g = absurd (stop≢all g)
        by-record (some r) a (stop n) c g = absurd (stop≢all g)
        by-record (some r) a (all qs) c g =
            let same : r ∷ qs ≡ rs = cc in
            let t = take_body-taking known (x ∷ s) bytes p in
            let d = record_of-recorded order tag body t.body_bytes a in
            let later = next rest t.rest_bytes (shorter order t d) qs c in
            subst (λ (us : List Record). (x ∷ s ≡ record_fields order us) × EveryWhole us × Below word_bound (flat us)) same (
              record-front order t d ∙ ap (λ (y : List ℕ). record_field order r ++ y) later.0,
              (d.whole, later.1),
              below-append word_bound (words_of r) (flat qs) d.fits later.2,
            )
          where
            shorter : (order : Order) → Taking known (x ∷ s) tag body rest → Recorded order tag body r → length rest ≤ m
            shorter order t d = let l = front-shorter order t d in omega arith

-- ── the list ──

pub unread≢table : {n : ℕ} {order : Order} {T : Table} → unread n ≡ table order T → ⊥
unread≢table e = let z : ◌≡◌ {A = ℕ} 0 1 = cc in omega arith

string-tag : (tag : ℕ) → is_string_tag tag ≡ true → string_tag (tag_order tag) ≡ tag
string-tag tag e =
    or_cases (eqb tag 32) (eqb tag 33) e (λ p. low (eqb-true tag 32 p)) (λ q. high (eqb-true tag 33 q))
  where
    low : tag ≡ 32 → string_tag (tag_order tag) ≡ tag
    low e = ap (λ (t : ℕ). string_tag (tag_order t)) e ∙ sym e

    high : tag ≡ 33 → string_tag (tag_order tag) ≡ tag
    high e = ap (λ (t : ℕ). string_tag (tag_order t)) e ∙ sym e

-- what is read as a table of an order is that table's list in that order; its records are whole, and its words and strings fit
pub record Reads (s : List ℕ) (order : Order) (T : Table) : Type 0 where
  pub is : s ≡ list_of order T
  pub whole : EveryWhole T.records
  pub fits : Below word_bound (flat T.records)
  pub strings : Bytes T.strings

pub read_list-one : (s : List ℕ) → Bytes s → {order : Order} {T : Table} → read_list s ≡ table order T → Reads s order T
unfolding read_list list_of
read_list-one s bytes {order} {T} e = go (take_body is_string_tag s) refl e
  where
    go : (t : Taken) → take_body is_string_tag s ≡ t → on_strings t ≡ table order T → Reads s order T
    go (fault n) p f = absurd (unread≢table f)
    go (taken tag body rest) p f = by-records (read_records (length rest) (tag_order tag) rest) refl f
      where
        by-records : (q : RecordsRead) → read_records (length rest) (tag_order tag) rest ≡ q → with_strings (tag_order tag) body q ≡ table order T → Reads s order T
        by-records (stop n) c g = absurd (unread≢table g)
        by-records (all rs) c g =
            let orders : tag_order tag ≡ order = cc in
            let tables : record { records = rs; strings = body } ≡ T = cc in
            let t = take_body-taking is_string_tag s bytes p in
            let r = read_records-one (length rest) (tag_order tag) rest t.rest_bytes (omega arith) c in
            record {
              is =
                  t.is
                  ∙ ap₂ (λ (u : ℕ) (v : List ℕ). body_fields u body ++ v) (sym (string-tag tag t.stands)) r.0
                  ∙ (λ i. body_fields (string_tag (orders i)) (tables i).strings ++ record_fields (orders i) (tables i).records);
              whole = subst (λ (U : Table). EveryWhole U.records) tables r.1;
              fits = subst (λ (U : Table). Below word_bound (flat U.records)) tables r.2;
              strings = subst (λ (U : Table). Bytes U.strings) tables t.body_bytes;
            }
