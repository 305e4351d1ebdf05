-- Record by record: what is counted, and what is left to read.
-- Assumes nothing.
use Prim.Native.Nat.{ℕ, zero, suc, ◌+◌, ◌-◌, ◌≤◌, ◌<◌}
use mathlib.Core.Path.{◌≡◌, refl, sym, ap, ◌∙◌, subst}
use mathlib.Core.List.{List, [], ◌∷◌, ◌++◌, append-nil}
use mathlib.Core.Option.{some}
use native.Mathlib.Omega.{arith}
use lib.ListN.{length, take, drop, length-append, length-drop}
use lib.Seq.{drop-drop}
use Rattle.lists.proofs.Written.{read_records-none, read_records-on}
use Rattle.lists.specs.List.{RecordsRead, stop, all, in_front, read_records}
use Rattle.paper.proofs.bytes.Bytes.{part-rest}
use Rattle.paper.proofs.bytes.Places.{flat_append}
use Rattle.paper.specs.declared.Order.{Order}
use Rattle.paper.specs.rules.Table.{Record, words_of}
use Rattle.paper.specs.rules.Walk.{flat, type_len_of}
use Rattle.taking.specs.Measuring.{RecordsIn}
use Rattle.taking.specs.Taking.{RecordBad, RecordIn, record_then}
use Rattle.totals.proofs.Carried.{later-plain}
use Rattle.totals.specs.Running.{later}
use Rattle.totals.specs.declared.Totals.{Totals}

-- ── records in front of what is read behind them ──

abbrev fronted : List Record → RecordsRead → RecordsRead
fronted [] q = q
fronted (r ∷ rs) q = in_front (some r) (fronted rs q)

fronted-one : (rs : List Record) (r : Record) (q : RecordsRead) → fronted (rs ++ (r ∷ [])) q ≡ fronted rs (in_front (some r) q)
fronted-one [] r q = refl
fronted-one (x ∷ rs) r q = ap (in_front (some x)) (fronted-one rs r q)

fronted-stop : (rs : List Record) (n : ℕ) → fronted rs (stop n) ≡ stop n
fronted-stop [] n = refl
fronted-stop (x ∷ rs) n = ap (in_front (some x)) (fronted-stop rs n)

fronted-all : (rs : List Record) → fronted rs (all []) ≡ all rs
fronted-all [] = refl
fronted-all (x ∷ rs) = ap (in_front (some x)) (fronted-all rs)

-- ── so many are counted ──

pub record Counting (order : Order) (s : List ℕ) (t : Totals) (p : ℕ) : Type 0 where
  pub fuel : ℕ
  pub done : List Record
  pub is : read_records (length s) order s ≡ fronted done (read_records fuel order (drop p s))
  pub enough : length s - p ≤ fuel
  pub inside : p ≤ length s
  pub types : length done ≡ t.types
  pub bytes : type_len_of done ≡ t.bytes
  pub above : t.types + t.bytes ≤ p

pub counting-start : (order : Order) (s : List ℕ) → Counting order s (record { types = 0; bytes = 0 }) 0
counting-start order s =
    record { fuel = length s; done = []; is = refl; enough = omega arith; inside = omega arith; types = refl; bytes = refl; above = omega arith }

module _ {order : Order} {s : List ℕ} {t : Totals} {p : ℕ} (c : Counting order s t p) where
  pub counting-done : length s ≤ p → RecordsIn order s t
  counting-done last =
      record {
        found = c.done;
        is =
            c.is
            ∙ ap (λ (u : List ℕ). fronted c.done (read_records c.fuel order u)) nothing_left
            ∙ ap (fronted c.done) (read_records-none c.fuel order)
            ∙ fronted-all c.done;
        types = c.types;
        bytes = c.bytes;
        inside = omega (arith, c.above, c.inside);
      }
    where
      none_of : (u : List ℕ) → length u ≡ 0 → u ≡ []
      none_of [] e = refl
      none_of (x ∷ u) e = absurd (omega arith)

      nothing_left : drop p s ≡ []
      nothing_left = none_of (drop p s) (omega (arith, length-drop p s))

  module _ (more : p < length s) where
    abbrev rest : List ℕ
    rest = drop p s

    -- one record more, whatever is read behind it
    on : (k : ℕ) → length s - p ≤ suc k → c.fuel ≡ suc k → read_records (length s) order s ≡ fronted c.done (record_then order (read_records k order) rest)
    on k room e =
        c.is
        ∙ ap (λ (n : ℕ). fronted c.done (read_records n order rest)) e
        ∙ ap (fronted c.done) (read_records-on k order rest (omega (arith, length-drop p s)))

    pub counting-bad : {n : ℕ} → RecordBad order (take (length s - p) (drop p s)) n → read_records (length s) order s ≡ stop n
    counting-bad {n} b = go c.fuel refl
      where
        go : (k : ℕ) → c.fuel ≡ k → read_records (length s) order s ≡ stop n
        go zero e = absurd (omega (arith, c.enough))
        go (suc k) e =
            on k (omega (arith, c.enough)) e
            ∙ ap (λ (u : List ℕ). fronted c.done (record_then order (read_records k order) u)) (sym (part-rest s p))
            ∙ ap (fronted c.done) (b.is (read_records k order))
            ∙ fronted-stop c.done n

    module _ {len end : ℕ} (r : RecordIn order (take (length s - p) (drop p s)) len end) where
      pub counting-room : end ≤ length s - p
      counting-room = omega (arith, r.inside, ap length (part-rest s p), length-drop p s)

      pub counting-next : length s < 18446744073709551616 → {u : Totals} → u ≡ later t len → Counting order s u (p + end)
      counting-next fits {u} is = subst (λ (v : Totals). Counting order s v (p + end)) (sym is) (go c.fuel refl)
        where
          room : end ≤ length s - p
          room = counting-room

          sums : ((later t len).types ≡ t.types + 1) × ((later t len).bytes ≡ t.bytes + len)
          sums = later-plain t len (omega (arith, c.above, room, r.above, c.inside)) (omega (arith, c.above, room, r.above, c.inside))

          wider : type_len_of (c.done ++ (r.it ∷ [])) ≡ type_len_of c.done + len
          wider =
              let f = ap length (flat_append c.done (r.it ∷ [])) in
              let l = length-append (flat c.done) (flat (r.it ∷ [])) in
              let n = ap length (append-nil (words_of r.it)) in
              omega (arith, r.long)

          go : (k : ℕ) → c.fuel ≡ k → Counting order s (later t len) (p + end)
          go zero e = absurd (omega (arith, c.enough))
          go (suc k) e =
              let l = length-append c.done (r.it ∷ []) in
              record {
                fuel = k;
                done = c.done ++ (r.it ∷ []);
                is =
                    on k (omega (arith, c.enough)) e
                    ∙ ap (λ (u : List ℕ). fronted c.done (record_then order (read_records k order) u)) (sym (part-rest s p))
                    ∙ ap (fronted c.done) (r.is (read_records k order))
                    ∙ ap (λ (u : List ℕ). fronted c.done (in_front (some r.it) (read_records k order u))) (ap (drop end) (part-rest s p) ∙ drop-drop end p s)
                    ∙ sym (fronted-one c.done r.it (read_records k order (drop (p + end) s)));
                enough = omega (arith, c.enough, room, r.above);
                inside = omega (arith, room, c.inside);
                types = omega (arith, sums.0, c.types);
                bytes = wider ∙ ap (λ (n : ℕ). n + len) c.bytes ∙ sym sums.1;
                above = omega (arith, sums.0, sums.1, c.above, r.above);
              }
