-- Longer joins: all bracketings of a list of blobs hand back the same, and what they hand back has the records of all parts, kind by kind.
-- Assumes nothing.
use Prim.Native.Nat.{ℕ, ◌+◌, ◌≤◌}
use mathlib.Core.Path.{◌≡◌, refl, sym, ap, ap₂, ◌∙◌, subst}
use mathlib.Core.Bool.{Bool, cond}
use mathlib.Core.List.{List, [], ◌∷◌, ◌++◌, map, append-nil, append_assoc}
use mathlib.Core.Logic.{◌⊎◌}
use mathlib.Core.Option.{Option, none, some}
use native.Mathlib.Omega.{arith}
use borrow.Author.Tests.{ne_eqb}
use lib.Dec.{eqb}
use lib.ListN.{length, take, drop}
use lib.Seq.{take-append_seam}
use Rattle.paper.proofs.Demands.{join-bytes, join-table}
use Rattle.paper.proofs.gates.Gates.{some≢none}
use Rattle.paper.proofs.gates.Numbers.{Says, join_refusal-number}
use Rattle.paper.proofs.joins.FullJoins.{join_full-any}
use Rattle.paper.proofs.joins.Grouping.{join-assoc}
use Rattle.paper.proofs.joins.Joining.{count-join}
use Rattle.paper.specs.rules.Answer.{Answer}
use Rattle.paper.specs.rules.Join.{raised, join_tables, joined_bytes, join_refusal, join_outcome, join}
use Rattle.paper.specs.rules.Limits.{byte_limit, full_places}
use Rattle.paper.specs.rules.Rename.{rename}
use Rattle.paper.specs.rules.Table.{Record, Table, count, kind_of}
use Rattle.paper.specs.rules.Walk.{table_of}
use Rattle.paper.specs.terms.Fit.{Bytes}
use Rattle.paper.specs.terms.Full.{handed, join_full}
use Rattle.parts.specs.Brackets.{Bracketing, leaf, node, leaves, EachBytes, join_sides, join_along, total, of_kind}

-- ── what a join of full size hands back ──

-- whatever is handed back is the joined bytes, and nothing was refused
pub join_full-made : (out a b : List ℕ) {c : List ℕ} → join_full out a b ≡ some c
    → (join_refusal a b full_places full_places (length out) ≡ none) × (joined_bytes a b ≡ c)
unfolding join_full join
join_full-made out a b {c} e = go (join_refusal a b full_places full_places (length out)) refl (join_refusal-number a b full_places full_places (length out)) e
  where
    go : (o : Option Answer) → join_refusal a b full_places full_places (length out) ≡ o → Says (λ (n : ℕ). (16 ≤ n) × ((n ≤ 20) ⊎ (n ≡ 24))) o
        → handed (join_outcome (joined_bytes a b) full_places full_places out o) ≡ some c
        → (join_refusal a b full_places full_places (length out) ≡ none) × (joined_bytes a b ≡ c)
    go none p h q = let seam = take-append_seam (joined_bytes a b) (drop (length (joined_bytes a b)) out) in (p, cc)
    go (some x) p h q =
        absurd (some≢none (sym q ∙ ap (λ (t : Bool). cond t (some (take x.p out)) none) (ne_eqb x.number 0 (λ e. omega (arith, h.0)))))

-- it is bytes where both parts are
pub bytes-join_full : (out a b : List ℕ) → Bytes a → Bytes b → {c : List ℕ} → join_full out a b ≡ some c → Bytes c
bytes-join_full out a b x y e =
    let made = join_full-made out a b e in
    subst Bytes made.1 (join-bytes a b x y full_places full_places (length out) made.0)

-- and holds the joined table
pub table_of-join_full : (out a b : List ℕ) → Bytes a → Bytes b → {c : List ℕ} → join_full out a b ≡ some c
    → table_of c ≡ join_tables (table_of a) (table_of b)
table_of-join_full out a b x y e =
    let made = join_full-made out a b e in
    ap table_of (sym made.1) ∙ join-table a b x y full_places full_places (length out) made.0

-- ── the join of two sides ──

each_bytes-parts : (bs cs : List (List ℕ)) → EachBytes (bs ++ cs) → EachBytes bs × EachBytes cs
each_bytes-parts [] cs e = (tt, e)
each_bytes-parts (b ∷ bs) cs e = let parts = each_bytes-parts bs cs e.1 in ((e.0, parts.0), parts.1)

-- what a side hands back, if anything, has a property
abbrev Gives : (List ℕ → Type 0) → Option (List ℕ) → Type 0
Gives P none = Unit {0}
Gives P (some b) = P b

module _ (out : List ℕ) where
  join_sides-gives : {P Q R : List ℕ → Type 0} → ((a b c : List ℕ) → P a → Q b → join_full out a b ≡ some c → R c)
      → (x y : Option (List ℕ)) → Gives P x → Gives Q y → Gives R (join_sides out x y)
  join_sides-gives law none y p q = tt
  join_sides-gives law (some a) none p q = tt
  join_sides-gives {P} {Q} {R} law (some a) (some b) p q = go (join_full out a b) refl
    where
      go : (o : Option (List ℕ)) → join_full out a b ≡ o → Gives R o
      go none e = tt
      go (some c) e = law a b c p q e

  join_sides-bytes : (x y : Option (List ℕ)) → Gives Bytes x → Gives Bytes y → Gives Bytes (join_sides out x y)
  join_sides-bytes = join_sides-gives {P = Bytes} {Q = Bytes} {R = Bytes} (λ a b c p q e. bytes-join_full out a b p q e)

  -- nothing comes of a join whose second side hands back nothing
  pub join_sides-none : (x : Option (List ℕ)) → join_sides out x none ≡ none
  join_sides-none none = refl
  join_sides-none (some a) = refl

  join_sides-assoc : length out ≡ byte_limit → (x y z : Option (List ℕ)) → Gives Bytes x → Gives Bytes y → Gives Bytes z
      → join_sides out (join_sides out x y) z ≡ join_sides out x (join_sides out y z)
  join_sides-assoc full none y z p q r = refl
  join_sides-assoc full (some a) none z p q r = refl
  join_sides-assoc full (some a) (some b) none p q r = join_sides-none (join_full out a b)
  join_sides-assoc full (some a) (some b) (some c) p q r = join-assoc out out out out full full full full a b c p q r

  -- ── bracketings ──

  join_along-gives : (t : Bracketing) → EachBytes (leaves t) → Gives Bytes (join_along out t)
  join_along-gives (leaf b) e = e.0
  join_along-gives (node l r) e =
      let parts = each_bytes-parts (leaves l) (leaves r) e in
      join_sides-bytes (join_along out l) (join_along out r) (join_along-gives l parts.0) (join_along-gives r parts.1)

  -- the normal form: the blobs joined one after the other onto what comes before them
  abbrev join_onto : Option (List ℕ) → List (List ℕ) → Option (List ℕ)
  join_onto x [] = x
  join_onto x (b ∷ bs) = join_onto (join_sides out x (some b)) bs

  join_onto-append : (x : Option (List ℕ)) (bs cs : List (List ℕ)) → join_onto x (bs ++ cs) ≡ join_onto (join_onto x bs) cs
  join_onto-append x [] cs = refl
  join_onto-append x (b ∷ bs) cs = join_onto-append (join_sides out x (some b)) bs cs

  -- and so from the first on
  abbrev join_all : List (List ℕ) → Option (List ℕ)
  join_all [] = none
  join_all (b ∷ bs) = join_onto (some b) bs

  module _ (full : length out ≡ byte_limit) where
    -- a bracketing on the second side is its leaves, one after the other
    join_onto-leaves : (x : Option (List ℕ)) (t : Bracketing) → Gives Bytes x → EachBytes (leaves t) → join_sides out x (join_along out t) ≡ join_onto x (leaves t)
    join_onto-leaves x (leaf b) p e = refl
    join_onto-leaves x (node l r) p e =
        let parts = each_bytes-parts (leaves l) (leaves r) e in
        let gives = join_along-gives l parts.0 in
        sym (join_sides-assoc full x (join_along out l) (join_along out r) p gives (join_along-gives r parts.1))
        ∙ join_onto-leaves (join_sides out x (join_along out l)) r (join_sides-bytes x (join_along out l) p gives) parts.1
        ∙ ap (λ (y : Option (List ℕ)). join_onto y (leaves r)) (join_onto-leaves x l p parts.0)
        ∙ sym (join_onto-append x (leaves l) (leaves r))

    -- and so is one on the first side, with more blobs behind it
    join_all-leaves : (t : Bracketing) (bs : List (List ℕ)) → EachBytes (leaves t) → join_all (leaves t ++ bs) ≡ join_onto (join_along out t) bs
    join_all-leaves (leaf b) bs e = refl
    join_all-leaves (node l r) bs e =
        let parts = each_bytes-parts (leaves l) (leaves r) e in
        ap join_all (append_assoc (leaves l) (leaves r) bs)
        ∙ join_all-leaves l (leaves r ++ bs) parts.0
        ∙ join_onto-append (join_along out l) (leaves r) bs
        ∙ ap (λ (y : Option (List ℕ)). join_onto y bs) (sym (join_onto-leaves (join_along out l) r (join_along-gives l parts.0) parts.1))

    -- joining along a bracketing is joining its leaves from the first on
    join_along-all : (t : Bracketing) → EachBytes (leaves t) → join_along out t ≡ join_all (leaves t)
    join_along-all t e = sym (join_all-leaves t [] e) ∙ ap join_all (append-nil (leaves t))

  -- what is handed back is bytes
  pub join_along-bytes : (t : Bracketing) → EachBytes (leaves t) → {b : List ℕ} → join_along out t ≡ some b → Bytes b
  join_along-bytes t e p = subst (Gives Bytes) p (join_along-gives t e)

-- what an output of full size held before does not matter
pub join_along-any : (out out' : List ℕ) → length out ≡ byte_limit → length out' ≡ byte_limit → (t : Bracketing) → join_along out t ≡ join_along out' t
join_along-any out out' full full' (leaf b) = refl
join_along-any out out' full full' (node l r) =
    ap₂ (join_sides out) (join_along-any out out' full full' l) (join_along-any out out' full full' r) ∙ sides (join_along out' l) (join_along out' r)
  where
    sides : (x y : Option (List ℕ)) → join_sides out x y ≡ join_sides out' x y
    sides none y = refl
    sides (some a) none = refl
    sides (some a) (some b) = join_full-any out out' a b full full'

-- ── sums over the leaves ──

pub total-append : {A : Type 0} (f : A → ℕ) (xs ys : List A) → total f (xs ++ ys) ≡ total f xs + total f ys
total-append f [] ys = omega arith
total-append f (x ∷ xs) ys = let more = total-append f xs ys in omega arith

-- a renamed record keeps its info word, so its kind
pub of_kind-join : (k : ℕ) (A B : Table) → of_kind k (join_tables A B) ≡ of_kind k A + of_kind k B
unfolding of_kind join_tables rename
of_kind-join k A B = total-append one A.records (map (raised A) B.records) ∙ ap (λ (n : ℕ). total one A.records + n) (kept B.records)
  where
    one : Record → ℕ
    one r = cond (eqb (kind_of r) k) 1 0

    kept : (rs : List Record) → total one (map (raised A) rs) ≡ total one rs
    kept [] = refl
    kept (r ∷ rs) = ap (λ (n : ℕ). one r + n) (kept rs)

-- whatever is the sum of both in every join of two tables is the sum of all leaves where a bracketing hands back a blob
module _ (measure : Table → ℕ) (sum-join : (A B : Table) → measure (join_tables A B) ≡ measure A + measure B) (out : List ℕ) where
  abbrev sum : Bracketing → ℕ
  sum t = total (λ (s : List ℕ). measure (table_of s)) (leaves t)

  abbrev Summed : ℕ → List ℕ → Type 0
  Summed n b = Bytes b × (measure (table_of b) ≡ n)

  join_along-summed : (t : Bracketing) → EachBytes (leaves t) → Gives (Summed (sum t)) (join_along out t)
  join_along-summed (leaf b) e = (e.0, omega arith)
  join_along-summed (node l r) e =
      let parts = each_bytes-parts (leaves l) (leaves r) e in
      join_sides-gives out {P = Summed (sum l)} {Q = Summed (sum r)} {R = Summed (sum (node l r))}
      (λ a b c p q made. (
        bytes-join_full out a b p.0 q.0 made,
        ap measure (table_of-join_full out a b p.0 q.0 made)
            ∙ sum-join (table_of a) (table_of b)
            ∙ ap₂ ◌+◌ p.1 q.1
            ∙ sym (total-append (λ (s : List ℕ). measure (table_of s)) (leaves l) (leaves r)),
      ))
      (join_along out l) (join_along out r) (join_along-summed l parts.0) (join_along-summed r parts.1)

  pub join_along-total : (t : Bracketing) → EachBytes (leaves t) → {b : List ℕ} → join_along out t ≡ some b
      → measure (table_of b) ≡ total (λ (s : List ℕ). measure (table_of s)) (leaves t)
  join_along-total t e p = (subst (Gives (Summed (sum t))) p (join_along-summed t e)).1

-- ── order 14: longer joins ──

-- all ways of bracketing the same blobs, however many they are, hand back the same bytes, or all hand back nothing
pub join_along-leaves : (out out' : List ℕ) → length out ≡ byte_limit → length out' ≡ byte_limit → (t u : Bracketing) → EachBytes (leaves t)
    → leaves t ≡ leaves u → join_along out t ≡ join_along out' u
join_along-leaves out out' full full' t u e same =
    join_along-all out full t e
    ∙ ap (join_all out) same
    ∙ sym (join_along-all out full u (subst EachBytes same e))
    ∙ join_along-any out out' full full' u

module _ (out : List ℕ) (t : Bracketing) (e : EachBytes (leaves t)) {b : List ℕ} (made : join_along out t ≡ some b) where
  -- where they are joined, the records of each kind number the sum of those in the parts
  pub join_along-kinds : (k : ℕ) → of_kind k (table_of b) ≡ total (λ (s : List ℕ). of_kind k (table_of s)) (leaves t)
  join_along-kinds k = join_along-total (of_kind k) (of_kind-join k) out t e made

  -- and so do all records
  pub join_along-count : count (table_of b) ≡ total (λ (s : List ℕ). count (table_of s)) (leaves t)
  join_along-count = join_along-total count count-join out t e made
