-- What ties a pair to tables that stand alone: the one standing table that holds both gets the same numbers at the same types from phase 3 on,
-- and is accepted exactly where the pair is.
-- Assumes nothing.
use Prim.Native.Nat.{ℕ, ◌<◌}
use mathlib.Core.Path.{◌≡◌, sym, ap, ◌∙◌, subst}
use mathlib.Core.List.{List}
use mathlib.Core.Option.{Option, none}
use native.Mathlib.Omega.{arith}
use Rattle.pairs.proofs.Acceptance.{early-first, readable-early, report-both, replaced-none}
use Rattle.pairs.proofs.Pairs.{pair_fits, pair-closed, length_over}
use Rattle.pairs.proofs.Replaced.{replaced}
use Rattle.pairs.specs.Lean.{table_over, place_over, lean_table_report, lean_refusal}
use Rattle.pairs.specs.Leaning.{PairReadable}
use Rattle.paper.proofs.bytes.Blobs.{table_of-found}
use Rattle.paper.proofs.bytes.Tables.{length-bytes_of, walk-bytes_of, table_of-bytes_of, bytes_of-facts}
use Rattle.paper.proofs.gates.Acceptance.{readable-phase1, readable-phase2, readable-slices}
use Rattle.paper.specs.rules.Answer.{Answer}
use Rattle.paper.specs.rules.Choice.{or_else}
use Rattle.paper.specs.rules.Gate.{table_report, refusal}
use Rattle.paper.specs.rules.Header.{order_of}
use Rattle.paper.specs.rules.Table.{Table, count}
use Rattle.paper.specs.rules.Walk.{table_of, bytes_of}
use Rattle.paper.specs.terms.Fit.{Bytes}
use Rattle.paper.specs.terms.Good.{Readable}

module _ (base own : List ℕ) (places work : ℕ) (r : PairReadable base own places work) (bytes-base : Bytes base) (bytes-own : Bytes own) where
  -- the one standing table that holds both: the base's records, the own ones, both strings
  abbrev pub standing : List ℕ
  standing = bytes_of (order_of base) (table_over base own)

  pub standing-table : table_of standing ≡ table_over base own
  standing-table = table_of-bytes_of (order_of base) (table_over base own) (pair_fits base own places work r bytes-base bytes-own)

  standing-readable : Readable standing places work
  standing-readable =
      let T : Table = table_over base own in
      let fits = pair_fits base own places work r bytes-base bytes-own in
      record {
        header =
            bytes_of-facts (order_of base) T fits
            (omega (arith, length-bytes_of (order_of base) T, length_over base own places work r bytes-base bytes-own, r.header.short))
            (pair-closed base own places work r);
        section = table_of-found standing T.records (walk-bytes_of (order_of base) T fits);
        enough_places = subst (λ (U : Table). count U < places) (sym standing-table) r.enough_places;
        enough_work = subst (λ (U : Table). count U < work) (sym standing-table) r.enough_work;
      }

  -- of the standing table only phases 3 to 6 have something to say
  standing-refusal : refusal standing places work ≡ table_report (table_over base own)
  unfolding refusal
  standing-refusal =
      (λ i. or_else (readable-phase1 standing places work standing-readable i)
      (or_else (readable-phase2 standing places work standing-readable i)
      (or_else (readable-slices standing places work standing-readable i) (table_report (table_of standing)))))
      ∙ ap table_report standing-table

  -- the same number, at the same type; the place counts in the blob that holds the record
  pub standing-report : lean_refusal base own places work ≡ replaced (place_over base own) (refusal standing places work)
  standing-report =
      early-first base own places work
      ∙ ap (λ (o : Option Answer). or_else o (lean_table_report base own)) (readable-early base own places work r)
      ∙ report-both base own
      ∙ ap (replaced (place_over base own)) (sym standing-refusal)

  -- accepted exactly where the pair is
  pub standing-accepted : lean_refusal base own places work ≡ none → refusal standing places work ≡ none
  standing-accepted e = replaced-none base own (refusal standing places work) (sym standing-report ∙ e)

  pub accepted-standing : refusal standing places work ≡ none → lean_refusal base own places work ≡ none
  accepted-standing e = standing-report ∙ ap (replaced (place_over base own)) e
