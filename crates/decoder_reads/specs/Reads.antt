-- The reads, of stores that a call has left. Assumes nothing.
use Rattle.std.specs.Prelude.{◌≡◌, refl, ℕ, ◌-◌, ◌*◌, ◌/◌, ◌≤◌, Bool, List, [], ◌∷◌, ℤ, length, Float, Option, Result}
use Rattle.std.proofs.Common.{sym, arith}
use Rattle.std.proofs.Math.Path.{ap}
use mathlib.Core.List.Memᴰ.{head as here}
use mathlib.Core.List.Memᴰ.{tail as there}
use Rattle.model.specs.Calls.{best_path_read, alternatives_read, relative_cost_read, num_active_read, read_call, count_answer, cost_answer, read_answer, call}
use Rattle.stores.specs.Rep.{lent, Finished}
use Rattle.traceback.specs.declared.BestPath.{BestPath}
use Rattle.traceback.specs.Table.{Counted, RelativeIs}
use Rattle.traceback.specs.Right.{Parts, places_of, best_as, BestKeeps, ReadAsks, BestPathRight}
use Rattle.readings.specs.Paths.{Outputs, places_in}
use Rattle.readings.specs.Right.{AlternativesAsk, ListedIs, AlternativesRight}
use Rattle.readings.specs.Known.{ranks_known}
use Rattle.checks.specs.Fit.{Wide}
use Rattle.decoder.specs.declared.Decoder.{Decoder}
use Rattle.decoder.specs.Promises.{LeftOf}
use Rattle.refusals.specs.declared.Reason.{Reason}

module _ {tk : List ℕ} {sm : List Float} {rs : List ℕ} {ls : List ℤ} {d : Decoder} (L : LeftOf tk sm rs ls d) where
  pub read_asks : (1 - d.side ≤ 1) × (d.graph.states * 8 ≤ length tk) × (d.graph.states * 4 ≤ length sm)
  read_asks = let f = L.is.fixed in (omega arith, f.stores.tokens, f.stores.sums)

  pub active_is : (r : ℕ) → Counted tk (1 - d.side) d.graph.states r → (call L.g L.c L.l (read_call num_active_read) L.st).answer ≡ count_answer r
  unfolding call read_answer
  active_is r C = ap count_answer (sym (C.is sm L.is.h d.used L.st L.is.finished))

  -- the slices that are kept per record have the places of the records in use
  pub histories_wide : (keys skips : ℕ) → Wide d.cap (keys / 2 ∷ skips / 2 ∷ []) → (d.used * 2 ≤ keys) × (d.used * 2 ≤ skips)
  histories_wide keys skips wide =
      let u = L.is.fits in
      let k = wide (keys / 2) (here refl) in
      let s = wide (skips / 2) (there (here refl)) in
      (omega arith, omega arith)

  module _ (finals : List Float) (finals_are : L.g.finals ≡ finals) where
    pub finals_long : d.graph.states ≤ length finals
    finals_long = let e = ap length finals_are in let k = L.is.fixed.states_are in omega arith

    pub relative_is : (r : Float) → RelativeIs tk sm finals (1 - d.side) d.graph.states r → (call L.g L.c L.l (read_call relative_cost_read) L.st).answer ≡ cost_answer r
    unfolding call read_answer
    relative_is r C = ap cost_answer (sym (C.is L.g finals_are L.is.h d.used L.st L.is.finished))

    finished : Finished (1 - d.side) d.graph.states (lent tk sm rs ls L.gaps) d.used L.st.table
    finished = record { h = L.is.h; stands = L.is.stands; shown = L.is.finished }

    pub best_asks : ReadAsks tk sm finals rs ls d.graph.states (1 - d.side) d.used
    best_asks =
        let f = L.is.fixed in
        let z = f.stores.store in
        let u = L.is.fits in
        record {
          side = omega arith;
          tokens = f.stores.tokens;
          sums = f.stores.sums;
          finals = finals_long;
          records = let k = z.records in omega arith;
          labels = let k = z.labels in omega arith;
          few = let k = f.small in omega arith;
          gaps = L.gaps;
          table = L.st.table;
          finished = finished;
        }

    pub best_is : (use_final : Bool) (m m' : Parts) (r : Result (Option BestPath) Reason) → BestPathRight tk sm finals rs ls d.graph.states (1 - d.side) d.used d.frames use_final m m' r
        → (best_as r m' ≡ (call L.g L.c L.l (read_call (best_path_read use_final (places_of m))) L.st).answer) × BestKeeps r m m'
    unfolding call read_answer
    best_is use_final m m' r B = (B.answer L.g finals_are L.gaps L.st L.is.frames_are finished, B.kept)

    pub alternatives_asks : (keys places order : List ℕ) → Wide d.graph.states (length keys ∷ length places ∷ length order ∷ []) → AlternativesAsk tk sm finals rs ls d.graph.states (1 - d.side) d.used keys places order
    alternatives_asks keys places order wide =
        let f = L.is.fixed in
        record {
          read = best_asks;
          keys_long = wide (length keys) (here refl);
          places_long = wide (length places) (there (here refl));
          order_long = wide (length order) (there (there (here refl)));
          few = let z = f.states_are in let k = f.good.shape.states_few in omega arith;
          known = ranks_known L.g f.good f.floats L.fs L.st L.is.standing.active L.is.finished finals finals_are finals_long;
        }

    pub alternatives_is : (use_final : Bool) (max : ℕ) (o o' : Outputs) (r : Result ℕ Reason) → AlternativesRight tk sm finals rs ls d.graph.states (1 - d.side) d.used d.frames use_final max o o' r
        → ListedIs (call L.g L.c L.l (read_call (alternatives_read use_final max (places_in o))) L.st).answer o o' r
    unfolding call read_answer
    alternatives_is use_final max o o' r B = B.answer L.g finals_are L.gaps L.st L.is.frames_are finished
