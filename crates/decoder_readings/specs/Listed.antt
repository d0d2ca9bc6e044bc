-- The reading list, of stores that a call has left. Assumes nothing.
use Rattle.std.proofs.Math.Path.{refl}
use Rattle.std.proofs.Common.{sym, ◌∙◌, arith}
use Rattle.std.specs.Prelude.{ℕ, ◌-◌, ◌*◌, ◌/◌, ◌≤◌, Bool, List, [], ◌∷◌, ℤ, Float, Result}
use mathlib.Core.List.Memᴰ.{head as here}
use mathlib.Core.List.Memᴰ.{tail as there}
use Rattle.model.specs.Calls.{readings_read, read_call, read_answer, call}
use Rattle.traceback.specs.Best.{walkable_of}
use Rattle.readings.specs.Known.{ranks_known}
use Rattle.listing_laws.specs.Situation.{Situation}
use Rattle.listing.specs.Listed.{scratch, StoresAsk, ListingAsks}
use Rattle.reading_list.specs.Outputs.{Outputs, places_in}
use Rattle.reading_list.specs.Right.{ReadingsAre, ReadingsRight}
use Rattle.decoder.specs.declared.Decoder.{Decoder}
use Rattle.checks.specs.Fit.{Wide}
use Rattle.decoder.specs.Promises.{LeftOf, GapsLeft, holding}
use Rattle.decoder.specs.Keep.{asked_is}
use Rattle.decoder_reads.specs.Reads.{histories_wide, finals_long, best_asks}
use Rattle.refusals.specs.declared.Reason.{Reason}

module _ {tk : List ℕ} {sm : List Float} {rs : List ℕ} {ls : List ℤ} {gs finals : List Float} {d : Decoder} (F : GapsLeft tk sm rs ls gs finals d) where
  abbrev of : LeftOf tk sm rs ls d
  of = let L = F.left in record { gaps = gs; T = F.T; eps = F.eps; places = F.places; g = L.g; c = L.c; l = L.l; fs = L.fs; st = L.st; is = L.is }

  abbrev situation : Situation tk sm finals rs ls gs d.graph.states (1 - d.side) d.used d.keeps d.margin
  situation =
      let L = F.left in
      let R = L.is in
      record {
        g = L.g;
        good = R.fixed.good;
        floats = R.fixed.floats;
        finals = F.finals_are;
        long = finals_long of finals F.finals_are;
        heard = L.fs;
        st = L.st;
        standing = R.standing;
        margin_is = R.margin_is ∙ sym (asked_is d.keeps d.margin);
        h = R.h;
        stands = R.stands;
        shown = R.finished;
      }

  stores_ask : StoresAsk tk sm finals rs ls gs d.graph.states (1 - d.side) d.used d.keeps d.margin
  stores_ask =
      let L = F.left in
      let f = L.is.fixed in
      let asks = best_asks of finals F.finals_are in
      record {
        side = asks.side;
        tokens = asks.tokens;
        sums = asks.sums;
        finals = asks.finals;
        walkable = walkable_of asks;
        gaps = let k = f.stores.store.gaps in let u = L.is.fits in omega arith;
        few = let z = f.states_are in let k = f.good.shape.states_few in omega arith;
        few_records = asks.few;
        situation = situation;
        known = ranks_known L.g f.good f.floats L.fs L.st L.is.standing.active L.is.finished finals F.finals_are asks.finals;
      }

  pub readings_asks : (keys places own heads list lists route history_keys history_skips order kept : ℕ) → Wide d.graph.states (keys ∷ places ∷ own ∷ heads ∷ list ∷ []) → Wide d.cap (lists / 2 ∷ route ∷ history_keys / 2 ∷ history_skips / 2 ∷ [])
      → Wide kept (keys ∷ order ∷ (list - d.graph.states) ∷ [])
      → ListingAsks tk sm finals rs ls gs d.graph.states (1 - d.side) d.used d.keeps d.margin kept (scratch keys places own heads list lists route order) × (d.used * 2 ≤ history_keys) × (d.used * 2 ≤ history_skips)
  readings_asks keys places own heads list lists route history_keys history_skips order kept wide records keeps =
      let u = F.left.is.fits in
      let h = histories_wide of history_keys history_skips (λ k i. records k (there (there i))) in (
        record {
          stores = stores_ask;
          wide = record {
            keys = wide keys (here refl);
            keys_kept = keeps keys (here refl);
            places = wide places (there (here refl));
            own = wide own (there (there (here refl)));
            heads = wide heads (there (there (there (here refl))));
            list = let k = wide list (there (there (there (there (here refl))))) in let j = keeps (list - d.graph.states) (there (there (here refl))) in omega arith;
            lists = let k = records (lists / 2) (here refl) in omega arith;
            route = let k = records route (there (here refl)) in omega arith;
            order = keeps order (there (here refl));
          };
        },
        h.0,
        h.1,
      )

  pub readings_is : (use_final : Bool) (listed max entries kept : ℕ) (o o' : Outputs) (r : Result ℕ Reason)
      → ReadingsRight tk sm finals rs ls gs d.graph.states (1 - d.side) d.used d.keeps d.margin d.frames use_final listed max entries kept o o' r
      → let L = F.left in ReadingsAre (call L.g L.c (holding L.l entries kept) (read_call (readings_read use_final listed max (places_in o))) L.st).answer max o o' r
  unfolding call read_answer
  readings_is use_final listed max entries kept o o' r B = B.answer situation F.left.is.frames_are (holding F.left.l entries kept) (record { below = refl; kept_are = refl })
