-- What reads ask of the decoder's stores and of what is lent to them, and when the program goes on after one. Assumes nothing.
use Rattle.std.specs.Prelude.{◌≡◌, refl, ℕ, ◌-◌, ◌/◌, ◌≤◌, Bool, true, false, cond, ltb, List, [], ◌∷◌, ℤ, Float, length}
use Rattle.std.proofs.Common.{arith, ltb-true, ltb-false}
use mathlib.Core.List.Memᴰ.{head as here}
use mathlib.Core.List.Memᴰ.{tail as there}
use Rattle.stores.specs.Rep.{lent}
use Rattle.arcs.specs.State.{Tables}
use Rattle.checks.specs.Fit.{Wide}
use Rattle.places.specs.Places.{least, kept_places}
use Rattle.decoder.specs.declared.Decoder.{Decoder}
use Rattle.decoder.specs.Promises.{FinalsLeft, RelativeLeft, AlternativesLeft, GapsLeft, ReadingsLeft}
use Rattle.decoder.proofs.Held.{held_asked}
use Rattle.script.specs.declared.Record.{Record}
use Rattle.replay_places.specs.Held.{Held, few_states, few_records}
use Rattle.replay_payloads.specs.declared.Loan.{Loan}
use Rattle.replay_payloads.specs.Lent.{list_fits, all_entries, all_output}

-- the program's own slices have places for 4,096 states and 8,192 records
pub record Small (d : Decoder) : Type 0 where
  pub states : d.graph.states ≤ 4096
  pub records : d.cap ≤ 8192

pub record PathsLeft (tk : List ℕ) (sm : List Float) (rs : List ℕ) (ls : List ℤ) (finals : List Float) (d : Decoder) : Type 0 where
  pub left : FinalsLeft tk sm rs ls finals d
  pub small : Small d

pub record ListLeft (tk : List ℕ) (sm : List Float) (rs : List ℕ) (ls : List ℤ) (gs finals : List Float) (d : Decoder) : Type 0 where
  pub left : GapsLeft tk sm rs ls gs finals d
  pub small : Small d

-- what the reads ask
pub record ReadsLeft (tk : List ℕ) (sm : List Float) (rs : List ℕ) (ls : List ℤ) (gs finals : List Float) (d : Decoder) : Type 0 where
  pub best : FinalsLeft tk sm rs ls finals d
  pub relative : RelativeLeft tk sm finals d
  pub paths : PathsLeft tk sm rs ls finals d
  pub readings : ListLeft tk sm rs ls gs finals d

-- a read goes on where the program lends as much as alternatives (kind 7) and readings (kind 8) ask for
abbrev pub ReadGoes : List ℕ → Record → Loan → Decoder → Bool → Type 0
ReadGoes bs r loan d t = (r.kind ≡ 7 → list_fits bs r d.used ≡ true) → (r.kind ≡ 8 → (all_entries loan ≡ true) × (all_output bs r ≡ true)) → t ≡ true

-- the output's places
pub record OutputHere (words : List ℤ) (frames segments numbers : List ℕ) (costs : List Float) : Type 0 where
  pub words_are : 65536 ≡ length words
  pub frames_are : 16384 ≡ length frames
  pub segments_are : 49152 ≡ length segments
  pub numbers_are : 20480 ≡ length numbers
  pub costs_are : 16384 ≡ length costs

-- a decoder that calls leave can be read
pub reads_next : {T : Tables} {tk : List ℕ} {sm : List Float} {rs : List ℕ} {ls : List ℤ} {gs finals : List Float} {eps : List ℕ} {places : ℕ} {d : Decoder} {k : ℕ} → Held T (lent tk sm rs ls gs) finals eps places k d → ReadsLeft tk sm rs ls gs finals d
reads_next {d = d} H =
    let A = held_asked H.holds in
    let small : Small d = record { states = few_states H; records = few_records H } in
    record { best = A.best; relative = A.relative; paths = record { left = A.best; small = small }; readings = record { left = A.readings.left; small = small } }

-- ---- in slices of as many places

wide_none : {n : ℕ} → Wide n []
wide_none k i = elim i [ ]

wide_more : {n a : ℕ} {ks : List ℕ} → n ≤ a → Wide n ks → Wide n (a ∷ ks)
wide_more l w k (here e) = omega arith
wide_more l w k (there i) = w k i

pub alternatives_lent : {tk : List ℕ} {sm : List Float} {rs : List ℕ} {ls : List ℤ} {finals : List Float} {d : Decoder} (keys places own history_keys history_skips : ℕ) → 8192 ≡ keys → 4096 ≡ places → 4096 ≡ own → 16384 ≡ history_keys → 16384 ≡ history_skips
    → PathsLeft tk sm rs ls finals d → AlternativesLeft tk sm rs ls finals (keys ∷ places ∷ own ∷ []) (history_keys / 2 ∷ history_skips / 2 ∷ []) d
alternatives_lent keys places own history_keys history_skips p q s t u P =
    let n = P.small.states in
    let r = P.small.records in
    record { left = P.left; wide = wide_more (omega arith) (wide_more (omega arith) (wide_more (omega arith) wide_none)); wide_records = wide_more (omega arith) (wide_more (omega arith) wide_none) }

lower : (a b : ℕ) → (least a b ≤ a) × (least a b ≤ b)
lower a b = go (ltb b a) refl
  where
    go : (t : Bool) → ltb b a ≡ t → (cond t b a ≤ a) × (cond t b a ≤ b)
    go true e = let z = ltb-true b a e in (omega arith, omega arith)
    go false e = let z = ltb-false b a e in (omega arith, omega arith)

-- no more kept readings than places for their links
kept_low : (h l s : ℕ) → kept_places h l s ≤ l / 4
kept_low h l s = let a = (lower (least h (l / 4)) (least (s / 2) 0x7fff_fff0)).0 in let b = (lower h (l / 4)).1 in omega arith

pub readings_lent : {tk : List ℕ} {sm : List Float} {rs : List ℕ} {ls : List ℤ} {gs finals : List Float} {d : Decoder} (keys places own heads list lists route history_keys history_skips order hashes links sums : ℕ)
    → 8192 ≡ keys → 4096 ≡ places → 4096 ≡ own → 4096 ≡ heads → 12288 ≡ list → 16384 ≡ lists → 8192 ≡ route → 16384 ≡ history_keys → 16384 ≡ history_skips → 8192 ≡ order → 32768 ≡ links → 16384 ≡ sums
    → ListLeft tk sm rs ls gs finals d
    → ReadingsLeft tk sm rs ls gs finals (keys ∷ places ∷ own ∷ heads ∷ list ∷ []) (lists / 2 ∷ route ∷ history_keys / 2 ∷ history_skips / 2 ∷ []) (kept_places hashes links sums) (keys ∷ order ∷ (list - d.graph.states) ∷ []) d
readings_lent keys places own heads list lists route history_keys history_skips order hashes links sums a b e f g h k m v o q x P =
    let n = P.small.states in
    let r = P.small.records in
    let z = kept_low hashes links sums in
    record {
      left = P.left;
      wide = wide_more (omega arith) (wide_more (omega arith) (wide_more (omega arith) (wide_more (omega arith) (wide_more (omega arith) wide_none))));
      wide_records = wide_more (omega arith) (wide_more (omega arith) (wide_more (omega arith) (wide_more (omega arith) wide_none)));
      wide_kept = wide_more (omega arith) (wide_more (omega arith) (wide_more (omega arith) wide_none));
    }
