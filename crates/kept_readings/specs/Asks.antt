-- What the lists below joins are known to be answers what is asked of a head. Assumes nothing.
use Rattle.std.specs.Prelude.{◌≡◌, ℕ, ◌+◌, ◌-◌, ◌^◌, ◌<◌, ◌≤◌, true, List, length, ℤ, Float}
use Rattle.std.proofs.Common.{ap, arith}
use Rattle.records.specs.History.{History}
use Rattle.records.specs.Layout.{store}
use Rattle.records.specs.Stands.{Stands}
use Rattle.joins.specs.Walk.{words_to}
use Rattle.histories.specs.declared.Hashed.{Hashed}
use Rattle.histories.specs.Reading.{EndIs, HashIs}
use Rattle.entries.specs.Entries.{Room}
use Rattle.below.specs.Stored.{first_at, count_at}
use Rattle.below.specs.Lengths.{words_few}
use Rattle.below.specs.Short.{Short}
use Rattle.kept_readings.specs.Heads.{EntriesAsk}

module _ {rs : List ℕ} {ls : List ℤ} {used : ℕ} (gs : List Float) (h : ℕ → History) (ok : Stands (store rs ls gs) used h) {lists hs ns : List ℕ} {xs : List Float} {next places : ℕ}
    (S : Short lists hs ns xs used next) (R : Room hs ns xs places) (inside : next ≤ places + 1) (few : places < 2 ^ 31 - 2) (low : used < 2 ^ 32) where
  pub below_asks : (l : ℕ) → l ≤ used → (join : ℕ) (above : Hashed) → EndIs rs ls used l true join → HashIs rs ls used l join above → EntriesAsk hs ns xs (first_at lists join) (count_at lists join) above.len
  below_asks l u join above E K =
      let e = E.low in
      let b = S.before join (omega arith) in
      let w : above.len ≡ length (words_to h join l) = ap (λ (x : Hashed). x.len) (K.is gs h ok) in
      let v = words_few ok join l u (omega arith) in
      record {
        room = record { hashes = let z = R.hashes in omega arith; nexts = let z = R.nexts in omega arith; sums = let z = R.sums in omega arith };
        fits = omega arith;
        lens = λ i j. let z = S.short join (omega arith) i j in omega arith;
      }
