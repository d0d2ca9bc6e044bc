-- The comparing walk, one record at a time. Assumes nothing.
use mathlib.Core.Path.{◌≡◌, refl, sym, ap, ◌∙◌}
use Prim.Native.Nat.{ℕ, suc, ◌≤◌, ◌<◌}
use native.Mathlib.Omega.{arith}
use mathlib.Core.Bool.{Bool, true, false, not, ◌&&◌, ◌||◌}
use mathlib.Core.List.{[]}
use lib.Ieee.{Float}
use borrow.Author.Tests.{eq-eqb, lt-ltb, le-ltb}
use Rattle.lists.specs.Tests.{or_neither}
use Rattle.model.specs.Basics.{◌≼◌, nonzero}
use Rattle.model.specs.Path.{with_word}
use Rattle.records.specs.History.{History, no_history, link_onto, join_on, tag}
use Rattle.records.specs.Layout.{Store, Rec, rec_at, is_link_rec, prev_at, word_at}
use Rattle.records.specs.Stands.{Stands, top, top_by, tag_upto, stands_less}
use Rattle.joins.specs.Worth.{numbers, words_of, kept_within_of, above_of, among, apart_from, worth}
use Rattle.joins.specs.Fresh.{numbers_top, skip, tag_each, absent}
use Rattle.joins.specs.Walk.{join_within, under, part_up_to, words_to, MetAt, FitsAbove}

-- ---- one record on top

module _ (r : Rec) (m : ℕ) (t q : History) where
  above_top : (stop : ℕ → Bool) → stop m ≡ false → above_of stop (top r m t q) ≡ top r m (above_of stop t) q
  unfolding above_of
  above_top stop e = go (is_link_rec r)
    where
      go : (b : Bool) → above_of stop (top_by b r m t q) ≡ top_by b r m (above_of stop t) q
      go true = simp e
      go false = simp e

  words_top : words_of (top r m t q) ≡ with_word r.word (words_of t)
  unfolding words_of
  words_top = go (is_link_rec r) refl
    where
      go : (b : Bool) → is_link_rec r ≡ b → words_of (top_by b r m t q) ≡ with_word r.word (words_of t)
      go true e = refl
      go false e = simp (or_neither (nonzero r.word) (nonzero r.starts) e).0

  kept_top : (slack : Float) → kept_within_of slack (top r m t q) ≡ (join_within slack r || kept_within_of slack t)
  unfolding kept_within_of
  kept_top slack = go (is_link_rec r)
    where
      go : (b : Bool) → kept_within_of slack (top_by b r m t q) ≡ ((not b && (r.beside.cost ≼ slack)) || kept_within_of slack t)
      go true = refl
      go false = refl

-- ---- where a history stops

-- at itself
apart_self : (t : History) → apart_from t t ≡ no_history
unfolding above_of among numbers
apart_self no_history = refl
apart_self (link_onto n f w st t) = simp (eq-eqb n n refl)
apart_self (join_on n f b k t) = simp (eq-eqb n n refl)

-- at once, where its newest number is below
part_none : (k : ℕ) (t : History) → tag t ≤ k → above_of (under k) t ≡ no_history
unfolding above_of under tag
part_none k no_history l = refl
part_none k (link_onto n f w st t) l = simp (lt-ltb n k l)
part_none k (join_on n f b q t) l = simp (lt-ltb n k l)

-- record m is where the two meet
pub record MeetAt (h : ℕ → History) (won lost m : ℕ) : Type 0 where
  pub won_part : apart_from (h lost) (h won) ≡ part_up_to h m won
  pub lost_part : apart_from (h won) (h lost) ≡ part_up_to h m lost

-- ---- one record of a store

module _ (s : Store) (n : ℕ) (h : ℕ → History) (ok : Stands s n h) where
  module _ (k : ℕ) (l : k < n) where
    abbrev own : ℕ
    own = (ok.each k l).number

    abbrev on : History → History
    on t = top (rec_at s k) own t (h (rec_at s k).kept)

    own_above : (j : ℕ) → j ≤ k → tag (h j) ≤ own
    own_above j a = omega (arith, tag_each s n h ok k l, ok.ascends j (suc k) (omega arith) l)

    part_on : (stop : ℕ → Bool) → stop own ≡ false → above_of stop (h (suc k)) ≡ on (above_of stop (h (rec_at s k).prev))
    part_on stop e = rw (ok.each k l).is (above_top (rec_at s k) own (h (rec_at s k).prev) (h (rec_at s k).kept) stop e)

    part_to : (m : ℕ) → m ≤ k → part_up_to h m (suc k) ≡ on (part_up_to h m (rec_at s k).prev)
    unfolding under
    part_to m a = part_on (under (tag (h m))) (le-ltb own (tag (h m)) (own_above m a))

    apart_on : (b : ℕ) → b ≤ k → apart_from (h b) (h (suc k)) ≡ on (apart_from (h b) (h (rec_at s k).prev))
    apart_on b a = part_on (among (numbers (h b))) (absent s n h ok b own (omega arith) (own_above b a))

    -- the other side is the same above a later record and above the one before it
    apart_off : (b : ℕ) → b ≤ k → apart_from (h (suc k)) (h b) ≡ apart_from (h (rec_at s k).prev) (h b)
    apart_off b a = rw ((ok.each k l).is, numbers_top) (skip own (numbers (h (rec_at s k).prev)) (h b) (absent s n h ok b own (omega arith) (own_above b a)))

    words_on : (m : ℕ) → m ≤ k → words_to h m (suc k) ≡ with_word (rec_at s k).word (words_to h m (rec_at s k).prev)
    words_on m a = ap words_of (part_to m a) ∙ words_top (rec_at s k) own (part_up_to h m (rec_at s k).prev) (h (rec_at s k).kept)

    kept_on : (slack : Float) (b : ℕ) → b ≤ k
        → kept_within_of slack (apart_from (h b) (h (suc k))) ≡ (join_within slack (rec_at s k) || kept_within_of slack (apart_from (h b) (h (rec_at s k).prev)))
    kept_on slack b a = ap (kept_within_of slack) (apart_on b a) ∙ kept_top (rec_at s k) own (apart_from (h b) (h (rec_at s k).prev)) (h (rec_at s k).kept) slack

    meets_on : (b m : ℕ) → b ≤ k → m ≤ k → MeetAt h (rec_at s k).prev b m → MeetAt h (suc k) b m
    meets_on b m a c e = record { won_part = apart_on b a ∙ ap on e.won_part ∙ sym (part_to m c); lost_part = apart_off b a ∙ e.lost_part }

  pub words_none : (m r : ℕ) → m ≤ n → r ≤ m → words_to h m r ≡ []
  unfolding words_of
  words_none m r a b = rw (part_none (tag (h m)) (h r) (tag_upto s m h (stands_less s n m h a ok) r b))

-- the words from record k + 1 down, as the code reads it
pub words_at : {s : Store} {n : ℕ} {h : ℕ → History} (ok : Stands s n h) (k : ℕ) {q : ℕ} (m : ℕ) → q ≡ suc k → k < n → m ≤ k
    → words_to h m q ≡ with_word (word_at s.labels k) (words_to h m (prev_at s.records k))
unfolding rec_at
words_at {s} {n} {h} ok k m e l a = rw e (words_on s n h ok k l m a)

-- ---- the walk to the meeting, as the code has it

-- From `won` and `lost` down to a and b: what was passed shares nothing and keeps nothing that fits.
pub record Walked (s : Store) (n : ℕ) (slack : Float) (won lost a b : ℕ) : Type 0 where
  pub won_low : a ≤ n
  pub lost_low : b ≤ n
  pub kept : (h : ℕ → History) → Stands s n h → kept_within_of slack (apart_from (h won) (h lost)) ≡ kept_within_of slack (apart_from (h a) (h b))
  pub meets : (h : ℕ → History) → Stands s n h → (m : ℕ) → m ≤ a → m ≤ b → MeetAt h a b m → MeetAt h won lost m

turned : {h : ℕ → History} {a b m : ℕ} → MeetAt h a b m → MeetAt h b a m
turned e = record { won_part = e.lost_part; lost_part = e.won_part }

pub walked_none : (s : Store) (n : ℕ) (slack : Float) (won lost : ℕ) → won ≤ n → lost ≤ n → Walked s n slack won lost won lost
walked_none s n slack won lost a b = record { won_low = a; lost_low = b; kept = λ h ok. refl; meets = λ h ok m c d e. e }

-- a record's number is k + 1, and p the one before it
module _ {s : Store} {n : ℕ} {slack : Float} {won lost a b : ℕ} (k : ℕ) where
  module _ {p : ℕ} (low : (j : ℕ) → j < n → prev_at s.records j ≤ j) (e : p ≡ prev_at s.records k) where
    pub walked_won : a ≡ suc k → b < a → Walked s n slack won lost a b → Walked s n slack won lost p b
    unfolding rec_at
    walked_won q l w' =
        let w : Walked s n slack won lost (suc k) b = rw q at w' in
        let u = w.won_low in
        let d = low k u in
        record {
          won_low = omega arith;
          lost_low = w.lost_low;
          kept = λ h ok. w.kept h ok ∙ ap (kept_within_of slack) (rw e (apart_off s n h ok k u b (omega arith)));
          meets = λ h ok m c v M. w.meets h ok m (omega arith) v (meets_on s n h ok k u b m (omega arith) (omega arith) (rw e at M));
        }

    pub walked_lost : b ≡ suc k → a < b → join_within slack (rec_at s k) ≡ false → Walked s n slack won lost a b → Walked s n slack won lost a p
    unfolding rec_at
    walked_lost q l f w' =
        let w : Walked s n slack won lost a (suc k) = rw q at w' in
        let u = w.lost_low in
        let d = low k u in
        record {
          won_low = w.won_low;
          lost_low = omega arith;
          kept = λ h ok. w.kept h ok ∙ kept_on s n h ok k u slack a (omega arith) ∙ rw (f, e);
          meets = λ h ok m c v M. w.meets h ok m c (omega arith) (turned (meets_on s n h ok k u a m (omega arith) (omega arith) (turned (rw e at M))));
        }

  pub walked_fits : b ≡ suc k → a < b → join_within slack (rec_at s k) ≡ true → Walked s n slack won lost a b → FitsAbove s n won lost slack
  unfolding worth
  walked_fits q l f w' =
      let w : Walked s n slack won lost a (suc k) = rw q at w' in
      record { worth_is = λ h over ok. rw (w.kept h ok, kept_on s n h ok k w.lost_low slack a (omega arith), f) }

pub walked_met : {s : Store} {n : ℕ} {slack : Float} {won lost a b : ℕ} → a ≡ b → Walked s n slack won lost a b → MetAt s n won lost slack a
unfolding worth kept_within_of
walked_met {a = a} q w =
    record {
      low = w.won_low;
      worth_is = λ h over ok.
          let z = apart_self (h a) in
          let e = part_none (tag (h a)) (h a) (omega arith) in
          let M = w.meets h ok a (omega arith) (omega arith) (rw (← q) (record { won_part = z ∙ sym e; lost_part = z ∙ sym e })) in
          rw (w.kept h ok, ← q, z, M.won_part, M.lost_part);
    }
