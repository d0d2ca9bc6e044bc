-- A record adds at most one word: so how many words there can be. Assumes nothing.
use Rattle.std.specs.Prelude.{◌≡◌, refl, Bool, cond, List, ◌∷◌, ℤ, Float}
use Rattle.std.proofs.Common.{ap, arith, lt-ltb, le-ltb}
use Prim.Native.Nat.{ℕ, zero, suc, ◌-◌, ◌≤◌, ◌<◌}
use Rattle.std.proofs.Math.Bool.{true, false}
use Rattle.std.proofs.Math.ListN.{length}
use Rattle.lists.specs.Tests.{case, lt_or_le}
use Rattle.lists.specs.Lists.{◌∈◌}
use Rattle.model.specs.Basics.{nonzero}
use Rattle.model.specs.Path.{with_word}
use Rattle.model.specs.Hash.{hash_word}
use Rattle.model.specs.Readings.{Below, on_top, by_way}
use Rattle.records.specs.History.{History, no_history, link_onto, join_on, tag}
use Rattle.records.specs.Layout.{Store, rec_at, is_link_rec}
use Rattle.records.specs.Stands.{Stands, top_by, tag_upto, stands_less}
use Rattle.joins.specs.Worth.{words_of, above_of}
use Rattle.joins.specs.Walk.{under, words_to}
use Rattle.joins.specs.Fresh.{tag_each}
use Rattle.below.specs.Lists.{below_of}
use Rattle.below.specs.Each.{below_each}

-- at most n records are on any one way down
abbrev pub Deep : (n : ℕ) → History → Type 0
Deep n no_history = Unit {0}
Deep n (link_onto m f w s t) = (i : ℕ) × (i < n) × Deep i t
Deep n (join_on m f b k t) = ((i : ℕ) × (i < n) × Deep i k) × ((i : ℕ) × (i < n) × Deep i t)

on_top_len : (w : ℤ) (b : Below) → (on_top w b).len ≤ suc b.len
unfolding on_top
on_top_len w b = go (nonzero w)
  where
    go : (c : Bool) → (cond c (record { hash = hash_word w b.hash; len = suc b.len; cost = b.cost; graph = b.graph; route = b.route }) b).len ≤ suc b.len
    go true = omega arith
    go false = omega arith

-- as many words, at most
pub deep_len : (margin : Float) (cap n : ℕ) (x : History) → Deep n x → (b : Below) → b ∈ below_of margin cap x → b.len ≤ n
unfolding by_way
deep_len margin cap n x d b m =
    below_each margin cap (λ x b. (n : ℕ) → Deep n x → b.len ≤ n)
    (record {
      start = λ n d. omega arith;
      link = λ m f w s t b r n d. let z = r d.0 d.2 in let y = d.1 in let v = on_top_len w b in omega arith;
      own = λ m f x k t b e r n d. let z = r d.1.0 d.1.2 in let y = d.1.1 in omega arith;
      kept = λ m f x k t b q e r n d. let z = r d.0.0 d.0.2 in let y = d.0.1 in let v = on_top_len x.word b in omega arith;
    }) x b m n d

pub on_top_route : (w : ℤ) (b : Below) → (on_top w b).route ≡ b.route
unfolding on_top
on_top_route w b = go (nonzero w)
  where
    go : (c : Bool) → (cond c (record { hash = hash_word w b.hash; len = suc b.len; cost = b.cost; graph = b.graph; route = b.route }) b).route ≡ b.route
    go true = refl
    go false = refl

-- and as many kept paths
deep_route : (margin : Float) (cap n : ℕ) (x : History) → Deep n x → (b : Below) → b ∈ below_of margin cap x → length b.route ≤ n
unfolding by_way
deep_route margin cap n x d b m =
    below_each margin cap (λ x b. (n : ℕ) → Deep n x → length b.route ≤ n)
    (record {
      start = λ n d. omega arith;
      link = λ m f w s t b r n d. let z = r d.0 d.2 in let y = d.1 in let v = ap length (on_top_route w b) in omega arith;
      own = λ m f x k t b e r n d. let z = r d.1.0 d.1.2 in let y = d.1.1 in omega arith;
      kept = λ m f x k t b q e r n d. let z = r d.0.0 d.0.2 in let y = d.0.1 in let v = ap length (on_top_route x.word b) in omega arith;
    }) x b m n d

word_more : (w : ℤ) (ws : List ℤ) → length (with_word w ws) ≤ suc (length ws)
word_more w ws = go (nonzero w)
  where
    go : (c : Bool) → length (cond c (w ∷ ws) ws) ≤ suc (length ws)
    go true = omega arith
    go false = omega arith

module _ {s : Store} {n : ℕ} {h : ℕ → History} (ok : Stands s n h) where
  -- by induction on a bound of the record's number
  deep_upto : (b r : ℕ) → r ≤ b → r ≤ n → Deep r (h r)
  deep_upto zero zero l u = rw ok.none tt
  deep_upto (suc b) zero l u = rw ok.none tt
  deep_upto zero (suc k) l u = absurd (omega arith)
  deep_upto (suc b) (suc k) l u =
      let x = ok.each k u in
      let p = x.prev_low in
      let q = x.kept_low in
      rw x.is (go (is_link_rec (rec_at s k)) x.number (omega arith) (omega arith) (deep_upto b (rec_at s k).prev (omega arith) (omega arith)) (deep_upto b (rec_at s k).kept (omega arith) (omega arith)))
    where
      go : (c : Bool) (m : ℕ) → (rec_at s k).prev < suc k → (rec_at s k).kept < suc k → Deep (rec_at s k).prev (h (rec_at s k).prev) → Deep (rec_at s k).kept (h (rec_at s k).kept)
          → Deep (suc k) (top_by c (rec_at s k) m (h (rec_at s k).prev) (h (rec_at s k).kept))
      go true m p q d e = ((rec_at s k).prev, p, d)
      go false m p q d e = (((rec_at s k).kept, q, e), ((rec_at s k).prev, p, d))

  -- what is listed below a record has at most as many words as the record's number
  pub below_len : (margin : Float) (cap r : ℕ) → r ≤ n → (b : Below) → b ∈ below_of margin cap (h r) → b.len ≤ r
  below_len margin cap r l = deep_len margin cap r (h r) (deep_upto r r (omega arith) l)

  -- and takes at most as many kept paths
  pub below_route : (margin : Float) (cap r : ℕ) → r ≤ n → (b : Below) → b ∈ below_of margin cap (h r) → length b.route ≤ r
  below_route margin cap r l = deep_route margin cap r (h r) (deep_upto r r (omega arith) l)

  words_upto : (b e r : ℕ) → r ≤ b → r ≤ n → e ≤ n → length (words_to h e r) ≤ r - e
  unfolding above_of words_of under
  words_upto zero e zero l u v = rw ok.none (omega arith)
  words_upto (suc b) e zero l u v = rw ok.none (omega arith)
  words_upto zero e (suc k) l u v = absurd (omega arith)
  words_upto (suc b) e (suc k) l u v =
      let x = ok.each k u in
      let p = x.prev_low in
      let t : tag (h (suc k)) ≡ suc x.number = tag_each s n h ok k u in
      rw x.is
      (case (lt_or_le e (suc k))
      (λ a. let y = ok.ascends e (suc k) a u in let z = words_upto b e (rec_at s k).prev (omega arith) (omega arith) v in above (is_link_rec (rec_at s k)) x.number (omega arith) (omega arith))
      (λ a. let y = tag_upto s e h (stands_less s n e h v ok) (suc k) a in beneath (is_link_rec (rec_at s k)) x.number (omega arith)))
    where
      above : (c : Bool) (m : ℕ) → tag (h e) ≤ m → suc (length (words_to h e (rec_at s k).prev)) ≤ suc k - e → length (words_of (above_of (under (tag (h e))) (top_by c (rec_at s k) m (h (rec_at s k).prev) (h (rec_at s k).kept)))) ≤ suc k - e
      above true m i j = rw (le-ltb m (tag (h e)) i) (let z = word_more (rec_at s k).word (words_to h e (rec_at s k).prev) in omega arith)
      above false m i j = rw (le-ltb m (tag (h e)) i) (omega arith)

      beneath : (c : Bool) (m : ℕ) → m < tag (h e) → length (words_of (above_of (under (tag (h e))) (top_by c (rec_at s k) m (h (rec_at s k).prev) (h (rec_at s k).kept)))) ≤ suc k - e
      beneath true m i = rw (lt-ltb m (tag (h e)) i) (omega arith)
      beneath false m i = rw (lt-ltb m (tag (h e)) i) (omega arith)

  -- as many words as records between, at most
  pub words_few : (e r : ℕ) → r ≤ n → e ≤ n → length (words_to h e r) ≤ r - e
  words_few e r l u = words_upto r e r (omega arith) l u
