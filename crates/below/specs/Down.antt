-- From any place: the list of the newest join, with the words above it put on. Assumes nothing.
use Rattle.std.specs.Prelude.{◌≡◌, refl, Bool, cond, ℤ, Float, length}
use Rattle.std.proofs.Math.Path.{sym, ap}
use Rattle.std.proofs.Common.{ap₂, ◌∙◌, add-zero, add-suc, lt-ltb, le-ltb}
use Prim.Native.Nat.{ℕ, zero, suc, ◌+◌, ◌*◌, ◌%◌, ◌^◌, ◌≤◌}
use Rattle.std.proofs.Math.Nat.{mod-add-mod}
use native.Mathlib.Omega.{arith}
use Rattle.std.proofs.Math.Bool.{true, false}
use mathlib.Core.List.Memᴰ.{head as here}
use mathlib.Core.List.Memᴰ.{tail as there}
use mathlib.Core.List.{List, [], ◌∷◌, ◌++◌, map, map-map}
use Rattle.lists.specs.Lists.{◌∈◌}
use Rattle.model.specs.Basics.{nonzero}
use Rattle.model.specs.Path.{with_word}
use Rattle.model.specs.Hash.{hash_word, hash_words, shift_past, hash_joined, newest_first}
use Rattle.model.specs.Readings.{Below, on_top, by_way}
use Rattle.records.specs.History.{History, no_history, link_onto, join_on, tag}
use Rattle.records.specs.Layout.{Store, rec_at, is_link_rec}
use Rattle.records.specs.Stands.{Stands, top_by}
use Rattle.joins.specs.Worth.{words_of, above_of}
use Rattle.joins.specs.Walk.{under}
use Rattle.histories.specs.Reading.{join_tag, read_words}
use Rattle.histories.specs.Laws.{Falls, tag_one, stands_falls}
use Rattle.copy_laws.specs.Ways.{with_words_on}
use Rattle.below.specs.Lists.{below_of, to_join}
use Rattle.below.specs.Maps.{map_same}
use Rattle.below.specs.Each.{below_each}

-- ---- every entry's hash is that of some words

below_hashed : (margin : Float) (cap : ℕ) (x : History) (b : Below) → b ∈ below_of margin cap x → (ws : List ℤ) × (b.hash ≡ hash_words ws)
unfolding hash_words on_top by_way
below_hashed margin cap =
    below_each margin cap (λ x b. (ws : List ℤ) × (b.hash ≡ hash_words ws))
    (record { start = ([], refl); link = λ n f w s t b r. on w b (nonzero w) r; own = λ n f x k t b e r. r; kept = λ n f x k t b q e r. on x.word b (nonzero x.word) r })
  where
    on : (w : ℤ) (b : Below) (c : Bool) → (ws : List ℤ) × (b.hash ≡ hash_words ws) → (ws : List ℤ) × ((cond c (record { hash = hash_word w b.hash; len = suc b.len; cost = b.cost; graph = b.graph; route = b.route }) b).hash ≡ hash_words ws)
    on w b true r = (w ∷ r.0, ap (hash_word w) r.1)
    on w b false r = r

stretch_hash : (ws older : List ℤ) (b : Below) → b.hash ≡ hash_words older → (with_words_on ws b).hash ≡ hash_words (ws ++ older)
unfolding with_words_on
stretch_hash ws older b e =
    ap (λ (h : ℕ × ℕ). (b.hash * h.1 % 2 ^ 64 + h.0) % 2 ^ 64) (newest_first ws) ∙ mod-add-mod (b.hash * shift_past ws) (2 ^ 64) (hash_words ws) ∙
    ap (λ (x : ℕ). (x * shift_past ws + hash_words ws) % 2 ^ 64) e ∙ sym (hash_joined ws older)

-- an entry with another key
abbrev keyed : Below → (hash len : ℕ) → Below
keyed b h l = record { hash = h; len = l; cost = b.cost; graph = b.graph; route = b.route }

no_words : (b : Below) (older : List ℤ) → b.hash ≡ hash_words older → with_words_on [] b ≡ b
unfolding with_words_on
no_words b older e = ap₂ (keyed b) (stretch_hash [] older b e ∙ sym e) (add-zero b.len)

one_more : (w : ℤ) (ws : List ℤ) (b : Below) (older : List ℤ) → b.hash ≡ hash_words older → on_top w (with_words_on ws b) ≡ with_words_on (with_word w ws) b
unfolding on_top with_words_on hash_words
one_more w ws b older e = go (nonzero w)
  where
    go : (c : Bool) → cond c (keyed b (hash_word w (with_words_on ws b).hash) (suc (b.len + length ws))) (with_words_on ws b) ≡ with_words_on (cond c (w ∷ ws) ws) b
    go true = ap₂ (keyed b) (ap (hash_word w) (stretch_hash ws older b e) ∙ sym (stretch_hash (w ∷ ws) older b e)) (sym (add-suc b.len (length ws)))
    go false = refl

map_id : {A : Type 0} (f : A → A) (xs : List A) → ((x : A) → x ∈ xs → f x ≡ x) → map f xs ≡ xs
map_id f [] e = refl
map_id f (x ∷ xs) e = ap₂ ◌∷◌ (e x (here refl)) (map_id f xs (λ y m. e y (there m)))

-- ---- the words down to the newest join

join_low : (f : ℕ) (x : History) → Falls f x → join_tag x ≤ f
unfolding join_tag
join_low f no_history d = omega arith
join_low f (link_onto n fr w st t) d = let z = d.0 in omega (arith, join_low n t d.1)
join_low f (join_on n fr b k t) d = d.0

link_words : (n fr : ℕ) (w st : ℤ) (t : History) → Falls n t → read_words true (link_onto n fr w st t) ≡ with_word w (read_words true t)
unfolding join_tag above_of under words_of
link_words n fr w st t d = rw (le-ltb n (join_tag t) (join_low n t d))

join_words : (n fr : ℕ) (b : _) (k t : History) → read_words true (join_on n fr b k t) ≡ []
unfolding join_tag above_of under words_of
join_words n fr b k t = rw (lt-ltb n (suc n) (omega arith))

module _ (margin : Float) (cap : ℕ) where
  on_top_lem : (w : ℤ) (ws : List ℤ) (x : History) → map (on_top w) (map (with_words_on ws) (below_of margin cap x)) ≡ map (with_words_on (with_word w ws)) (below_of margin cap x)
  on_top_lem w ws x =
      map-map (on_top w) (with_words_on ws) (below_of margin cap x) ∙
      map_same (λ b. on_top w (with_words_on ws b)) (with_words_on (with_word w ws)) (below_of margin cap x) (λ b m. let r = below_hashed margin cap x b m in one_more w ws b r.0 r.1)

  nothing_on : (x : History) → map (with_words_on []) (below_of margin cap x) ≡ below_of margin cap x
  nothing_on x = map_id (with_words_on []) (below_of margin cap x) (λ b m. let r = below_hashed margin cap x b m in no_words b r.0 r.1)

  -- of a history whose numbers fall
  pub below_down : (f : ℕ) (x : History) → Falls f x → below_of margin cap x ≡ map (with_words_on (read_words true x)) (below_of margin cap (to_join x))
  unfolding below_of to_join join_tag above_of words_of
  below_down f no_history d = sym (nothing_on no_history)
  below_down f (link_onto n fr w s t) d =
      ap (map (on_top w)) (below_down n t d.1) ∙ on_top_lem w (read_words true t) (to_join t) ∙ ap (λ (ws : List ℤ). map (with_words_on ws) (below_of margin cap (to_join t))) (sym (link_words n fr w s t d.1))
  below_down f (join_on n fr b k t) d = sym (nothing_on (join_on n fr b k t)) ∙ ap (λ (ws : List ℤ). map (with_words_on ws) (below_of margin cap (join_on n fr b k t))) (sym (join_words n fr b k t))

  -- the same with one more word on top
  pub below_down_on : (f : ℕ) (w : ℤ) (x : History) → Falls f x → map (on_top w) (below_of margin cap x) ≡ map (with_words_on (with_word w (read_words true x))) (below_of margin cap (to_join x))
  below_down_on f w x d = ap (map (on_top w)) (below_down f x d) ∙ on_top_lem w (read_words true x) (to_join x)

-- with the hash of the words, as a way has it
pub words_on : (ws : List ℤ) (b : Below)
    → with_words_on ws b ≡ record { hash = (b.hash * shift_past ws % 2 ^ 64 + hash_words ws) % 2 ^ 64; len = b.len + length ws; cost = b.cost; graph = b.graph; route = b.route }
unfolding with_words_on
words_on ws b = ap (λ (h : ℕ × ℕ). keyed b ((b.hash * h.1 % 2 ^ 64 + h.0) % 2 ^ 64) (b.len + length ws)) (newest_first ws)

-- ---- the record of the newest join

module _ {s : Store} {n : ℕ} {h : ℕ → History} (ok : Stands s n h) where
  -- by induction on a bound of the record's number
  join_upto : (b r : ℕ) → r ≤ b → r ≤ n → (e : ℕ) × (e ≤ r) × (to_join (h r) ≡ h e) × (join_tag (h r) ≡ tag (h e))
  unfolding to_join join_tag tag
  join_upto zero zero l u = (0, omega arith, rw ok.none, rw ok.none)
  join_upto (suc b) zero l u = (0, omega arith, rw ok.none, rw ok.none)
  join_upto zero (suc k) l u = absurd (omega arith)
  join_upto (suc b) (suc k) l u =
      let x = ok.each k u in
      rw x.is (go (is_link_rec (rec_at s k)) x.number x.is (let p = x.prev_low in join_upto b (rec_at s k).prev (omega arith) (omega arith)))
    where
      go : (c : Bool) (m : ℕ) → h (suc k) ≡ top_by c (rec_at s k) m (h (rec_at s k).prev) (h (rec_at s k).kept)
          → ((e : ℕ) × (e ≤ (rec_at s k).prev) × (to_join (h (rec_at s k).prev) ≡ h e) × (join_tag (h (rec_at s k).prev) ≡ tag (h e)))
          → (e : ℕ) × (e ≤ suc k) × (to_join (top_by c (rec_at s k) m (h (rec_at s k).prev) (h (rec_at s k).kept)) ≡ h e) × (join_tag (top_by c (rec_at s k) m (h (rec_at s k).prev) (h (rec_at s k).kept)) ≡ tag (h e))
      go true m i r = (r.0, omega (arith, r.1, (ok.each k u).prev_low), r.2, r.3)
      go false m i r = (suc k, omega arith, sym i, ap tag (sym i))

  -- the newest join of record r's history is a record's, or there is none
  pub newest_join : (r : ℕ) → r ≤ n → (e : ℕ) × (e ≤ r) × (to_join (h r) ≡ h e) × (join_tag (h r) ≡ tag (h e))
  newest_join r l = join_upto r r (omega arith) l

  -- the record that has its tag
  pub to_join_lem : (r e : ℕ) → r ≤ n → e ≤ n → tag (h e) ≡ join_tag (h r) → to_join (h r) ≡ h e
  to_join_lem r e l u t =
      let (d, a, i, j) = newest_join r l in
      i ∙ ap h (tag_one ok d e (omega arith) u (sym j ∙ sym t))

  -- what is listed below a record, from the list of its newest join
  pub below_to : (margin : Float) (cap r e : ℕ) → r ≤ n → e ≤ n → tag (h e) ≡ join_tag (h r) → below_of margin cap (h r) ≡ map (with_words_on (read_words true (h r))) (below_of margin cap (h e))
  below_to margin cap r e l u t = below_down margin cap (tag (h r)) (h r) (stands_falls ok r l) ∙ ap (λ (x : History). map (with_words_on (read_words true (h r))) (below_of margin cap x)) (to_join_lem r e l u t)
