-- One join's list, from the lists that its two ways lead to. Assumes nothing.
use Rattle.std.specs.Prelude.{◌≡◌, refl, Bool, true, ◌||◌, T, ℤ, pos, length, get_or, Float}
use Rattle.std.proofs.Math.Path.{sym, ap, ap₂}
use Rattle.std.proofs.Common.{◌∙◌, subst, length-append}
use Prim.Native.Nat.{ℕ, suc, ◌+◌, ◌-◌, ◌*◌, ◌%◌, ◌^◌, ◌≤◌, ◌<◌}
use native.Mathlib.Omega.{arith}
use Rattle.std.proofs.Math.Bool.{false, not, cond}
use mathlib.Core.List.{List, [], ◌∷◌, ◌++◌, map, map-map}
use Rattle.std.proofs.lemmas.List.{length-map}
use Rattle.std.proofs.Math.ListN.{get_or-map}
use borrow.Author.Tests.{not-true}
use Rattle.lists.specs.Tests.{case, either, holds}
use Rattle.lists.specs.Lists.{◌∈◌, keep_if, range}
use Rattle.real32.specs.Order.{lt_inf}
use Rattle.real32.specs.Small.{huge}
use Rattle.model.specs.Basics.{◌≺◌, ◌≼◌, ◌⊕◌, 0f, nonzero}
use Rattle.model.specs.Path.{with_word}
use Rattle.model.specs.Readings.{Below, on_top, by_way, cheapest}
use Rattle.records.specs.History.{Beside, History, no_history, join_on, tag}
use Rattle.records.specs.Layout.{store, rec_at, is_link_rec, prev_at, frame_at, kept_at, word_at, starts_at, kept_starts_at, kept_phone_at, winner_at, kept_word_at, cost_at, graph_at}
use Rattle.records.specs.Stands.{Stands, top_by}
use Rattle.joins.specs.Walk.{words_to}
use Rattle.joins.specs.Fresh.{tag_each}
use Rattle.histories.specs.declared.Hashed.{Hashed}
use Rattle.histories.specs.Reading.{is_join_at, hashed}
use Rattle.histories.specs.Laws.{end_words, stands_falls}
use Rattle.entries.specs.declared.Entry.{Entry}
use Rattle.entries.specs.declared.Way.{Way}
use Rattle.entries.specs.Entries.{no_entry}
use Rattle.entries.specs.Ways.{by_way as entry_by, way_entries, list_of, Rising}
use Rattle.copy_laws.specs.Ways.{with_words_on}
use Rattle.below.specs.Lists.{below_of}
use Rattle.below.specs.Stored.{via, stands_for, as_below, Decoded, first_at, count_at, list_at}
use Rattle.below.specs.Ways.{hashed_of, OwnWay, KeptWay}
use Rattle.below.specs.Maps.{map_same, range_member}
use Rattle.below.specs.Down.{below_down_on, words_on, to_join_lem, below_to}
use Rattle.below.specs.Rising.{Ascending, Reals, Lows, ascending_at, on_top_ascending, on_top_lows, by_way_ascending, by_way_reals, cost_low, below_ascending, below_lows}
use Rattle.below.specs.Decoding.{list_stands, list_old, list_new, decoded_at}

-- the list of record e's history stands among the entries
pub record Filled (h : ℕ → History) (margin : Float) (cap : ℕ) (lists : List ℕ) (bs : List Below) (e : ℕ) : Type 0 where
  pub low : first_at lists e + count_at lists e ≤ suc (length bs)
  pub is : list_at lists bs e ≡ below_of margin cap (h e)

-- the start's
pub filled_start : (h : ℕ → History) (margin : Float) (cap : ℕ) (lists : List ℕ) (bs : List Below) → h 0 ≡ no_history → Filled h margin cap lists bs 0
unfolding below_of
filled_start h margin cap lists bs e = record { low = omega arith; is = ap (below_of margin cap) (sym e) }

-- more entries change nothing
pub filled_more : (h : ℕ → History) (margin : Float) (cap : ℕ) (lists : List ℕ) (bs cs : List Below) (e : ℕ) → Filled h margin cap lists bs e → Filled h margin cap lists (bs ++ cs) e
filled_more h margin cap lists bs cs e d =
    record { low = let z = length-append bs cs in let y = d.low in omega arith; is = list_old lists bs cs e d.low ∙ d.is }

-- where the list's two numbers are the same
pub filled_same : (h : ℕ → History) (margin : Float) (cap : ℕ) (lists lists' : List ℕ) (bs : List Below) (e : ℕ) → first_at lists' e ≡ first_at lists e → count_at lists' e ≡ count_at lists e
    → Filled h margin cap lists bs e → Filled h margin cap lists' bs e
filled_same h margin cap lists lists' bs e p q d =
    record { low = let y = d.low in omega arith; is = ap₂ (λ (a n : ℕ). map (stands_for bs) (range a n)) p q ∙ d.is }

-- the newest entries are a list
pub filled_new : (h : ℕ → History) (margin : Float) (cap : ℕ) (lists : List ℕ) (bs cs : List Below) (e : ℕ) → first_at lists e ≡ suc (length bs) → count_at lists e ≡ length cs → cs ≡ below_of margin cap (h e)
    → Filled h margin cap lists (bs ++ cs) e
filled_new h margin cap lists bs cs e p q d =
    record { low = let z = length-append bs cs in omega arith; is = ap₂ (λ (a n : ℕ). map (stands_for (bs ++ cs)) (range a n)) p q ∙ list_new bs cs ∙ d }

-- ---- a join's record

-- what the record keeps beside it
abbrev pub beside_at : List ℕ → List ℤ → List Float → ℕ → Beside
beside_at rs ls gs k = record { word = kept_word_at ls k; starts = pos (kept_starts_at rs k); cost = cost_at gs k; graph = graph_at gs k; phone = pos (kept_phone_at rs k); winner = pos (winner_at rs k) }

module _ {rs : List ℕ} {ls : List ℤ} {gs : List Float} {used : ℕ} {h : ℕ → History} (ok : Stands (store rs ls gs) used h) where
  -- its two ways lead to lower records
  pub prev_below : (r : ℕ) → 0 < r → r ≤ used → prev_at rs (r - 1) < r
  unfolding rec_at
  prev_below r l u = let z = (ok.each (r - 1) (omega arith)).prev_low in omega arith

  pub kept_below_lem : (r : ℕ) → 0 < r → r ≤ used → kept_at rs (r - 1) < r
  unfolding rec_at
  kept_below_lem r l u = let z = (ok.each (r - 1) (omega arith)).kept_low in omega arith

  -- the history of a join's record
  pub join_is : (r : ℕ) → 0 < r → r ≤ used → is_join_at rs ls (r - 1) ≡ true
      → h r ≡ join_on (tag (h r) - 1) (frame_at rs (r - 1)) (beside_at rs ls gs (r - 1)) (h (kept_at rs (r - 1))) (h (prev_at rs (r - 1)))
  unfolding rec_at
  join_is r l u j =
      let k = r - 1 in
      let e : suc k ≡ r = omega arith in
      let a : k < used = omega arith in
      let x = ok.each k a in
      let t : tag (h (suc k)) ≡ suc x.number = tag_each (store rs ls gs) used h ok k a in
      let t' : tag (h r) ≡ suc x.number = ap (λ (i : ℕ). tag (h i)) (sym e) ∙ t in
      let g : is_link_rec (rec_at (store rs ls gs) k) ≡ false = not-true (nonzero (word_at ls k) || nonzero (pos (starts_at rs k))) j in
      ap h (sym e) ∙ x.is ∙ ap (λ (b : Bool). top_by b (rec_at (store rs ls gs) k) x.number (h (prev_at rs k)) (h (kept_at rs k))) g ∙
      ap (λ (n : ℕ). join_on n (frame_at rs k) (beside_at rs ls gs k) (h (kept_at rs k)) (h (prev_at rs k))) (let q : x.number ≡ tag (h r) - 1 = omega arith in q)

  -- ---- the two ways

  module _ {hs ns : List ℕ} {xs : List Float} {bs : List Below} (d : Decoded h used hs ns xs bs) where
    -- down a way with these words
    way_is : (w : Way) (ws : List ℤ) → hashed_of w ≡ hashed ws → w.first + w.count ≤ suc (length bs)
        → map (as_below h bs) (way_entries hs ns xs w) ≡ map (by_way w.cost w.graph (via h w.join)) (map (with_words_on ws) (map (stands_for bs) (range w.first w.count)))
    unfolding by_way
    way_is w ws e l =
        map-map (as_below h bs) (entry_by hs ns xs w) (range w.first w.count) ∙
        map_same (λ (i : ℕ). as_below h bs (entry_by hs ns xs w i)) (λ (i : ℕ). by_way w.cost w.graph (via h w.join) (with_words_on ws (stands_for bs i))) (range w.first w.count) one ∙
        sym (ap (map (by_way w.cost w.graph (via h w.join))) (map-map (with_words_on ws) (stands_for bs) (range w.first w.count)) ∙ map-map (by_way w.cost w.graph (via h w.join)) (λ (i : ℕ). with_words_on ws (stands_for bs i)) (range w.first w.count))
      where
        put : Hashed → (key b : Below) → Below
        put x k b = record { hash = (k.hash * x.shift % 2 ^ 64 + x.hash) % 2 ^ 64; len = k.len + x.len; cost = w.cost ⊕ k.cost; graph = w.graph ⊕ k.graph; route = via h w.join ++ b.route }

        one : (i : ℕ) → i ∈ range w.first w.count → as_below h bs (entry_by hs ns xs w i) ≡ by_way w.cost w.graph (via h w.join) (with_words_on ws (stands_for bs i))
        one i m =
            let z = (range_member w.first w.count i m).1 in
            ap (λ (k : Below). put (hashed_of w) k (stands_for bs i)) (sym (decoded_at d i (omega arith))) ∙ ap (λ (x : Hashed). put x (stands_for bs i) (stands_for bs i)) e ∙
            ap (by_way w.cost w.graph (via h w.join)) (sym (words_on ws (stands_for bs i)))

    by_same : (c c' g g' : Float) (v v' : ℕ) (ms ms' : List Below) → c ≡ c' → g ≡ g' → v ≡ v' → ms ≡ ms' → map (by_way c g (via h v)) ms ≡ map (by_way c' g' (via h v')) ms'
    by_same c c' g g' v v' ms ms' p q i j =
        ap (λ (x : Float). map (by_way x g (via h v)) ms) p ∙ ap (λ (x : Float). map (by_way c' x (via h v)) ms) q ∙ ap (λ (x : ℕ). map (by_way c' g' (via h x)) ms) i ∙ ap (map (by_way c' g' (via h v'))) j

    -- costs do not fall along entries that stand for such a list
    rising_of : (es : List Entry) (cs : List Below) → map (as_below h bs) es ≡ cs → Ascending cs → Reals cs → Rising es
    rising_of es cs e s q i j l u =
        let f = as_below h bs in
        let z = subst (λ (l : List Below). (i j : ℕ) → i ≤ j → j < length l → T ((get_or l i (f no_entry)).cost ≼ (get_or l j (f no_entry)).cost)) (sym e) (ascending_at cs s q (f no_entry)) i j l (rw (length-map es f) u) in
        rw (get_or-map f es i no_entry, get_or-map f es j no_entry) at z

    module _ (margin : Float) (cap : ℕ) (lists : List ℕ) (r : ℕ) (low : 0 < r) (few : r ≤ used) where
      -- the own way stands for what is listed below the path on which the join stands
      pub own_stands_lem : (w : Way) (W : OwnWay rs ls used lists r w) → Filled h margin cap lists bs W.end
          → map (as_below h bs) (way_entries hs ns xs w) ≡ map (by_way 0f 0f []) (below_of margin cap (h (prev_at rs (r - 1))))
      own_stands_lem w W F =
          let p = prev_at rs (r - 1) in
          let e = W.end in
          let p-low = prev_below r low few in
          let e-low = W.end_is.low in
          let y = W.first in
          let z = W.count in
          let v = F.low in
          way_is w (words_to h e p) (W.words gs h ok) (omega arith) ∙
          by_same w.cost 0f w.graph 0f w.join 0 _ _ W.cost W.graph W.join
          (ap₂ (λ (ws : List ℤ) (l : List Below). map (with_words_on ws) l) (end_words gs h ok W.end_is) (ap₂ (λ (a n : ℕ). map (stands_for bs) (range a n)) y z ∙ F.is) ∙ sym (below_to ok margin cap p e (omega arith) (omega arith) (W.end_is.is gs h ok)))

      -- none where its cost is above the margin
      pub kept_stands_lem : (w : Way) (W : KeptWay rs ls gs used lists r margin w) → (T (cost_at gs (r - 1) ≼ margin) → Filled h margin cap lists bs W.end)
          → map (as_below h bs) (way_entries hs ns xs w)
          ≡ cond (cost_at gs (r - 1) ≼ margin) (map (by_way (cost_at gs (r - 1)) (graph_at gs (r - 1)) (via h r)) (map (on_top (kept_word_at ls (r - 1))) (below_of margin cap (h (kept_at rs (r - 1)))))) []
      kept_stands_lem w W F = case (either (cost_at gs (r - 1) ≼ margin)) (λ t. within t (F (holds t))) (λ t. let z : w.count ≡ 0 = W.count ∙ ap (λ (c : Bool). cond c (count_at lists W.end) 0) t in rw (t, z))
        where
          p : ℕ
          p = kept_at rs (r - 1)

          e : ℕ
          e = W.end

          v : ℤ
          v = kept_word_at ls (r - 1)

          on_words : (l : List Below) → l ≡ below_of margin cap (h e) → p < r → e ≤ p → map (with_words_on (with_word v (words_to h e p))) l ≡ map (on_top v) (below_of margin cap (h p))
          on_words l q i j =
              ap₂ (λ (ws : List ℤ) (l : List Below). map (with_words_on (with_word v ws)) l) (end_words gs h ok W.end_is) (q ∙ ap (below_of margin cap) (sym (to_join_lem ok p e (omega arith) (omega arith) (W.end_is.is gs h ok)))) ∙
              sym (below_down_on margin cap (tag (h p)) v (h p) (stands_falls ok p (omega arith)))

          within : (cost_at gs (r - 1) ≼ margin) ≡ true → Filled h margin cap lists bs e
              → map (as_below h bs) (way_entries hs ns xs w) ≡ cond (cost_at gs (r - 1) ≼ margin) (map (by_way (cost_at gs (r - 1)) (graph_at gs (r - 1)) (via h r)) (map (on_top v) (below_of margin cap (h p)))) []
          within t G =
              let y = W.first in
              let z : w.count ≡ count_at lists e = W.count ∙ ap (λ (c : Bool). cond c (count_at lists e) 0) t in
              let g = G.low in
              rw t
              (way_is w (with_word v (words_to h e p)) (W.words gs h ok) (omega arith) ∙
              by_same w.cost (cost_at gs (r - 1)) w.graph (graph_at gs (r - 1)) w.join r _ _ W.cost W.graph W.join
              (on_words (map (stands_for bs) (range w.first w.count)) (ap₂ (λ (a n : ℕ). map (stands_for bs) (range a n)) y z ∙ G.is) (kept_below_lem r low few) W.end_is.low))

      -- the join's list
      module _ (own kept : Way) (W : OwnWay rs ls used lists r own) (K : KeptWay rs ls gs used lists r margin kept) (F : Filled h margin cap lists bs W.end)
          (G : T (cost_at gs (r - 1) ≼ margin) → Filled h margin cap lists bs K.end) (j : is_join_at rs ls (r - 1) ≡ true) where
        -- what both ways make is what the definition lists
        pub list_is : map (as_below h bs) (list_of margin cap (way_entries hs ns xs own) (way_entries hs ns xs kept)) ≡ below_of margin cap (h r)
        unfolding below_of
        list_is =
            list_stands h bs margin cap (way_entries hs ns xs own) (way_entries hs ns xs kept) ∙
            ap₂ (λ (a b : List Below). cheapest cap (keep_if (λ (x : Below). not (margin ≺ x.cost)) (a ++ b))) (own_stands_lem own W F)
            (kept_stands_lem kept K G ∙ ap (λ (v : List ℕ). cond (cost_at gs (r - 1) ≼ margin) (map (by_way (cost_at gs (r - 1)) (graph_at gs (r - 1)) v) (map (on_top (kept_word_at ls (r - 1))) (below_of margin cap (h (kept_at rs (r - 1)))))) []) route_is) ∙
            ap (below_of margin cap) (sym (join_is r low few j))
          where
            route_is : via h r ≡ (tag (h r) - 1) ∷ []
            route_is = let e : r ≡ suc (r - 1) = omega arith in ap (via h) e ∙ ap (λ (i : ℕ). (tag (h i) - 1) ∷ []) (sym e)

        module _ (small : T (margin ≺ huge)) where
          -- along both ways costs do not fall
          pub own_rises : Rising (way_entries hs ns xs own)
          own_rises =
              let p = h (prev_at rs (r - 1)) in
              let low-zero = lt_inf 0f tt in
              rising_of (way_entries hs ns xs own) (map (by_way 0f 0f []) (below_of margin cap p)) (own_stands_lem own W F) (by_way_ascending 0f 0f [] low-zero (below_of margin cap p) (below_lows margin small cap p) (below_ascending margin small cap p))
              (by_way_reals 0f 0f [] low-zero (below_of margin cap p) (below_lows margin small cap p))

          pub kept_rises : Rising (way_entries hs ns xs kept)
          kept_rises =
              rising_of (way_entries hs ns xs kept) (taken (cost_at gs (r - 1) ≼ margin)) (kept_stands_lem kept K G) (ascends (cost_at gs (r - 1) ≼ margin) refl) (reals (cost_at gs (r - 1) ≼ margin) refl)
            where
              bs' : List Below
              bs' = below_of margin cap (h (kept_at rs (r - 1)))

              ms : List Below
              ms = map (on_top (kept_word_at ls (r - 1))) bs'

              ms_low : Lows ms
              ms_low = on_top_lows (kept_word_at ls (r - 1)) bs' (below_lows margin small cap (h (kept_at rs (r - 1))))

              taken : Bool → List Below
              taken c = cond c (map (by_way (cost_at gs (r - 1)) (graph_at gs (r - 1)) (via h r)) ms) []

              ascends : (c : Bool) → (cost_at gs (r - 1) ≼ margin) ≡ c → Ascending (taken c)
              ascends true t =
                  by_way_ascending (cost_at gs (r - 1)) (graph_at gs (r - 1)) (via h r) (cost_low margin small (cost_at gs (r - 1)) (holds t)) ms ms_low (on_top_ascending (kept_word_at ls (r - 1)) bs' (below_ascending margin small cap (h (kept_at rs (r - 1)))))
              ascends false t = tt

              reals : (c : Bool) → (cost_at gs (r - 1) ≼ margin) ≡ c → Reals (taken c)
              reals true t = by_way_reals (cost_at gs (r - 1)) (graph_at gs (r - 1)) (via h r) (cost_low margin small (cost_at gs (r - 1)) (holds t)) ms ms_low
              reals false t = λ b m. elim m [ ]
