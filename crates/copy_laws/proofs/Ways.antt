-- The Rust's form of the lists below joins: `way` hashes the words down to the next join and the factor that shifts past them, and `fill_below` puts each entry of that join's list behind them. It gives the definition's `below`. Assumes nothing.
use Rattle.std.specs.Prelude.{◌≡◌, refl, ℕ, suc, ◌+◌, ◌*◌, ◌%◌, ◌^◌, Bool, true, false, not, cond, List, [], ◌∷◌, ◌++◌, map, length, ℤ, Float}
use Rattle.std.proofs.Common.{sym, ap, ap₂, ◌∙◌, add-zero, add-suc}
use Rattle.std.proofs.Math.Nat.{mod-add-mod}
use mathlib.Core.List.Memᴰ.{head as here}
use mathlib.Core.List.Memᴰ.{tail as there}
use Rattle.lists.specs.Lists.{◌∈◌, keep_if}
use Rattle.model.specs.Basics.{◌≺◌, ◌≼◌, 0f, nonzero}
use Rattle.model.specs.Path.{Merge, Path, empty_path, arc_onto, branch_on, word, with_word}
use Rattle.model.specs.Hash.{hash_word, hash_words, shift_past, hash_joined, newest_first}
use Rattle.model.specs.Readings.{Below, at_start, on_top, by_way, cheapest, below, words_to_join}
use Rattle.copy_laws.proofs.Below.{below_each}
use Rattle.copy_laws.specs.Ways.{down_to_join, way_of, down_way, fill_below, with_words_on, keyed}

-- ---- every entry's hash is that of some words

below_hashed : (margin : Float) (cap : ℕ) (p : Path) (b : Below) → b ∈ below margin cap p → (ws : List ℤ) × (b.hash ≡ hash_words ws)
unfolding hash_words on_top by_way
below_hashed margin cap =
    below_each margin cap (λ p b. (ws : List ℤ) × (b.hash ≡ hash_words ws))
    (record { start = ([], refl); arc = λ x p b r. on (word x) b (nonzero (word x)) r; own = λ m k p b e r. r; kept = λ m k p b q e r. r })
  where
    on : (w : ℤ) (b : Below) (c : Bool) → (ws : List ℤ) × (b.hash ≡ hash_words ws) → (ws : List ℤ) × ((cond c (record { hash = hash_word w b.hash; len = suc b.len; cost = b.cost; graph = b.graph; route = b.route }) b).hash ≡ hash_words ws)
    on w b true r = (w ∷ r.0, ap (hash_word w) r.1)
    on w b false r = r

stretch_hash : (ws older : List ℤ) (b : Below) → b.hash ≡ hash_words older → (with_words_on ws b).hash ≡ hash_words (ws ++ older)
unfolding with_words_on
stretch_hash ws older b e =
    ap (λ (h : ℕ × ℕ). (b.hash * h.1 % 2 ^ 64 + h.0) % 2 ^ 64) (newest_first ws) ∙ mod-add-mod (b.hash * shift_past ws) (2 ^ 64) (hash_words ws) ∙
    ap (λ (x : ℕ). (x * shift_past ws + hash_words ws) % 2 ^ 64) e ∙ sym (hash_joined ws older)

same_key_lem : (b : Below) (h h' l l' : ℕ) → h ≡ h' → l ≡ l' → keyed b h l ≡ keyed b h' l'
same_key_lem b h h' l l' p q = ap₂ (keyed b) p q

no_words : (b : Below) (older : List ℤ) → b.hash ≡ hash_words older → with_words_on [] b ≡ b
unfolding with_words_on
no_words b older e = same_key_lem b _ b.hash _ b.len (stretch_hash [] older b e ∙ sym e) (add-zero b.len)

one_more : (w : ℤ) (ws : List ℤ) (b : Below) (older : List ℤ) → b.hash ≡ hash_words older → on_top w (with_words_on ws b) ≡ with_words_on (with_word w ws) b
unfolding on_top with_words_on hash_words
one_more w ws b older e = go (nonzero w)
  where
    go : (c : Bool) → cond c (keyed b (hash_word w (with_words_on ws b).hash) (suc (b.len + length ws))) (with_words_on ws b) ≡ with_words_on (cond c (w ∷ ws) ws) b
    go true = same_key_lem b (hash_word w (with_words_on ws b).hash) (with_words_on (w ∷ ws) b).hash (suc (b.len + length ws)) (b.len + suc (length ws)) (ap (hash_word w) (stretch_hash ws older b e) ∙ sym (stretch_hash (w ∷ ws) older b e)) (sym (add-suc b.len (length ws)))
    go false = refl

-- ---- both forms are one

map_same : {A B : Type 0} (f h : A → B) (xs : List A) → ((x : A) → x ∈ xs → f x ≡ h x) → map f xs ≡ map h xs
map_same f h [] e = refl
map_same f h (x ∷ xs) e = ap₂ ◌∷◌ (e x (here refl)) (map_same f h xs (λ y m. e y (there m)))

map_map : {A B C : Type 0} (f : B → C) (h : A → B) (xs : List A) → map f (map h xs) ≡ map (λ x. f (h x)) xs
map_map f h [] = refl
map_map f h (x ∷ xs) = ap (λ (l : List _). f (h x) ∷ l) (map_map f h xs)

map_id : {A : Type 0} (f : A → A) (xs : List A) → ((x : A) → x ∈ xs → f x ≡ x) → map f xs ≡ xs
map_id f [] e = refl
map_id f (x ∷ xs) e = ap₂ ◌∷◌ (e x (here refl)) (map_id f xs (λ y m. e y (there m)))

-- From any place: the list of the next join, with the words above it put on.
pub below_down : (margin : Float) (cap : ℕ) (p : Path) → below margin cap p ≡ map (with_words_on (words_to_join p)) (below margin cap (down_to_join p))
unfolding below down_to_join
below_down margin cap empty_path = sym (map_id (with_words_on []) (at_start ∷ []) (λ b m. let r = below_hashed margin cap empty_path b m in no_words b r.0 r.1))
below_down margin cap (arc_onto x p) =
    let bs = below margin cap (down_to_join p) in
    let ws = words_to_join p in
    ap (map (on_top (word x))) (below_down margin cap p) ∙ map_map (on_top (word x)) (with_words_on ws) bs ∙
    map_same (λ b. on_top (word x) (with_words_on ws b)) (with_words_on (with_word (word x) ws)) bs (λ b m. let r = below_hashed margin cap (down_to_join p) b m in one_more (word x) ws b r.0 r.1)
below_down margin cap (branch_on m k p) = sym (map_id (with_words_on []) (below margin cap (branch_on m k p)) (λ b i. let r = below_hashed margin cap (branch_on m k p) b i in no_words b r.0 r.1))

way_right : (margin : Float) (cap : ℕ) (c gr : Float) (via : List ℕ) (p : Path) → map (by_way c gr via) (below margin cap p) ≡ map (down_way (way_of c gr via (words_to_join p))) (below margin cap (down_to_join p))
unfolding by_way with_words_on down_way way_of
way_right margin cap c gr via p = ap (map (by_way c gr via)) (below_down margin cap p) ∙ map_map (by_way c gr via) (with_words_on (words_to_join p)) (below margin cap (down_to_join p))

-- At a join: what the Rust's `fill_below` puts down.
pub fill_right : (margin : Float) (cap : ℕ) (m : Merge) (k p : Path) → below margin cap (branch_on m k p) ≡ fill_below margin cap m k p
unfolding below fill_below
fill_right margin cap m k p =
    ap₂ (λ (owns kepts : List Below). cheapest cap (keep_if (λ (b : Below). not (margin ≺ b.cost)) (owns ++ kepts))) (way_right margin cap 0f 0f [] p)
    (ap (λ (bs : List Below). cond (m.cost ≼ margin) bs []) (way_right margin cap m.cost m.graph (m.number ∷ []) k))
