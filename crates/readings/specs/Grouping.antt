-- The definition's alternatives are the paths of the first states of each word list, ranked. Assumes nothing.
use Rattle.std.specs.Prelude.{◌≡◌, refl, true, false, ◌||◌, ℤ, length, Float}
use Rattle.std.proofs.Math.Path.{sym, ap, ap₂, subst}
use Rattle.std.proofs.Common.{◌∙◌, arith, take-take, take_all, length-take-le, get_or-take, lt-ltb, le-ltb}
use Prim.Native.Nat.{ℕ, zero, suc, ◌≤◌, ◌<◌}
use Rattle.std.proofs.Math.Bool.{Bool, cond}
use mathlib.Core.List.Memᴰ.{head as here}
use mathlib.Core.List.Memᴰ.{tail as there}
use mathlib.Core.List.{List, [], ◌∷◌, map, map-map, reverse, reverse-reverse}
use Rattle.std.proofs.Math.ListN.{get_or, take}
use Rattle.lists.specs.Lists.{◌∈◌, any, sort_by, firsts}
use Rattle.lists.specs.Tests.{case, never, lt_or_le, same, holds, is_true}
use Rattle.lists.specs.Members.{at_member, firsts_from, take_from, get_d_any}
use Rattle.model.specs.Basics.{◌⊕◌, 0f, ∞}
use Rattle.model.specs.Graph.{Graph}
use Rattle.model.specs.Ints.{same_words_true, same_words_refl}
use Rattle.model.specs.Path.{Table, words_back, same_words}
use Rattle.model.specs.Passes.{State}
use Rattle.model.specs.Reads.{Ranked, rank_one, rank_from, sooner, Traced as Told, trace, Group, own_group, ranked, grouped, use_finals, alternatives}
use Rattle.tokens.specs.Layout.{held_at, place_in, cost_at, cell_at}
use Rattle.tokens.specs.declared.Token.{Token as Stored}
use Rattle.records.specs.History.{History}
use Rattle.records.specs.Layout.{store}
use Rattle.records.specs.Stands.{Stands}
use Rattle.stores.specs.Shown.{Is, Shown}
use Rattle.stores.specs.Tables.{active_at, stored_is}
use Rattle.histories.specs.Reading.{same_reading}
use Rattle.histories.specs.Laws.{whole_words}
use Rattle.traceback.specs.Traced.{trail_is}
use Rattle.traceback.specs.Answers.{told_by}
use Rattle.traceback.specs.Right.{ReadAsks}
use Rattle.ranking.specs.Ranked.{ranked_at, token_in, RankedIs}
use Rattle.groups.specs.Firsts.{link_at, same_states, FirstsIs}
use Rattle.readings.specs.Paths.{cost_in, trail_at, tolds_of, lesser_of}
use Rattle.readings.specs.Right.{StatesListed}

-- ---- the first of each class

module _ {A B : Type 0} (f : A → B) (like : B → B → Bool) where
  any-map : (x : A) (seen : List A) → any (like (f x)) (map f seen) ≡ any (λ (y : A). like (f x) (f y)) seen
  any-map x [] = refl
  any-map x (y ∷ seen) = ap (λ (b : Bool). like (f x) (f y) || b) (any-map x seen)

  -- of images: the images of the first
  firsts-map : (seen xs : List A) → firsts like (map f seen) (map f xs) ≡ map f (firsts (λ (a b : A). like (f a) (f b)) seen xs)
  firsts-map seen [] = refl
  firsts-map seen (x ∷ xs) = go (firsts-map seen xs) (firsts-map (x ∷ seen) xs) (any (like (f x)) (map f seen)) (any (λ (y : A). like (f x) (f y)) seen) (any-map x seen)
    where
      go : firsts like (map f seen) (map f xs) ≡ map f (firsts (λ (a b : A). like (f a) (f b)) seen xs) → firsts like (map f (x ∷ seen)) (map f xs) ≡ map f (firsts (λ (a b : A). like (f a) (f b)) (x ∷ seen) xs)
          → (p q : Bool) → p ≡ q
          → (elim p as (λ z. List B) [ true ↦ firsts like (map f seen) (map f xs) | false ↦ f x ∷ firsts like (f x ∷ map f seen) (map f xs) ])
          ≡ map f (elim q as (λ z. List A) [ true ↦ firsts (λ (a b : A). like (f a) (f b)) seen xs | false ↦ x ∷ firsts (λ (a b : A). like (f a) (f b)) (x ∷ seen) xs ])
      go again more true true e = again
      go again more true false e = never (sym e)
      go again more false true e = never e
      go again more false false e = ap (λ (l : List B). f x ∷ l) more

module _ {A : Type 0} (like alike : A → A → Bool) where
  any_as : (x : A) (seen : List A) → ((y : A) → y ∈ seen → like x y ≡ alike x y) → any (like x) seen ≡ any (alike x) seen
  any_as x [] e = refl
  any_as x (y ∷ seen) e = ap₂ (λ (a b : Bool). a || b) (e y (here refl)) (any_as x seen (λ z m. e z (there m)))

  -- tests that agree on the members choose the same
  firsts_as : (P : A → Type 0) → ((x y : A) → P x → P y → like x y ≡ alike x y) → (seen xs : List A) → ((x : A) → x ∈ seen → P x) → ((x : A) → x ∈ xs → P x) → firsts like seen xs ≡ firsts alike seen xs
  firsts_as P e seen [] p q = refl
  firsts_as P e seen (x ∷ xs) p q =
      go (firsts_as P e seen xs p (λ y m. q y (there m))) (firsts_as P e (x ∷ seen) xs grown (λ y m. q y (there m)))
      (any (like x) seen) (any (alike x) seen) (any_as x seen (λ y m. e x y (q x (here refl)) (p y m)))
    where
      grown : (y : A) → y ∈ (x ∷ seen) → P y
      grown y (here k) = subst P (sym k) (q x (here refl))
      grown y (there m) = p y m

      go : firsts like seen xs ≡ firsts alike seen xs → firsts like (x ∷ seen) xs ≡ firsts alike (x ∷ seen) xs → (a b : Bool) → a ≡ b
          → ◌≡◌ {A = List A} (elim a as (λ z. List A) [ true ↦ firsts like seen xs | false ↦ x ∷ firsts like (x ∷ seen) xs ]) (elim b as (λ z. List A) [ true ↦ firsts alike seen xs | false ↦ x ∷ firsts alike (x ∷ seen) xs ])
      go again more true true w = again
      go again more true false w = never (sym w)
      go again more false true w = never w
      go again more false false w = ap (λ (l : List A). x ∷ l) more

map_as : {A B : Type 0} (f g : A → B) (xs : List A) → ((x : A) → x ∈ xs → f x ≡ g x) → map f xs ≡ map g xs
map_as f g [] e = refl
map_as f g (x ∷ xs) e = ap₂ (λ a as'. a ∷ as') (e x (here refl)) (map_as f g xs (λ y m. e y (there m)))

take_map : {A B : Type 0} (f : A → B) (n : ℕ) (xs : List A) → take n (map f xs) ≡ map f (take n xs)
take_map f zero [] = refl
take_map f (suc n) [] = refl
take_map f zero (x ∷ xs) = refl
take_map f (suc n) (x ∷ xs) = ap (λ l. f x ∷ l) (take_map f n xs)

-- ---- word lists

reverse_same : (xs ys : List ℤ) → same_words (reverse xs) (reverse ys) ≡ same_words xs ys
reverse_same xs ys =
    same (same_words (reverse xs) (reverse ys)) (same_words xs ys)
    (λ t. holds (subst (λ (l : List ℤ). same_words xs l ≡ true) (sym (reverse-reverse xs) ∙ ap reverse (same_words_true (reverse xs) (reverse ys) (is_true t)) ∙ reverse-reverse ys) (same_words_refl xs)))
    (λ t. holds (subst (λ (l : List ℤ). same_words (reverse xs) (reverse l) ≡ true) (same_words_true xs ys (is_true t)) (same_words_refl (reverse xs))))

-- ---- one state

pub link_shown : {h : ℕ → History} {used : ℕ} {tk : List ℕ} {sm : List Float} {b n : ℕ} {ts : Table} (w : Shown h used tk sm b n ts) (s : ℕ) (l : s < n) (d : held_at tk (place_in b s) ≡ 0 → ⊥) → Is h used (link_at tk b s) (active_at w s l d).token.path
unfolding cell_at
link_shown {h} {used} {tk} {b = b} w s l d =
    let a = active_at w s l d in
    subst (λ (k : ℕ). Is h used k a.token.path) (sym (ap (λ (t : Stored). t.link) (stored_is w a))) a.is.link

module _ (g : Graph) (fs : List Float) (finals : g.finals ≡ fs) (tk : List ℕ) (sm : List Float) (b n : ℕ) (long : n ≤ length fs) (rs : List ℕ) (ls : List ℤ) (gs : List Float) (used : ℕ) (h : ℕ → History) (ok : Stands (store rs ls gs) used h)
    (ts : Table) (shown : Shown h used tk sm b n ts) (counts : Bool) where
  abbrev Held : ℕ → Type 0
  Held s = (s < n) × (held_at tk (place_in b s) ≡ 0 → ⊥)

  abbrev rank_of : ℕ → Ranked
  rank_of s = ranked_at g counts ts s

  link_is : (s : ℕ) → Held s → Is h used (link_at tk b s) (rank_of s).token.path
  unfolding rank_one
  link_is s (l, d) =
      let a = active_at shown s l d in
      subst (λ o. Is h used (link_at tk b s) (token_in o).path) (sym a.at) (link_shown shown s l d)

  cost_is : (s : ℕ) → Held s → (rank_of s).cost ≡ cost_in sm fs b counts s
  unfolding cell_at rank_one
  cost_is s (l, d) =
      let a = active_at shown s l d in
      let e : cost_at sm (place_in b s) ≡ a.stored.cost = ap (λ (t : Stored). t.cost) (stored_is shown a) in
      ap₂ ◌⊕◌ (ap (λ o. (token_in o).cost) a.at ∙ sym a.is.cost ∙ sym e)
      (ap (λ (x : Float). cond counts x 0f) (ap (λ (xs : List Float). get_or xs s ∞) finals ∙ get_d_any fs s ∞ _ (omega arith)))

  told_is : (decoded s : ℕ) → Held s → trace decoded [] (rank_of s).token.path (rank_of s).cost ≡ told_by (trail_at tk rs ls b decoded s) (cost_in sm fs b counts s)
  told_is decoded s d =
      ap (trace decoded [] (rank_of s).token.path) (cost_is s d) ∙ trail_is rs ls gs [] decoded used h ok (λ x k. elim k [ ]) (link_at tk b s) (rank_of s).token.path (cost_in sm fs b counts s) (link_is s d)

  group_same : (s t : ℕ) → Held s → Held t → same_words (own_group (rank_of s)).words (own_group (rank_of t)).words ≡ same_states h tk b false s t
  unfolding same_reading
  group_same s t d e =
      let i = link_is s d in
      let j = link_is t e in
      reverse_same (words_back (rank_of s).token.path) (words_back (rank_of t).token.path)
      ∙ ap₂ same_words (sym (whole_words (rank_of s).token.path i.own)) (sym (whole_words (rank_of t).token.path j.own)) ∙ ap₂ (same_reading false) (sym i.is) (sym j.is)

-- ---- all of them

-- the first of the first
take_lesser : {A : Type 0} (a m : ℕ) (xs : List A) → m ≤ length xs → take a (take m xs) ≡ take (lesser_of a m) xs
take_lesser a m xs h =
    case (lt_or_le m a) (λ l. rw (lt-ltb m a l) (take_all a (take m xs) (let z = length-take-le m xs h in omega arith)))
    (λ l. rw (le-ltb m a l) (take-take a m xs l))

lesser_both : (a m : ℕ) → (lesser_of a m ≤ a) × (lesser_of a m ≤ m)
lesser_both a m = case (lt_or_le m a) (λ l. rw (lt-ltb m a l) (omega arith, omega arith)) (λ l. rw (le-ltb m a l) (omega arith, omega arith))

module _ {tk : List ℕ} {sm fs : List Float} {rs : List ℕ} {ls : List ℤ} {n b used : ℕ} (asks : ReadAsks tk sm fs rs ls n b used) {counts : Bool} {order order' : List ℕ} {all m : ℕ} (r : RankedIs tk sm fs b n counts order all)
    (f : FirstsIs tk rs ls b used false order order' all m) (max : ℕ) (long : n ≤ length order') {k : ℕ} (lesser : k ≡ lesser_of max m) where
  fits_order : m ≤ length order'
  fits_order = let x = r.few in let y = f.few in omega arith

  held_in : (gs : List Float) (h : ℕ → History) → Stands (store rs ls gs) used h → (s : ℕ) → s ∈ take m order' → (s < n) × (held_at tk (place_in b s) ≡ 0 → ⊥)
  held_in gs h ok s k = r.each s (firsts_from (same_states h tk b false) [] (take all order) s (subst (λ (xs : List ℕ). s ∈ xs) (f.is gs h ok) k))

  alternatives_are : (g : Graph) → g.finals ≡ fs → (gs : List Float) (h : ℕ → History) → Stands (store rs ls gs) used h → (st : State) → Shown h used tk sm b n st.table → (use_final : Bool) → counts ≡ use_finals g st use_final
      → alternatives g st use_final max ≡ tolds_of tk rs ls b st.frames (cost_in sm fs b counts) (take (lesser_of max m) order')
  unfolding alternatives grouped ranked
  alternatives_are g q gs h ok st w use_final e =
      let rank : ℕ → Ranked = λ s. ranked_at g counts st.table s in
      let group : ℕ → Group = λ s. own_group (rank s) in
      let like : Group → Group → Bool = λ x y. same_words x.words y.words in
      let tell : Group → Told = λ x. trace st.frames x.route x.token.path x.cost in
      let xs = take all order in
      let a : ranked g st use_final ≡ map rank xs = ap (λ (c : Bool). sort_by sooner (rank_from g c 0 st.table)) (sym e) ∙ sym (r.is g q h used st.table w) in
      let d : grouped g st use_final ≡ map group (take m order') =
      ap (λ (l : List Ranked). firsts like [] (map own_group l)) a ∙ ap (firsts like []) (map-map own_group rank xs) ∙ firsts-map group like [] xs
      ∙ ap (map group)
      (firsts_as (λ (s t : ℕ). like (group s) (group t)) (same_states h tk b false) (λ s. (s < n) × (held_at tk (place_in b s) ≡ 0 → ⊥)) (group_same g fs q tk sm b n asks.finals rs ls gs used h ok st.table w counts) [] xs
      (λ x k. elim k [ ]) r.each ∙ sym (f.is gs h ok)) in
      ap (λ (l : List Group). map tell (take max l)) d ∙ ap (map tell) (take_map group max (take m order')) ∙ map-map tell group (take max (take m order'))
      ∙ map_as (λ s. tell (group s)) (λ s. told_by (trail_at tk rs ls b st.frames s) (cost_in sm fs b counts s)) (take max (take m order'))
      (λ s k. told_is g fs q tk sm b n asks.finals rs ls gs used h ok st.table w counts st.frames s (held_in gs h ok s (take_from max (take m order') s k)))
      ∙ ap (tolds_of tk rs ls b st.frames (cost_in sm fs b counts)) (take_lesser max m order' fits_order)

  pub states_listed : StatesListed tk sm fs rs ls n b used counts max order' k
  states_listed = subst (λ (j : ℕ). StatesListed tk sm fs rs ls n b used counts max order' j) (sym lesser)
      (let c = lesser_both max m in
      record {
        few = c.0;
        long = let x = c.1 in let y = fits_order in omega arith;
        each = λ i l. let F = asks.finished in
            held_in asks.gaps F.h F.stands (get_or order' i 0)
            (subst (λ (s : ℕ). s ∈ take m order') (get_or-take m order' i 0 (let x = c.1 in omega arith)) (at_member (take m order') i 0 (let x = c.1 in let z = length-take-le m order' fits_order in omega arith)));
        is = alternatives_are;
      })
