-- The own groups, for a situation: their states are active, their keys are the hashes of their words, and no two have the same words. Assumes nothing.
use Rattle.std.specs.Prelude.{◌≡◌, ℕ, zero, suc, ◌≤◌, ◌<◌, Bool, false, List, [], ◌∷◌, reverse, ℤ, length, get_or, take, Float}
use Rattle.std.proofs.Common.{sym, ap, ap₂, ◌∙◌, subst, arith, length-take-le, get_or-take}
use Rattle.std.proofs.lemmas.List.{reverse-reverse}
use Rattle.lists.specs.Tests.{case, never, lt_or_le}
use Rattle.lists.specs.Members.{at_member}
use Rattle.lists.specs.Firsts.{Apart, firsts_are}
use Rattle.model.specs.Path.{words_back}
use Rattle.model.specs.Hash.{hash_words, hash_fits}
use Rattle.model.specs.Readings.{Below}
use Rattle.copy_laws.proofs.Labels.{words_alike}
use Rattle.records.specs.History.{tag}
use Rattle.joins.specs.Walk.{words_to}
use Rattle.histories.specs.Reading.{read_words, key_of, KeyIs}
use Rattle.histories.specs.Laws.{end_words, whole_words}
use Rattle.ranking.specs.Ranked.{RankedIs}
use Rattle.groups.specs.Firsts.{link_at, same_states, FirstsIs}
use Rattle.merged.specs.Twins.{own_words, words_in}
use Rattle.listing_laws.specs.Situation.{Situation, Held}
use Rattle.listing_laws.specs.Alike.{at_front}
use Rattle.listing_laws.specs.Owns.{rank_in, group_in, link_in, group_same, own_held}
use Rattle.listing_laws.specs.Words.{own_words_are}
use Rattle.listing.specs.declared.Ranked.{Ranked}
use Rattle.listing.specs.Listed.{OwnListed, ItemHeld}

-- of two that are apart
apart_at : (same : ℕ → ℕ → Bool) (xs : List ℕ) → Apart same xs → (i j : ℕ) → i < j → j < length xs → same (get_or xs j 0) (get_or xs i 0) ≡ false
apart_at same [] a i j l u = absurd (omega arith)
apart_at same (x ∷ xs) a zero zero l u = absurd (omega arith)
apart_at same (x ∷ xs) a zero (suc j) l u = a.0 (get_or xs j 0) (at_member xs j 0 (omega arith))
apart_at same (x ∷ xs) a (suc i) zero l u = absurd (omega arith)
apart_at same (x ∷ xs) a (suc i) (suc j) l u = apart_at same xs a.1 i j (omega arith) (omega arith)

key_whole : (e : ℕ) (ws : List ℤ) → e ≡ 0 → key_of e ws ≡ hash_words ws
key_whole e ws z = ap (λ (k : ℕ). key_of k ws) z ∙ (let l = hash_fits ws in omega arith)

-- no more than there are states
pub few_own : {tk : List ℕ} {sm fs : List Float} {rs : List ℕ} {ls : List ℤ} {n b used : ℕ} {counts : Bool} {heads own : List ℕ} {o : Ranked} → OwnListed tk sm fs rs ls b n used counts heads own o → o.own ≤ n
few_own O = let x = O.firsts.few in let y = O.ranked.few in omega arith

-- an active state can be read as an item
pub own_item : {tk : List ℕ} {n b used : ℕ} {bs : List Below} {khs kns : List ℕ} {kxs : List Float} → n ≤ 65_535 → (s : ℕ) → Held tk b n s → ItemHeld tk b n used bs khs kns kxs s
own_item few s d = let l = d.0 in record { own = λ u. d; room = λ u. absurd (omega arith); kept = λ u. absurd (omega arith); entry = λ u. absurd (omega arith); route = λ u. absurd (omega arith) }

module _ {tk : List ℕ} {sm fs : List Float} {rs : List ℕ} {ls : List ℤ} {gs : List Float} {n b used : ℕ} {keeps : Bool} {margin : Float} (S : Situation tk sm fs rs ls gs n b used keeps margin) (counts : Bool) where
  own_back : (s : ℕ) → Held tk b n s → own_words rs ls tk b s ≡ words_back (rank_in S counts s).token.path
  own_back s d = sym (reverse-reverse (own_words rs ls tk b s)) ∙ ap reverse (sym (own_words_are S counts s d)) ∙ reverse-reverse (words_back (rank_in S counts s).token.path)

  -- the key of a whole reading
  pub own_keyed : (s : ℕ) → Held tk b n s → (k : ℕ) → KeyIs rs ls used (link_at tk b s) false k → k ≡ hash_words (own_words rs ls tk b s)
  own_keyed s d k K =
      let p = (rank_in S counts s).token.path in
      let i = link_in S counts s d in
      let E = K.end in
      let t : tag (S.h K.e) ≡ 0 = E.is gs S.h S.stands in
      let low = E.low in
      let il = i.low in
      let z : K.e ≡ 0 = case (lt_or_le 0 K.e) (λ l. let y = S.stands.ascends 0 K.e l (omega arith) in absurd (omega arith)) (λ l. omega arith) in
      K.is gs S.h S.stands ∙ key_whole K.e (words_to S.h K.e (link_at tk b s)) z
      ∙ ap hash_words (end_words gs S.h S.stands E ∙ ap (read_words false) i.is ∙ whole_words p i.own ∙ sym (own_back s d))

  module _ {order : List ℕ} {all : ℕ} (R : RankedIs tk sm fs b n counts order all) {before own : List ℕ} {m : ℕ} (copied : take all before ≡ take all order) (F : FirstsIs tk rs ls b used false before own all m) (room : m ≤ length own) where
    -- each is of an active state
    pub at_held : (p : ℕ) → p < m → Held tk b n (get_or own p 0)
    at_held p l = own_held S counts R copied F (get_or own p 0) (at_front own m p room l)

    other_words : (p q : ℕ) → p < q → q < m → words_in rs ls tk b own q ≡ words_in rs ls tk b own p → ⊥
    other_words p q l u e =
        let z = length-take-le m own room in
        let x = get_or own q 0 in
        let y = get_or own p 0 in
        let dx = at_held q u in
        let dy = at_held p (omega arith) in
        let a : Apart (same_states S.h tk b false) (take m own) = subst (Apart (same_states S.h tk b false)) (sym (F.is gs S.h S.stands)) (firsts_are (same_states S.h tk b false) [] (take all before)).apart in
        let w : (group_in S counts x).words ≡ (group_in S counts y).words = ap reverse (sym (own_back x dx) ∙ e ∙ own_back y dy) in
        never
        (sym (ap₂ (same_states S.h tk b false) (sym (get_or-take m own q 0 u)) (sym (get_or-take m own p 0 (omega arith))) ∙ apart_at (same_states S.h tk b false) (take m own) a p q l (omega arith))
        ∙ sym (group_same S counts x y dx dy) ∙ words_alike (group_in S counts x).words (group_in S counts y).words w)

    -- and has words of its own
    pub own_apart : (p q : ℕ) → p < m → q < m → words_in rs ls tk b own p ≡ words_in rs ls tk b own q → p ≡ q
    own_apart p q l u e = case (lt_or_le p q) (λ a. absurd (other_words p q a u (sym e))) (λ a. case (lt_or_le q p) (λ c. absurd (other_words q p c l e)) (λ c. omega arith))
