-- What putting a record on gives.
use Rattle.std.specs.Prelude.{◌≡◌, ℕ, suc, ◌+◌, ◌*◌, ◌≤◌, true, ◌||◌, List, [], ◌∷◌, length, ℤ, pos, Float}
use Rattle.std.proofs.Common.{sym, ap₂, subst, add-one}
use Rattle.std.proofs.lemmas.List.Edits.{sets}
use Rattle.model.specs.Basics.{nonzero}
use Rattle.records.specs.declared.Kept.{Kept}
use Rattle.records.specs.History.{History, link_onto, join_on, tag}
use Rattle.records.specs.Layout.{Store, store, beside_in}
use Rattle.records.specs.Stands.{Stands, put}
use Rattle.records.specs.Writes.{link_numbers, join_numbers, link_stands, join_stands}

-- Record number n + 1 is a link with the model's number m: one that is not below any given out. The gaps are not touched.
pub record LinkPut (rs rs' : List ℕ) (ls ls' : List ℤ) (n prev frame : ℕ) (word : ℤ) (starts r : ℕ) : Type 0 where
  pub number : r ≡ suc n
  pub stands : (gs : List Float) (h : ℕ → History) (m : ℕ) → Stands (store rs ls gs) n h → tag (h n) ≤ m → prev ≤ n → (nonzero word || nonzero (pos starts)) ≡ true
      → Stands (store rs' ls' gs) (suc n) (put h (suc n) (link_onto m frame word (pos starts) (h prev)))

pub record JoinPut (s s' : Store) (n prev frame : ℕ) (k : Kept) (r : ℕ) : Type 0 where
  pub number : r ≡ suc n
  pub stands : (h : ℕ → History) (m : ℕ) → Stands s n h → tag (h n) ≤ m → prev ≤ n → k.link ≤ n → Stands s' (suc n) (put h (suc n) (join_on m frame (beside_in k) (h k.link) (h prev)))

-- ---- the stores of a put give it

module _ (rs rs' : List ℕ) (ls ls' : List ℤ) (n p f : ℕ) where
  pub link_put : (w : ℤ) (st : ℕ) → n * 8 + 8 ≤ length rs → n * 2 + 2 ≤ length ls → rs' ≡ sets rs (n * 8) (link_numbers p f st) → ls' ≡ sets ls (n * 2) (w ∷ []) → LinkPut rs rs' ls ls' n p f w st (n + 1)
  link_put w st r l e d =
      record {
        number = add-one n;
        stands = λ gs h m ok new low k. subst (λ (x : Store). Stands x (suc n) (put h (suc n) (link_onto m f w (pos st) (h p)))) (ap₂ (λ (a : List ℕ) (b : List ℤ). store a b gs) (sym e) (sym d))
            (link_stands (store rs ls gs) n p f r l h m ok new low w st k);
      }

  pub join_put : (gs gs' : List Float) (k : Kept) → n * 8 + 8 ≤ length rs → n * 2 + 2 ≤ length ls → n * 2 + 2 ≤ length gs → rs' ≡ sets rs (n * 8) (join_numbers p f k) → ls' ≡ sets ls (n * 2) (pos 0 ∷ k.word ∷ [])
      → gs' ≡ sets gs (n * 2) (k.cost ∷ k.graph ∷ []) → JoinPut (store rs ls gs) (store rs' ls' gs') n p f k (n + 1)
  join_put gs gs' k r l g e d b =
      record {
        number = add-one n;
        stands = λ h m ok new low q. rw (e, d, b) (join_stands (store rs ls gs) n p f r l h m ok new low g k q);
      }
