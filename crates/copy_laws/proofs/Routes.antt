-- The path along a route takes the kept path at a branch of the route and the winner's at any other. A trace says its words. Assumes nothing.
use Rattle.std.specs.Prelude.{◌≡◌, refl, ℕ, suc, Bool, true, false, not, ◌&&◌, cond, ltb, ℤ, pos, Float}
use Rattle.std.proofs.Common.{sym, ap, ◌∙◌}
use mathlib.Core.List.{List, [], ◌∷◌, ◌++◌, append-nil, append_assoc, map, reverse, reverse-cons}
use Rattle.model.specs.Basics.{eqℤ, nonzero}
use Rattle.model.specs.Graph.{Arc}
use Rattle.model.specs.Path.{Merge, Path, empty_path, arc_onto, branch_on, word, with_word, words_back, memℕ}
use Rattle.model.specs.Reads.{Rec, changes_at, resume, recs_on, word_recs, trace}
use Rattle.copy_laws.specs.Walks.{words_along}
use Rattle.copy_laws.proofs.Walks.{words_append}
use Rattle.copy_laws.specs.Routes.{along, arcs, told, said}

pub told-cons : {A : Type 0} (f : Rec → A) (r : Rec) (rs : List Rec) → told f (r ∷ rs) ≡ cond (nonzero r.word) (f r ∷ []) [] ++ told f rs
told-cons f r rs = go (nonzero r.word)
  where
    go : (b : Bool) → map f (cond b (r ∷ word_recs rs) (word_recs rs)) ≡ cond b (f r ∷ []) [] ++ told f rs
    go true = refl
    go false = refl

-- a resumed phone is no word
pub told_resume : {A : Type 0} (f : Rec → A) (n : ℕ) (m : Merge) (rs : List Rec) → told f (resume n m rs) ≡ told f rs
unfolding resume
told_resume f n m rs = go (not (eqℤ m.kept_phone m.phone) && ltb (suc m.frame) n && not (changes_at (suc m.frame) rs))
  where
    go : (b : Bool) → told f (cond b (record { frame = suc m.frame; word = pos 0; phone = m.phone } ∷ rs) rs) ≡ told f rs
    go true = refl
    go false = refl

said_recs : (route : List ℕ) (n : ℕ) (p : Path) (rs : List Rec) → said (recs_on route n p rs) ≡ words_along (along route p) ++ said rs
unfolding recs_on along
said_recs route n empty_path rs = refl
said_recs route n (arc_onto x p) rs =
    let r : Rec = record { frame = x.frame; word = word x; phone = x.starts } in
    let ws = words_along (along route p) in
    said_recs route n p (r ∷ rs) ∙ ap (λ (l : List ℤ). ws ++ l) (told-cons (λ (r : Rec). r.word) r rs) ∙ sym (append_assoc ws (with_word (word x) []) (said rs)) ∙ ap (λ (l : List ℤ). l ++ said rs) (sym (words_append (along route p) (x.arc ∷ [])))
said_recs route n (branch_on m k p) rs = go (memℕ m.number route) (said_recs route n k (resume n m rs)) (said_recs route n p rs)
  where
    go : (b : Bool) → said (recs_on route n k (resume n m rs)) ≡ words_along (along route k) ++ said (resume n m rs) → said (recs_on route n p rs) ≡ words_along (along route p) ++ said rs
        → said (elim b as (λ x. List Rec) [ true ↦ recs_on route n k (resume n m rs) | false ↦ recs_on route n p rs ]) ≡ words_along (elim b as (λ x. List Arc) [ true ↦ along route k | false ↦ along route p ]) ++ said rs
    go true e f = e ∙ ap (λ (l : List ℤ). words_along (along route k) ++ l) (told_resume (λ (r : Rec). r.word) n m rs)
    go false e f = f

-- The words of a trace are the nonzero output labels of the path along its route.
pub trace_words : (n : ℕ) (route : List ℕ) (p : Path) (cost : Float) → (trace n route p cost).words ≡ words_along (along route p)
unfolding trace
trace_words n route p cost = said_recs route n p [] ∙ append-nil (words_along (along route p))

-- ---- the words newest first, as a group has them

reverse_word : (w : ℤ) (ws : List ℤ) → reverse (with_word w ws) ≡ reverse ws ++ with_word w []
reverse_word w ws = go (nonzero w)
  where
    go : (b : Bool) → reverse (cond b (w ∷ ws) ws) ≡ reverse ws ++ cond b (w ∷ []) []
    go true = reverse-cons w ws
    go false = sym (append-nil (reverse ws))

pub own_words_lem : (p : Path) → reverse (words_back p) ≡ words_along (arcs p)
unfolding words_back along
own_words_lem empty_path = refl
own_words_lem (arc_onto x p) = reverse_word (word x) (words_back p) ∙ ap (λ (l : List ℤ). l ++ with_word (word x) []) (own_words_lem p) ∙ sym (words_append (arcs p) (x.arc ∷ []))
own_words_lem (branch_on m k p) = own_words_lem p
