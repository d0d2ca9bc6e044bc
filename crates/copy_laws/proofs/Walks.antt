-- Paths as document 01 has them: lists of arcs, the first from the start state, each next from where the last ended; their words and their sums. Assumes nothing.
use Rattle.std.specs.Prelude.{◌≡◌, refl, ℕ, suc, Bool, true, false, cond, length, Float}
use Rattle.std.proofs.Common.{sym, ap, ◌∙◌, subst, arith, length-append}
use mathlib.Core.List.{List, [], ◌∷◌, ◌++◌, append-nil, map, map-append, tail}
use Rattle.std.proofs.lemmas.Bool.{not-true}
use Rattle.lists.specs.Lists.{◌∈◌, keep_if}
use Rattle.lists.specs.Count.{count-append}
use Rattle.model.specs.Basics.{◌⊕◌, 0f, nonzero}
use Rattle.model.specs.Graph.{Graph, Arc, arcs_of, emits}
use Rattle.model.specs.Path.{Token}
use Rattle.model.specs.Arrive.{Pass, emitting, nonemitting, takes, total}
use Rattle.copy_laws.specs.Walks.{Heard, Leads, emitted, Walk, words_along, emitting_total, first_frame, sum_from, sum_of, weights_from, heard_by}

-- ---- two stretches, one after the other

pub leads-append : (g : Graph) (s : ℕ) (route more : List Arc) (u t : ℕ) → Leads g s route u → Leads g u more t → Leads g s (route ++ more) t
leads-append g s [] more u t l k = subst (λ (i : ℕ). Leads g i more t) (sym l) k
leads-append g s (a ∷ route) more u t l k = (l.0, leads-append g a.target route more u t l.1 k)

pub leads_split : (g : Graph) (s : ℕ) (route more : List Arc) (t : ℕ) → Leads g s (route ++ more) t → (u : ℕ) × Leads g s route u × Leads g u more t
leads_split g s [] more t l = (s, refl, l)
leads_split g s (a ∷ route) more t l = let (u, p, q) = leads_split g a.target route more t l.1 in (u, (l.0, p), q)

pub keep_append : {A : Type 0} (p : A → Bool) (xs ys : List A) → keep_if p (xs ++ ys) ≡ keep_if p xs ++ keep_if p ys
keep_append p [] ys = refl
keep_append p (x ∷ xs) ys = go (p x) (keep_append p xs ys)
  where
    go : (b : Bool) → keep_if p (xs ++ ys) ≡ keep_if p xs ++ keep_if p ys → cond b (x ∷ keep_if p (xs ++ ys)) (keep_if p (xs ++ ys)) ≡ cond b (x ∷ keep_if p xs) (keep_if p xs) ++ keep_if p ys
    go true e = ap (λ (l : List _). x ∷ l) e
    go false e = e

pub words_append : (route more : List Arc) → words_along (route ++ more) ≡ words_along route ++ words_along more
words_append route more = ap (keep_if nonzero) (map-append (λ (a : Arc). a.olabel) route more) ∙ keep_append nonzero (map (λ (a : Arc). a.olabel) route) (map (λ (a : Arc). a.olabel) more)

pub weights-append : (x : Float) (route more : List Arc) → weights_from x (route ++ more) ≡ weights_from (weights_from x route) more
unfolding weights_from
weights-append x [] more = refl
weights-append x (a ∷ route) more = weights-append (x ⊕ a.weight) route more

pub emits_one : (a : Arc) (rest : List Arc) → emits a ≡ true → emitted (a ∷ rest) ≡ suc (emitted rest)
emits_one a rest e = simp e

pub emits_none : (a : Arc) (rest : List Arc) → emits a ≡ false → emitted (a ∷ rest) ≡ emitted rest
emits_none a rest e = simp e

-- the first stretch takes the first frames, as many as it has emitting arcs
pub sum-append : (g : Graph) (fs later : List Heard) (x : Float) (route more : List Arc) → emitted route ≡ length fs → sum_from g (fs ++ later) x (route ++ more) ≡ sum_from g later (sum_from g fs x route) more
unfolding sum_from
sum-append g [] later x [] more e = refl
sum-append g (f ∷ fs) later x [] more e = absurd (omega arith)
sum-append g fs later x (a ∷ route) more e = go (emits a) refl fs e (λ fs x. sum-append g fs later x route more)
  where
    go : (b : Bool) → emits a ≡ b → (fs : List Heard) → emitted (a ∷ route) ≡ length fs → ((fs : List Heard) (x : Float) → emitted route ≡ length fs → sum_from g (fs ++ later) x (route ++ more) ≡ sum_from g later (sum_from g fs x route) more)
        → (elim b as (λ c. Float) [ true ↦ sum_from g (tail (fs ++ later)) (emitting_total g (first_frame (fs ++ later)) x a) (route ++ more) | false ↦ sum_from g (fs ++ later) (x ⊕ a.weight) (route ++ more) ])
        ≡ sum_from g later (elim b as (λ c. Float) [ true ↦ sum_from g (tail fs) (emitting_total g (first_frame fs) x a) route | false ↦ sum_from g fs (x ⊕ a.weight) route ]) more
    go true q [] e rec = absurd (let z = emits_one a route q in omega arith)
    go true q (f ∷ fs) e rec = rec fs (emitting_total g f x a) (let z = emits_one a route q in omega arith)
    go false q fs e rec = rec fs (x ⊕ a.weight) (let z = emits_none a route q in omega arith)

pub not_emits : (a : Arc) → takes nonemitting a ≡ true → emits a ≡ false
not_emits a e = not-true (emits a) e

emitted_on : (p : Pass) (fs : List Heard) (route : List Arc) (a : Arc) → takes p a ≡ true → emitted route ≡ length fs → emitted (route ++ (a ∷ [])) ≡ length (heard_by p fs)
emitted_on (emitting ls off ad) fs route a e n = omega (arith, count-append emits route (a ∷ []), emits_one a [] e, length-append fs (record { loglikes = ls; offset = off } ∷ []))
emitted_on nonemitting fs route a e n = omega (arith, count-append emits route (a ∷ []), emits_none a [] (not_emits a e))

pub walk_on : (g : Graph) (p : Pass) (fs : List Heard) (route : List Arc) (s : ℕ) (a : Arc) → takes p a ≡ true → a ∈ arcs_of g s → Walk g fs route s → Walk g (heard_by p fs) (route ++ (a ∷ [])) a.target
walk_on g p fs route s a e m w =
    record { begins = w.begins; leads = leads-append g g.start route (a ∷ []) s a.target w.leads (m, refl); frames = emitted_on p fs route a e w.frames }

-- its sum is the arriving total
pub sum_on : (g : Graph) (p : Pass) (fs : List Heard) (route : List Arc) (t : Token) (a : Arc) → takes p a ≡ true → emitted route ≡ length fs → t.cost ≡ sum_of g fs route → total g p t a ≡ sum_of g (heard_by p fs) (route ++ (a ∷ []))
unfolding total sum_from
sum_on g (emitting ls off ad) fs route t a e n c =
    let f : Heard = record { loglikes = ls; offset = off } in
    ap (λ (x : Float). emitting_total g f x a) c ∙ sym (sum-append g fs (f ∷ []) 0f route (a ∷ []) n ∙ rw (e, sum_from))
sum_on g nonemitting fs route t a e n c = ap (λ (x : Float). x ⊕ a.weight) c ∙ sym (ap (λ (l : List Heard). sum_from g l 0f (route ++ (a ∷ []))) (sym (append-nil fs)) ∙ sum-append g fs [] 0f route (a ∷ []) n ∙ rw (not_emits a e, sum_from))
