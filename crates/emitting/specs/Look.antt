-- The first look, over one state's part of the arc tables. Assumes nothing.
use Rattle.std.specs.Prelude.{◌≡◌, Bool, true, false, ℤ, pos, length, Result, Ok, Err}
use Rattle.std.proofs.Math.Path.{refl, ap}
use Rattle.std.proofs.Common.{sym, ap₂, ◌∙◌, arith}
use Prim.Native.Nat.{ℕ, zero, suc, ◌-◌, ◌<◌}
use mathlib.Core.List.{List, [], ◌∷◌, map}
use Rattle.std.proofs.Math.ListN.{get_or}
use Rattle.std.specs.Float.Ieee.{Float}
use Rattle.lists.specs.Lists.{range}
use Rattle.real32.specs.Small.{tame}
use Rattle.model.specs.Basics.{◌⊕◌, ◌⊖◌, 0f, ∞, nonzero, Outcome, ok, refused, ◌>>=◌, check}
use Rattle.model.specs.Graph.{Graph, Arc, emits}
use Rattle.model.specs.Arrive.{emitting, lower, loglike}
use Rattle.model.specs.Passes.{first_look}
use Rattle.arcs.specs.declared.Pass.TheVariants.{Emitting}
use Rattle.arcs.specs.Part.{Part, arc_in, by_label, HeardAt, lower_by, lowered}
use Rattle.refusals.specs.declared.Reason.{Reason}
use Rattle.refusals.specs.Numbers.{number_of}

abbrev pub outcome_of : Result Float Reason → Outcome Float
outcome_of (Err e) = refused (number_of e)
outcome_of (Ok x) = ok x

-- what the look asks of a part: its labels lead to log-likelihoods
pub record LookAsks (il : List ℤ) (ws : List Float) (tp : List ℤ) (ls : List Float) : Type 0 where
  pub weights : length ws ≡ length il
  pub heard : (i : ℕ) → i < length il → nonzero (get_or il i (pos 0)) ≡ true → HeardAt (Emitting 0f 0f) il tp ls i

module _ (il : List ℤ) (ws : List Float) (tp : List ℤ) (ls : List Float) (off ad cost : Float) where
  abbrev pub look_total : ℕ → Float
  look_total i = get_or ws i 0f ⊕ off ⊖ get_or ls (by_label il tp i) 0f ⊕ cost

  abbrev pub look_arc_by : (i : ℕ) → Float → Bool → Outcome Float
  look_arc_by i next b = elim b as (λ z. Outcome Float) [ true ↦ (check 12 (tame (look_total i)) >>= λ u. ok (lower_by (Emitting off ad) (look_total i) next)) | false ↦ ok next ]

  abbrev pub look_step : (i : ℕ) → Float → Outcome Float
  look_step i next = look_arc_by i next (nonzero (get_or il i (pos 0)))

  -- n arcs from i on
  abbrev pub look_from : (n i : ℕ) → Float → Outcome Float
  look_from zero i next = ok next
  look_from (suc n) i next = look_step i next >>= λ x. look_from n (suc i) x

  -- ---- one arc

  module _ (i : ℕ) (next : Float) where
    abbrev look_with : Bool → Float → Outcome Float
    look_with c t = check 12 c >>= λ u. ok (lower_by (Emitting off ad) t next)

    pub look_skips : nonzero (get_or il i (pos 0)) ≡ false → ok next ≡ look_step i next
    look_skips e = sym (ap (look_arc_by i next) e)

    module _ (e : nonzero (get_or il i (pos 0)) ≡ true) (t : Float) (is : t ≡ look_total i) where
      pub look_refuses : tame t ≡ false → refused 12 ≡ look_step i next
      look_refuses d = sym (ap (look_arc_by i next) e ∙ ap₂ look_with (ap tame (sym is) ∙ d) (sym is))

      pub look_lowers : tame t ≡ true → (x : Float) → x ≡ lower_by (Emitting off ad) t next → ok x ≡ look_step i next
      look_lowers d x f = ap ok f ∙ sym (ap (look_arc_by i next) e ∙ ap₂ look_with (ap tame (sym is) ∙ d) (sym is))

  -- ---- the loop

  module _ (n i : ℕ) (next : Float) (r : Result Float Reason) (step : outcome_of r ≡ look_step i next) (so_far : look_from (length il) 0 ∞ ≡ look_from n i next) (more : 0 < n) where
    left : n ≡ suc (n - 1)
    left = omega arith

    goes : look_from (length il) 0 ∞ ≡ (outcome_of r >>= λ x. look_from (n - 1) (suc i) x)
    goes = so_far ∙ ap (λ (k : ℕ). look_from k i next) left ∙ ap (λ (o : Outcome Float). o >>= λ x. look_from (n - 1) (suc i) x) (sym step)

    pub look_on : (x : Float) → r ≡ Ok x → look_from (length il) 0 ∞ ≡ look_from (n - 1) (suc i) x
    look_on x e = goes ∙ ap (λ (r : Result Float Reason). outcome_of r >>= λ x. look_from (n - 1) (suc i) x) e

    pub look_stops : (k : Reason) → r ≡ Err k → outcome_of (Err k) ≡ look_from (length il) 0 ∞
    look_stops k e = sym (goes ∙ ap (λ (r : Result Float Reason). outcome_of r >>= λ x. look_from (n - 1) (suc i) x) e)

-- ---- the definition's look

module _ (g : Graph) (p : Part) (s : ℕ) (off ad cost : Float) (pdfs : g.tid2pdf ≡ p.tid2pdf) where
  abbrev from : (n i : ℕ) → Float → Outcome Float
  from n i next = first_look g p.loglikes off ad cost (map (arc_in p s) (range i n)) next

  abbrev steps : (n i : ℕ) → Float → Outcome Float
  steps = look_from p.ilabels p.weights p.tid2pdf p.loglikes off ad cost

  total_is : (i : ℕ) → (arc_in p s i).weight ⊕ off ⊖ get_or p.loglikes (by_label p.ilabels g.tid2pdf i) 0f ⊕ cost ≡ look_total p.ilabels p.weights p.tid2pdf p.loglikes off ad cost i
  unfolding arc_in
  total_is i = ap (λ (t : List ℤ). get_or p.weights i 0f ⊕ off ⊖ get_or p.loglikes (by_label p.ilabels t i) 0f ⊕ cost) pdfs

  abbrev tot : ℕ → Float
  tot i = (arc_in p s i).weight ⊕ off ⊖ get_or p.loglikes (by_label p.ilabels g.tid2pdf i) 0f ⊕ cost

  module _ (n i : ℕ) (next : Float) (rec : (x : Float) → from n (suc i) x ≡ steps n (suc i) x) where
    checked : (t : Float) (c : Bool) → (check 12 c >>= λ u. from n (suc i) (lower (emitting p.loglikes off ad) t next)) ≡ ((check 12 c >>= λ u. ok (lower_by (Emitting off ad) t next)) >>= λ x. steps n (suc i) x)
    checked t true = rec _ ∙ ap (steps n (suc i)) (sym (lowered (Emitting off ad) p.loglikes t next))
    checked t false = refl

    abbrev turn : Float → Bool → Outcome Float
    turn t b = elim b as (λ z. Outcome Float) [ true ↦ check 12 (tame t) >>= λ u. from n (suc i) (lower (emitting p.loglikes off ad) t next) | false ↦ from n (suc i) next ]

    turns : (b : Bool) → turn (tot i) b ≡ (look_arc_by p.ilabels p.weights p.tid2pdf p.loglikes off ad cost i next b >>= λ x. steps n (suc i) x)
    turns false = rec next
    turns true = ap (λ (t : Float). turn t true) (total_is i) ∙ checked _ (tame (look_total p.ilabels p.weights p.tid2pdf p.loglikes off ad cost i))

  pub looks : (n i : ℕ) (next : Float) → from n i next ≡ steps n i next
  unfolding first_look arc_in
  looks zero i next = refl
  looks (suc n) i next = turns n i next (looks n (suc i)) (nonzero (get_or p.ilabels i (pos 0)))

-- ---- a look refuses by 12 alone

abbrev pub Only12 : Outcome Float → Type 0
Only12 (ok x) = Unit {0}
Only12 (refused n) = n ≡ 12

module _ (g : Graph) (ls : List Float) (off ad cost : Float) where
  pub only_12 : (as' : List Arc) (next : Float) → Only12 (first_look g ls off ad cost as' next)
  unfolding first_look
  only_12 [] next = tt
  only_12 (a ∷ rest) next = go (emits a) (only_12 rest)
    where
      tot : Float
      tot = a.weight ⊕ off ⊖ loglike g ls a ⊕ cost

      tested : (c : Bool) → ((x : Float) → Only12 (first_look g ls off ad cost rest x)) → Only12 (check 12 c >>= λ u. first_look g ls off ad cost rest (lower (emitting ls off ad) tot next))
      tested true rec = rec _
      tested false rec = refl

      go : (b : Bool) → ((x : Float) → Only12 (first_look g ls off ad cost rest x))
          → Only12 (elim b as (λ z. Outcome Float) [ true ↦ check 12 (tame tot) >>= λ u. first_look g ls off ad cost rest (lower (emitting ls off ad) tot next) | false ↦ first_look g ls off ad cost rest next ])
      go true rec = tested (tame tot) rec
      go false rec = rec next
