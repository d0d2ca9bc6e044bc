-- What an arriving arc brings, as the code has it and as the model has it, and what it meets.
use Rattle.std.specs.Prelude.{◌≡◌, ℕ, suc, Bool, true, false, cond, ◌||◌, ltb, ℤ, pos, ◌==◌, nat_lt, refl, Float}
use Rattle.std.proofs.Common.{sym, ap, ap₂, ◌∙◌, arith, lt-ltb, le-ltb}
use Rattle.std.proofs.Math.Option.{Option, none, some}
use Rattle.model.specs.Basics.{◌≺◌, ◌≼◌, ◌⊕◌, ◌⊖◌, eqℤ, nonzero}
use Rattle.model.specs.Graph.{Arc}
use Rattle.model.specs.Path.{Token, is_link}
use Rattle.model.specs.Arrive.{Pass, total, phone_after, Here, Meets as Met, past_cutoff, vacant, better, not_better, against, meets, step_on}
use Rattle.tokens.specs.declared.Token.{Token as Stored}
use Rattle.tokens.specs.Layout.{Cell}
use Rattle.records.specs.History.{History}
use Rattle.stores.specs.Shown.{Shows, shows_none, shows_token}
use Rattle.arrivals.specs.declared.Arrival.{Arrival}
use Rattle.arrivals.specs.declared.Meets.{Meets}
use Rattle.arrivals.specs.declared.Meets.TheVariants.{CutOff, Vacant, Better, NotBetter}

-- ---- what it brings

pub record ArrivalIs (h : Here) (p : Pass) (t : Token) (arc : Arc) (a : Arrival) : Type 0 where
  pub total : a.total ≡ total h.graph p t arc
  pub graph : a.graph ≡ t.graph ⊕ arc.weight
  pub word : a.word ≡ arc.olabel
  pub phone : pos a.phone ≡ phone_after h.graph p t arc
  pub target : a.target ≡ arc.target

-- the phone that it starts, 0 where it does not change
abbrev pub starts_of : Stored → Arrival → ℕ
starts_of s a = cond (a.phone == s.phone) 0 a.phone

-- it has a word or changes the phone
abbrev pub links : Stored → Arrival → Bool
links s a = nonzero a.word || nonzero (pos (starts_of s a))

-- ---- what it meets

unfoldable pub meets_at : (cutoff total : Float) → Cell → Meets
meets_at cut tot c = cond (cut ≼ tot) CutOff (cond (nat_lt 0 c.held) (cond (tot ≺ c.cost) (Better (c.cost ⊖ tot)) (NotBetter (tot ⊖ c.cost))) Vacant)

abbrev pub is_cut_off : Meets → Bool
is_cut_off CutOff = true
is_cut_off Vacant = false
is_cut_off (Better x) = false
is_cut_off (NotBetter x) = false

-- the model's answer, which names the token that is met too
pub data MeetsIs : Meets → Met → Type 0 where
  is_cut : MeetsIs CutOff past_cutoff
  is_vacant : MeetsIs Vacant vacant
  is_better : (gap : Float) (held : Token) → MeetsIs (Better gap) (better gap held)
  is_not_better : (gap : Float) (held : Token) → MeetsIs (NotBetter gap) (not_better gap held)

-- ---- laws

pub starts_is : (h : Here) (p : Pass) (t : Token) (arc : Arc) (a : Arrival) (s : Stored) (n : ℕ) (beside : Bool) → ArrivalIs h p t arc a → pos s.phone ≡ t.phone → pos (starts_of s a) ≡ (step_on h p t arc n beside).starts
unfolding step_on
starts_is h p t arc a s n beside i e = pos_cond (a.phone == s.phone) ∙ ap₂ (λ (x y : ℤ). cond (eqℤ x y) (pos 0) x) i.phone e
  where
    pos_cond : (b : Bool) → pos (cond b 0 a.phone) ≡ cond b (pos 0) (pos a.phone)
    pos_cond true = refl
    pos_cond false = refl

pub links_is : (h : Here) (p : Pass) (t : Token) (arc : Arc) (a : Arrival) (s : Stored) (n : ℕ) (beside : Bool) → ArrivalIs h p t arc a → pos s.phone ≡ t.phone → links s a ≡ is_link (step_on h p t arc n beside)
unfolding step_on
links_is h p t arc a s n beside i e = ap₂ (λ (x y : ℤ). nonzero x || nonzero y) i.word (starts_is h p t arc a s n beside i e)

pub cut_test : (cut tot : Float) (c : Cell) → is_cut_off (meets_at cut tot c) ≡ (cut ≼ tot)
unfolding meets_at
cut_test cut tot c = go (cut ≼ tot) (nat_lt 0 c.held) (tot ≺ c.cost)
  where
    go : (b d e : Bool) → is_cut_off (cond b CutOff (cond d (cond e (Better (c.cost ⊖ tot)) (NotBetter (tot ⊖ c.cost))) Vacant)) ≡ b
    go true d e = refl
    go false true true = refl
    go false true false = refl
    go false false e = refl

pub meets_is : (g : ℕ → History) (used : ℕ) (cut tot : Float) (c : Cell) (o : Option Token) → Shows g used c o → MeetsIs (meets_at cut tot c) (meets cut tot o)
unfolding meets_at meets
meets_is g used cut tot c o w = go (cut ≼ tot)
  where
    of_cost : (b : Bool) (x y : Float) (t : Token) → MeetsIs (cond b (Better x) (NotBetter y)) (cond b (better x t) (not_better y t))
    of_cost true x y t = is_better x t
    of_cost false x y t = is_not_better y t

    of_place : (o : Option Token) → Shows g used c o → MeetsIs (cond (nat_lt 0 c.held) (cond (tot ≺ c.cost) (Better (c.cost ⊖ tot)) (NotBetter (tot ⊖ c.cost))) Vacant) (against tot o)
    of_place none (shows_none e) = rw e is_vacant
    of_place (some t) (shows_token s e i) = rw (e, lt-ltb 0 (suc s.link) (omega arith), i.cost) (of_cost (tot ≺ t.cost) (t.cost ⊖ tot) (tot ⊖ t.cost) t)

    go : (b : Bool) → MeetsIs (cond b CutOff (cond (nat_lt 0 c.held) (cond (tot ≺ c.cost) (Better (c.cost ⊖ tot)) (NotBetter (tot ⊖ c.cost))) Vacant)) (elim b as (λ x. Met) [ true ↦ past_cutoff | false ↦ against tot o ])
    go true = is_cut
    go false = of_place o w

-- two places that show the same token are met alike
pub meets_same : (g g' : ℕ → History) (used used' : ℕ) (cut tot : Float) (c c' : Cell) (o : Option Token) → Shows g used c o → Shows g' used' c' o → meets_at cut tot c ≡ meets_at cut tot c'
unfolding meets_at
meets_same g g' used used' cut tot c c' none (shows_none e) (shows_none d) = rw (le-ltb 0 c.held (omega arith), le-ltb 0 c'.held (omega arith))
meets_same g g' used used' cut tot c c' (some t) (shows_token x e i) (shows_token y d j) =
    let cost_is : c.cost ≡ c'.cost = ap (λ (z : Cell). z.cost) e ∙ i.cost ∙ sym (ap (λ (z : Cell). z.cost) d ∙ j.cost) in
    let held_is : ltb 0 c.held ≡ ltb 0 c'.held = lt-ltb 0 c.held (let z = ap (λ (z : Cell). z.held) e in omega arith) ∙ sym (lt-ltb 0 c'.held (let z = ap (λ (z : Cell). z.held) d in omega arith)) in
    λ k. cond (cut ≼ tot) CutOff (cond (held_is k) (cond (tot ≺ cost_is k) (Better (cost_is k ⊖ tot)) (NotBetter (tot ⊖ cost_is k))) Vacant)
