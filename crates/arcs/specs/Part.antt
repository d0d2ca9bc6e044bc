-- The choice of pass, and the arcs of one state, as the code has them and as the model has them.
use Rattle.std.specs.Prelude.{◌≡◌, refl, ℕ, suc, ◌-◌, ◌≤◌, ◌<◌, Bool, true, false, not, cond, ℤ, pos, negsuc, nat_abs, get_or, Float}
use Rattle.std.proofs.Math.Path.{sym, ap, subst}
use Rattle.std.proofs.Common.{ap₂, ◌∙◌}
use native.Mathlib.Omega.{arith}
use mathlib.Core.List.{List, map}
use Rattle.std.proofs.Math.Dec.{T}
use Rattle.std.specs.Int.Signed.{non_neg}
use Rattle.std.proofs.Math.ListN.{length}
use Rattle.lists.specs.Lists.{range}
use Rattle.lists.specs.Tests.{never}
use Rattle.model.specs.Basics.{◌≺◌, ◌⊕◌, ◌⊖◌, 0f, ltℤ, nonzero}
use Rattle.model.specs.Graph.{Graph, Arc}
use Rattle.model.specs.Checked.{GoodArc, GoodLabel}
use Rattle.model.specs.Path.{Token}
use Rattle.model.specs.Arrive.{Pass as ModelPass, emitting, nonemitting, takes, total, lower, Here}
use Rattle.tokens.specs.declared.Token.{Token as Stored}
use Rattle.arrivals.specs.declared.Arrival.{Arrival}
use Rattle.arrivals.specs.Arrival.{ArrivalIs}
use Rattle.arcs.specs.declared.Pass.{Pass}
use Rattle.arcs.specs.declared.Pass.TheVariants.{Emitting, Nonemitting}

abbrev pub pass_of : Pass → (loglikes : List Float) → ModelPass
pass_of (Emitting off ad) ls = emitting ls off ad
pass_of Nonemitting ls = nonemitting

abbrev pub takes_label : Pass → ℤ → Bool
takes_label (Emitting off ad) z = nonzero z
takes_label Nonemitting z = not (nonzero z)

-- ---- what a pass reads: the arcs of one state, the transition tables and the frame

pub record Part : Type 0 where
  pub ilabels : List ℤ
  pub olabels : List ℤ
  pub weights : List Float
  pub nextstates : List ℕ
  pub tid2pdf : List ℤ
  pub tid2phone : List ℤ
  pub loglikes : List Float

abbrev pub part : (ilabels olabels : List ℤ) (weights : List Float) (nextstates : List ℕ) (tid2pdf tid2phone : List ℤ) (loglikes : List Float) → Part
part il ol ws ns tp tf ls = record { ilabels = il; olabels = ol; weights = ws; nextstates = ns; tid2pdf = tp; tid2phone = tf; loglikes = ls }

-- arc i of state s, and all of them
unfoldable pub arc_in : Part → (s i : ℕ) → Arc
arc_in p s i = record { source = s; ilabel = get_or p.ilabels i (pos 0); olabel = get_or p.olabels i (pos 0); weight = get_or p.weights i 0f; target = get_or p.nextstates i 0 }

abbrev pub arcs_from : Part → (s i : ℕ) → List Arc
arcs_from p s i = map (arc_in p s) (range i (length p.ilabels - i))

-- a frame has a log-likelihood for every pdf; the nonemitting pass reads none
abbrev pub Hears : Pass → Graph → List Float → Type 0
Hears (Emitting off ad) g ls = g.pdfs ≤ length ls
Hears Nonemitting g ls = Unit {0}

-- the tables are those of state s of an accepted graph
pub record PartOf (g : Graph) (pass : Pass) (p : Part) (s : ℕ) : Type 0 where
  pub olabels : length p.olabels ≡ length p.ilabels
  pub weights : length p.weights ≡ length p.ilabels
  pub nextstates : length p.nextstates ≡ length p.ilabels
  pub pdfs : g.tid2pdf ≡ p.tid2pdf
  pub phones : g.tid2phone ≡ p.tid2phone
  pub heard : Hears pass g p.loglikes
  pub good : (i : ℕ) → i < length p.ilabels → GoodArc g (arc_in p s i)

-- an arc that the pass takes
pub record Taken (pass : Pass) (p : Part) (i : ℕ) : Type 0 where
  pub graph : Graph
  pub s : ℕ
  pub of : PartOf graph pass p s
  pub here : i < length p.ilabels
  pub taken : takes_label pass (get_or p.ilabels i (pos 0)) ≡ true

-- ---- numbers that a label leads to

abbrev pub by_label : (ilabels table : List ℤ) → ℕ → ℕ
by_label il tp i = nat_abs (get_or tp (nat_abs (get_or il i (pos 0))) (pos 0))

-- arc i's label is in a table, and the number there is not below zero
pub record Labelled (il tp : List ℤ) (i : ℕ) : Type 0 where
  pub here : i < length il
  pub label : T (non_neg (get_or il i (pos 0)))
  pub inside : nat_abs (get_or il i (pos 0)) < length tp
  pub number : T (non_neg (get_or tp (nat_abs (get_or il i (pos 0))) (pos 0)))

-- what the total and the phone ask
abbrev pub HeardAt : Pass → (ilabels tid2pdf : List ℤ) (loglikes : List Float) → ℕ → Type 0
HeardAt (Emitting off ad) il tp ls i = Labelled il tp i × (by_label il tp i < length ls)
HeardAt Nonemitting il tp ls i = Unit {0}

abbrev pub PhoneAsks : Pass → (ilabels tid2phone : List ℤ) → ℕ → Type 0
PhoneAsks (Emitting off ad) il tf i = Labelled il tf i
PhoneAsks Nonemitting il tf i = Unit {0}

abbrev pub total_in : Pass → (ilabels : List ℤ) (weights : List Float) (tid2pdf : List ℤ) (loglikes : List Float) → (cost : Float) → ℕ → Float
total_in (Emitting off ad) il ws tp ls c i = (c ⊕ (off ⊖ get_or ls (by_label il tp i) 0f)) ⊕ get_or ws i 0f
total_in Nonemitting il ws tp ls c i = c ⊕ get_or ws i 0f

abbrev pub phone_in : Pass → (ilabels tid2phone : List ℤ) → (phone : ℕ) → ℕ → ℕ
phone_in (Emitting off ad) il tf ph i = by_label il tf i
phone_in Nonemitting il tf ph i = ph

-- what arc i brings
abbrev pub arrival_in : Pass → Part → Stored → ℕ → Arrival
arrival_in pass p x i =
    record {
      total = total_in pass p.ilabels p.weights p.tid2pdf p.loglikes x.cost i;
      graph = x.graph ⊕ get_or p.weights i 0f;
      word = get_or p.olabels i (pos 0);
      phone = phone_in pass p.ilabels p.tid2phone x.phone i;
      target = get_or p.nextstates i 0;
    }

abbrev pub lower_by : Pass → (total cutoff : Float) → Float
lower_by (Emitting off ad) tot c = cond (tot ⊕ ad ≺ c) (tot ⊕ ad) c
lower_by Nonemitting tot c = c

-- ---- laws

pub lowered : (pass : Pass) (ls : List Float) (tot c : Float) → lower_by pass tot c ≡ lower (pass_of pass ls) tot c
unfolding lower
lowered (Emitting off ad) ls tot c = refl
lowered Nonemitting ls tot c = refl

pub takes_is : (pass : Pass) (p : Part) (s i : ℕ) → takes (pass_of pass p.loglikes) (arc_in p s i) ≡ takes_label pass (get_or p.ilabels i (pos 0))
unfolding arc_in
takes_is (Emitting off ad) p s i = refl
takes_is Nonemitting p s i = refl

not_below : (z : ℤ) → ltℤ z (pos 0) ≡ false → T (non_neg z)
not_below (pos n) e = tt
not_below (negsuc n) e = never (sym e)

is_pos : (z : ℤ) (n : ℕ) → z ≡ pos n → T (non_neg z) × (nat_abs z ≡ n)
is_pos z n e = subst (λ (y : ℤ). T (non_neg y) × (nat_abs y ≡ n)) (sym e) (tt, refl)

module _ (p : Part) (i s : ℕ) (g : Graph) (pdfs : g.tid2pdf ≡ p.tid2pdf) (phones : g.tid2phone ≡ p.tid2phone) (here : i < length p.ilabels) (a : GoodArc g (arc_in p s i)) (l : GoodLabel g (arc_in p s i)) where
  pub in_pdfs : Labelled p.ilabels p.tid2pdf i
  unfolding arc_in
  in_pdfs = record { here = here; label = not_below (get_or p.ilabels i (pos 0)) a.label; inside = let e = ap length pdfs in let k = l.in_pdfs in omega arith; number = subst (λ (t : List ℤ). T (non_neg (get_or t (nat_abs (get_or p.ilabels i (pos 0))) (pos 0)))) pdfs (is_pos _ l.pdf l.pdf_is).0 }

  pub in_phones : Labelled p.ilabels p.tid2phone i
  unfolding arc_in
  in_phones = record { here = here; label = not_below (get_or p.ilabels i (pos 0)) a.label; inside = let e = ap length phones in let k = l.in_phones in omega arith; number = subst (λ (t : List ℤ). T (non_neg (get_or t (nat_abs (get_or p.ilabels i (pos 0))) (pos 0)))) phones (is_pos _ (suc l.phone) l.phone_is).0 }

  pub pdf_in : g.pdfs ≤ length p.loglikes → by_label p.ilabels p.tid2pdf i < length p.loglikes
  unfolding arc_in
  pdf_in h = let e = sym (ap (λ (t : List ℤ). by_label p.ilabels t i) pdfs) ∙ (is_pos _ l.pdf l.pdf_is).1 in let k = l.pdf_few in omega arith

pub heard_at : (pass : Pass) (p : Part) (i : ℕ) → Taken pass p i → HeardAt pass p.ilabels p.tid2pdf p.loglikes i
unfolding arc_in
heard_at (Emitting off ad) p i T =
    let o = T.of in
    let a = o.good i T.here in
    let l = a.emitting T.taken in
    (in_pdfs p i T.s T.graph o.pdfs o.phones T.here a l, pdf_in p i T.s T.graph o.pdfs o.phones T.here a l o.heard)
heard_at Nonemitting p i T = tt

pub phone_asks : (pass : Pass) (p : Part) (i : ℕ) → Taken pass p i → PhoneAsks pass p.ilabels p.tid2phone i
unfolding arc_in
phone_asks (Emitting off ad) p i T = let o = T.of in let a = o.good i T.here in in_phones p i T.s T.graph o.pdfs o.phones T.here a (a.emitting T.taken)
phone_asks Nonemitting p i T = tt

-- a stored token has the sums and the phone of the model's
pub record SourceIs (x : Stored) (t : Token) : Type 0 where
  pub cost : x.cost ≡ t.cost
  pub graph : x.graph ≡ t.graph
  pub phone : pos x.phone ≡ t.phone

pub arrival_is : (pass : Pass) (p : Part) (i : ℕ) (T : Taken pass p i) (H : Here) (x : Stored) (t : Token) → H.graph ≡ T.graph → SourceIs x t → ArrivalIs H (pass_of pass p.loglikes) t (arc_in p T.s i) (arrival_in pass p x i)
unfolding arc_in total
arrival_is (Emitting off ad) p i T H x t e X =
    let pdfs = ap (λ (g : Graph). g.tid2pdf) e ∙ T.of.pdfs in
    let phones = ap (λ (g : Graph). g.tid2phone) e ∙ T.of.phones in
    let a = T.of.good i T.here in
    let l = a.emitting T.taken in
    record {
      total = ap₂ (λ (c : Float) (t : List ℤ). (c ⊕ (off ⊖ get_or p.loglikes (by_label p.ilabels t i) 0f)) ⊕ get_or p.weights i 0f) X.cost (sym pdfs);
      graph = ap (λ (c : Float). c ⊕ get_or p.weights i 0f) X.graph;
      word = refl;
      phone = natural _ (suc l.phone) (ap (λ (t : List ℤ). get_or t (nat_abs (get_or p.ilabels i (pos 0))) (pos 0)) (sym T.of.phones) ∙ l.phone_is) ∙ ap (λ (t : List ℤ). get_or t (nat_abs (get_or p.ilabels i (pos 0))) (pos 0)) (sym phones);
      target = refl;
    }
  where
    natural : (z : ℤ) (n : ℕ) → z ≡ pos n → pos (nat_abs z) ≡ z
    natural z n q = subst (λ (y : ℤ). pos (nat_abs y) ≡ y) (sym q) refl
arrival_is Nonemitting p i T H x t e X =
    record { total = ap (λ (c : Float). c ⊕ get_or p.weights i 0f) X.cost; graph = ap (λ (c : Float). c ⊕ get_or p.weights i 0f) X.graph; word = refl; phone = X.phone; target = refl }
