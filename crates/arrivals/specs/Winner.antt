-- A winner: what `put_on` leaves is the definition's `check_winner`, and a record stands for the new path. Assumes nothing.
use Rattle.std.specs.Prelude.{◌≡◌, ℕ, suc, ◌<◌, ◌≤◌, Bool, true, false, not, ◌&&◌, List, ◌++◌, ℤ, pos, ◌==◌, Float, Result, Ok, Err}
use Rattle.std.proofs.Math.Path.{refl, sym, ap, subst}
use Rattle.std.proofs.Common.{ap₂, ◌∙◌, arith, eq-eqb, ne_eqb}
use mathlib.Core.List.Memᴰ.{tail as there}
use Rattle.real32.specs.Small.{tame}
use Rattle.model.specs.Basics.{◌⊕◌, ok, refused, ◌>>=◌, check}
use Rattle.model.specs.Graph.{Arc}
use Rattle.model.specs.Path.{Step, Path, arc_onto, Token, paths, is_link, word}
use Rattle.model.specs.Arrive.{Pass, Here, Work, step_on, path_in_hand, check_winner}
use Rattle.tokens.specs.declared.Token.{Token as Stored}
use Rattle.records.specs.History.{History, link_onto, tag, plain, history_link, history_quiet}
use Rattle.records.specs.Layout.{Store, store}
use Rattle.records.specs.Puts.{LinkPut}
use Rattle.records.specs.Stands.{Stands, put, put_same}
use Rattle.compaction.specs.Count.{Known, Tight, known_link, tight_link, known_quiet, tight_quiet, tight_less}
use Rattle.stores.specs.Shown.{Is}
use Rattle.stores.specs.Grown.{Grown, grown_self, grown_put}
use Rattle.arrivals.specs.declared.Arrival.{Arrival}
use Rattle.arrivals.specs.declared.Setting.{Setting}
use Rattle.arrivals.specs.Arrival.{ArrivalIs, links, starts_of, starts_is, links_is}
use Rattle.arrivals.specs.declared.Linked.{Linked}
use Rattle.arrivals.specs.PutOn.{PutOnIs, sum_refused, record_refused, link_on_it, no_link_on_it}
use Rattle.refusals.specs.declared.Reason.{Reason}
use Rattle.refusals.specs.Numbers.{number_of}

-- Records were put on, and record l stands for a path; `fresh` is a number that the model has not given out.
pub record OnPath (h : ℕ → History) (used : ℕ) (s' : Store) (used' l : ℕ) (p : Path) (fresh : ℕ) : Type 0 where
  pub h' : ℕ → History
  pub grown : Grown h used h' used'
  pub stands : Stands s' used' h'
  pub is : Is h' used' l p
  pub newest : tag (h' used') ≤ fresh

module _ (H : Here) (P : Pass) (t : Token) (arc : Arc) (w : Work) (g : Setting) (x : Stored) (a : Arrival) (i : ArrivalIs H P t arc a) (phone : pos x.phone ≡ t.phone) (frame : g.frame ≡ H.frame) where
  abbrev new : Path
  new = arc_onto (step_on H P t arc w.fresh false) t.path

  abbrev full : Bool
  full = H.limits.full (path_in_hand H w t.path)

  module _ (rs rs' : List ℕ) (ls ls' : List ℤ) (gs : List Float) (used : ℕ) (h : ℕ → History) (sound : Stands (store rs ls gs) used h) (hand : Is h used x.link t.path) (newest : tag (h used) ≤ w.fresh) (fits : used ≤ g.cap)
      (exact : links x a ≡ true → full ≡ (used == g.cap)) where
    -- the new path has a record, and the meter goes on from there
    pub record Won (l u : ℕ) : Type 0 where
      pub checked : check_winner H w P t arc ≡ ok tt
      pub few : u ≤ g.cap
      pub on : OnPath h used (store rs' ls' gs) u l new (suc w.fresh)
      pub known : Known h used (path_in_hand H w t.path) → Known on.h' u (path_in_hand H w new)
      pub tight : (k : ℕ) → Tight (suc k) g.cap h used (path_in_hand H w t.path) → Tight k g.cap on.h' u (path_in_hand H w new)

    abbrev pub WonBy : Result Linked Reason → Type 0
    WonBy (Err e) = (check_winner H w P t arc ≡ refused (number_of e)) × (store rs' ls' gs ≡ store rs ls gs)
    WonBy (Ok on) = Won on.link on.used

    winner_is : (b c d : Bool) → tame (t.graph ⊕ arc.weight) ≡ b → is_link (step_on H P t arc 0 false) ≡ c → full ≡ d → check_winner H w P t arc ≡ (check 12 b >>= λ u. check 13 (not (c && d)))
    unfolding check_winner
    winner_is b c d e f k = rw (e, f, k)

    -- the step's fields, as the code has them
    plain_on : plain new ≡ true
    unfolding plain step_on
    plain_on = hand.own

    abbrev step : Step
    step = step_on H P t arc w.fresh false

    abbrev rest : List Path
    rest = paths w.table ++ H.before

    -- no record of its own
    quiet_on : check_winner H w P t arc ≡ ok tt → links x a ≡ false → rs' ≡ rs → ls' ≡ ls → Won x.link used
    quiet_on c f p q =
        let e : is_link step ≡ false = sym (links_is H P t arc a x w.fresh false i phone) ∙ f in
        let d : (is_link step && not step.beside) ≡ false = ap (λ b. b && not step.beside) e in
        record {
          checked = c;
          few = fits;
          on = record { h' = h; grown = grown_self h used; stands = rw (p, q) sound; is = record { low = hand.low; is = hand.is ∙ sym (history_quiet step t.path e); own = plain_on; frames = hand.frames }; newest = omega arith };
          known = known_quiet h used step t.path rest d;
          tight = λ k m. tight_less k g.cap h used (path_in_hand H w new) (tight_quiet h used step t.path rest d (suc k) g.cap m);
        }

    abbrev top : History
    top = link_onto step.number step.frame (word step) step.starts (h x.link)

    -- as the code wrote it
    top_is : link_onto w.fresh g.frame a.word (pos (starts_of x a)) (h x.link) ≡ top
    unfolding step_on
    top_is j = link_onto w.fresh (frame j) (i.word j) (starts_is H P t arc a x w.fresh false i phone j) (h x.link)

    link_on : check_winner H w P t arc ≡ ok tt → links x a ≡ true → used < g.cap → (r : ℕ) → LinkPut rs rs' ls ls' used x.link g.frame a.word (starts_of x a) r → Won r r
    unfolding tag step_on
    link_on c f d r p =
        let e : is_link step ≡ true = sym (links_is H P t arc a x w.fresh false i phone) ∙ f in
        subst (λ (k : ℕ). Won k k) (sym p.number)
        (record {
          checked = c;
          few = d;
          on = record {
            h' = put h (suc used) top;
            grown = grown_put h used top;
            stands = rw (← top_is) (p.stands gs h w.fresh sound newest hand.low f);
            is = record { low = omega arith; is = put_same h (suc used) top ∙ ap (link_onto step.number step.frame (word step) step.starts) hand.is ∙ sym (history_link step t.path e refl); own = plain_on; frames = hand.frames };
            newest = rw (put_same h (suc used) top) (omega arith);
          };
          known = λ k. known_link h used step t.path rest e refl x.link hand.is (λ q m. k q (there m));
          tight = λ k m. tight_link h used step t.path rest e refl k g.cap x.link m;
        })

    pub won : (r : Result Linked Reason) → PutOnIs rs rs' ls ls' g used x a r → WonBy r
    won (Err r) (sum_refused e p q) = (winner_is false (is_link (step_on H P t arc 0 false)) full (sym (ap tame i.graph) ∙ e) refl refl, ap₂ (λ (b : List ℕ) (c : List ℤ). store b c gs) p q)
    won (Err r) (record_refused e f k p q) = (
      winner_is true true true (sym (ap tame i.graph) ∙ e) (sym (links_is H P t arc a x 0 false i phone) ∙ f) (exact f ∙ eq-eqb used g.cap k),
      ap₂ (λ (b : List ℕ) (c : List ℤ). store b c gs) p q,
    )
    won (Ok on) (link_on_it {r} e f k p) =
        link_on (winner_is true true false (sym (ap tame i.graph) ∙ e) (sym (links_is H P t arc a x 0 false i phone) ∙ f) (exact f ∙ ne_eqb used g.cap (λ z. omega arith))) f k r p
    won (Ok on) (no_link_on_it e f p q) = quiet_on (winner_is true false full (sym (ap tame i.graph) ∙ e) (sym (links_is H P t arc a x 0 false i phone) ∙ f) refl) f p q
