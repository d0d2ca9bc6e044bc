-- Both passes, a start and a frame keep what holds of the active tokens. Assumes nothing.
use Rattle.std.specs.Prelude.{◌≡◌, refl, ℕ, suc, ◌+◌, ◌*◌, ◌≤◌, true, List, [], ◌∷◌, ◌++◌, length, Float}
use Rattle.std.proofs.Common.{sym, ap, ◌∙◌, subst, mul-suc, arith, length-append}
use Rattle.real32.specs.Small.{tame}
use Rattle.model.specs.Graph.{Arc, states}
use Rattle.model.specs.Path.{Token, Table}
use Rattle.model.specs.Cutoff.{Config, best, get_cutoff}
use Rattle.model.specs.Arrive.{Pass, emitting, nonemitting, Here, Work}
use Rattle.model.specs.Passes.{no_tokens, offset_of, empty_work, emitting_pass, popped, nonemitting_pass}
use Rattle.model.specs.Accepted.{Ok}
use Rattle.model.proofs.Came.{Came, came_cut, came_vacant, came_better, came_dropped, came_joined}
use Rattle.model.specs.Checked.{GoodGraph}
use Rattle.copy_laws.specs.Walks.{Heard, heard_by}
use Rattle.copy_laws.specs.Tables.{vacant}
use Rattle.copy_laws.proofs.Carried.{nonemitting_carried}
use Rattle.copy_laws.proofs.Carried.{Carried, Visiting, emitting_carried, Draining}
use Rattle.copy_laws.specs.Sums.{Floats32}
use Rattle.copy_laws.specs.Tokens.{Sound, InFrame}
use Rattle.copy_laws.proofs.Tokens.{sound_more}
use Rattle.copy_laws.specs.Active.{Active}
use Rattle.copy_laws.proofs.Active.{active_none, active_moved, came_active}
use Rattle.copy_laws.specs.Kept.{Idle, hearing, Since, Between}

-- ---- a token in hand, whichever the pass

came_later : (h : Here) (p : Pass) (t : Token) (a : Arc) (w v : Work) → Came h p t a w v → w.fresh ≤ v.fresh
came_later h p t a w v (came_cut c e) = let z : v.fresh ≡ w.fresh = ap (λ (x : Work). x.fresh) e in omega arith
came_later h p t a w v (came_vacant c e l f q r) = let z = c.fresh in omega arith
came_later h p t a w v (came_better c held e b l u j f q r) = let z = c.fresh in omega arith
came_later h p t a w v (came_dropped c held e b f q r) = let z = c.fresh in omega arith
came_later h p t a w v (came_joined c held e b f q r) = let z = c.fresh in omega arith

came_idle : (h : Here) (p : Pass) (t : Token) (a : Arc) (w v : Work) → Idle p w → Came h p t a w v → Idle p v
came_idle h nonemitting t a w v i c = tt
came_idle h (emitting ls off ad) t a w v i (came_cut c e) = subst (Idle (emitting ls off ad)) (sym e) i
came_idle h (emitting ls off ad) t a w v i (came_vacant c e l f q r) = (c.still.0 ∙ i.0, c.still.1 ∙ i.1)
came_idle h (emitting ls off ad) t a w v i (came_better c held e b l u j f q r) = (c.still.0 ∙ i.0, c.still.1 ∙ i.1)
came_idle h (emitting ls off ad) t a w v i (came_dropped c held e b f q r) = (c.still.0 ∙ i.0, c.still.1 ∙ i.1)
came_idle h (emitting ls off ad) t a w v i (came_joined c held e b f q r) = (c.still.0 ∙ i.0, c.still.1 ∙ i.1)

module _ (h : Here) (p : Pass) (fs : List Heard) where
  -- `first` is the number that the pass began with
  pub record InHand (first s : ℕ) (t : Token) (rest : List Arc) (w : Work) : Type 0 where
    pub active : Active h.graph (heard_by p fs) w.table w.seq w.fresh
    pub token : Sound h.graph fs w.fresh s t
    pub light : tame t.graph ≡ true
    pub since : first ≤ w.fresh
    pub idle : Idle p w

  pub in_hand : GoodGraph h.graph → Floats32 h.graph → InFrame h p fs → (U : Type 0) (first : ℕ) → Carried U h p (InHand first)
  in_hand good floats timely U first =
      record {
        step = λ s t a rest m k w v u i c.
            let z = came_later h p t a w v c in
            let y = i.since in
            record {
              active = came_active h p fs good floats timely s t a m k w v i.token i.light i.active c;
              token = sound_more h.graph fs w.fresh v.fresh s t z i.token;
              light = i.light;
              since = omega arith;
              idle = came_idle h p t a w v i.idle c;
            };
        skip = λ s t a rest k w i. record { active = i.active; token = i.token; light = i.light; since = i.since; idle = i.idle };
      }

module _ (h : Here) (c : Config) (ls : List Float) (ts : Table) (q n : ℕ) (fs : List Heard) (good : GoodGraph h.graph) (floats : Floats32 h.graph) (timely : h.frame ≡ length fs) (old : Active h.graph fs ts q n) where
  abbrev pass : Pass
  pass = emitting ls (offset_of (best ts)) (get_cutoff c ts).adaptive

  pub visiting : (U : Type 0) → Visiting U h pass ts (λ s. Since h.graph (fs ++ (hearing ls ts ∷ [])) n) (InHand h pass fs n)
  visiting U =
      record {
        carried = in_hand h pass fs good floats timely U n;
        take_up = λ s t w e j. record { active = j.active; token = sound_more h.graph fs n w.fresh s t j.since (old.sound s t e); light = old.light s t e; since = j.since; idle = (j.no_queue, j.none_requeued) };
        put_down = λ s t w e i. record { active = i.active; since = i.since; no_queue = i.idle.0; none_requeued = i.idle.1 };
        vacant = λ s w e j. j;
        cut = λ s t w u j. j;
      }

  empty_active : Active h.graph (fs ++ (hearing ls ts ∷ [])) (no_tokens h.graph) q n
  empty_active =
      let k = states h.graph in
      let z = old.room in
      active_none h.graph (fs ++ (hearing ls ts ∷ [])) q n
      (subst (λ (i : ℕ). q + k ≤ k * suc i) (sym (length-append fs (hearing ls ts ∷ []))) (let y : k * suc (length fs + 1) ≡ k * (length fs + 1) + k = mul-suc k (length fs + 1) in let x : k * (length fs + 1) ≡ k * suc (length fs) = ap (λ (i : ℕ). k * i) (omega arith) in omega arith))

  pub begins : (next : Float) → Since h.graph (fs ++ (hearing ls ts ∷ [])) n (empty_work h.graph q n next)
  begins next = record { active = empty_active; since = omega arith; no_queue = refl; none_requeued = refl }

  pub emitting_active : Ok (Since h.graph (fs ++ (hearing ls ts ∷ [])) n) (emitting_pass h c ls ts q n)
  emitting_active =
      emitting_carried ⊥ h c ls ts q n (λ s. Since h.graph (fs ++ (hearing ls ts ∷ [])) n) (InHand h pass fs n) (visiting ⊥) begins (λ u. absurd u)

module _ (h : Here) (fs : List Heard) (good : GoodGraph h.graph) (floats : Floats32 h.graph) (timely : InFrame h nonemitting fs) where
  pub draining : (U : Type 0) → Draining U h (Between h fs) (InHand h nonemitting fs 0)
  draining U =
      record {
        carried = in_hand h nonemitting fs good floats timely U 0;
        take_up = λ s q t w e i a. record { active = active_moved h.graph fs w (popped w q) refl refl refl a; token = a.sound s t i; light = a.light s t i; since = omega arith; idle = tt };
        put_down = λ s t w i. i.active;
        vacant = λ s q w e i a. active_moved h.graph fs w (popped w q) refl refl refl a;
        cut = λ s q w e u a. active_moved h.graph fs w (popped w q) refl refl refl a;
      }

  pub nonemitting_active : (w : Work) → Between h fs w → Ok (Between h fs) (nonemitting_pass h w)
  nonemitting_active w a =
      nonemitting_carried ⊥ h (Between h fs) (InHand h nonemitting fs 0) (draining ⊥) w (λ v b. active_moved h.graph fs w v b.same.table b.same.seq b.same.fresh a) (λ u. absurd u)
