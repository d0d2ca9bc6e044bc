-- The tests of `Drops` say true only where something was cut: each gives the token or the total that the cutoff left out, and the moment. Assumes nothing.
use Rattle.std.specs.Prelude.{◌≡◌, ◌⊎◌, ◌||◌, get_or, Float}
use Rattle.std.proofs.Math.Path.{refl, ap}
use Rattle.std.proofs.Common.{sym, ◌∙◌, arith}
use Rattle.std.proofs.Math.Logic.{inl, inr}
use Prim.Native.Nat.{ℕ, zero, suc}
use Rattle.std.proofs.Math.Bool.{Bool, true, false}
use Rattle.std.proofs.Math.Option.{Option, none, some}
use mathlib.Core.List.Memᴰ.{head as here}
use mathlib.Core.List.Memᴰ.{tail as there}
use mathlib.Core.List.{List, [], ◌∷◌}
use Rattle.std.proofs.Math.Dec.{eqb}
use Rattle.lists.specs.Tests.{case, never}
use Rattle.model.specs.Basics.{◌≺◌, ◌≼◌, Outcome, ok, refused}
use Rattle.model.specs.Graph.{Graph, Arc, no_state, arcs_of}
use Rattle.model.specs.Path.{Token, Table, unlimited}
use Rattle.model.specs.Cutoff.{Config, best, get_cutoff}
use Rattle.model.specs.Arrive.{Pass, emitting, nonemitting, takes, total, Here, Work, arrive, arrive_all}
use Rattle.model.specs.Passes.{offset_of, look, empty_work, emitting_pass, push_from, popped, expand, fuel, State, dropped, during, start_work, start, frame}
use Rattle.model.specs.Calls.{Call, start_call, frame_call, keep_call, read_call}
use Rattle.copy_laws.specs.Drops.{on_ok, drops_total, drops_emit, drops_emitting, drops_popped, drops_queue, drops_nonemitting, drops_start, drops_frame}
use Rattle.copy_laws.specs.Kept.{hearing}
use Rattle.copy_laws.specs.Points.{Point, after_start, after_frame, go_to, after, fitted_point, reached}
use Rattle.copy_laws.specs.Cuts.{TotalCut, total_here, total_later, total_past, EmittingCut, token_above, token_total, token_later, token_past, QueueCut, popped_above, popped_total, popped_later, CallCut, start_cut, frame_cut, queue_cut, NoStart, HasCut}

-- ---- a test that says true has one

or_either : (a b : Bool) → (a || b) ≡ true → (a ≡ true) ⊎ (b ≡ true)
or_either true b e = inl refl
or_either false b e = inr e

on_ok_lem : {A : Type 0} (f : A → Bool) (m : Outcome A) → on_ok f m ≡ true → (a : A) × (m ≡ ok a) × (f a ≡ true)
on_ok_lem f (ok a) e = (a, refl, e)
on_ok_lem f (refused n) e = never e

total_cut : (h : Here) (p : Pass) (t : Token) (as' : List Arc) (w : Work) → drops_total h p t as' w ≡ true → TotalCut h p t as' w
unfolding drops_total
total_cut h p t [] w e = never e
total_cut h p t (a ∷ rest) w e = go (takes p a) refl (total_cut h p t rest) e
  where
    go : (b : Bool) → takes p a ≡ b → ((v : Work) → drops_total h p t rest v ≡ true → TotalCut h p t rest v)
        → (elim b as (λ x. Bool) [ true ↦ (w.cutoff ≼ total h.graph p t a) || on_ok (drops_total h p t rest) (arrive h p t a w) | false ↦ drops_total h p t rest w ]) ≡ true → TotalCut h p t (a ∷ rest) w
    go true k rec e = case (or_either (w.cutoff ≼ total h.graph p t a) _ e) (λ x. total_here k x) (λ x. let (v, q, f) = on_ok_lem (drops_total h p t rest) (arrive h p t a w) x in total_later v k q (rec v f))
    go false k rec e = total_past k (rec w e)

emitting_cut : (h : Here) (p : Pass) (cut : Float) (s : ℕ) (ts : Table) (w : Work) → drops_emit h p cut s ts w ≡ true → EmittingCut h p cut s ts w
unfolding drops_emit
emitting_cut h p cut s [] w e = never e
emitting_cut h p cut s (none ∷ ts) w e = token_past (emitting_cut h p cut (suc s) ts w e)
emitting_cut h p cut s (some t ∷ ts) w e = go (cut ≺ t.cost) refl (emitting_cut h p cut (suc s) ts) e
  where
    go : (b : Bool) → (cut ≺ t.cost) ≡ b → ((v : Work) → drops_emit h p cut (suc s) ts v ≡ true → EmittingCut h p cut (suc s) ts v)
        → (elim b as (λ x. Bool) [ true ↦ true | false ↦ drops_total h p t (arcs_of h.graph s) w || on_ok (drops_emit h p cut (suc s) ts) (arrive_all h p t (arcs_of h.graph s) w) ]) ≡ true → EmittingCut h p cut s (some t ∷ ts) w
    go true k rec e = token_above k
    go false k rec e =
        case (or_either (drops_total h p t (arcs_of h.graph s) w) _ e) (λ x. token_total k (total_cut h p t (arcs_of h.graph s) w x))
        (λ x. let (v, q, f) = on_ok_lem (drops_emit h p cut (suc s) ts) (arrive_all h p t (arcs_of h.graph s) w) x in token_later v k q (rec v f))

popped_cut : (h : Here) (s : ℕ) (q : List ℕ) (w : Work) → w.queue ≡ s ∷ q → (o : Option Token) → get_or w.table s none ≡ o → drops_popped h s o (popped w q) ≡ true → QueueCut h w
unfolding drops_popped
popped_cut h s q w e none i d = never d
popped_cut h s q w e (some t) i d = go (w.cutoff ≼ t.cost) refl d
  where
    go : (b : Bool) → (w.cutoff ≼ t.cost) ≡ b → (elim b as (λ x. Bool) [ true ↦ true | false ↦ drops_total h nonemitting t (arcs_of h.graph s) (popped w q) ]) ≡ true → QueueCut h w
    go true k d = popped_above s q t e i k
    go false k d = popped_total s q t e i k (total_cut h nonemitting t (arcs_of h.graph s) (popped w q) d)

queue_cut_lem : (h : Here) (n : ℕ) (w : Work) → drops_queue n h w ≡ true → QueueCut h w
unfolding drops_queue
queue_cut_lem h zero w e = never e
queue_cut_lem h (suc n) w e = go w.queue refl (queue_cut_lem h n) e
  where
    go : (r : List ℕ) → w.queue ≡ r → ((v : Work) → drops_queue n h v ≡ true → QueueCut h v)
        → (elim r as (λ x. Bool) [ [] ↦ false | s ∷ q ↦ drops_popped h s (get_or w.table s none) (popped w q) || on_ok (drops_queue n h) (expand h s (get_or w.table s none) (popped w q)) ]) ≡ true → QueueCut h w
    go [] k rec e = never e
    go (s ∷ q) k rec e =
        case (or_either (drops_popped h s (get_or w.table s none) (popped w q)) _ e) (λ x. popped_cut h s q w k (get_or w.table s none) refl x)
        (λ x. let (v, i, f) = on_ok_lem (drops_queue n h) (expand h s (get_or w.table s none) (popped w q)) x in popped_later s q v k i (rec v f))

nonemitting_cut : (h : Here) (w : Work) → drops_nonemitting h w ≡ true → (v : Work) × (push_from h 0 w.table w ≡ ok v) × QueueCut h v
unfolding drops_nonemitting
nonemitting_cut h w e = let (v, q, f) = on_ok_lem (drops_queue (fuel h.graph) h) (push_from h 0 w.table w) e in (v, q, queue_cut_lem h (fuel h.graph) v f)

-- ---- a start, and a frame

module _ (g : Graph) (c : Config) (st : State) where
  pub start_cut_lem : (s : State) → start g c unlimited st ≡ ok s → drops_start g c unlimited st ≡ true → CallCut g c st start_call
  unfolding drops_start
  start_cut_lem s k e = go (eqb g.start no_state) refl e
    where
      go : (b : Bool) → eqb g.start no_state ≡ b → (elim b as (λ x. Bool) [ true ↦ false | false ↦ drops_nonemitting (during g unlimited st 0 []) (start_work g c) ]) ≡ true → CallCut g c st start_call
      go true i e = never e
      go false i e = let (v, q, f) = nonemitting_cut (during g unlimited st 0 []) (start_work g c) e in start_cut s v k i q f

  pub frame_cut_lem : (ls : List Float) (s : State) → frame g c unlimited ls st ≡ ok s → drops_frame g c unlimited ls st ≡ true → CallCut g c st (frame_call ls)
  unfolding drops_frame drops_emitting
  frame_cut_lem ls s k e =
      let h = during g unlimited st st.frames st.table in
      let cut = get_cutoff c st.table in
      let p = emitting ls (offset_of (best st.table)) cut.adaptive in
      let m = emitting_pass h c ls st.table st.seq st.fresh in
      case (or_either (drops_emitting h c ls st.table st.seq st.fresh) (on_ok (drops_nonemitting h) m) e)
      (λ x.
      let (next, q, f) = on_ok_lem (λ next. drops_emit h p cut.cutoff 0 st.table (empty_work g st.seq st.fresh next)) (look g ls cut.adaptive (best st.table)) x in
      frame_cut s next k q (emitting_cut h p cut.cutoff 0 st.table (empty_work g st.seq st.fresh next) f))
      (λ x. let (w, q, f) = on_ok_lem (drops_nonemitting h) m x in let (v, i, y) = nonemitting_cut h w f in queue_cut s w v k q i y)

module _ (g : Graph) (c : Config) where
  abbrev Found : Point → List (Call × ℕ) → Type 0
  Found pt ks = ((pt.cut ≡ true) × NoStart ks) ⊎ HasCut g c pt ks

  no_start : (k : Call) (n : ℕ) (ks : List (Call × ℕ)) → (k ≡ start_call → ⊥) → NoStart ks → NoStart ((k, n) ∷ ks)
  no_start k n ks d f x (here e) q = d (ap (λ (y : Call × ℕ). y.0) (sym e) ∙ q)
  no_start k n ks d f x (there m) q = f x m q

  first_cut : (pt : Point) (k : Call) (ks : List (Call × ℕ)) → CallCut g c pt.state k → NoStart ks → HasCut g c pt ((k, 0) ∷ ks)
  unfolding after
  first_cut pt k ks d f = record { before = []; call = k; later = ks; is = refl; cut = d; since = f }

  later_cut : (pt : Point) (k : Call) (n : ℕ) (ks : List (Call × ℕ)) → HasCut g c (go_to g c pt k n) ks → HasCut g c pt ((k, n) ∷ ks)
  unfolding after
  later_cut pt k n ks f = record { before = (k, n) ∷ f.before; call = f.call; later = f.later; is = ap (λ (l : List (Call × ℕ)). (k, n) ∷ l) f.is; cut = f.cut; since = f.since }

  one_cut : (pt : Point) (k : Call) (n : ℕ) (ks : List (Call × ℕ)) → (go_to g c pt k n).cut ≡ true → NoStart ks → Found pt ((k, n) ∷ ks)
  unfolding go_to
  one_cut pt start_call zero ks e f = go (start g c unlimited pt.state) refl e
    where
      go : (o : Outcome State) → start g c unlimited pt.state ≡ o → (after_start (dropped g pt.state) (drops_start g c unlimited pt.state) o).cut ≡ true → Found pt ((start_call, 0) ∷ ks)
      go (ok s) q e = inr (first_cut pt start_call ks (start_cut_lem g c pt.state s q e) f)
      go (refused n) q e = never e
  one_cut pt start_call (suc n) ks e f = never e
  one_cut pt (frame_call ls) zero ks e f = go (frame g c unlimited ls pt.state) refl e
    where
      drops : Bool
      drops = drops_frame g c unlimited ls pt.state

      was : pt.cut ≡ true → Found pt ((frame_call ls, 0) ∷ ks)
      was e = inl (e, no_start (frame_call ls) 0 ks (λ q. let z : ◌≡◌ {A = ℕ} 0 1 = cc in omega arith) f)

      go : (o : Outcome State) → frame g c unlimited ls pt.state ≡ o → (after_frame pt (hearing ls pt.state.table) drops o).cut ≡ true → Found pt ((frame_call ls, 0) ∷ ks)
      go (ok s) q e = case (or_either pt.cut drops e) was (λ d. inr (first_cut pt (frame_call ls) ks (frame_cut_lem g c pt.state ls s q d) f))
      go (refused n) q e = was e
  one_cut pt (frame_call ls) (suc n) ks e f = inl (e, no_start (frame_call ls) (suc n) ks (λ q. let z : ◌≡◌ {A = ℕ} 0 1 = cc in omega arith) f)
  one_cut pt (keep_call m) zero ks e f = inl (e, no_start (keep_call m) zero ks (λ q. let z : ◌≡◌ {A = ℕ} 0 1 = cc in omega arith) f)
  one_cut pt (keep_call m) (suc n) ks e f = inl (e, no_start (keep_call m) (suc n) ks (λ q. let z : ◌≡◌ {A = ℕ} 0 1 = cc in omega arith) f)
  one_cut pt (read_call r) n ks e f = inl (e, no_start (read_call r) n ks (λ q. let z : ◌≡◌ {A = ℕ} 0 1 = cc in omega arith) f)

  cut_found : (pt : Point) (ks : List (Call × ℕ)) → (after g c pt ks).cut ≡ true → Found pt ks
  unfolding after
  cut_found pt [] e = inl (e, λ k m. elim m [ ])
  cut_found pt (k ∷ ks) e = case (cut_found (go_to g c pt k.0 k.1) ks e) (λ x. one_cut pt k.0 k.1 ks x.0 x.1) (λ x. inr (later_cut pt k.0 k.1 ks x))

  -- What is remembered as a cut is one: in the latest start or since, a token or total that an accepted call left out.
  pub cut_happened : (ks : List (Call × ℕ)) → (reached g c ks).cut ≡ true → HasCut g c (fitted_point g) ks
  cut_happened ks e = case (cut_found (fitted_point g) ks e) (λ x. never x.0) (λ x. x)
