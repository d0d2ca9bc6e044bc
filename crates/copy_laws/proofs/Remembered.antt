-- Whatever was cut is remembered: where a call of a list left something out, and no start came after it, `cut` is true. The other way is `cut_happened`. Assumes nothing.
use Rattle.std.specs.Prelude.{◌≡◌, ◌⊎◌, Bool, false, ◌||◌, eqb, length, get_or, Float}
use Rattle.std.proofs.Math.Path.{refl, ap}
use Rattle.std.proofs.Common.{◌∙◌, subst, inl, inr, arith}
use Prim.Native.Nat.{ℕ, zero, suc, ◌<◌}
use Rattle.std.proofs.Math.Bool.{true}
use Rattle.std.proofs.Math.Option.{Option, none, some}
use mathlib.Core.List.Memᴰ.{head as here}
use mathlib.Core.List.Memᴰ.{tail as there}
use mathlib.Core.List.{List, [], ◌∷◌, ◌++◌}
use Rattle.lists.specs.Tests.{never}
use Rattle.lists.specs.Lists.{◌∈◌}
use Rattle.model.specs.Basics.{◌≼◌, Outcome, ok, refused}
use Rattle.model.specs.Graph.{Graph, Arc, no_state, states, arcs_of, check_graph}
use Rattle.model.specs.Path.{Token, Table, unlimited}
use Rattle.model.specs.Cutoff.{Config, best, get_cutoff}
use Rattle.model.specs.Arrive.{Pass, emitting, nonemitting, total, Here, Work, arrive, arrive_all}
use Rattle.model.specs.Passes.{offset_of, look, empty_work, emitting_pass, push_from, popped, expand, fuel, State, dropped, during, start_work, frame}
use Rattle.model.specs.Calls.{Call, start_call, frame_call, keep_call, read_call}
use Rattle.model.specs.Accepted.{Ok}
use Rattle.model.specs.Checked.{GoodGraph}
use Rattle.model.proofs.Checked.{checked}
use Rattle.copy_laws.specs.Walks.{Heard}
use Rattle.copy_laws.specs.Drops.{on_ok, drops_total, drops_emit, drops_emitting, drops_popped, drops_queue, drops_nonemitting, drops_start, drops_frame}
use Rattle.copy_laws.specs.Begun.{Starts}
use Rattle.copy_laws.proofs.Begun.{push_starts}
use Rattle.copy_laws.specs.Sums.{Floats32}
use Rattle.copy_laws.specs.Kept.{hearing, Since, Between}
use Rattle.copy_laws.proofs.Kept.{emitting_active}
use Rattle.copy_laws.specs.States.{Standing, in_frame}
use Rattle.copy_laws.proofs.States.{start_inside, start_active}
use Rattle.copy_laws.proofs.Ends.{Going, enough, turn_goes}
use Rattle.copy_laws.specs.Points.{Point, after_start, after_frame, go_to, after, fitted_point, reached}
use Rattle.copy_laws.proofs.Points.{reached_stands}
use Rattle.copy_laws.specs.Cuts.{TotalCut, total_here, total_later, total_past, EmittingCut, token_above, token_total, token_later, token_past, QueueCut, popped_above, popped_total, popped_later, CallCut, start_cut, frame_cut, queue_cut, NoStart, HasCut}

-- ---- a test that runs beside a pass

or_left : (a b : Bool) → a ≡ true → (a || b) ≡ true
or_left true b e = refl
or_left false b e = never e

or_right : (a b : Bool) → b ≡ true → (a || b) ≡ true
or_right true b e = refl
or_right false b e = e

on_accepted : {A : Type 0} (f : A → Bool) (m : Outcome A) (a : A) → m ≡ ok a → f a ≡ true → on_ok f m ≡ true
on_accepted f m a e t = ap (on_ok f) e ∙ t

ok_of : {A : Type 0} (P : A → Type 0) (m : Outcome A) (a : A) → m ≡ ok a → Ok P m → P a
ok_of P m a e p = subst (Ok P) e p

total_drops : (h : Here) (p : Pass) (t : Token) (as' : List Arc) (w : Work) → TotalCut h p t as' w → drops_total h p t as' w ≡ true
unfolding drops_total
total_drops h p t as' w (total_here {a = a} {rest = rest} {w = x} k e) = rw (drops_total, k) (or_left (x.cutoff ≼ total h.graph p t a) _ e)
total_drops h p t as' w (total_later {a = a} {rest = rest} {w = x} v k e d) =
    rw (drops_total, k) (or_right (x.cutoff ≼ total h.graph p t a) _ (on_accepted (drops_total h p t rest) (arrive h p t a x) v e (total_drops h p t rest v d)))
total_drops h p t as' w (total_past {a = a} {rest = rest} {w = x} k d) = rw (drops_total, k) (total_drops h p t rest x d)

emitting_drops : (h : Here) (p : Pass) (cut : Float) (s : ℕ) (ts : Table) (w : Work) → EmittingCut h p cut s ts w → drops_emit h p cut s ts w ≡ true
unfolding drops_emit
emitting_drops h p cut s ts w (token_above e) = rw (drops_emit, e) refl
emitting_drops h p cut s ts w (token_total {s = i} {t = t} {ts = us} {w = x} e d) = rw (drops_emit, e) (or_left (drops_total h p t (arcs_of h.graph i) x) _ (total_drops h p t (arcs_of h.graph i) x d))
emitting_drops h p cut s ts w (token_later {s = i} {t = t} {ts = us} {w = x} v e q d) =
    rw (drops_emit, e) (or_right (drops_total h p t (arcs_of h.graph i) x) _ (on_accepted (drops_emit h p cut (suc i) us) (arrive_all h p t (arcs_of h.graph i) x) v q (emitting_drops h p cut (suc i) us v d)))
emitting_drops h p cut s ts w (token_past {s = i} {ts = us} {w = x} d) = emitting_drops h p cut (suc i) us x d

-- ---- the queue, whose fuel is enough to come to every moment of the loop

module _ (h : Here) (inside : (s : ℕ) (a : Arc) → a ∈ arcs_of h.graph s → a.target < states h.graph) where
  no_turn : (w : Work) (s : ℕ) (q : List ℕ) → Going h inside 0 w → w.queue ≡ s ∷ q → ⊥
  no_turn w s q g e = let x = g.small in let y = ap length e in omega arith

  popped_drops : (s : ℕ) (t : Token) (w : Work) → (o : Option Token) → o ≡ some t → ((w.cutoff ≼ t.cost) ≡ true) ⊎ (((w.cutoff ≼ t.cost) ≡ false) × TotalCut h nonemitting t (arcs_of h.graph s) w) → drops_popped h s o w ≡ true
  unfolding drops_popped
  popped_drops s t w o e (inl k) = rw (e, drops_popped, k) refl
  popped_drops s t w o e (inr k) = rw (e, drops_popped, k.0) (total_drops h nonemitting t (arcs_of h.graph s) w k.1)

  -- one pop more
  pop_drops : (n : ℕ) (w : Work) (s : ℕ) (q : List ℕ) → w.queue ≡ s ∷ q → (drops_popped h s (get_or w.table s none) (popped w q) || on_ok (drops_queue n h) (expand h s (get_or w.table s none) (popped w q))) ≡ true → drops_queue (suc n) h w ≡ true
  unfolding drops_queue
  pop_drops n w s q e d = rw (drops_queue, e) d

  queue_drops : (n : ℕ) (w : Work) → Going h inside n w → QueueCut h w → drops_queue n h w ≡ true
  queue_drops zero w g (popped_above s q t e i k) = absurd (no_turn w s q g e)
  queue_drops zero w g (popped_total s q t e i k d) = absurd (no_turn w s q g e)
  queue_drops zero w g (popped_later s q v e f d) = absurd (no_turn w s q g e)
  queue_drops (suc n) w g (popped_above s q t e i k) = pop_drops n w s q e (or_left _ _ (popped_drops s t (popped w q) (get_or w.table s none) i (inl k)))
  queue_drops (suc n) w g (popped_total s q t e i k d) = pop_drops n w s q e (or_left _ _ (popped_drops s t (popped w q) (get_or w.table s none) i (inr (k, d))))
  queue_drops (suc n) w g (popped_later s q v e f d) =
      let m = expand h s (get_or w.table s none) (popped w q) in
      pop_drops n w s q e (or_right (drops_popped h s (get_or w.table s none) (popped w q)) _ (on_accepted (drops_queue n h) m v f (queue_drops n v (ok_of (Going h inside n) m v f (turn_goes h inside n s q w e g)) d)))

module _ (h : Here) (fs : List Heard) (good : GoodGraph h.graph) (w : Work) (active : Between h fs w) (no_queue : w.queue ≡ []) (none_requeued : w.requeued ≡ []) where
  nonemitting_drops : (v : Work) → push_from h 0 w.table w ≡ ok v → QueueCut h v → drops_nonemitting h w ≡ true
  unfolding drops_nonemitting
  nonemitting_drops v e d =
      let inside : (s : ℕ) (a : Arc) → a ∈ arcs_of h.graph s → a.target < states h.graph = λ s a m. (good.arc s a m).target in
      let going = enough h inside w active.long (λ s t i. (active.sound s t i).sums.cost.0) no_queue none_requeued v (ok_of (Starts h.graph w) (push_from h 0 w.table w) v e (push_starts h w)) in
      on_accepted (drops_queue (fuel h.graph) h) (push_from h 0 w.table w) v e (queue_drops h inside (fuel h.graph) v going d)

-- ---- a start, and a frame

module _ (g : Graph) (c : Config) (good : GoodGraph g) (floats : Floats32 g) where
  start_drops : (st : State) (v : Work) → eqb g.start no_state ≡ false → push_from (during g unlimited st 0 []) 0 (start_work g c).table (start_work g c) ≡ ok v → QueueCut (during g unlimited st 0 []) v → drops_start g c unlimited st ≡ true
  unfolding drops_start
  start_drops st v e i d = rw (drops_start, e) (nonemitting_drops (during g unlimited st 0 []) [] good (start_work g c) (start_active g c (start_inside g good e)) refl refl v i d)

  frame_drops : (st : State) (fs : List Heard) → Standing g fs st → (ls : List Float) → CallCut g c st (frame_call ls) → drops_frame g c unlimited ls st ≡ true
  unfolding drops_frame drops_emitting
  frame_drops st fs h ls (frame_cut s next e i d) =
      let now = in_frame g unlimited st in
      let cut = get_cutoff c st.table in
      let p = emitting ls (offset_of (best st.table)) cut.adaptive in
      or_left (drops_emitting now c ls st.table st.seq st.fresh) _
      (on_accepted (λ x. drops_emit now p cut.cutoff 0 st.table (empty_work g st.seq st.fresh x)) (look g ls cut.adaptive (best st.table)) next i (emitting_drops now p cut.cutoff 0 st.table (empty_work g st.seq st.fresh next) d))
  frame_drops st fs h ls (queue_cut s w v e i j d) =
      let now = in_frame g unlimited st in
      let m = emitting_pass now c ls st.table st.seq st.fresh in
      let fs' = fs ++ (hearing ls st.table ∷ []) in
      let a = ok_of (Since g fs' st.fresh) m w i (emitting_active now c ls st.table st.seq st.fresh fs good floats h.frames h.active) in
      or_right (drops_emitting now c ls st.table st.seq st.fresh) _ (on_accepted (drops_nonemitting now) m w i (nonemitting_drops now fs' good w a.active a.no_queue a.none_requeued v j d))

  -- the call that left it out
  call_remembers : (pt : Point) (k : Call) → Standing g pt.heard pt.state → CallCut g c pt.state k → (go_to g c pt k 0).cut ≡ true
  unfolding go_to
  call_remembers pt k h (start_cut s v e i j d) = ap (λ (o : Outcome State). (after_start (dropped g pt.state) (drops_start g c unlimited pt.state) o).cut) e ∙ start_drops pt.state v i j d
  call_remembers pt k h (frame_cut {ls = ls} s next e i d) =
      let drops = drops_frame g c unlimited ls pt.state in
      ap (λ (o : Outcome State). (after_frame pt (hearing ls pt.state.table) drops o).cut) e ∙ or_right pt.cut drops (frame_drops pt.state pt.heard h ls (frame_cut s next e i d))
  call_remembers pt k h (queue_cut {ls = ls} s w v e i j d) =
      let drops = drops_frame g c unlimited ls pt.state in
      ap (λ (o : Outcome State). (after_frame pt (hearing ls pt.state.table) drops o).cut) e ∙ or_right pt.cut drops (frame_drops pt.state pt.heard h ls (queue_cut s w v e i j d))

-- ---- no call but a start forgets it

module _ (g : Graph) (c : Config) where
  call_keeps : (pt : Point) (k : Call) (n : ℕ) → (k ≡ start_call → ⊥) → pt.cut ≡ true → (go_to g c pt k n).cut ≡ true
  unfolding go_to
  call_keeps pt start_call n f e = absurd (f refl)
  call_keeps pt (frame_call ls) zero f e = go (frame g c unlimited ls pt.state)
    where
      go : (o : Outcome State) → (after_frame pt (hearing ls pt.state.table) (drops_frame g c unlimited ls pt.state) o).cut ≡ true
      go (ok s) = or_left pt.cut _ e
      go (refused n) = e
  call_keeps pt (frame_call ls) (suc n) f e = e
  call_keeps pt (keep_call m) zero f e = e
  call_keeps pt (keep_call m) (suc n) f e = e
  call_keeps pt (read_call r) n f e = e

  calls_keep : (pt : Point) (ks : List (Call × ℕ)) → NoStart ks → pt.cut ≡ true → (after g c pt ks).cut ≡ true
  unfolding after
  calls_keep pt [] f e = e
  calls_keep pt (k ∷ ks) f e = calls_keep (go_to g c pt k.0 k.1) ks (λ j m. f j (there m)) (call_keeps pt k.0 k.1 (f k (here refl)) e)

  after-append : (pt : Point) (ks more : List (Call × ℕ)) → after g c pt (ks ++ more) ≡ after g c (after g c pt ks) more
  unfolding after
  after-append pt [] more = refl
  after-append pt (k ∷ ks) more = after-append (go_to g c pt k.0 k.1) ks more

  -- What was cut in the latest start or since is remembered.
  pub cut_remembered : check_graph g ≡ none → Floats32 g → (ks : List (Call × ℕ)) → HasCut g c (fitted_point g) ks → (reached g c ks).cut ≡ true
  unfolding after
  cut_remembered passed floats ks f =
      let pt = reached g c f.before in
      ap (λ (l : List (Call × ℕ)). (reached g c l).cut) f.is ∙ ap (λ (x : Point). x.cut) (after-append (fitted_point g) f.before ((f.call, 0) ∷ f.later))
      ∙ calls_keep (go_to g c pt f.call 0) f.later f.since (call_remembers g c (checked g passed) floats pt f.call (reached_stands g c passed floats f.before).standing f.cut)
