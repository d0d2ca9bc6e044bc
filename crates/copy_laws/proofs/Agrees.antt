-- Where a metered run accepts, the unlimited one gives the same; where it refuses, so does the unlimited one by the same number, or the number is a store's. Assumes nothing.
use Rattle.std.specs.Prelude.{◌≡◌, ◌⊎◌, Bool, not, ◌&&◌, length, get_or, T, eqb, Float}
use Rattle.std.proofs.Math.Path.{refl}
use Rattle.std.proofs.Common.{sym, ap, subst, inl, inr}
use Prim.Native.Nat.{ℕ, zero, suc}
use Rattle.std.proofs.Math.Bool.{true, false}
use Rattle.std.proofs.Math.Option.{Option, none, some}
use mathlib.Core.List.{List, [], ◌∷◌}
use Rattle.real32.specs.Small.{tame}
use Rattle.model.specs.Basics.{◌≺◌, ◌≼◌, ◌⊕◌, over, Outcome, ok, refused, ◌>>=◌, check}
use Rattle.model.specs.Graph.{Graph, Arc, no_state, has_eps, arcs_of}
use Rattle.model.specs.Path.{Path, Token, Table, Limits, unlimited, is_link, memℕ}
use Rattle.model.specs.Cutoff.{Config, best, get_cutoff}
use Rattle.model.specs.Arrive.{Pass, emitting, nonemitting, takes, total, Here, Work, Meets, past_cutoff, vacant, better, not_better, meets, step_on, arriving, joined, keeps, keep, path_in_hand, check_winner, Change, arc_cut, token_stays, token_wins, token_joins, fills, beats, loses, settle, passed, put, push, push_winner, push_joined, finish, place_of, arrive, arrive_all}
use Rattle.model.specs.Passes.{offset_of, look, empty_work, emit_from, emitting_pass, push_from, popped, expand, drain, fuel, nonemitting_pass, State, done, during, start, check_frame, frame}
use Rattle.copy_laws.specs.Agrees.{of_store, free}

module _ {A : Type 0} where
  -- with limits, and without
  abbrev pub Agree : Outcome A → Outcome A → Type 0
  Agree (ok a) y = y ≡ ok a
  Agree (refused n) y = (y ≡ refused n) ⊎ T (of_store n)

  pub agree : (x : Outcome A) → Agree x x
  agree (ok a) = refl
  agree (refused n) = inl refl

  agree_if : (b : Bool) (x y x' y' : Outcome A) → Agree x x' → Agree y y' → Agree (elim b as (λ c. Outcome A) [ true ↦ x | false ↦ y ]) (elim b as (λ c. Outcome A) [ true ↦ x' | false ↦ y' ])
  agree_if true x y x' y' p q = p
  agree_if false x y x' y' p q = q

  agree_stop : (b : Bool) (n : ℕ) (x y : Outcome A) → T (of_store n) → Agree x y → Agree (elim b as (λ c. Outcome A) [ true ↦ refused n | false ↦ x ]) y
  agree_stop true n x y t p = inr t
  agree_stop false n x y t p = p

agree_then : {A B : Type 0} (m m' : Outcome A) (f f' : A → Outcome B) → Agree m m' → ((a : A) → Agree (f a) (f' a)) → Agree (m >>= f) (m' >>= f')
agree_then (ok a) m' f f' p k = subst (λ (x : Outcome _). Agree (f a) (x >>= f')) (sym p) (k a)
agree_then (refused n) m' f f' (inl p) k = inl (ap (λ (x : Outcome _). x >>= f') p)
agree_then (refused n) m' f f' (inr p) k = inr p

agree_same : {A B : Type 0} (m : Outcome A) (f f' : A → Outcome B) → ((a : A) → Agree (f a) (f' a)) → Agree (m >>= f) (m >>= f')
agree_same m f f' k = agree_then m m f f' (agree m) k

module _ (h : Here) where
  keep_agrees : (hand : List Path) (n : ℕ) (gap : Float) (won lost : Token) → Agree (keep h hand n gap won lost) (keep (free h) hand n gap won lost)
  unfolding keep joined unlimited
  keep_agrees hand n gap won lost = agree_if (keeps h.margin gap won lost) _ _ _ _ (agree_stop (h.limits.full hand) 13 _ _ tt refl) refl

  check_agrees : (b p c : Bool) → Agree (check 12 b >>= λ u. check 13 (not (p && c))) (check 12 b >>= λ u. check 13 (not (p && false)))
  check_agrees true true true = inr tt
  check_agrees true true false = refl
  check_agrees true false c = refl
  check_agrees false p c = inl refl

  winner_agrees : (w : Work) (p : Pass) (t : Token) (a : Arc) → Agree (check_winner h w p t a) (check_winner (free h) w p t a)
  unfolding check_winner step_on unlimited
  winner_agrees w p t a = check_agrees (tame (t.graph ⊕ a.weight)) (is_link (step_on h p t a 0 false)) (h.limits.full (path_in_hand h w t.path))

  push_agrees : (s : ℕ) (re : List ℕ) (w : Work) → Agree (push h s re w) (push (free h) s re w)
  unfolding push unlimited
  push_agrees s re w = agree_stop (over (suc (length w.queue)) h.limits.queue) 14 _ _ tt refl

  push_winner-agrees : (p : Pass) (s : ℕ) (w : Work) → Agree (push_winner h p s w) (push_winner (free h) p s w)
  push_winner-agrees (emitting ls off ad) s w = refl
  push_winner-agrees nonemitting s w = push_agrees s w.requeued w

  push_joined-agrees : (p : Pass) (s : ℕ) (w : Work) → Agree (push_joined h p s w) (push_joined (free h) p s w)
  push_joined-agrees (emitting ls off ad) s w = refl
  push_joined-agrees nonemitting s w = agree_if (has_eps h.graph s && not (memℕ s w.requeued)) _ _ _ _ (push_agrees s (s ∷ w.requeued) w) refl

  finish_agrees : (p : Pass) (s : ℕ) (tot : Float) (w : Work) (c : Change) → Agree (finish h p s tot w c) (finish (free h) p s tot w c)
  unfolding finish
  finish_agrees p s tot w arc_cut = refl
  finish_agrees p s tot w token_stays = refl
  finish_agrees p s tot w (token_wins t q) = push_winner-agrees p s (put s t q (passed p tot w))
  finish_agrees p s tot w (token_joins t) = push_joined-agrees p s (put s t w.seq (passed p tot w))

  settle_agrees : (p : Pass) (t : Token) (a : Arc) (w : Work) (m : Meets) → Agree (settle h p t a w m) (settle (free h) p t a w m)
  unfolding settle fills beats loses arriving step_on
  settle_agrees p t a w past_cutoff = refl
  settle_agrees p t a w vacant = agree_same (check 12 (tame (total h.graph p t a))) _ _ λ u. agree_then (check_winner h w p t a) (check_winner (free h) w p t a) _ _ (winner_agrees w p t a) λ x. refl
  settle_agrees p t a w (better gap held) =
      let new = arriving h p t a w.fresh held.seq false in
      agree_same (check 12 (tame (total h.graph p t a))) _ _ λ u. agree_then (check_winner h w p t a) (check_winner (free h) w p t a) _ _ (winner_agrees w p t a) λ x.
      agree_then (keep h (path_in_hand h w new.path) (suc w.fresh) gap new held) (keep (free h) (path_in_hand h w new.path) (suc w.fresh) gap new held) _ _ (keep_agrees _ _ gap new held) λ j. refl
  settle_agrees p t a w (not_better gap held) =
      let new = arriving h p t a w.fresh 0 true in
      agree_same (check 12 (tame (total h.graph p t a))) _ _ λ u.
      agree_then (keep h (path_in_hand h w new.path) (suc w.fresh) gap held new) (keep (free h) (path_in_hand h w new.path) (suc w.fresh) gap held new) _ _ (keep_agrees _ _ gap held new) λ j. refl

  arrive_agrees : (p : Pass) (t : Token) (a : Arc) (w : Work) → Agree (arrive h p t a w) (arrive (free h) p t a w)
  unfolding arrive
  arrive_agrees p t a w =
      let m = meets w.cutoff (total h.graph p t a) (place_of w a) in
      agree_then (settle h p t a w m) (settle (free h) p t a w m) _ _ (settle_agrees p t a w m) (finish_agrees p a.target (total h.graph p t a) w)

  arrive_all-agrees : (p : Pass) (t : Token) (as' : List Arc) (w : Work) → Agree (arrive_all h p t as' w) (arrive_all (free h) p t as' w)
  unfolding arrive_all
  arrive_all-agrees p t [] w = refl
  arrive_all-agrees p t (a ∷ rest) w =
      agree_if (takes p a) _ _ _ _ (agree_then (arrive h p t a w) (arrive (free h) p t a w) _ _ (arrive_agrees p t a w) (arrive_all-agrees p t rest)) (arrive_all-agrees p t rest w)

  -- ---- the passes

  emit_from-agrees : (p : Pass) (cut : Float) (s : ℕ) (ts : Table) (w : Work) → Agree (emit_from h p cut s ts w) (emit_from (free h) p cut s ts w)
  unfolding emit_from
  emit_from-agrees p cut s [] w = refl
  emit_from-agrees p cut s (none ∷ ts) w = emit_from-agrees p cut (suc s) ts w
  emit_from-agrees p cut s (some t ∷ ts) w =
      agree_if (cut ≺ t.cost) _ _ _ _ (emit_from-agrees p cut (suc s) ts w)
      (agree_then (arrive_all h p t (arcs_of h.graph s) w) (arrive_all (free h) p t (arcs_of h.graph s) w) _ _ (arrive_all-agrees p t (arcs_of h.graph s) w) (emit_from-agrees p cut (suc s) ts))

  emitting_pass-agrees : (c : Config) (ls : List Float) (ts : Table) (q n : ℕ) → Agree (emitting_pass h c ls ts q n) (emitting_pass (free h) c ls ts q n)
  unfolding emitting_pass
  emitting_pass-agrees c ls ts q n =
      let cut = get_cutoff c ts in
      agree_same (look h.graph ls cut.adaptive (best ts)) _ _ λ next. emit_from-agrees (emitting ls (offset_of (best ts)) cut.adaptive) cut.cutoff 0 ts (empty_work h.graph q n next)

  push_from-agrees : (s : ℕ) (ts : Table) (w : Work) → Agree (push_from h s ts w) (push_from (free h) s ts w)
  unfolding push_from
  push_from-agrees s [] w = refl
  push_from-agrees s (none ∷ ts) w = push_from-agrees (suc s) ts w
  push_from-agrees s (some t ∷ ts) w =
      agree_if (has_eps h.graph s) _ _ _ _ (agree_then (push h s [] w) (push (free h) s [] w) _ _ (push_agrees s [] w) (push_from-agrees (suc s) ts)) (push_from-agrees (suc s) ts w)

  expand_agrees : (s : ℕ) (o : Option Token) (w : Work) → Agree (expand h s o w) (expand (free h) s o w)
  unfolding expand
  expand_agrees s none w = refl
  expand_agrees s (some t) w = agree_if (w.cutoff ≼ t.cost) _ _ _ _ refl (arrive_all-agrees nonemitting t (arcs_of h.graph s) w)

  drain_agrees : (n : ℕ) (w : Work) → Agree (drain n h w) (drain n (free h) w)
  unfolding drain
  drain_agrees zero w = refl
  drain_agrees (suc n) w = go (drain_agrees n) w.queue
    where
      turn : Here → ℕ → List ℕ → Outcome Work
      turn k s r = expand k s (get_or w.table s none) (popped w r) >>= λ v. drain n k v

      go : ((v : Work) → Agree (drain n h v) (drain n (free h) v)) → (q : List ℕ) → Agree {A = Work} (elim q as (λ (r : List ℕ). Outcome Work) [ [] ↦ ok w | s ∷ r ↦ turn h s r ]) (elim q as (λ (r : List ℕ). Outcome Work) [ [] ↦ ok w | s ∷ r ↦ turn (free h) s r ])
      go rec [] = refl
      go rec (s ∷ r) = agree_then (expand h s (get_or w.table s none) (popped w r)) (expand (free h) s (get_or w.table s none) (popped w r)) _ _ (expand_agrees s (get_or w.table s none) (popped w r)) rec

  nonemitting_pass-agrees : (w : Work) → Agree (nonemitting_pass h w) (nonemitting_pass (free h) w)
  unfolding nonemitting_pass
  nonemitting_pass-agrees w = agree_then (push_from h 0 w.table w) (push_from (free h) 0 w.table w) _ _ (push_from-agrees 0 w.table w) (drain_agrees (fuel h.graph))

-- ---- a start, and a frame

pub start_agrees : (g : Graph) (c : Config) (l : Limits) (st : State) → Agree (start g c l st) (start g c unlimited st)
unfolding start
start_agrees g c l st =
    let h = during g l st 0 [] in
    agree_if (eqb g.start no_state) _ _ _ _ refl (agree_then (nonemitting_pass h _) (nonemitting_pass (free h) _) _ _ (nonemitting_pass-agrees h _) λ v. refl)

pub frame_agrees : (g : Graph) (c : Config) (l : Limits) (ls : List Float) (st : State) → Agree (frame g c l ls st) (frame g c unlimited ls st)
unfolding frame
frame_agrees g c l ls st = go (check_frame g st ls)
  where
    h : Here
    h = during g l st st.frames st.table

    run : Here → Outcome State
    run k = emitting_pass k c ls st.table st.seq st.fresh >>= λ w. nonemitting_pass k w >>= λ v. ok (done st (suc st.frames) v)

    go : (o : Option ℕ) → Agree {A = State} (elim o as (λ x. Outcome State) [ none ↦ run h | some n ↦ refused n ]) (elim o as (λ x. Outcome State) [ none ↦ run (free h) | some n ↦ refused n ])
    go none =
        agree_then (emitting_pass h c ls st.table st.seq st.fresh) (emitting_pass (free h) c ls st.table st.seq st.fresh) _ _ (emitting_pass-agrees h c ls st.table st.seq st.fresh) λ w.
        agree_then (nonemitting_pass h w) (nonemitting_pass (free h) w) _ _ (nonemitting_pass-agrees h w) λ v. refl
    go (some n) = inl refl
