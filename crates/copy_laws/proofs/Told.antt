-- The copy that is told just the 13 to 15 says what the copy with the stores says, and goes on from the same state. Assumes nothing.
use Rattle.std.specs.Prelude.{◌≡◌, Bool, ◌||◌, cond, List, [], ◌∷◌, ◌++◌, map, length, T, eqb, ltb}
use Rattle.std.proofs.Math.Path.{refl}
use Rattle.std.proofs.Common.{sym, ap, ◌∙◌, subst, inl, inr, arith, eqb→eq}
use Prim.Native.Nat.{ℕ, zero, suc}
use Rattle.std.proofs.Math.Bool.{true, false}
use Rattle.std.proofs.Math.Option.{Option, none, some}
use Rattle.model.specs.Basics.{over, refuse, first_of, Outcome, ok, refused, Place, nowhere, at_frames, Refusal}
use Rattle.model.specs.Graph.{Graph}
use Rattle.model.specs.Path.{Limits, unlimited}
use Rattle.model.specs.Cutoff.{Config}
use Rattle.model.specs.Passes.{State, fitted, dropped, start, frame, set_keep}
use Rattle.model.specs.Reads.{best_path, Group, trace_groups, alternatives}
use Rattle.model.specs.Readings.{readings}
use Rattle.model.specs.Calls.{Read, best_path_read, alternatives_read, readings_read, relative_cost_read, num_active_read, frames_decoded_read, Call, start_call, frame_call, keep_call, read_call, Answer, refusal_answer, done_answer, path_answer, paths_answer, readings_answer, count_answer, cost_answer, reading_of, words_of, short, to_list, unless, read_best, read_alternatives, read_readings, read_answer, Said, said, call, left_by, refused_at, told_call, answers_from, answers}
use Rattle.copy_laws.specs.Agrees.{of_store}
use Rattle.copy_laws.proofs.Agrees.{Agree, agree, start_agrees, frame_agrees}
use Rattle.copy_laws.specs.Told.{is_told, told_of, GivesBack, given, limited_from, limited_answers, limited_after, tell_from, tell}

-- ---- one call

-- A refusal leaves what the copy leaves and has its place; and where the copy is told of none, it does the same by itself.
module _ (g : Graph) (c : Config) (k : Call) (st : State) where
  abbrev Stops : Said → Type 0
  Stops s = (n : ℕ) (p : Place) → s.answer ≡ refusal_answer (record { number = n; place = p }) → (s.state ≡ left_by g k st) × (p ≡ refused_at k st)

  told_refusal : (m : ℕ) (p : Place) (s : State) (b : Bool) → (cond b (suc m) 0 ≡ 0 → call g c unlimited k st ≡ record { state = s; answer = refusal_answer (record { number = suc m; place = p }) }) → s ≡ left_by g k st → p ≡ refused_at k st
      → told_call g c k (cond b (suc m) 0) st ≡ record { state = s; answer = refusal_answer (record { number = suc m; place = p }) }
  unfolding told_call
  told_refusal m p s true goes e q = cc
  told_refusal m p s false goes e q = goes refl

  told_said : (s : State) (a : Answer) → Stops (record { state = s; answer = a }) → (told_of a ≡ 0 → call g c unlimited k st ≡ record { state = s; answer = a }) → told_call g c k (told_of a) st ≡ record { state = s; answer = a }
  unfolding told_call
  told_said s (refusal_answer r) stops goes = go r.number r.place (λ n p e. stops n p e) goes
    where
      go : (n : ℕ) (p : Place) → ((i : ℕ) (q : Place) → refusal_answer (record { number = n; place = p }) ≡ refusal_answer (record { number = i; place = q }) → (s ≡ left_by g k st) × (q ≡ refused_at k st))
          → (cond (is_told n) n 0 ≡ 0 → call g c unlimited k st ≡ record { state = s; answer = refusal_answer (record { number = n; place = p }) }) → told_call g c k (cond (is_told n) n 0) st ≡ record { state = s; answer = refusal_answer (record { number = n; place = p }) }
      go zero p stops goes = goes refl
      go (suc m) p stops goes = let (e, q) = stops (suc m) p refl in told_refusal m p s (is_told (suc m)) goes e q
  told_said s done_answer stops goes = goes refl
  told_said s (path_answer p) stops goes = goes refl
  told_said s (paths_answer ps) stops goes = goes refl
  told_said s (readings_answer rs ps) stops goes = goes refl
  told_said s (count_answer n) stops goes = goes refl
  told_said s (cost_answer x) stops goes = goes refl

said_stops : (old : State) (p : Place) (x : Outcome State) (n : ℕ) (q : Place) → (said old p x).answer ≡ refusal_answer (record { number = n; place = q }) → ((said old p x).state ≡ old) × (q ≡ p)
said_stops old p (ok s) n q e = absurd (let z : ◌≡◌ {A = ℕ} 0 1 = cc in omega arith)
said_stops old p (refused m) n q e = (refl, let r : ◌≡◌ {A = Refusal} (record { number = n; place = q }) (record { number = m; place = p }) = cc in ap (λ (x : Refusal). x.place) r)

store_told : (n : ℕ) → T (of_store n) → cond (is_told n) n 0 ≡ 0 → ⊥
store_told n t e = go (eqb n 13) (eqb n 14) (eqb→eq n 13) (eqb→eq n 14) t
  where
    is : (m : ℕ) → n ≡ m → cond (is_told m) m 0 ≡ 0
    is m i = subst (λ (x : ℕ). cond (is_told x) x 0 ≡ 0) i e

    go : (a b : Bool) → (T a → n ≡ 13) → (T b → n ≡ 14) → T (a || b) → ⊥
    go true b f h u = let z = is 13 (f tt) in omega arith
    go false true f h u = let z = is 14 (h tt) in omega arith
    go false false f h u = u

said_goes : (old : State) (p : Place) (x y : Outcome State) → Agree x y → told_of (said old p x).answer ≡ 0 → said old p y ≡ said old p x
said_goes old p (ok s) y e z = ap (said old p) e
said_goes old p (refused n) y (inl e) z = ap (said old p) e
said_goes old p (refused n) y (inr t) z = absurd (store_told n t z)

list_goes : (b6 b15 b11 : Bool) (a : Answer) → told_of (unless (first_of (refuse 6 b6 ∷ refuse 15 b15 ∷ refuse 11 b11 ∷ [])) a) ≡ 0 → unless (first_of (refuse 6 b6 ∷ refuse 15 false ∷ refuse 11 b11 ∷ [])) a ≡ unless (first_of (refuse 6 b6 ∷ refuse 15 b15 ∷ refuse 11 b11 ∷ [])) a
list_goes true b15 b11 a z = refl
list_goes false true b11 a z = absurd (omega arith)
list_goes false false b11 a z = refl

pub read_given : (g : Graph) (l : Limits) (r : Read) (st : State) → (o : Option ℕ) × (read_answer g l r st ≡ unless o (given g r st))
unfolding read_answer read_best read_alternatives read_readings given
read_given g l (best_path_read f z) st = let p = best_path g st f in (refuse 11 (short z (words_of (to_list p)) (to_list p) 0), refl)
read_given g l (alternatives_read f max z) st = let ps = alternatives g st f max in (first_of (refuse 6 (ltb 64 max) ∷ refuse 11 (short z (words_of ps) ps (length ps)) ∷ []), refl)
read_given g l (readings_read f n max z) st =
    let r = readings g st f n in
    let ps = trace_groups st max r.groups in
    let full = over r.belows l.below || over r.kepts l.kept in
    (first_of (refuse 6 (ltb 64 n || ltb 64 max) ∷ refuse 15 full ∷ refuse 11 (short z (map (λ (x : Group). x.words) r.groups) ps (length r.groups)) ∷ []), refl)
read_given g l relative_cost_read st = (none, refl)
read_given g l num_active_read st = (none, refl)
read_given g l frames_decoded_read st = (none, refl)

gives_back : (g : Graph) (r : Read) (st : State) → GivesBack (given g r st)
unfolding given
gives_back g (best_path_read f z) st = tt
gives_back g (alternatives_read f max z) st = tt
gives_back g (readings_read f n max z) st = tt
gives_back g relative_cost_read st = tt
gives_back g num_active_read st = tt
gives_back g frames_decoded_read st = tt

-- a read that is refused has no place
unless_stops : (o : Option ℕ) (a : Answer) → GivesBack a → (n : ℕ) (p : Place) → unless o a ≡ refusal_answer (record { number = n; place = p }) → p ≡ nowhere
unless_stops none a t n p e = absurd (subst GivesBack e t)
unless_stops (some m) a t n p e = let r : ◌≡◌ {A = Refusal} (record { number = m; place = nowhere }) (record { number = n; place = p }) = cc in sym (ap (λ (x : Refusal). x.place) r)

read_stops : (g : Graph) (l : Limits) (r : Read) (st : State) (n : ℕ) (p : Place) → read_answer g l r st ≡ refusal_answer (record { number = n; place = p }) → p ≡ nowhere
read_stops g l r st n p e = let (o, q) = read_given g l r st in unless_stops o (given g r st) (gives_back g r st) n p (sym q ∙ e)

-- 15 apart, a read does not see the limits
read_goes : (g : Graph) (l : Limits) (r : Read) (st : State) → told_of (read_answer g l r st) ≡ 0 → read_answer g unlimited r st ≡ read_answer g l r st
unfolding read_answer read_readings unlimited
read_goes g l (best_path_read f z) st e = refl
read_goes g l (alternatives_read f max z) st e = refl
read_goes g l (readings_read f n max z) st e =
    let r = readings g st f n in
    let ps = trace_groups st max r.groups in
    list_goes (ltb 64 n || ltb 64 max) (over r.belows l.below || over r.kepts l.kept) (short z (map (λ (x : Group). x.words) r.groups) ps (length r.groups)) (readings_answer (map reading_of r.groups) ps) e
read_goes g l relative_cost_read st e = refl
read_goes g l num_active_read st e = refl
read_goes g l frames_decoded_read st e = refl

-- Told of what the stores refused, the copy says what the copy with the stores says, and goes on from the same state.
pub call_told : (g : Graph) (c : Config) (l : Limits) (k : Call) (st : State) → told_call g c k (told_of (call g c l k st).answer) st ≡ call g c l k st
unfolding call
call_told g c l start_call st =
    told_said g c start_call st _ _ (said_stops (dropped g st) nowhere (start g c l st)) (said_goes (dropped g st) nowhere (start g c l st) (start g c unlimited st) (start_agrees g c l st))
call_told g c l (frame_call ls) st =
    told_said g c (frame_call ls) st _ _ (said_stops st (at_frames st.frames) (frame g c l ls st)) (said_goes st (at_frames st.frames) (frame g c l ls st) (frame g c unlimited ls st) (frame_agrees g c l ls st))
call_told g c l (keep_call m) st = told_said g c (keep_call m) st _ _ (said_stops st nowhere (set_keep m st)) (said_goes st nowhere (set_keep m st) (set_keep m st) (agree (set_keep m st)))
call_told g c l (read_call r) st =
    told_said g c (read_call r) st _ _ (λ n p e. (refl, read_stops g l r st n p e)) (λ e. ap (λ (a : Answer). record { state = st; answer = a }) (read_goes g l r st e))

-- with one call more
pub limited_more : (g : Graph) (c : Config) (ks : List (Limits × Call)) (k : Limits × Call) (st : State) → limited_from g c (ks ++ (k ∷ [])) st ≡ limited_from g c ks st ++ ((call g c k.0 k.1 (limited_after g c ks st)).answer ∷ [])
unfolding limited_from limited_after
limited_more g c [] k st = refl
limited_more g c (j ∷ ks) k st = let s = call g c j.0 j.1 st in ap (λ (l : List Answer). s.answer ∷ l) (limited_more g c ks k s.state)

pub after_more : (g : Graph) (c : Config) (ks : List (Limits × Call)) (k : Limits × Call) (st : State) → limited_after g c (ks ++ (k ∷ [])) st ≡ (call g c k.0 k.1 (limited_after g c ks st)).state
unfolding limited_after
after_more g c [] k st = refl
after_more g c (j ∷ ks) k st = after_more g c ks k (call g c j.0 j.1 st).state

told_from : (g : Graph) (c : Config) (ks : List (Limits × Call)) (st : State) → answers_from g c (tell_from g c ks st) st ≡ limited_from g c ks st
unfolding answers_from limited_from tell_from
told_from g c [] st = refl
told_from g c (k ∷ ks) st =
    let s = call g c k.0 k.1 st in
    let e = call_told g c k.0 k.1 st in
    ap (λ (x : Said). x.answer ∷ answers_from g c (tell_from g c ks s.state) x.state) e ∙ ap (λ (l : List Answer). s.answer ∷ l) (told_from g c ks s.state)

-- For every list of calls, whatever stores each is lent: told just the 13 to 15, the copy gives all the same answers.
pub told_right : (g : Graph) (c : Config) (ks : List (Limits × Call)) → answers g c (tell g c ks) ≡ limited_answers g c ks
unfolding answers
told_right g c ks = told_from g c ks (fitted g)

-- ---- what is told of a call depends on no later one

length_from : (g : Graph) (c : Config) (ks : List (Limits × Call)) (st : State) → length (tell_from g c ks st) ≡ length ks
unfolding tell_from
length_from g c [] st = refl
length_from g c (k ∷ ks) st = ap suc (length_from g c ks (call g c k.0 k.1 st).state)

pub tell-length : (g : Graph) (c : Config) (ks : List (Limits × Call)) → length (tell g c ks) ≡ length ks
tell-length g c ks = length_from g c ks (fitted g)

split_from : (g : Graph) (c : Config) (ks : List (Limits × Call)) (l : Limits) (k : Call) (later : List (Limits × Call)) (st : State) → (n : ℕ) × (rest : List (Call × ℕ)) × (tell_from g c (ks ++ ((l, k) ∷ later)) st ≡ tell_from g c ks st ++ ((k, n) ∷ rest))
unfolding tell_from
split_from g c [] l k later st = (told_of (call g c l k st).answer, tell_from g c later (call g c l k st).state, refl)
split_from g c (j ∷ ks) l k later st =
    let s = call g c j.0 j.1 st in
    let (n, rest, e) = split_from g c ks l k later s.state in
    (n, rest, ap (λ (x : List (Call × ℕ)). (j.1, told_of s.answer) ∷ x) e)

pub tell_split : (g : Graph) (c : Config) (ks : List (Limits × Call)) (l : Limits) (k : Call) (later : List (Limits × Call)) → (n : ℕ) × (rest : List (Call × ℕ)) × (tell g c (ks ++ ((l, k) ∷ later)) ≡ tell g c ks ++ ((k, n) ∷ rest))
tell_split g c ks l k later = split_from g c ks l k later (fitted g)
