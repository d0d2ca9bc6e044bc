-- What the answer to each call says, whatever list of calls comes before it. Assumes nothing.
use Rattle.std.specs.Prelude.{◌≡◌, refl, Bool, false, List, [], ◌∷◌, ◌++◌, map, length, get_or, ℤ}
use Rattle.std.proofs.Common.{sym, ap, ◌∙◌, subst}
use Prim.Native.Nat.{ℕ, zero, suc}
use Rattle.std.proofs.Math.Option.{Option, none, some}
use mathlib.Core.List.Memᴰ
use mathlib.Core.List.Memᴰ.{head as here}
use mathlib.Core.List.Memᴰ.{tail as there}
use Rattle.lists.specs.Tests.{case, either}
use Rattle.lists.specs.Lists.{◌∈◌}
use Rattle.lists.specs.Members.{map_from}
use Rattle.lists.specs.Count.{Nodup}
use Rattle.model.specs.Basics.{Outcome, ok, refused, Place, nowhere, at_frames}
use Rattle.model.specs.Graph.{Graph, check_graph}
use Rattle.model.specs.Path.{Limits, unlimited}
use Rattle.model.specs.Cutoff.{Config}
use Rattle.model.specs.Passes.{State, fitted, dropped, start, frame, set_keep}
use Rattle.model.specs.Reads.{use_finals, Traced, best_path, num_active}
use Rattle.model.specs.Calls.{Read, best_path_read, alternatives_read, readings_read, relative_cost_read, num_active_read, frames_decoded_read, Call, start_call, frame_call, keep_call, read_call, Reading, Answer, done_answer, path_answer, unless, read_answer, Said, said, call, refused_at, told_call, answers_from, answers}
use Rattle.model.proofs.Checked.{checked}
use Rattle.copy_laws.specs.Sums.{Floats32}
use Rattle.copy_laws.specs.Points.{Point, go_to, after, fitted_point, reached}
use Rattle.copy_laws.proofs.Points.{go_to-state, reached_stands}
use Rattle.copy_laws.proofs.Cuts.{cut_happened}
use Rattle.copy_laws.specs.Told.{given, told_of, limited_after, tell_from, tell}
use Rattle.copy_laws.proofs.Told.{read_given, call_told}
use Rattle.copy_laws.proofs.Relative.{relative_cost_sure}
use Rattle.copy_laws.specs.Claims.{OnePath, NothingCut, BestOrNone, Says, says_refused, says_started, says_heard, says_kept, says_best, says_alternatives, says_readings, says_cost, says_active, says_decoded}
use Rattle.copy_laws.proofs.Answers.{best_right, alternatives_right, readings_right}
use Rattle.copy_laws.specs.Sayings.{asks_finals, lists_in, words_in}

-- ---- one call

weaker : (g : Graph) (pt : Point) (U W : Type 0) (finals : Bool) (o : Option Traced) → (W → U) → BestOrNone g pt U finals o → BestOrNone g pt W finals o
weaker g pt U W finals none f b = λ e s v. b e s (f v)
weaker g pt U W finals (some tr) f b = record { own = b.own; least = λ e s v. b.least e s (f v) }

pub uncut : (g : Graph) (c : Config) (ks : List (Call × ℕ)) → NothingCut g c ks → (reached g c ks).cut ≡ false
uncut g c ks f = case (either (reached g c ks).cut) (λ e. absurd (f (cut_happened g c ks e))) (λ e. e)

module _ (g : Graph) (c : Config) (ks : List (Call × ℕ)) where
  said_says : (k : Call) → Says g c ks k done_answer → (old : State) (p : Place) (o : Outcome State) → Says g c ks k (said old p o).answer
  said_says k d old p (ok s) = d
  said_says k d old p (refused n) = says_refused (record { number = n; place = p })

  unless_says : (k : Call) (a : Answer) → Says g c ks k a → (o : Option ℕ) → Says g c ks k (unless o a)
  unless_says k a d none = d
  unless_says k a d (some n) = says_refused (record { number = n; place = nowhere })

module _ (g : Graph) (c : Config) (passed : check_graph g ≡ none) (floats : Floats32 g) where
  given_says : (ks : List (Call × ℕ)) (r : Read) → Says g c ks (read_call r) (given g r (reached g c ks).state)
  unfolding given
  given_says ks (best_path_read f z) =
      let pt = reached g c ks in
      says_best (weaker g pt (pt.cut ≡ false) (NothingCut g c ks) (use_finals g pt.state f) (best_path g pt.state f) (uncut g c ks) (best_right g (checked g passed) floats pt (reached_stands g c passed floats ks) f))
  given_says ks (alternatives_read f max z) = says_alternatives (alternatives_right g (checked g passed) floats (reached g c ks) (reached_stands g c passed floats ks) f max)
  given_says ks (readings_read f n max z) = says_readings (readings_right g (checked g passed) floats (reached g c ks) (reached_stands g c passed floats ks) f n max)
  given_says ks relative_cost_read = says_cost (relative_cost_sure g passed floats (reached g c ks).heard (reached g c ks).state (reached_stands g c passed floats ks).standing.active)
  given_says ks num_active_read = says_active (num_active (reached g c ks).state)
  given_says ks frames_decoded_read = says_decoded (reached_stands g c passed floats ks).standing.frames

  read_says : (ks : List (Call × ℕ)) (r : Read) → Says g c ks (read_call r) (read_answer g unlimited r (reached g c ks).state)
  read_says ks r = let st = (reached g c ks).state in let (o, e) = read_given g unlimited r st in subst (Says g c ks (read_call r)) (sym e) (unless_says g c ks (read_call r) (given g r st) (given_says ks r) o)

  pub call_says : (ks : List (Call × ℕ)) (k : Call) (n : ℕ) → Says g c ks k (told_call g c k n (reached g c ks).state).answer
  unfolding told_call call
  call_says ks k (suc n) = says_refused (record { number = suc n; place = refused_at k (reached g c ks).state })
  call_says ks start_call zero = let st = (reached g c ks).state in said_says g c ks start_call says_started (dropped g st) nowhere (start g c unlimited st)
  call_says ks (frame_call ls) zero = let st = (reached g c ks).state in said_says g c ks (frame_call ls) says_heard st (at_frames st.frames) (frame g c unlimited ls st)
  call_says ks (keep_call m) zero = let st = (reached g c ks).state in said_says g c ks (keep_call m) says_kept st nowhere (set_keep m st)
  call_says ks (read_call r) zero = read_says ks r

-- ---- the answer at a place of the list

after_state : (g : Graph) (c : Config) (pt : Point) (ks : List (Call × ℕ)) (k : Call) (n : ℕ) (later : List (Call × ℕ)) (st : State) → pt.state ≡ st → get_or (answers_from g c (ks ++ ((k, n) ∷ later)) st) (length ks) done_answer ≡ (told_call g c k n (after g c pt ks).state).answer
unfolding answers_from after
after_state g c pt [] k n later st e = ap (λ (s : State). (told_call g c k n s).answer) (sym e)
after_state g c pt (j ∷ ks) k n later st e = after_state g c (go_to g c pt j.0 j.1) ks k n later (told_call g c j.0 j.1 st).state (go_to-state g c pt j.0 j.1 ∙ ap (λ (s : State). (told_call g c j.0 j.1 s).state) e)

pub answer_at : (g : Graph) (c : Config) (ks : List (Call × ℕ)) (k : Call) (n : ℕ) (later : List (Call × ℕ)) → get_or (answers g c (ks ++ ((k, n) ∷ later))) (length ks) done_answer ≡ (told_call g c k n (reached g c ks).state).answer
unfolding answers
answer_at g c ks k n later = after_state g c (fitted_point g) ks k n later (fitted g) refl

-- ---- the copy that is told stands where the one with the stores does

told_from : (g : Graph) (c : Config) (ks : List (Limits × Call)) (pt : Point) (st : State) → pt.state ≡ st → (after g c pt (tell_from g c ks st)).state ≡ limited_after g c ks st
unfolding after tell_from limited_after
told_from g c [] pt st e = e
told_from g c ((l, k) ∷ ks) pt st e =
    let n = told_of (call g c l k st).answer in
    told_from g c ks (go_to g c pt k n) (call g c l k st).state (go_to-state g c pt k n ∙ ap (λ (s : State). (told_call g c k n s).state) e ∙ ap (λ (s : Said). s.state) (call_told g c l k st))

pub told_state : (g : Graph) (c : Config) (ks : List (Limits × Call)) → (reached g c (tell g c ks)).state ≡ limited_after g c ks (fitted g)
told_state g c ks = told_from g c ks (fitted_point g) (fitted g) refl

module _ (g : Graph) (c : Config) (ks : List (Call × ℕ)) where
  abbrev OfPath : Call → List ℤ → Type 0
  OfPath k = OnePath g (reached g c ks) (use_finals g (reached g c ks).state (asks_finals k))

  each_say : {A : Type 0} (words : A → List ℤ) (xs : List A) (P : List ℤ → Type 0) → ((x : A) → x ∈ xs → P (words x)) → (ws : List ℤ) → ws ∈ map words xs → P ws
  each_say words xs P f ws m = let (x, n, e) = map_from words xs ws m in subst P (sym e) (f x n)

  pub words_say : (k : Call) (a : Answer) → Says g c ks k a → (ws : List ℤ) → ws ∈ words_in a → OfPath k ws
  words_say k a (says_best {f = f} {z = z} {o = some tr} b) ws (here e) = subst (OfPath (read_call (best_path_read f z))) (sym e) b.own.trace.path
  words_say k a (says_alternatives {f = f} {max = max} {z = z} {ts = ts} b) ws m = each_say (λ (tr : Traced). tr.words) ts (OfPath (read_call (alternatives_read f max z))) (λ tr i. (b.each tr i).trace.path) ws m
  words_say k a (says_readings {f = f} {n = n} {max = max} {z = z} {rs = rs} {ts = ts} b) ws m =
      let P = OfPath (read_call (readings_read f n max z)) in
      case (Memᴰ.append_cases (map (λ (r : Reading). r.words) rs) m) (each_say (λ (r : Reading). r.words) rs P b.each ws) (each_say (λ (tr : Traced). tr.words) ts P (λ tr i. (b.traced tr i).path) ws)
  words_say k _ (says_refused r) ws m = elim m [ ]
  words_say _ _ says_started ws m = elim m [ ]
  words_say _ _ (says_heard {ls = ls}) ws m = elim m [ ]
  words_say _ _ says_kept ws m = elim m [ ]
  words_say _ _ (says_best {o = none} b) ws m = elim m [ ]
  words_say _ _ (says_best {o = some t} b) ws (there m) = elim m [ ]
  words_say _ _ (says_cost _) ws m = elim m [ ]
  words_say _ _ (says_active n) ws m = elim m [ ]
  words_say _ _ (says_decoded _) ws m = elim m [ ]

  pub lists_say : (k : Call) (a : Answer) → Says g c ks k a → (wss : List (List ℤ)) → wss ∈ lists_in a → Nodup wss
  lists_say k a (says_alternatives b) wss (here e) = subst Nodup (sym e) b.distinct
  lists_say k a (says_readings b) wss (here e) = subst Nodup (sym e) b.distinct
  lists_say k a (says_readings b) wss (there (here e)) = subst Nodup (sym e) b.traced_distinct
  lists_say k _ (says_refused r) wss m = elim m [ ]
  lists_say _ _ says_started wss m = elim m [ ]
  lists_say _ _ (says_heard {ls = ls}) wss m = elim m [ ]
  lists_say _ _ says_kept wss m = elim m [ ]
  lists_say _ _ (says_best _) wss m = elim m [ ]
  lists_say _ _ (says_alternatives b) wss (there m) = elim m [ ]
  lists_say _ _ (says_readings b) wss (there (there m)) = elim m [ ]
  lists_say _ _ (says_cost _) wss m = elim m [ ]
  lists_say _ _ (says_active n) wss m = elim m [ ]
  lists_say _ _ (says_decoded _) wss m = elim m [ ]

  pub best_says : (k : Call) (o : Option Traced) → Says g c ks k (path_answer o) → BestOrNone g (reached g c ks) (NothingCut g c ks) (use_finals g (reached g c ks).state (asks_finals k)) o
  best_says k o (says_best b) = b
