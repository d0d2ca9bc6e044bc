-- Demand 3's claims of the whole-path copy: for every accepted graph whose weights are f32 values, as those of lent slices are, all settings, and every list of calls from a fitting on, refused ones included.
-- 1 `paths_run`; 2 to 5 `copy_says`, and of the copy with the stores `decoder_says`; each by itself `words_of_one_path`, `segments_tile`, `readings_distinct`, `best_costs_least`; 6 `queue_loops`; 7 `told_alike`, `unlimited_alike`; 8 `sums_sure`. Of 5's "nothing was cut": `nothing_cut`, `nothing_cut_back`.
-- Which refusals there are: `refusal_numbers`, `refusal_not_0`, `told_number`, and of a start `start_refused`, which asks for a beam that fits. The Rust's own forms: `best_token_right`, `trace_never_merges`, `trace_right`, `groups_right`, and `fill_right` of `Ways`.
-- Assumes nothing.
use Rattle.std.specs.Prelude.{◌≡◌, ◌⊎◌, ℕ, suc, ◌^◌, ◌<◌, Bool, true, false, List, [], ◌∷◌, ◌++◌, length, get_or, ℤ, pos, Float}
use Rattle.std.proofs.Math.Path.{refl}
use Rattle.std.proofs.Common.{sym, ap, ◌∙◌, subst}
use Rattle.std.proofs.Math.Option.{Option, none, some}
use Rattle.lists.specs.Tests.{never}
use Rattle.lists.specs.Lists.{◌∈◌, sort_by}
use Rattle.lists.specs.Order.{Perm}
use Rattle.lists.specs.Count.{Nodup}
use Rattle.model.specs.Basics.{Refusal}
use Rattle.model.specs.Graph.{Graph, check_graph}
use Rattle.model.specs.Path.{Token, Limits, unlimited}
use Rattle.model.specs.Cutoff.{Config}
use Rattle.model.specs.Passes.{State, fitted, during, start_work, fair}
use Rattle.model.specs.Reads.{use_finals, rank_from, best_token, Traced, trace, Group, grouped}
use Rattle.model.specs.Readings.{Below, below}
use Rattle.model.specs.Calls.{Call, start_call, Answer, refusal_answer, done_answer, path_answer, call, told_call, answers}
use Rattle.model.specs.Accepted.{Ok}
use Rattle.model.proofs.Checked.{checked}
use Rattle.copy_laws.specs.Tables.{At}
use Rattle.copy_laws.specs.Sums.{Floats32}
use Rattle.copy_laws.proofs.Shapes.{differences}
use Rattle.copy_laws.specs.Kept.{hearing, Since}
use Rattle.copy_laws.proofs.Kept.{emitting_active}
use Rattle.copy_laws.specs.States.{Standing}
use Rattle.copy_laws.proofs.States.{frame_timely, start_inside, start_active, seq_fits}
use Rattle.copy_laws.proofs.Closing.{pass_is_loop}
use Rattle.copy_laws.specs.Points.{reached}
use Rattle.copy_laws.proofs.Points.{reached_stands}
use Rattle.copy_laws.proofs.Remembered.{cut_remembered}
use Rattle.copy_laws.proofs.Ranks.{ranked_sure}
use Rattle.copy_laws.specs.Below.{Keyed}
use Rattle.copy_laws.proofs.Below.{below_keyed}
use Rattle.copy_laws.proofs.Costs.{fair_margin_lem, readings_sure}
use Rattle.copy_laws.proofs.Bounds.{below_bounded}
use Rattle.copy_laws.specs.Groups.{group_order, group_map, best_of}
use Rattle.copy_laws.proofs.Groups.{grouped_right, best_right as best_right_of}
use Rattle.copy_laws.specs.Traces.{own_recs, own_trace, NeverMerges}
use Rattle.copy_laws.proofs.Traces.{own_merges_none, own_trace_lem}
use Rattle.copy_laws.specs.Told.{told_of, limited_answers, limited_after, tell}
use Rattle.copy_laws.proofs.Told.{call_told, told_right, tell_split, tell-length}
use Rattle.copy_laws.specs.Claims.{OnePath, NothingCut, BestOrNone, Says, refusals_of, Run, QueueLoops, SumsSure}
use Rattle.copy_laws.specs.Sayings.{asks_finals, words_in, lists_in}
use Rattle.copy_laws.proofs.Sayings.{uncut, call_says, answer_at, told_state, words_say, lists_say, best_says}
use Rattle.copy_laws.proofs.Refusals.{call_refusals, told_refusals, refusals_positive}
use Rattle.copy_laws.proofs.StartSums.{start_refusals}
use Rattle.copy_laws.specs.Segments.{Tiles}

-- 7. "all answers are .. those of document 01's whole-path copy, which .. is told only which calls a full store refused": with any stores lent to each call, told just the 13 to 15 it gives the same answers, places of refusals included.
pub told_alike : (g : Graph) (c : Config) (ks : List (Limits × Call)) → answers g c (tell g c ks) ≡ limited_answers g c ks
told_alike g c ks = told_right g c ks

-- and where no store refuses, a call does the same with limits and without
pub unlimited_alike : (g : Graph) (c : Config) (l : Limits) (k : Call) (st : State) → told_of (call g c l k st).answer ≡ 0 → call g c unlimited k st ≡ call g c l k st
unlimited_alike g c l k st e = sym (ap (λ (n : ℕ). told_call g c k n st) e ∙ told_none) ∙ call_told g c l k st
  where
    told_none : told_call g c k 0 st ≡ call g c unlimited k st
    told_none = unfold told_call in refl

-- Whatever the stores, a call that is refused has one of the numbers of its kind (`refusals_of`): a start 12 to 14; a frame 8 to 10 and 12 to 14; a margin 6; the best path 11; alternatives 6 or 11; a reading list 6, 15 or 11; and no other read is refused.
pub refusal_numbers : (g : Graph) (c : Config) (l : Limits) (k : Call) (st : State) (r : Refusal) → (call g c l k st).answer ≡ refusal_answer r → r.number ∈ refusals_of k
refusal_numbers = call_refusals

-- so no refusal has the number 0, which tells the copy of none
pub refusal_not_0 : (g : Graph) (c : Config) (l : Limits) (k : Call) (st : State) (r : Refusal) → (call g c l k st).answer ≡ refusal_answer r → r.number ≡ 0 → ⊥
refusal_not_0 g c l k st r e z = refusals_positive k (subst (λ (n : ℕ). n ∈ refusals_of k) z (refusal_numbers g c l k st r e))

-- the copy that is told a number refuses by that number
pub told_number : (g : Graph) (c : Config) (k : Call) (n : ℕ) (st : State) (r : Refusal) → (told_call g c k (suc n) st).answer ≡ refusal_answer r → r.number ≡ suc n
told_number = told_refusals

-- "A refused start (only 13 or 14)": on an accepted graph, with a beam that fits (`check_fit`), whatever the stores and the state.
pub start_refused : (g : Graph) (c : Config) → check_graph g ≡ none → fair c.beam ≡ true → (l : Limits) (st : State) (r : Refusal) → (call g c l start_call st).answer ≡ refusal_answer r → (r.number ≡ 13) ⊎ (r.number ≡ 14)
start_refused g c e = start_refusals g c (checked g e)

-- 5's "no cutoff has dropped anything" is what the copy computes as `cut`: where nothing was cut, `cut` is false. The other way is `nothing_cut_back`.
pub nothing_cut : (g : Graph) (c : Config) (ks : List (Call × ℕ)) → NothingCut g c ks → (reached g c ks).cut ≡ false
nothing_cut = uncut

module _ (g : Graph) (c : Config) (passed : check_graph g ≡ none) (floats : Floats32 g) where
  -- 1. Every token's path runs from the start state to its own, over the frames decoded; so does the path along every route.
  pub paths_run : (ks : List (Call × ℕ)) (s : ℕ) (t : Token) → At (reached g c ks).state.table s t → Run g (reached g c ks) s t
  paths_run ks s t e =
      let h = (reached_stands g c passed floats ks).standing in
      let d = h.active.sound s t e in
      record { own = d.walks []; routes = d.walks; frames = λ route. (d.walks route).frames ∙ sym h.frames; forks = d.forks }

  -- the answer to a call of a list
  abbrev pub answer_to : List (Call × ℕ) → Call → ℕ → (later : List (Call × ℕ)) → Answer
  answer_to ks k n later = get_or (answers g c (ks ++ ((k, n) ∷ later))) (length ks) done_answer

  -- 2 to 5. Of the copy: in every list of calls, each with what it is told of it, every answer says of the calls before it what `Says` has.
  pub copy_says : (ks : List (Call × ℕ)) (k : Call) (n : ℕ) (later : List (Call × ℕ)) → Says g c ks k (answer_to ks k n later)
  copy_says ks k n later = subst (Says g c ks k) (sym (answer_at g c ks k n later)) (call_says g c passed floats ks k n)

  -- Of the copy with the stores, whatever is lent to each call: the same, of the calls before it and the 13 to 15 among their answers.
  pub decoder_says : (ks : List (Limits × Call)) (l : Limits) (k : Call) (later : List (Limits × Call)) → Says g c (tell g c ks) k (get_or (limited_answers g c (ks ++ ((l, k) ∷ later))) (length ks) done_answer)
  decoder_says ks l k later =
      let t = tell_split g c ks l k later in
      subst (Says g c (tell g c ks) k) (sym (ap (λ (as' : List Answer). get_or as' (length ks) done_answer) (sym (told_right g c (ks ++ ((l, k) ∷ later))) ∙ ap (answers g c) t.2) ∙ ap (λ (i : ℕ). get_or (answers g c (tell g c ks ++ ((k, t.0) ∷ t.1))) i done_answer) (sym (tell-length g c ks))))
      (copy_says (tell g c ks) k t.0 t.1)

  -- What stands behind all of it, of the copy with the stores: a sound token at each active state, and with it tame sums, falling numbers, and seqs that are distinct.
  pub decoder_stands : (ks : List (Limits × Call)) → Standing g (reached g c (tell g c ks)).heard (limited_after g c ks (fitted g))
  decoder_stands ks = subst (Standing g (reached g c (tell g c ks)).heard) (told_state g c ks) (reached_stands g c passed floats (tell g c ks)).standing

  -- "With these limits the u32 `seq` never wraps"
  pub seq_never_wraps : (ks : List (Limits × Call)) → (limited_after g c ks (fitted g)).seq < 2 ^ 32
  seq_never_wraps ks = seq_fits g (checked g passed) (reached g c (tell g c ks)).heard (limited_after g c ks (fitted g)) (decoder_stands ks)

  -- ---- each of the four by its own name

  -- 2. The words of the best path, of each alternative, of each listed reading and of each trace are the nonzero output labels of one path.
  pub words_of_one_path : (ks : List (Call × ℕ)) (k : Call) (n : ℕ) (later : List (Call × ℕ)) (ws : List ℤ) → ws ∈ words_in (answer_to ks k n later) → OnePath g (reached g c ks) (use_finals g (reached g c ks).state (asks_finals k)) ws
  words_of_one_path ks k n later = words_say g c ks k (answer_to ks k n later) (copy_says ks k n later)

  -- 3. The best path's phone segments are nonempty, abut, and run from 0 to the frame count; there are none at 0.
  pub segments_tile : (ks : List (Call × ℕ)) (k : Call) (n : ℕ) (later : List (Call × ℕ)) (tr : Traced) → answer_to ks k n later ≡ path_answer (some tr) → Tiles 0 (reached g c ks).state.frames tr.phones × ((reached g c ks).state.frames ≡ 0 → tr.phones ≡ [])
  segments_tile ks k n later tr e = let b = best_says g c ks k (some tr) (subst (Says g c ks k) e (copy_says ks k n later)) in (b.own.tiles, b.own.none_at_0)

  -- 4. No two listed readings have the same words, nor two alternatives, nor two traces.
  pub readings_distinct : (ks : List (Call × ℕ)) (k : Call) (n : ℕ) (later : List (Call × ℕ)) (wss : List (List ℤ)) → wss ∈ lists_in (answer_to ks k n later) → Nodup wss
  readings_distinct ks k n later = lists_say g c ks k (answer_to ks k n later) (copy_says ks k n later)

  -- 5. The best path's cost is its path's sum, and where nothing was cut the least; where there is then none, there is no path.
  pub best_costs_least : (ks : List (Call × ℕ)) (k : Call) (n : ℕ) (later : List (Call × ℕ)) (o : Option Traced) → answer_to ks k n later ≡ path_answer o → BestOrNone g (reached g c ks) (NothingCut g c ks) (use_finals g (reached g c ks).state (asks_finals k)) o
  best_costs_least ks k n later o e = best_says g c ks k o (subst (Says g c ks k) e (copy_says ks k n later))

  -- and where `cut` is false, nothing was cut: so `cut` decides whether 5 says that the cost is the least
  pub nothing_cut_back : (ks : List (Call × ℕ)) → (reached g c ks).cut ≡ false → NothingCut g c ks
  nothing_cut_back ks e f = never (sym e ∙ cut_remembered g c passed floats ks f)

  -- 6. The queue's fuel is no limit, after every list of calls and with any stores.
  pub queue_loops : (ks : List (Call × ℕ)) (l : Limits) → QueueLoops g c l (reached g c ks).state
  queue_loops ks l =
      let st = (reached g c ks).state in
      let fs = (reached g c ks).heard in
      let good = checked g passed in
      let h = (reached_stands g c passed floats ks).standing in
      let now = during g l st st.frames st.table in
      record {
        start = λ e. pass_is_loop (during g l st 0 []) [] good floats refl (start_work g c) (start_active g c (start_inside g good e)) refl refl;
        frame = λ ls w e.
            let d = subst (Ok (Since g (fs ++ (hearing ls st.table ∷ [])) st.fresh)) e (emitting_active now c ls st.table st.seq st.fresh fs good floats h.frames h.active) in
            pass_is_loop now (fs ++ (hearing ls st.table ∷ [])) good floats (frame_timely g l st fs ls h.frames) w d.active d.no_queue d.none_requeued;
      }

  -- 8. No cost, graph sum or rank is a NaN, an infinity or −0; the graph sum and the rank of what takes kept paths, as long as these are fewer than 2 ^ 24.
  pub sums_sure : (ks : List (Call × ℕ)) → SumsSure g (reached g c ks).state
  sums_sure ks =
      let st = (reached g c ks).state in
      let fs = (reached g c ks).heard in
      let good = checked g passed in
      let h = (reached_stands g c passed floats ks).standing in
      record {
        cost = λ s t e. let d = (h.active.sound s t e).sums in (d.cost_tame, d.cost);
        graph = λ s t e. (h.active.light s t e, (h.active.sound s t e).sums.graph);
        kept = λ s t e. differences g fs t.path (h.active.sound s t e).forks;
        belows = λ margin q s t e cap b m. let z = fair_margin_lem g fs st h margin q in below_bounded margin z.0 z.1 cap t.path (differences g fs t.path (h.active.sound s t e).forks) b m;
        ranked = ranked_sure g good floats fs st h.active;
        listed = readings_sure g good floats fs st h;
      }

  -- ---- the Rust's own forms give the definition's reads

  -- `best_token`
  pub best_token_right : (ks : List (Call × ℕ)) (f : Bool) → let st = (reached g c ks).state in best_of (rank_from g (use_finals g st f) 0 st.table) ≡ best_token g st f
  best_token_right ks f = best_right_of g (checked g passed) floats (reached g c ks).heard (reached g c ks).state (reached_stands g c passed floats ks).standing.active f

  -- `trace`: on the own path of an active token no record starts the phone that is open, so that the branch of `trace_route` that goes on with the open segment is never taken there
  pub trace_never_merges : (ks : List (Call × ℕ)) (s : ℕ) (t : Token) → At (reached g c ks).state.table s t → NeverMerges (pos 0) (own_recs t.path [])
  trace_never_merges ks s t e =
      let h = (reached_stands g c passed floats ks).standing in
      let d = h.active.sound s t e in
      own_merges_none g (checked g passed) (reached g c ks).state.frames s t.path d.marked (d.walks []).leads ((d.walks []).frames ∙ sym h.frames)

  -- and so `trace`, which has no such branch, gives the definition's trace of the empty route
  pub trace_right : (ks : List (Call × ℕ)) (s : ℕ) (t : Token) → At (reached g c ks).state.table s t → (cost : Float) → let n = (reached g c ks).state.frames in own_trace n t.path cost ≡ trace n [] t.path cost
  trace_right ks s t e =
      let h = (reached_stands g c passed floats ks).standing in
      let d = h.active.sound s t e in
      own_trace_lem g (checked g passed) (reached g c ks).state.frames s t.path d.marked (d.walks []).leads ((d.walks []).frames ∙ sym h.frames)

  -- `grouped`, whatever order its map has
  pub groups_right : (ks : List (Call × ℕ)) (f : Bool) (gs : List Group) → let st = (reached g c ks).state in Perm (group_map (rank_from g (use_finals g st f) 0 st.table)) gs → sort_by group_order gs ≡ grouped g st f
  groups_right ks f = grouped_right g (checked g passed) floats (reached g c ks).heard (reached g c ks).state (reached_stands g c passed floats ks).standing.active f

  -- the key of what is listed below a token's path is that of the words along its route
  pub keys_right : (ks : List (Call × ℕ)) (s : ℕ) (t : Token) → At (reached g c ks).state.table s t → (margin : Float) (cap : ℕ) (b : Below) → b ∈ below margin cap t.path → Keyed (reached g c ks).state.fresh t.path b
  keys_right ks s t e margin cap = below_keyed margin cap (reached g c ks).state.fresh t.path ((reached_stands g c passed floats ks).standing.active.sound s t e).falls
