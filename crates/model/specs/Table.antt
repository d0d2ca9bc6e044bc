-- Document 01's examples M1 to M12, its boundary examples, and examples of the refusals, as one table and one statement, decided by computation.
use Rattle.std.specs.Prelude.{◌≡◌, refl, ℕ, true, false, List, [], ◌∷◌, map, ℤ, pos, negsuc, replicate, Float}
use Rattle.std.proofs.Math.Option.{Option, none, some}
use Rattle.std.specs.Float.{nan, inf, fin}
use Rattle.std.specs.Float.Ieee.{add, sub, mul, neg, lt, le, eq, ne, of_bits}
use Rattle.real32.specs.Small.{tame}
use Rattle.real32.specs.Least.{fmin}
use Rattle.model.specs.Basics.{0f, 1f, ∞, Outcome, ok, refused, Place, nowhere, at_arc, at_state, at_frames, Refusal}
use Rattle.model.specs.Graph.{Graph, no_state, arc_at, arcs_of, has_eps, shape_wrong, start_wrong, label_wrong, weight_wrong, final_wrong, check_arc, check_graph}
use Rattle.model.specs.Path.{links, words_back, above, kept_within, worth_keeping, records, live, Limits, full_at, unlimited}
use Rattle.model.specs.Cutoff.{Config, get_cutoff}
use Rattle.model.specs.Arrive.{total, lower, meets, step_on, arriving, joined, keeps, keep, check_winner, fills, beats, loses, settle, passed, put, push, finish, arrive, arrive_all}
use Rattle.model.specs.Passes.{State, fitted, first_look, emit_from, emitting_pass, push_from, expand, drain, nonemitting_pass, dropped, start_token, start, check_frame, frame, fair, set_keep, Places, check_fit}
use Rattle.model.specs.Reads.{Segment, Traced, rank_one, rank_from, ranked, resume, recs_on, trace, best_path, grouped, alternatives, final_relative_cost}
use Rattle.model.specs.Hash.{hash_word}
use Rattle.model.specs.Readings.{on_top, by_way, cheapest, below, visited, heads, kept_of, kept_map, read_order, expanded, readings}
use Rattle.model.specs.Silence.{SilenceWeighting, weighting_wrong, new_silence, bad_segments, too_many, told, compute_current_traceback, window_weights, deltas_of, get_delta_weights, trailing_silence_frames}
use Rattle.model.specs.Search.{Listing, first_reading}
use Rattle.model.specs.Calls.{Sizes, best_path_read, alternatives_read, readings_read, num_active_read, frames_decoded_read, Call, start_call, frame_call, keep_call, read_call, Reading, Answer, refusal_answer, done_answer, path_answer, paths_answer, readings_answer, count_answer, short, read_best, read_alternatives, read_readings, read_answer, call, told_call, answers_from, answers}

-- ---- questions, and what they show

pub data Asked : Type 0 where
  traceback_asked : List Segment → (frames : ℕ) → Asked
  weights_asked : (room ready first : ℕ) → Asked
  trailing_asked : List Segment → Asked

-- what silence weighting says to a call
pub data Weighed : Type 0 where
  refused_by : ℕ → Weighed
  noted : Weighed
  deltas_are : List (ℕ × Float) → Weighed
  trails : ℕ → Weighed

pub data Shown : Type 0 where
  answers_shown : List Answer → Shown
  weighed_shown : List Weighed → Shown
  built_shown : Option Refusal → Shown
  fitted_shown : Option ℕ → Shown
  searched_shown : Outcome (Option ℕ) → Shown

pub data Question : Type 0 where
  decode_it : Graph → Config → List Call → Question
  limit_it : Graph → Config → Limits → List Call → Question
  weigh_it : List ℤ → Float → ℕ → List Asked → Question
  build_it : Graph → Question
  fit_it : Graph → Config → Places → Question
  search_it : ℤ → Listing → Question

-- nobody tells the copy of a refusal here
abbrev pub untold : List Call → List (Call × ℕ)
untold [] = []
untold (k ∷ ks) = (k, 0) ∷ untold ks

-- the copy with stores of these places, which finds 13 to 15 itself
abbrev pub limited_from : Graph → Config → Limits → List Call → State → List Answer
limited_from g c l [] st = []
limited_from g c l (k ∷ ks) st = let s = call g c l k st in s.answer ∷ limited_from g c l ks s.state

-- with a store of 1000 frames; a refusal leaves the state
abbrev pub weigh : List Asked → SilenceWeighting → List Weighed
weigh [] s = []
weigh (traceback_asked ss n ∷ ks) s = elim (compute_current_traceback 1000 ss n s) [ refused r ↦ refused_by r ∷ weigh ks s | ok t ↦ noted ∷ weigh ks t ]
weigh (weights_asked room ready first ∷ ks) s = elim (get_delta_weights 1000 room ready first s) [ refused r ↦ refused_by r ∷ weigh ks s | ok d ↦ deltas_are d.deltas ∷ weigh ks d.state ]
weigh (trailing_asked ss ∷ ks) s = elim (trailing_silence_frames s.phones ss) [ refused r ↦ refused_by r ∷ weigh ks s | ok n ↦ trails n ∷ weigh ks s ]

-- from a fitting on, whose own answer is the first
abbrev pub weigh_from : List Asked → Outcome SilenceWeighting → List Weighed
weigh_from ks (refused n) = refused_by n ∷ []
weigh_from ks (ok s) = noted ∷ weigh ks s

unfoldable pub ask : Question → Shown
ask (decode_it g c ks) = answers_shown (answers g c (untold ks))
ask (limit_it g c l ks) = answers_shown (limited_from g c l ks (fitted g))
ask (weigh_it ps w fs ks) = weighed_shown (weigh_from ks (new_silence ps w fs))
ask (build_it g) = built_shown (check_graph g)
ask (fit_it g c ps) = fitted_shown (check_fit g c ps)
ask (search_it w l) = searched_shown (first_reading w l)

pub record Case : Type 0 where
  pub question : Question
  pub shown : Shown

-- ---- numbers

abbrev ½ : Float
½ = fin false 1 (negsuc 0)

abbrev ¼ : Float
¼ = fin false 1 (negsuc 1)

abbrev 1¼ : Float
1¼ = fin false 5 (negsuc 1)

abbrev 1½ : Float
1½ = fin false 3 (negsuc 0)

abbrev 2f : Float
2f = fin false 1 (pos 1)

abbrev 7½ : Float
7½ = fin false 15 (negsuc 0)

abbrev 8f : Float
8f = fin false 1 (pos 3)

abbrev -1f : Float
-1f = fin true 1 (pos 0)

abbrev 2^100 : Float
2^100 = fin false 1 (pos 100)

-- the last f32 below 2 ^ 100, and minus it
abbrev near : Float
near = fin false 16_777_215 (pos 76)

abbrev -near : Float
-near = fin true 16_777_215 (pos 76)

-- ---- graphs

pub record Row : Type 0 where
  pub ilabel : ℤ
  pub olabel : ℤ
  pub weight : Float
  pub target : ℕ

abbrev arc : ℤ → ℤ → Float → ℕ → Row
arc i o w t = record { ilabel = i; olabel = o; weight = w; target = t }

-- a phone and pdf 0 for each transition id from 1 on
abbrev graph_from : (phones : List ℤ) → (start : ℕ) → (offsets : List ℕ) → (finals : List Float) → List Row → Graph
graph_from phones start offsets finals arcs =
    record {
      start = start;
      offsets = offsets;
      ilabels = map (λ (a : Row). a.ilabel) arcs;
      olabels = map (λ (a : Row). a.olabel) arcs;
      weights = map (λ (a : Row). a.weight) arcs;
      nextstates = map (λ (a : Row). a.target) arcs;
      finals = finals;
      tid2pdf = negsuc 0 ∷ map (λ (p : ℤ). pos 0) phones;
      tid2phone = pos 0 ∷ phones;
      pdfs = 1;
    }

-- document 01's graph A, with this start
abbrev A-from : ℕ → Graph
A-from s = graph_from (pos 3 ∷ []) s (0 ∷ 1 ∷ 2 ∷ []) (∞ ∷ 0f ∷ []) (arc (pos 1) (pos 7) ½ 1 ∷ arc (pos 1) (pos 0) ¼ 1 ∷ [])

abbrev A : Graph
A = A-from 0

-- graph A with one more arc 0 to 1, an epsilon arc of this weight
abbrev A-eps : Float → Graph
A-eps w = graph_from (pos 3 ∷ []) 0 (0 ∷ 2 ∷ 3 ∷ []) (∞ ∷ 0f ∷ []) (arc (pos 1) (pos 7) ½ 1 ∷ arc (pos 0) (pos 0) w 1 ∷ arc (pos 1) (pos 0) ¼ 1 ∷ [])

-- words 5 and 6 to state 1, the second at this cost
abbrev one_end : Float → Graph
one_end w = graph_from (pos 3 ∷ []) 0 (0 ∷ 2 ∷ 2 ∷ []) (∞ ∷ 0f ∷ []) (arc (pos 1) (pos 5) 1f 1 ∷ arc (pos 1) (pos 6) w 1 ∷ [])

-- the same to states 1 and 2
abbrev two_ends : Graph
two_ends = graph_from (pos 3 ∷ []) 0 (0 ∷ 2 ∷ 2 ∷ 2 ∷ []) (∞ ∷ 0f ∷ 0f ∷ []) (arc (pos 1) (pos 5) 1f 1 ∷ arc (pos 1) (pos 6) 1f 2 ∷ [])

-- words 5 and 6 to state 1, then 8 and 9 to state 2; 6 and 9 cost more and are in another phone
abbrev two_joins : Graph
two_joins =
    graph_from (pos 3 ∷ pos 4 ∷ []) 0 (0 ∷ 2 ∷ 4 ∷ 4 ∷ []) (∞ ∷ ∞ ∷ 0f ∷ [])
    (arc (pos 1) (pos 5) 1f 1 ∷ arc (pos 2) (pos 6) 1¼ 1 ∷ arc (pos 1) (pos 8) 1f 2 ∷ arc (pos 2) (pos 9) 1¼ 2 ∷ [])

-- word 7 round and round, at nearly 2 ^ 100
abbrev dear : Graph
dear = graph_from (pos 3 ∷ []) 0 (0 ∷ 1 ∷ []) (0f ∷ []) (arc (pos 1) (pos 7) near 0 ∷ [])

-- two words, of which the second is cut off
abbrev far_apart : Graph
far_apart = graph_from (pos 3 ∷ []) 0 (0 ∷ 2 ∷ []) (0f ∷ []) (arc (pos 1) (pos 7) -near 0 ∷ arc (pos 1) (pos 8) near 0 ∷ [])

-- word 7 at a state that is not the best
abbrev dear_aside : Graph
dear_aside = graph_from (pos 3 ∷ []) 0 (0 ∷ 1 ∷ 2 ∷ []) (0f ∷ 0f ∷ []) (arc (pos 0) (pos 0) ½ 1 ∷ arc (pos 1) (pos 7) near 1 ∷ [])

-- an epsilon arc back from where word 7 ends
abbrev eps_back : Graph
eps_back = graph_from (pos 3 ∷ []) 0 (0 ∷ 1 ∷ 2 ∷ []) (∞ ∷ 0f ∷ []) (arc (pos 1) (pos 7) ½ 1 ∷ arc (pos 0) (pos 0) ½ 0 ∷ [])

-- one arc, and slices of these places
abbrev shaped : (offsets : List ℕ) → (olabels weights targets : ℕ) → Graph
shaped offsets os ws ts =
    record { start = 0; offsets = offsets; ilabels = pos 0 ∷ []; olabels = replicate os (pos 0); weights = replicate ws 0f; nextstates = replicate ts 0; finals = 0f ∷ []; tid2pdf = []; tid2phone = []; pdfs = 0 }

-- two states, of which the second has two arcs: an epsilon arc, and this one, where transition id 1 has this pdf and this phone; and this final weight
abbrev second : (pdf phone : ℤ) → (final : Float) → (ilabel : ℤ) → (weight : Float) → (target : ℕ) → Graph
second pdf phone final i w t =
    record {
      start = 0;
      offsets = 0 ∷ 0 ∷ 2 ∷ [];
      ilabels = pos 0 ∷ i ∷ [];
      olabels = pos 0 ∷ pos 0 ∷ [];
      weights = 0f ∷ w ∷ [];
      nextstates = 0 ∷ t ∷ [];
      finals = 0f ∷ final ∷ [];
      tid2pdf = negsuc 0 ∷ pdf ∷ [];
      tid2phone = pos 0 ∷ phone ∷ [];
      pdfs = 1;
    }

-- no arcs, so many states, and tables of so many entries
abbrev lone : (states pdfs phones : ℕ) → Graph
lone n i j =
    record { start = 0; offsets = 0 ∷ replicate n 0; ilabels = []; olabels = []; weights = []; nextstates = []; finals = replicate n 0f; tid2pdf = replicate i (pos 0); tid2phone = replicate j (pos 1); pdfs = 1 }

-- ---- settings, stores and calls

abbrev config : (beam : Float) → (max min : ℕ) → (delta : Float) → Config
config beam max min delta = record { beam = beam; max_active = max; min_active = min; beam_delta = delta }

abbrev usual : Config
usual = config 8f 10 2 ½

abbrev stores : (for_states : List ℕ) → (records : ℕ) → (for_records : List ℕ) → (kept : ℕ) → (for_kept : List ℕ) → Places
stores ss r rs k ks = record { for_states = ss; records = r; for_records = rs; kept = k; for_kept = ks }

-- places for so many states, 8 records and 4 kept readings
abbrev lent : ℕ → Places
lent n = stores (replicate 9 n) 8 (replicate 6 8) 4 (replicate 5 4)

abbrev limits : (records queue below kept : ℕ) → Limits
limits r q b k = record { full = full_at r; queue = some q; below = some b; kept = some k }

abbrev sizes : (words frames segments entries : ℕ) → Sizes
sizes w f s e = record { words = w; frames = f; segments = s; entries = e }

abbrev room : Sizes
room = sizes 9 9 9 9

abbrev best : Call
best = read_call (best_path_read true room)

abbrev active : Call
active = read_call num_active_read

abbrev decoded : Call
decoded = read_call frames_decoded_read

-- a frame of one log-likelihood
abbrev one : Float → Call
one x = frame_call (x ∷ [])

-- ---- answers

abbrev pub heard : Float → List ℤ → List ℕ → List Segment → Traced
heard c ws fs ss = record { words = ws; word_frames = fs; phones = ss; cost = c }

abbrev pub seg : ℤ → ℕ → ℕ → Segment
seg p s e = record { phone = p; start = s; end = e }

-- of a token in phone 3 with this graph sum and seq
abbrev pub reading : (graph : Float) → (seq : ℕ) → (token_cost : Float) → List ℤ → (rank cost : Float) → (kept : ℕ) → Reading
reading g q t ws r c n = record { words = ws; rank = r; cost = c; kept = n; token_cost = t; token_graph = g; token_phone = pos 3; token_seq = q }

abbrev pub no : ℕ → Place → Answer
no n p = refusal_answer (record { number = n; place = p })

abbrev pub built : Shown
built = built_shown none

abbrev pub unbuilt : ℕ → Place → Shown
unbuilt n p = built_shown (some (record { number = n; place = p }))

abbrev pub fits : Shown
fits = fitted_shown none

abbrev pub unfit : Shown
unfit = fitted_shown (some 6)

abbrev pub each : ℕ → Float → ℕ × Float
each n x = (n, x)

-- ---- the table

abbrev pub case : Question → Shown → Case
case q s = record { question = q; shown = s }

abbrev pub table : List Case
table =
    -- M1
    case (decode_it A usual (start_call ∷ best ∷ [])) (answers_shown (done_answer ∷ path_answer (some (heard 0f [] [] [])) ∷ [])) ∷
    -- M2, M3
    case (decode_it A usual (start_call ∷ one -1f ∷ best ∷ one -1f ∷ best ∷ []))
    (answers_shown
    (done_answer ∷ done_answer ∷ path_answer (some (heard 1½ (pos 7 ∷ []) (0 ∷ []) (seg (pos 3) 0 1 ∷ []))) ∷ done_answer ∷
    path_answer (some (heard 1¼ (pos 7 ∷ []) (0 ∷ []) (seg (pos 3) 0 2 ∷ []))) ∷ [])) ∷
    -- M4
    case (decode_it A (config 0f 10 0 ½) (start_call ∷ one -1f ∷ decoded ∷ best ∷ [])) (answers_shown (done_answer ∷ done_answer ∷ count_answer 1 ∷ path_answer none ∷ [])) ∷
    -- M5
    case (decode_it (A-from no_state) usual (start_call ∷ best ∷ [])) (answers_shown (done_answer ∷ path_answer none ∷ [])) ∷
    -- M6
    case (decode_it (one_end 1f) usual (start_call ∷ one 0f ∷ best ∷ []))
    (answers_shown (done_answer ∷ done_answer ∷ path_answer (some (heard 1f (pos 5 ∷ []) (0 ∷ []) (seg (pos 3) 0 1 ∷ []))) ∷ [])) ∷
    -- M7
    case (decode_it two_ends usual (start_call ∷ one 0f ∷ best ∷ []))
    (answers_shown (done_answer ∷ done_answer ∷ path_answer (some (heard 1f (pos 6 ∷ []) (0 ∷ []) (seg (pos 3) 0 1 ∷ []))) ∷ [])) ∷
    -- M8
    case (decode_it (one_end 1f) usual (start_call ∷ keep_call (some 0f) ∷ one 0f ∷ read_call (readings_read false 2 2 room) ∷ []))
    (answers_shown
    (done_answer ∷ done_answer ∷ done_answer ∷
    readings_answer (reading 1f 1 1f (pos 5 ∷ []) 1f 1f 0 ∷ reading 1f 1 1f (pos 6 ∷ []) 1f 1f 1 ∷ [])
    (heard 1f (pos 5 ∷ []) (0 ∷ []) (seg (pos 3) 0 1 ∷ []) ∷ heard 1f (pos 6 ∷ []) (0 ∷ []) (seg (pos 3) 0 1 ∷ []) ∷ []) ∷ [])) ∷
    -- M9
    case (decode_it (A-eps 8f) usual (start_call ∷ active ∷ [])) (answers_shown (done_answer ∷ count_answer 1 ∷ [])) ∷
    case (decode_it (A-eps 7½) usual (start_call ∷ active ∷ [])) (answers_shown (done_answer ∷ count_answer 2 ∷ [])) ∷
    -- M10, M11
    case (weigh_it (pos 1 ∷ []) ½ 3 (traceback_asked (seg (pos 1) 0 1 ∷ seg (pos 2) 1 2 ∷ []) 2 ∷ weights_asked 6 6 0 ∷ weights_asked 6 6 0 ∷ []))
    (weighed_shown
    (noted ∷ noted ∷ deltas_are (each 0 ½ ∷ each 1 ½ ∷ each 2 ½ ∷ each 3 1f ∷ each 4 1f ∷ each 5 1f ∷ []) ∷ deltas_are (each 3 0f ∷ each 4 0f ∷ each 5 0f ∷ []) ∷ [])) ∷
    -- M12
    case (weigh_it (pos 1 ∷ []) ½ 3 (weights_asked 3 4 1 ∷ weights_asked 3 1 1 ∷ [])) (weighed_shown (noted ∷ deltas_are (each 1 ½ ∷ each 2 ½ ∷ each 3 ½ ∷ []) ∷ deltas_are [] ∷ [])) ∷
    -- the graphs and settings of these are accepted, with places for as many states
    case (build_it A) built ∷
    case (build_it (A-from no_state)) built ∷
    case (build_it (one_end 1f)) built ∷
    case (build_it two_ends) built ∷
    case (build_it (A-eps 8f)) built ∷
    case (build_it (A-eps 7½)) built ∷
    case (fit_it A usual (lent 2)) fits ∷
    case (fit_it A (config 0f 10 0 ½) (lent 2)) fits ∷
    case (fit_it (A-from no_state) usual (lent 2)) fits ∷
    case (fit_it (one_end 1f) usual (lent 2)) fits ∷
    case (fit_it two_ends usual (lent 3)) fits ∷
    case (fit_it (A-eps 8f) usual (lent 2)) fits ∷
    case (fit_it (A-eps 7½) usual (lent 2)) fits ∷
    -- and so are the other graphs that are decoded below
    case (build_it (one_end 1¼)) built ∷
    case (build_it (one_end ½)) built ∷
    case (build_it two_joins) built ∷
    case (build_it dear) built ∷
    case (build_it far_apart) built ∷
    case (build_it dear_aside) built ∷
    case (build_it eps_back) built ∷
    -- 1 − 0.9 as an f32 is 838,861 / 2 ^ 23, and not 0.1
    case (decode_it (one_end 1¼) usual (start_call ∷ keep_call (some ¼) ∷ one 1f ∷ read_call (readings_read true 2 0 room) ∷ []))
    (answers_shown
    (done_answer ∷ done_answer ∷ done_answer ∷
    readings_answer (reading 1f 1 0f (pos 5 ∷ []) (fin true 838_861 (negsuc 22)) 0f 0 ∷ reading 1f 1 0f (pos 6 ∷ []) (fin false 4_194_303 (negsuc 24)) ¼ 1 ∷ []) [] ∷ [])) ∷
    -- one reading takes two kept histories, and each is in its own phones
    case (decode_it two_joins usual (start_call ∷ keep_call (some ½) ∷ one 0f ∷ one 0f ∷ read_call (readings_read false 4 4 room) ∷ []))
    (answers_shown
    (done_answer ∷ done_answer ∷ done_answer ∷ done_answer ∷
    readings_answer
    (reading 2f 2 1f (pos 5 ∷ pos 8 ∷ []) 1f 1f 0 ∷ reading 2f 2 1f (pos 5 ∷ pos 9 ∷ []) 1¼ 1¼ 1 ∷ reading 2f 2 1f (pos 6 ∷ pos 8 ∷ []) 1¼ 1¼ 1 ∷
    reading 2f 2 1f (pos 6 ∷ pos 9 ∷ []) 1½ 1½ 2 ∷ [])
    (heard 1f (pos 5 ∷ pos 8 ∷ []) (0 ∷ 1 ∷ []) (seg (pos 3) 0 2 ∷ []) ∷ heard 1¼ (pos 5 ∷ pos 9 ∷ []) (0 ∷ 1 ∷ []) (seg (pos 3) 0 1 ∷ seg (pos 4) 1 2 ∷ []) ∷
    heard 1¼ (pos 6 ∷ pos 8 ∷ []) (0 ∷ 1 ∷ []) (seg (pos 4) 0 1 ∷ seg (pos 3) 1 2 ∷ []) ∷ heard 1½ (pos 6 ∷ pos 9 ∷ []) (0 ∷ 1 ∷ []) (seg (pos 4) 0 2 ∷ []) ∷ []) ∷ [])) ∷
    -- 1: 65,535 states, and one more; 65,536 transition ids, and one more
    case (build_it (lone 65_535 0 0)) built ∷
    case (build_it (lone 65_536 0 0)) (unbuilt 1 nowhere) ∷
    case (build_it (lone 1 65_537 65_537)) built ∷
    case (build_it (lone 1 65_538 0)) (unbuilt 1 nowhere) ∷
    case (build_it (lone 1 0 65_538)) (unbuilt 1 nowhere) ∷
    -- 1: offsets too few, not from 0, falling, not to the arc count; lengths that disagree
    case (build_it (shaped (0 ∷ 1 ∷ []) 1 1 1)) built ∷
    case (build_it (shaped (0 ∷ []) 1 1 1)) (unbuilt 1 nowhere) ∷
    case (build_it (shaped (1 ∷ 1 ∷ []) 1 1 1)) (unbuilt 1 nowhere) ∷
    case (build_it (shaped (0 ∷ 0 ∷ []) 1 1 1)) (unbuilt 1 nowhere) ∷
    case (build_it (shaped (0 ∷ 2 ∷ []) 1 1 1)) (unbuilt 1 nowhere) ∷
    case (build_it (shaped (0 ∷ 1 ∷ []) 2 1 1)) (unbuilt 1 nowhere) ∷
    case (build_it (shaped (0 ∷ 1 ∷ []) 1 0 1)) (unbuilt 1 nowhere) ∷
    case (build_it (shaped (0 ∷ 1 ∷ []) 1 1 0)) (unbuilt 1 nowhere) ∷
    -- 2 to 5, of the start, of an arc and of a final weight
    case (build_it (A-from 2)) (unbuilt 2 nowhere) ∷
    case (build_it (second (pos 0) (pos 3) ∞ (pos 1) -near 1)) built ∷
    case (build_it (second (pos 0) (pos 3) ∞ (pos 1) -near 2)) (unbuilt 2 (at_arc 1 1)) ∷
    case (build_it (second (pos 0) (pos 3) ∞ (negsuc 0) 0f 0)) (unbuilt 3 (at_arc 1 1)) ∷
    case (build_it (second (pos 0) (pos 3) ∞ (pos 2) 0f 0)) (unbuilt 3 (at_arc 1 1)) ∷
    case (build_it (second (pos 1) (pos 3) ∞ (pos 1) 0f 0)) (unbuilt 3 (at_arc 1 1)) ∷
    case (build_it (second (negsuc 0) (pos 3) ∞ (pos 1) 0f 0)) (unbuilt 3 (at_arc 1 1)) ∷
    case (build_it (second (pos 0) (pos 0) ∞ (pos 1) 0f 0)) (unbuilt 4 (at_arc 1 1)) ∷
    case (build_it (second (pos 0) (pos 3) ∞ (pos 1) 2^100 0)) (unbuilt 5 (at_arc 1 1)) ∷
    case (build_it (second (pos 0) (pos 3) ∞ (pos 0) -1f 0)) (unbuilt 5 (at_arc 1 1)) ∷
    case (build_it (second (pos 0) (pos 3) 2^100 (pos 1) 0f 0)) (unbuilt 5 (at_state 1)) ∷
    case (build_it (second (pos 0) (pos 3) (inf true) (pos 1) 0f 0)) (unbuilt 5 (at_state 1)) ∷
    -- the lowest number of an arc, before any final weight
    case (build_it (second (pos 1) (pos 0) nan (pos 1) 2^100 2)) (unbuilt 2 (at_arc 1 1)) ∷
    -- 6: max 2 with min 1, and with min 2; beam and beam delta
    case (fit_it A (config 8f 2 1 ½) (lent 2)) fits ∷
    case (fit_it A (config 8f 2 2 ½) (lent 2)) unfit ∷
    case (fit_it A (config near 10 2 near) (lent 2)) fits ∷
    case (fit_it A (config -1f 10 2 ½) (lent 2)) unfit ∷
    case (fit_it A (config 2^100 10 2 ½) (lent 2)) unfit ∷
    case (fit_it A (config nan 10 2 ½) (lent 2)) unfit ∷
    case (fit_it A (config 8f 10 2 -1f) (lent 2)) unfit ∷
    -- 6: a place too few per state, per record, per kept reading; a record too many
    case (fit_it A usual (stores (2 ∷ 1 ∷ []) 8 (8 ∷ 8 ∷ []) 4 (4 ∷ 4 ∷ []))) unfit ∷
    case (fit_it A usual (stores (2 ∷ 2 ∷ []) 8 (8 ∷ 7 ∷ []) 4 (4 ∷ 4 ∷ []))) unfit ∷
    case (fit_it A usual (stores (2 ∷ 2 ∷ []) 8 (8 ∷ 8 ∷ []) 4 (4 ∷ 3 ∷ []))) unfit ∷
    case (fit_it A usual (stores (2 ∷ 2 ∷ []) 1_048_576 (1_048_576 ∷ []) 0 [])) fits ∷
    case (fit_it A usual (stores (2 ∷ 2 ∷ []) 1_048_577 (1_048_577 ∷ []) 0 [])) unfit ∷
    -- 6: the margin; `listed` and `max`
    case (decode_it A usual (start_call ∷ keep_call (some -1f) ∷ keep_call (some 2^100) ∷ keep_call (some near) ∷ keep_call none ∷ []))
    (answers_shown (done_answer ∷ no 6 nowhere ∷ no 6 nowhere ∷ done_answer ∷ done_answer ∷ [])) ∷
    case (decode_it A usual (read_call (readings_read false 65 1 room) ∷ read_call (readings_read false 1 65 room) ∷ read_call (readings_read false 64 64 room) ∷ read_call (alternatives_read false 65 room) ∷ read_call (alternatives_read false 64 room) ∷ []))
    (answers_shown (no 6 nowhere ∷ no 6 nowhere ∷ readings_answer [] [] ∷ no 6 nowhere ∷ paths_answer [] ∷ [])) ∷
    -- 7
    case (weigh_it [] ½ 0 []) (weighed_shown (refused_by 7 ∷ [])) ∷
    case (weigh_it [] ½ 17 []) (weighed_shown (refused_by 7 ∷ [])) ∷
    case (weigh_it [] 2^100 1 []) (weighed_shown (refused_by 7 ∷ [])) ∷
    case (weigh_it [] -near 16 []) (weighed_shown (noted ∷ [])) ∷
    -- 8, 9
    case (decode_it A usual (start_call ∷ frame_call [] ∷ frame_call (0f ∷ 0f ∷ []) ∷ one ∞ ∷ one 2^100 ∷ one 0f ∷ one nan ∷ decoded ∷ []))
    (answers_shown (done_answer ∷ no 8 (at_frames 0) ∷ no 8 (at_frames 0) ∷ no 9 (at_frames 0) ∷ no 9 (at_frames 0) ∷ done_answer ∷ no 9 (at_frames 1) ∷ count_answer 1 ∷ [])) ∷
    -- 10, of the silence calls
    case (weigh_it (pos 1 ∷ []) ½ 3
    (traceback_asked [] 1001 ∷ traceback_asked (seg (pos 1) 2 1 ∷ []) 2 ∷ traceback_asked (seg (pos 1) 0 65_537 ∷ []) 2 ∷ weights_asked 9 3001 0 ∷ weights_asked 9 4_294_967_297 4_294_967_296 ∷
    trailing_asked (seg (pos 1) 2 1 ∷ []) ∷ trailing_asked (seg (pos 2) 0 1 ∷ seg (pos 1) 1 4 ∷ []) ∷ []))
    (weighed_shown (noted ∷ refused_by 10 ∷ refused_by 10 ∷ refused_by 10 ∷ refused_by 10 ∷ refused_by 10 ∷ refused_by 10 ∷ trails 3 ∷ [])) ∷
    -- 11: one output slice too short, of each kind of answer
    case (decode_it A usual
    (start_call ∷ one -1f ∷ read_call (best_path_read false (sizes 0 1 1 0)) ∷ read_call (best_path_read false (sizes 1 0 1 0)) ∷ read_call (best_path_read false (sizes 1 1 0 0)) ∷
    read_call (best_path_read false (sizes 1 1 1 0)) ∷ read_call (alternatives_read false 1 (sizes 1 1 1 0)) ∷ read_call (readings_read false 1 1 (sizes 1 1 1 0)) ∷ []))
    (answers_shown
    (done_answer ∷ done_answer ∷ no 11 nowhere ∷ no 11 nowhere ∷ no 11 nowhere ∷ path_answer (some (heard 1½ (pos 7 ∷ []) (0 ∷ []) (seg (pos 3) 0 1 ∷ []))) ∷ no 11 nowhere ∷ no 11 nowhere ∷ [])) ∷
    case (weigh_it (pos 1 ∷ []) ½ 3 (weights_asked 2 3 0 ∷ weights_asked 3 3 0 ∷ [])) (weighed_shown (noted ∷ refused_by 11 ∷ deltas_are (each 0 ½ ∷ each 1 ½ ∷ each 2 ½ ∷ []) ∷ [])) ∷
    -- the search: the first of two hits; none; 11 where the ends fall, and where one passes the words
    case (search_it (pos 7) (record { ends = 0 ∷ 2 ∷ 3 ∷ []; words = pos 5 ∷ pos 7 ∷ pos 7 ∷ [] })) (searched_shown (ok (some 1))) ∷
    case (search_it (pos 9) (record { ends = 0 ∷ 2 ∷ 3 ∷ []; words = pos 5 ∷ pos 7 ∷ pos 7 ∷ [] })) (searched_shown (ok none)) ∷
    case (search_it (pos 7) (record { ends = 2 ∷ 1 ∷ []; words = pos 5 ∷ pos 7 ∷ pos 7 ∷ [] })) (searched_shown (refused 11)) ∷
    case (search_it (pos 7) (record { ends = 4 ∷ []; words = pos 5 ∷ pos 7 ∷ pos 7 ∷ [] })) (searched_shown (refused 11)) ∷
    -- 12: of the first look, of a total, of a winner's graph sum
    case (decode_it far_apart (config 8f 10 0 ½) (start_call ∷ one -near ∷ decoded ∷ [])) (answers_shown (done_answer ∷ no 12 (at_frames 0) ∷ count_answer 0 ∷ [])) ∷
    case (decode_it dear_aside usual (start_call ∷ one -near ∷ one -1f ∷ decoded ∷ [])) (answers_shown (done_answer ∷ no 12 (at_frames 0) ∷ done_answer ∷ count_answer 1 ∷ [])) ∷
    case (decode_it dear usual (start_call ∷ one -1f ∷ one 0f ∷ decoded ∷ [])) (answers_shown (done_answer ∷ done_answer ∷ no 12 (at_frames 1) ∷ count_answer 1 ∷ [])) ∷
    -- 13: a record, and a join's, of an arrival that loses and of a token that is beaten
    case (limit_it A usual (limits 0 9 9 9) (start_call ∷ one -1f ∷ decoded ∷ active ∷ [])) (answers_shown (done_answer ∷ no 13 (at_frames 0) ∷ count_answer 0 ∷ count_answer 1 ∷ [])) ∷
    case (limit_it A usual (limits 1 9 9 9) (start_call ∷ one -1f ∷ one -1f ∷ decoded ∷ [])) (answers_shown (done_answer ∷ done_answer ∷ done_answer ∷ count_answer 2 ∷ [])) ∷
    case (limit_it (one_end 1f) usual (limits 1 9 9 9) (start_call ∷ keep_call (some 0f) ∷ one 0f ∷ keep_call none ∷ one 0f ∷ []))
    (answers_shown (done_answer ∷ done_answer ∷ no 13 (at_frames 0) ∷ done_answer ∷ done_answer ∷ [])) ∷
    case (limit_it (one_end ½) usual (limits 2 9 9 9) (start_call ∷ keep_call (some ½) ∷ one 0f ∷ [])) (answers_shown (done_answer ∷ done_answer ∷ no 13 (at_frames 0) ∷ [])) ∷
    case (limit_it (one_end ½) usual (limits 3 9 9 9) (start_call ∷ keep_call (some ½) ∷ one 0f ∷ [])) (answers_shown (done_answer ∷ done_answer ∷ done_answer ∷ [])) ∷
    -- 14: of a start, and of a frame
    case (limit_it (A-eps 7½) usual (limits 9 0 9 9) (start_call ∷ active ∷ [])) (answers_shown (no 14 nowhere ∷ count_answer 0 ∷ [])) ∷
    case (limit_it (A-eps 7½) usual (limits 9 1 9 9) (start_call ∷ active ∷ [])) (answers_shown (done_answer ∷ count_answer 2 ∷ [])) ∷
    case (limit_it eps_back usual (limits 9 0 9 9) (start_call ∷ one 0f ∷ active ∷ decoded ∷ [])) (answers_shown (done_answer ∷ no 14 (at_frames 0) ∷ count_answer 1 ∷ count_answer 0 ∷ [])) ∷
    -- 15: the lists below joins, and the kept readings
    case (limit_it (one_end 1f) usual (limits 2 0 1 1) (start_call ∷ keep_call (some 0f) ∷ one 0f ∷ read_call (readings_read false 2 2 room) ∷ []))
    (answers_shown (done_answer ∷ done_answer ∷ done_answer ∷ no 15 nowhere ∷ [])) ∷
    case (limit_it (one_end 1f) usual (limits 2 0 2 0) (start_call ∷ keep_call (some 0f) ∷ one 0f ∷ read_call (readings_read false 2 2 room) ∷ []))
    (answers_shown (done_answer ∷ done_answer ∷ done_answer ∷ no 15 nowhere ∷ [])) ∷
    case (limit_it (one_end 1f) usual (limits 2 0 2 1) (start_call ∷ keep_call (some 0f) ∷ one 0f ∷ read_call (readings_read false 2 0 room) ∷ []))
    (answers_shown (done_answer ∷ done_answer ∷ done_answer ∷ readings_answer (reading 1f 1 1f (pos 5 ∷ []) 1f 1f 0 ∷ reading 1f 1 1f (pos 6 ∷ []) 1f 1f 1 ∷ []) [] ∷ [])) ∷ []

pub table_right : map (λ (c : Case). ask c.question) table ≡ map (λ (c : Case). c.shown) table
unfolding ask answers answers_from told_call call read_answer read_best read_alternatives read_readings short
    check_graph check_arc label_wrong weight_wrong final_wrong start_wrong shape_wrong has_eps arcs_of arc_at
    links words_back above kept_within worth_keeping records live full_at unlimited
    get_cutoff total lower meets step_on arriving joined keeps keep check_winner fills beats loses settle passed put push finish arrive arrive_all
    first_look emit_from emitting_pass push_from expand drain nonemitting_pass dropped start_token start check_frame frame fair set_keep check_fit
    rank_one rank_from ranked resume recs_on trace best_path grouped alternatives final_relative_cost
    hash_word on_top by_way cheapest below visited heads kept_of kept_map read_order expanded readings
    weighting_wrong new_silence bad_segments too_many told compute_current_traceback window_weights deltas_of get_delta_weights trailing_silence_frames
    first_reading tame fmin add sub mul neg lt le eq ne of_bits
table_right = refl
