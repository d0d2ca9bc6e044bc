-- Closed cases, decided by computation: what is remembered of a list of calls; that nothing was cut in M2 and M3, whose best paths so cost the least, and that something was in M4; and that the claim of the least cost needs that nothing was cut and that finals do not count. That it needs an accepted start is not shown. Assumes nothing.
use Rattle.std.specs.Prelude.{◌≡◌, refl, ℕ, true, false, List, [], ◌∷◌, map, length, T, pos, negsuc, Float}
use Rattle.std.proofs.Common.{sym, ◌∙◌, subst, arith}
use Rattle.std.proofs.Math.Option.{none, some}
use mathlib.Core.List.Memᴰ.{head as here}
use mathlib.Core.List.Memᴰ.{tail as there}
use Rattle.std.specs.Float.{fin, binary32}
use Rattle.std.specs.Float.Ieee.{fits, add, sub, mul, neg, lt, le, eq, ne, of_bits}
use Rattle.lists.specs.Tests.{never}
use Rattle.real32.specs.Small.{tame}
use Rattle.real32.specs.Least.{fmin}
use Rattle.model.specs.Basics.{◌≼◌, 0f}
use Rattle.model.specs.Graph.{Arc, arc_at, arcs_of, has_eps, shape_wrong, start_wrong, label_wrong, weight_wrong, final_wrong, check_arc, check_graph}
use Rattle.model.specs.Path.{links, words_back, above, kept_within, worth_keeping, records, live, full_at, unlimited}
use Rattle.model.specs.Cutoff.{get_cutoff}
use Rattle.model.specs.Arrive.{total, lower, meets, step_on, arriving, joined, keeps, keep, check_winner, fills, beats, loses, settle, passed, put, push, finish, arrive, arrive_all}
use Rattle.model.specs.Passes.{first_look, emit_from, emitting_pass, push_from, expand, drain, nonemitting_pass, dropped, start_token, start, check_frame, frame, fair, set_keep}
use Rattle.model.specs.Reads.{Ranked, rank_one, rank_from, ranked, grouped, resume, recs_on, trace, best_path}
use Rattle.model.specs.Calls.{path_answer, short, read_best, read_answer, call, told_call, answers_from, answers}
use Rattle.copy_laws.specs.Walks.{Walk, sum_from, sum_of}
use Rattle.copy_laws.specs.Drops.{drops_total, drops_emit, drops_emitting, drops_popped, drops_queue, drops_nonemitting, drops_start, drops_frame}
use Rattle.copy_laws.specs.Sums.{All32, Floats32}
use Rattle.copy_laws.specs.Points.{go_to, after, reached}
use Rattle.copy_laws.specs.Claims.{NothingCut}
use Rattle.copy_laws.proofs.Theorems.{nothing_cut, nothing_cut_back, answer_to, best_costs_least}
use Rattle.copy_laws.specs.Cases.{A, A-eps, settings, usual, table, remembered, expected, M2, M3, best, heard, cut_off, first_arc, ended, cost_or, silent}

pub remembered_right : map remembered table ≡ map expected table
unfolding after go_to drops_start drops_frame drops_emitting drops_emit drops_nonemitting drops_queue drops_popped drops_total has_eps arcs_of arc_at
    links words_back above kept_within worth_keeping records live full_at unlimited
    get_cutoff total lower meets step_on arriving joined keeps keep check_winner fills beats loses settle passed put push finish arrive arrive_all
    first_look emit_from emitting_pass push_from expand drain nonemitting_pass dropped start_token start check_frame frame fair set_keep
    tame fmin add sub mul neg lt le eq ne of_bits
remembered_right = refl

-- ---- where nothing was cut, and where something was

-- graph A passes its checks, and its weights are f32 values
A-passes : check_graph (A 0f) ≡ none
unfolding check_graph check_arc label_wrong weight_wrong final_wrong start_wrong shape_wrong arcs_of arc_at tame neg lt le of_bits
A-passes = refl

none_32 : All32 []
none_32 x m = elim m [ ]

more_32 : (y : Float) (ys : List Float) → T (fits binary32 y) → All32 ys → All32 (y ∷ ys)
more_32 y ys f rest x (here e) = subst (λ (z : Float). T (fits binary32 z)) (sym e) f
more_32 y ys f rest x (there m) = rest x m

A-floats : Floats32 (A 0f)
unfolding fits
A-floats = record { weights = more_32 _ _ tt (more_32 _ _ tt none_32); finals = more_32 _ _ tt (more_32 _ _ tt none_32) }

cuts_are : ((reached (A 0f) usual M2).cut ≡ false) × ((reached (A 0f) usual M3).cut ≡ false) × ((reached (A 0f) (settings 0f 10 0) M2).cut ≡ true)
unfolding after go_to drops_start drops_frame drops_emitting drops_emit drops_nonemitting drops_queue drops_popped drops_total has_eps arcs_of arc_at
    links words_back above kept_within worth_keeping records live full_at unlimited
    get_cutoff total lower meets step_on arriving joined keeps keep check_winner fills beats loses settle passed put push finish arrive arrive_all
    first_look emit_from emitting_pass push_from expand drain nonemitting_pass dropped start_token start check_frame frame fair set_keep
    tame fmin add sub mul neg lt le eq ne of_bits
cuts_are = (refl, refl, refl)

-- after M2 and after M3 nothing was cut, so that the claim of the least cost applies
pub nothing_cut_M2 : NothingCut (A 0f) usual M2
nothing_cut_M2 = nothing_cut_back (A 0f) usual A-passes A-floats M2 cuts_are.0

pub nothing_cut_M3 : NothingCut (A 0f) usual M3
nothing_cut_M3 = nothing_cut_back (A 0f) usual A-passes A-floats M3 cuts_are.1

best_of_lem : (answer_to (A 0f) usual A-passes A-floats M2 best 0 [] ≡ path_answer (some (heard (fin false 3 (negsuc 0)) 1))) × (answer_to (A 0f) usual A-passes A-floats M3 best 0 [] ≡ path_answer (some (heard (fin false 5 (negsuc 1)) 2)))
unfolding answers answers_from told_call call read_answer read_best short has_eps arcs_of arc_at
    links words_back above kept_within worth_keeping records live full_at unlimited
    get_cutoff total lower meets step_on arriving joined keeps keep check_winner fills beats loses settle passed put push finish arrive arrive_all
    first_look emit_from emitting_pass push_from expand drain nonemitting_pass dropped start_token start check_frame frame fair set_keep
    rank_one rank_from ranked resume recs_on trace best_path tame fmin add sub mul neg lt le eq ne of_bits
best_of_lem = (refl, refl)

started_are : ((reached (A 0f) usual M2).started ≡ true) × ((reached (A 0f) usual M3).started ≡ true)
unfolding after go_to has_eps arcs_of arc_at links words_back above kept_within worth_keeping records live full_at unlimited
    get_cutoff total lower meets step_on arriving joined keeps keep check_winner fills beats loses settle passed put push finish arrive arrive_all
    first_look emit_from emitting_pass push_from expand drain nonemitting_pass dropped start_token start check_frame frame fair set_keep
    tame fmin add sub mul neg lt le eq ne of_bits
started_are = (refl, refl)

pub least_M2 : (route : List Arc) (s : ℕ) → Walk (A 0f) (reached (A 0f) usual M2).heard route s → T (fin false 3 (negsuc 0) ≼ sum_of (A 0f) (reached (A 0f) usual M2).heard route)
least_M2 = (best_costs_least (A 0f) usual A-passes A-floats M2 best 0 [] _ best_of_lem.0).least refl started_are.0 nothing_cut_M2

pub least_M3 : (route : List Arc) (s : ℕ) → Walk (A 0f) (reached (A 0f) usual M3).heard route s → T (fin false 5 (negsuc 1) ≼ sum_of (A 0f) (reached (A 0f) usual M3).heard route)
least_M3 = (best_costs_least (A 0f) usual A-passes A-floats M3 best 0 [] _ best_of_lem.1).least refl started_are.1 nothing_cut_M3

-- M4, which is M2 with a beam of 0: something was cut
pub something_cut_M4 : NothingCut (A 0f) (settings 0f 10 0) M2 → ⊥
something_cut_M4 f = never (sym (nothing_cut (A 0f) (settings 0f 10 0) M2 f) ∙ cuts_are.2)

pub a_path_was_cut : (best_path (A 0f) cut_off.state false ≡ none) × Walk (A 0f) cut_off.heard (first_arc ∷ []) 1
unfolding after go_to has_eps arcs_of arc_at links words_back above kept_within worth_keeping records live full_at unlimited
    get_cutoff total lower meets step_on arriving joined keeps keep check_winner fills beats loses settle passed put push finish arrive arrive_all
    first_look emit_from emitting_pass push_from expand drain nonemitting_pass dropped start_token start check_frame frame fair set_keep
    rank_one rank_from ranked resume recs_on trace best_path tame fmin add sub mul neg lt le eq ne of_bits drops_frame drops_emitting drops_emit drops_nonemitting drops_queue drops_popped drops_total drops_start
a_path_was_cut = (refl, record { begins = omega arith; leads = (here refl, refl); frames = refl })

pub final_weight_counts : (cost_or 0f (best_path (A (fin false 1 (pos 2))) ended.state true) ≼ sum_of (A (fin false 1 (pos 2))) ended.heard (first_arc ∷ [])) ≡ false
unfolding after go_to has_eps arcs_of arc_at links words_back above kept_within worth_keeping records live full_at unlimited
    get_cutoff total lower meets step_on arriving joined keeps keep check_winner fills beats loses settle passed put push finish arrive arrive_all
    first_look emit_from emitting_pass push_from expand drain nonemitting_pass dropped start_token start check_frame frame fair set_keep
    rank_one rank_from ranked resume recs_on trace best_path sum_from tame fmin add sub mul neg lt le eq ne of_bits drops_frame drops_emitting drops_emit drops_nonemitting drops_queue drops_popped drops_total drops_start
final_weight_counts = refl

pub words_repeat : (map (λ (r : Ranked). words_back r.token.path) (ranked (A-eps (fin false 15 (negsuc 0))) silent.state false) ≡ [] ∷ [] ∷ []) × (length (grouped (A-eps (fin false 15 (negsuc 0))) silent.state false) ≡ 1)
unfolding after go_to has_eps arcs_of arc_at links words_back above kept_within worth_keeping records live full_at unlimited
    get_cutoff total lower meets step_on arriving joined keeps keep check_winner fills beats loses settle passed put push finish arrive arrive_all
    first_look emit_from emitting_pass push_from expand drain nonemitting_pass dropped start_token start check_frame frame fair set_keep
    rank_one rank_from ranked grouped tame fmin add sub mul neg lt le eq ne of_bits drops_frame drops_emitting drops_emit drops_nonemitting drops_queue drops_popped drops_total drops_start
words_repeat = (refl, refl)
