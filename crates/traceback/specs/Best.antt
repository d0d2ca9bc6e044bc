-- The best path: the trace of the best token. Assumes nothing.
use Rattle.std.specs.Prelude.{◌≡◌, refl, ℕ, ◌≤◌, Bool, false, ℤ, Float, Option as RustOption, Some, None, Result, Ok, Err}
use Rattle.std.proofs.Math.Path.{sym, ap, ap₂}
use Rattle.std.proofs.Common.{◌∙◌, arith, le-ltb}
use Rattle.std.proofs.Math.Option.{Option, none, some}
use mathlib.Core.List.{List, []}
use Rattle.model.specs.Basics.{refuse}
use Rattle.model.specs.Graph.{Graph}
use Rattle.model.specs.Path.{Table}
use Rattle.model.specs.Passes.{State}
use Rattle.model.specs.Reads.{Ranked, Traced as Told, trace, best_token, best_path}
use Rattle.model.specs.Calls.{Sizes, Answer, path_answer, short, words_of, to_list, unless, read_best}
use Rattle.records.specs.History.{History}
use Rattle.records.specs.Layout.{rec_at}
use Rattle.traceback.specs.declared.Candidate.{Candidate}
use Rattle.traceback.specs.declared.Size.{Size}
use Rattle.traceback.specs.declared.BestPath.{BestPath}
use Rattle.traceback.specs.Ranks.{CandidateIs, Picks, BestIs}
use Rattle.traceback.specs.Chain.{Walkable}
use Rattle.traceback.specs.Right.{Parts, places_of, answer_one, traced_as, TraceKeeps, TraceRight, best_as, BestKeeps, ReadAsks, BestPathRight}
use Rattle.refusals.specs.declared.Reason.{Reason}

-- no path is never too long
short_none : (z : Sizes) → short z [] [] 0 ≡ false
unfolding short
short_none z = rw (le-ltb z.words 0 (omega arith), le-ltb z.frames 0 (omega arith), le-ltb z.segments 0 (omega arith), le-ltb z.entries 0 (omega arith))

abbrev best_of : Result Size Reason → (cost : Float) → Result (RustOption BestPath) Reason
best_of (Err e) c = Err e
best_of (Ok z) c = Ok (Some (record { size = z; cost = c }))

best_as_lem : (t : Result Size Reason) (c : Float) (m : Parts) → best_as (best_of t c) m ≡ traced_as t m c
best_as_lem (Err e) c m = refl
best_as_lem (Ok z) c m = refl

best_keeps : (t : Result Size Reason) (c : Float) (m m' : Parts) → TraceKeeps t m m' → BestKeeps (best_of t c) m m'
best_keeps (Err x) c m m' e = e
best_keeps (Ok z) c m m' e = e

-- the definition's answer for a best token, and for none
abbrev answer_for : Option Told → Sizes → Answer
answer_for o z = unless (refuse 11 (short z (words_of (to_list o)) (to_list o) 0)) (path_answer o)

abbrev path_of : State → Option Ranked → Option Told
path_of st o = elim o as (λ x. Option Told) [ none ↦ none | some r ↦ some (trace st.frames [] r.token.path r.cost) ]

-- a graph and a state with nothing but these final weights and this table
abbrev with_finals : List Float → Graph
with_finals fs = record { start = 0; offsets = []; ilabels = []; olabels = []; weights = []; nextstates = []; finals = fs; tid2pdf = []; tid2phone = []; pdfs = 0 }

abbrev with_table : Table → State
with_table ts = record { margin = none; frames = 0; table = ts; seq = 0; fresh = 0 }

picked : {h : ℕ → History} {used n : ℕ} {ts : Table} {c : Candidate} (o : Option Ranked) → Picks h used n ts (Some c) o → (r : Ranked) × (o ≡ some r) × CandidateIs h used n ts c r
picked none p = absurd p
picked (some r) p = (r, refl, p)

none_picked : (h : ℕ → History) (used n : ℕ) (ts : Table) (o : Option Ranked) → Picks h used n ts None o → o ≡ none
none_picked h used n ts none p = refl
none_picked h used n ts (some r) p = absurd p

module _ {tk : List ℕ} {sm fs : List Float} {rs : List ℕ} {ls : List ℤ} {n b used : ℕ} (asks : ReadAsks tk sm fs rs ls n b used) where
  pub walkable_of : Walkable rs ls used
  unfolding rec_at
  walkable_of =
      let ok = asks.finished.stands in
      record { records = asks.records; labels = asks.labels; few = asks.few; prev_low = λ k l. (ok.each k l).prev_low; kept_low = λ k l. (ok.each k l).kept_low }

  pub link_low : {use_final : Bool} {c : Candidate} → BestIs tk sm fs b n use_final (Some c) → c.link ≤ used
  link_low {use_final} i =
      let f = asks.finished in
      let g = with_finals fs in
      let st = with_table asks.table in
      let (r, e, d) = picked (best_token g st use_final) (i.is g refl f.h used st f.shown) in
      d.link.low

module _ {tk : List ℕ} {sm fs : List Float} (rs : List ℕ) (ls : List ℤ) {n b used decoded : ℕ} {use_final : Bool} {m m' : Parts} where
  pub nobody_right : BestIs tk sm fs b n use_final None → m' ≡ m → BestPathRight tk sm fs rs ls n b used decoded use_final m m' (Ok None)
  unfolding read_best best_path
  nobody_right i e =
      record {
        answer = λ g q gs st y f.
            let o = none_picked f.h used n st.table (best_token g st use_final) (i.is g q f.h used st f.shown) in
            ap (λ (x : Bool). unless (refuse 11 x) (path_answer none)) (sym (short_none (places_of m))) ∙ sym (ap (λ (x : Option Ranked). answer_for (path_of st x) (places_of m)) o);
        kept = e;
      }

  path_right : (t : Result Size Reason) (c : Candidate) → BestIs tk sm fs b n use_final (Some c) → TraceRight rs ls [] used decoded c.link m m' t → BestPathRight tk sm fs rs ls n b used decoded use_final m m' (best_of t c.cost)
  unfolding read_best best_path
  path_right t c i w =
      record {
        answer = λ g q gs st y f.
            let (r, e, d) = picked (best_token g st use_final) (i.is g q f.h used st f.shown) in
            best_as_lem t c.cost m' ∙ w.answer gs f.h f.stands (λ x k. elim k [ ]) r.token.path c.cost d.link
            ∙ ap₂ (λ (k : ℕ) (x : Float). answer_one (trace k [] r.token.path x) (places_of m)) (sym y) d.cost ∙ sym (ap (λ (o : Option Ranked). answer_for (path_of st o) (places_of m)) e);
        kept = best_keeps t c.cost m m' w.kept;
      }

  pub path_refused : (e : Reason) (c : Candidate) → BestIs tk sm fs b n use_final (Some c) → TraceRight rs ls [] used decoded c.link m m' (Err e) → BestPathRight tk sm fs rs ls n b used decoded use_final m m' (Err e)
  path_refused e = path_right (Err e)

  pub path_found : (z : Size) (c : Candidate) → BestIs tk sm fs b n use_final (Some c) → TraceRight rs ls [] used decoded c.link m m' (Ok z) → BestPathRight tk sm fs rs ls n b used decoded use_final m m' (Ok (Some (record { size = z; cost = c.cost })))
  path_found z = path_right (Ok z)
