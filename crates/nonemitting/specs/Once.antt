-- The definition's loop has one outcome. Assumes nothing.
use Rattle.std.specs.Prelude.{◌≡◌, refl, ℕ, List, [], ◌∷◌, length, get_or}
use Rattle.std.proofs.Common.{sym, ap, ◌∙◌, subst, arith}
use Rattle.std.proofs.Math.Option.{none}
use Rattle.model.specs.Basics.{Outcome, ok, refused}
use Rattle.model.specs.Arrive.{Here, Work}
use Rattle.model.specs.Passes.{push_from, popped, expand}
use Rattle.copy_laws.specs.Ends.{Loops, loop_ends, loop_refused, loop_turns, Runs, run_refused, run_loops}

not_both : {A : Type 0} (v : Work) (n : ℕ) → ok v ≡ refused n → A
not_both v n e = let z : ◌≡◌ {A = ℕ} 0 1 = cc in absurd (omega arith)

ok_same : (v u : Work) → ok v ≡ ok u → v ≡ u
ok_same v u e = cc

-- one turn, by the queue
abbrev turn_by : Here → Work → List ℕ → Outcome Work
turn_by h w [] = ok w
turn_by h w (s ∷ q) = expand h s (get_or w.table s none) (popped w q)

module _ (h : Here) where
  turn_is : (w : Work) (s : ℕ) (q : List ℕ) (o : Outcome Work) → w.queue ≡ s ∷ q → expand h s (get_or w.table s none) (popped w q) ≡ o → turn_by h w w.queue ≡ o
  turn_is w s q o e f = ap (turn_by h w) e ∙ f

  ends_or_turns : {A : Type 0} (w : Work) (s : ℕ) (q : List ℕ) → w.queue ≡ [] → w.queue ≡ s ∷ q → A
  ends_or_turns w s q e f = let z = ap length (sym e ∙ f) in absurd (omega arith)

  loops_once : (w : Work) (o o' : Outcome Work) → Loops h w o → Loops h w o' → o ≡ o'
  loops_once w o o' (loop_ends e) (loop_ends f) = refl
  loops_once w o o' (loop_ends e) (loop_refused s q n f k) = ends_or_turns w s q e f
  loops_once w o o' (loop_ends e) (loop_turns s q v f k l) = ends_or_turns w s q e f
  loops_once w o o' (loop_refused s q n e k) (loop_ends f) = ends_or_turns w s q f e
  loops_once w o o' (loop_refused s q n e k) (loop_refused s' q' n' e' k') = sym (turn_is w s q (refused n) e k) ∙ turn_is w s' q' (refused n') e' k'
  loops_once w o o' (loop_refused s q n e k) (loop_turns s' q' v' e' k' l') = not_both v' n (sym (turn_is w s' q' (ok v') e' k') ∙ turn_is w s q (refused n) e k)
  loops_once w o o' (loop_turns s q v e k l) (loop_ends f) = ends_or_turns w s q f e
  loops_once w o o' (loop_turns s q v e k l) (loop_refused s' q' n' e' k') = not_both v n' (sym (turn_is w s q (ok v) e k) ∙ turn_is w s' q' (refused n') e' k')
  loops_once w o o' (loop_turns {o = a} s q v e k l) (loop_turns {o = b} s' q' v' e' k' l') =
      loops_once v a b l (subst (λ (z : Work). Loops h z b) (ok_same v' v (sym (turn_is w s' q' (ok v') e' k') ∙ turn_is w s q (ok v) e k)) l')

  pub runs_once : (w v : Work) (o o' : Outcome Work) → Runs h w o → push_from h 0 w.table w ≡ ok v → Loops h v o' → o ≡ o'
  runs_once w v o o' (run_refused n e) f l = not_both v n (sym f ∙ e)
  runs_once w v o o' (run_loops {o = a} u e k) f l = loops_once v a o' (subst (λ (z : Work). Loops h z a) (ok_same u v (sym e ∙ f)) k) l
