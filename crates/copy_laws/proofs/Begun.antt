-- How the nonemitting pass begins: the active states with epsilon arcs are on the queue, and nothing else has changed. Assumes nothing.
use Rattle.std.specs.Prelude.{◌≡◌, refl, ℕ, zero, suc, ◌+◌, ◌≤◌, true, not, length}
use Rattle.std.proofs.Common.{sym, ◌∙◌, subst, add-zero, zero-add, arith}
use Rattle.std.proofs.Math.Option.{Option, none, some}
use mathlib.Core.List.Memᴰ.{head as here}
use mathlib.Core.List.Memᴰ.{tail as there}
use mathlib.Core.List.{[], ◌∷◌}
use Rattle.lists.specs.Tests.{never}
use Rattle.lists.specs.Lists.{◌∈◌}
use Rattle.lists.specs.Members.{any_yes}
use Rattle.model.specs.Basics.{over}
use Rattle.model.specs.Graph.{Graph, Arc, arcs_of, emits, has_eps}
use Rattle.model.specs.Path.{Token, Table}
use Rattle.model.specs.Arrive.{nonemitting, takes, Here, Work, push}
use Rattle.model.specs.Passes.{push_from}
use Rattle.model.specs.Accepted.{Ok}
use Rattle.model.proofs.Accepted.{then, branches, weaken}
use Rattle.model.specs.Came.{Queued}
use Rattle.model.proofs.Came.{More}
use Rattle.copy_laws.specs.Tables.{At}
use Rattle.copy_laws.proofs.Tables.{none≢some}
use Rattle.copy_laws.specs.Begun.{Begun, Pushes, Starts}

push_pushes : (h : Here) (s : ℕ) (w : Work) → Ok (Pushes s w) (push h s [] w)
unfolding push
push_pushes h s w =
    branches (Pushes s w) (over (suc (length w.queue)) h.limits.queue) _ _ (λ e. tt)
    (λ e. record { same = record { table = refl; seq = refl; cutoff = refl; fresh = refl; queue = λ x m. there m }; on = here refl; few = omega arith; none_requeued = refl })

unmoved : (w : Work) → Queued More w w
unmoved w = record { table = refl; seq = refl; cutoff = refl; fresh = refl; queue = λ x m. m }

queued_then : (w v u : Work) → Queued More w v → Queued More v u → Queued More w u
queued_then w v u p q = record { table = q.table ∙ p.table; seq = q.seq ∙ p.seq; cutoff = q.cutoff ∙ p.cutoff; fresh = q.fresh ∙ p.fresh; queue = λ x m. q.queue x (p.queue x m) }

-- One more place in front: it is not active, has no epsilon arcs, or is on the queue.
more_place : (g : Graph) (s : ℕ) (o : Option Token) (ts : Table) (w v u : Work) → Queued More w v → length v.queue ≤ suc (length w.queue) → (w.requeued ≡ [] → v.requeued ≡ [])
    → ((t : Token) → o ≡ some t → has_eps g s ≡ true → s ∈ v.queue) → Begun g (suc s) ts v u → Begun g s (o ∷ ts) w u
more_place g s o ts w v u p n r f b =
    record { same = queued_then w v u p b.same; queued = pick; few = let z = b.few in omega arith; none_requeued = λ e. b.none_requeued (r e) }
  where
    pick : (i : ℕ) (t : Token) → At (o ∷ ts) i t → has_eps g (i + s) ≡ true → i + s ∈ u.queue
    pick zero t e x =
        let z : 0 + s ≡ s = zero-add s in
        subst (λ (k : ℕ). k ∈ u.queue) (sym z) (b.same.queue s (f t e (subst (λ (k : ℕ). has_eps g k ≡ true) z x)))
    pick (suc i) t e x =
        let z : i + suc s ≡ suc i + s = omega arith in
        subst (λ (k : ℕ). k ∈ u.queue) z (b.queued i t e (subst (λ (k : ℕ). has_eps g k ≡ true) (sym z) x))

module _ (h : Here) where
  abbrev g : Graph
  g = h.graph

  push_begun : (s : ℕ) (ts : Table) (w : Work) → Ok (Begun g s ts w) (push_from h s ts w)
  unfolding push_from
  push_begun s [] w = record { same = unmoved w; queued = λ i t e. none≢some t e; few = omega arith; none_requeued = λ e. e }
  push_begun s (none ∷ ts) w =
      weaken (Begun g (suc s) ts w) (Begun g s (none ∷ ts) w) (push_from h (suc s) ts w) (λ u. more_place g s none ts w w u (unmoved w) (omega arith) (λ e. e) (λ t e. none≢some t e)) (push_begun (suc s) ts w)
  push_begun s (some t ∷ ts) w =
      branches (Begun g s (some t ∷ ts) w) (has_eps g s) _ _
      (λ e. then (Pushes s w) (Begun g s (some t ∷ ts) w) (push h s [] w) _ (push_pushes h s w) λ v b.
      weaken (Begun g (suc s) ts v) (Begun g s (some t ∷ ts) w) (push_from h (suc s) ts v) (λ u. more_place g s (some t) ts w v u b.same b.few (λ x. b.none_requeued) (λ x y z. b.on)) (push_begun (suc s) ts v))
      (λ e. weaken (Begun g (suc s) ts w) (Begun g s (some t ∷ ts) w) (push_from h (suc s) ts w) (λ u. more_place g s (some t) ts w w u (unmoved w) (omega arith) (λ x. x) (λ x y z. never (sym e ∙ z))) (push_begun (suc s) ts w))

has_eps_lem : (g : Graph) (s : ℕ) (a : Arc) → a ∈ arcs_of g s → takes nonemitting a ≡ true → has_eps g s ≡ true
unfolding has_eps
has_eps_lem g s a m e = any_yes (λ b. not (emits b)) (arcs_of g s) a m e

pub push_starts : (h : Here) (w : Work) → Ok (Starts h.graph w) (push_from h 0 w.table w)
push_starts h w =
    weaken (Begun h.graph 0 w.table w) (Starts h.graph w) (push_from h 0 w.table w)
    (λ v b. record {
      same = b.same;
      queued = λ s t e a m x.
          let z : s + 0 ≡ s = add-zero s in
          subst (λ (k : ℕ). k ∈ v.queue) z (b.queued s t e (subst (λ (k : ℕ). has_eps h.graph k ≡ true) (sym z) (has_eps_lem h.graph s a m x)));
      few = b.few;
      none_requeued = b.none_requeued;
    }) (push_begun h 0 w.table w)
