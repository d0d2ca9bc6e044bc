-- The pushes, and then the loop.
use Rattle.std.proofs.lemmas.Result.{err_from_is_err_and}
use Rattle.nonemitting.specs.Pass.{push_given, push_asks, push_stops, drain_given, drained}
use Rattle.nonemitting.proofs.nonemitting.Goals as goal

pub push_active-requires : goal.push_active-requires
push_active-requires c = push_asks c.requires

pub drain-requires : goal.drain-requires
drain-requires c = drain_given c.requires (search) _ c.push_active.auto.queue _ _ c.in_ok-w.was (c.push_active.ensures _ _ _ _ (push_given c.requires))

pub returns-in_err-w : goal.returns-in_err-w
returns-in_err-w c = let p = err_from_is_err_and c.from_residual.result c.from_residual.ensures.1 in rw (p.1, p.2) (λ G. push_stops G (search) _ _ _ c.in_err-w.was (c.push_active.ensures _ _ _ _ (push_given G)))

pub returns : goal.returns
returns c = λ G. drained G (search) _ c.push_active.auto.queue _ _ c.in_ok-w.was (c.push_active.ensures _ _ _ _ (push_given G)) _ _ _ c.drain.ensures
