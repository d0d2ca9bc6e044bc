-- By whether there is a best token, and by what its trace gives.
use mathlib.Core.Path.{refl}
use Rattle.std.proofs.lemmas.Result.{err_from_is_err_and}
use Rattle.traceback.specs.Best.{walkable_of, link_low, nobody_right, path_refused, path_found}
use Rattle.traceback.proofs.best_path.Goals as goal

pub trace-requires : goal.trace-requires
trace-requires c = (walkable_of c.requires, link_low c.requires (c.in-Some.ensures))

pub returns-in_default : goal.returns-in_default
returns-in_default c = nobody_right c.args.records.now c.args.labels.now (c.in_default.ensures) refl

pub returns-in_err-size : goal.returns-in_err-size
returns-in_err-size c = let p = err_from_is_err_and c.from_residual.result c.from_residual.ensures.1 in rw (p.1, p.2) (path_refused c.args.records.now c.args.labels.now _ c.in-Some.best (c.in-Some.ensures) (c.in_err-size.ensures))

pub returns : goal.returns
returns c = path_found c.args.records.now c.args.labels.now _ c.in-Some.best (c.in-Some.ensures) (c.in_ok-size.ensures)
