-- A list that is not wanted stays; else the two ways make it, and it has its place or none.
use mathlib.Core.Path.{refl, sym, ◌∙◌}
use Rattle.below.specs.Putting.{not_wanted, no_place, was_listed}
use Rattle.below.proofs.Filled.{fill_asks}
use native.Mathlib.Omega.{arith}
use Rattle.below.proofs.fill_one.Goals as goal

pub count_of-requires : goal.count_of-requires
count_of-requires c = let z = c.requires.lists_long in let y = c.requires.low in omega arith

pub returns-then-count_of-eq0 : goal.returns-then-count_of-eq0
returns-then-count_of-eq0 c = not_wanted (sym c.count_of.ensures ∙ c.if-count_of-eq0.true) refl refl refl refl

pub own_way-own-requires : goal.own_way-own-requires
own_way-own-requires c = (record { records = c.requires.walkable.records; labels = c.requires.walkable.labels; prev_low = c.requires.walkable.prev_low }, c.requires.begins, c.requires.low, c.requires.lists_long)

pub kept_way-kept-requires : goal.kept_way-kept-requires
kept_way-kept-requires c = (c.requires.walkable, c.requires.gaps_long, c.requires.begins, c.requires.low, c.requires.lists_long)

pub fill_list-requires : goal.fill_list-requires
fill_list-requires c = fill_asks c.requires c.own_way-own.result c.kept_way-kept.result c.own_way-own.ensures c.kept_way-kept.ensures

pub put_list-requires : goal.put_list-requires
put_list-requires c = (c.requires.begins, let z = c.requires.lists_long in let y = c.requires.low in omega arith)

pub returns-in_err-to : goal.returns-in_err-to
returns-in_err-to c = rw c.from_residual.ensures (no_place (record { own = c.own_way-own.result; kept = c.kept_way-kept.result; wanted = let e = c.count_of.ensures in let d = c.if-count_of-eq0.false in omega (arith, d); own_way = c.own_way-own.ensures; kept_way = c.kept_way-kept.ensures; fill = c.in_err-to.ensures }))

pub returns : goal.returns
returns c = was_listed c.in_ok-to.to (record { own = c.own_way-own.result; kept = c.kept_way-kept.result; wanted = let e = c.count_of.ensures in let d = c.if-count_of-eq0.false in omega (arith, d); own_way = c.own_way-own.ensures; kept_way = c.kept_way-kept.ensures; fill = c.in_ok-to.ensures }) c.put_list.ensures
