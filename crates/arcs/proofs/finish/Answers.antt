-- By what came of the arc.
use mathlib.Core.Path.{refl}
use Rattle.arcs.specs.Finish.{finish_cut, finish_stays, finish_wins, finish_joins}
use Rattle.arcs.proofs.finish.Goals as goal

pub returns-in-Cut : goal.returns-in-Cut
returns-in-Cut c = finish_cut c.in-Cut.is refl refl

pub returns-in-Stays : goal.returns-in-Stays
returns-in-Stays c = finish_stays c.in-Stays.is c.moved.ensures refl refl

pub returns-in-Wins : goal.returns-in-Wins
returns-in-Wins c = finish_wins c.in-Wins.is c.moved-in-Wins.ensures refl c.push_winner.ensures

pub returns-in-Joins : goal.returns-in-Joins
returns-in-Joins c = finish_joins c.in-Joins.is c.moved-next.ensures c.push_joined.ensures
