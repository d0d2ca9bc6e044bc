-- `replay_stateless::searches::search` is safe: what is found is the index of one of the ends, of which there are 16,384 at most.
use Rattle.std.proofs.Common.{length, ◌^◌, ◌≤◌, arith, length-take-le}
use Rattle.reading_search.specs.Found.{found_below}
use Rattle.script.specs.Words.{filled_room}
use Rattle.replay_stateless.proofs.searches.search.Goals as goal

pub say_found-requires : goal.say_found-requires
say_found-requires c =
    let ends = c.fill.new.out in
    let room : c.args.n ≤ length ends = omega (arith, filled_room c.fill.ensures c.if-not-fill.false) in
    found_below _ _ (2 ^ 32) c.find.result (omega (arith, length-take-le c.args.n ends room)) c.find.ensures
