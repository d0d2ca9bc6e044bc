-- Its words are there, or they are new.
use Rattle.std.proofs.Common.{◌<◌, arith}
use Rattle.kept_readings.specs.Laws.{in_places, added_there, added_full, added_new}
use Rattle.kept_readings.proofs.add_kept.Goals as goal

pub find_kept-requires : goal.find_kept-requires
find_kept-requires c = let r = c.requires.0 in let f = c.requires.1 in record { hashes = let z = r.hashes in omega arith; links = let z = r.links in omega arith; sums = let z = r.sums in omega arith }

pub put_sooner-requires : goal.put_sooner-requires
put_sooner-requires c = let r = c.requires.0 in let f = c.requires.1 in let t = in_places c.in-Some.ensures in record { hashes = let z = r.hashes in omega arith; links = let z = r.links in omega arith; sums = let z = r.sums in omega arith }

pub returns-in-Some : goal.returns-in-Some
returns-in-Some c = added_there c.requires.1 c.in-Some.ensures c.put_sooner.ensures

pub returns-then-n-places : goal.returns-then-n-places
returns-then-n-places c = added_full (c.in_default.ensures) c.requires.1 c.if-n-places.true

pub put_kept-requires : goal.put_kept-requires
put_kept-requires c = let r = c.requires.0 in let f = c.requires.1 in let t = c.if-n-places.false in let w : c.args.n < c.args.places = omega arith in record { hashes = let z = r.hashes in omega arith; links = let z = r.links in omega arith; sums = let z = r.sums in omega arith }

pub returns : goal.returns
returns c = added_new c.in_default.ensures c.requires.1 c.if-n-places.false c.put_kept.ensures
