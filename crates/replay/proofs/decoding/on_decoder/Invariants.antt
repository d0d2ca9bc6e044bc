-- `replay::decoding::on_decoder` meets its contract: between the calls the decoder and its stores are as the last one left them.
use Prim.Native.Nat.{◌-◌, ◌≤◌}
use lib.ListN.{length}
use Rattle.stores.specs.Rep.{lent}
use Rattle.replay_places.specs.Held.{Held}
use Rattle.replay_places.specs.Graphs.{tables_of}
use Rattle.replay.specs.AsLong.{AsLong}
use Rattle.script.specs.Words.{word_count}
use Rattle.replay.proofs.decoding.on_decoder.Given as goal

abbrev pub invariant-loop-r : goal.invariant-loop-r
invariant-loop-r l =
    (l.from ≤ l.at) × Held (tables_of l.graph) (lent l.tokens l.sums l.records l.labels l.gaps) l.graph.finals.now l.eps (length l.queue) (length l.scratch) l.d × AsLong l.initial.tokens l.tokens l.initial.sums l.sums l.initial.records l.records l.initial.labels l.labels l.initial.gaps l.gaps l.initial.queue l.queue l.initial.scratch l.scratch

abbrev pub decreases-loop-r : goal.decreases-loop-r
decreases-loop-r l =
    word_count l.calls - l.at
