-- `replay::decoding::answer` meets its contract: whatever is answered, the decoder and its stores are as a call leaves them.
use Rattle.decoder.proofs.Held.{held_asked}
use Rattle.replay_places.specs.Held.{frame_asked}
use Rattle.replay_reads.specs.Reads.{reads_next}
use Rattle.replay.proofs.decoding.answer.Goals as goal

pub start_again-requires : goal.start_again-requires
start_again-requires c = (held_asked c.requires.held.holds).start

pub returns-then-r-eq-START : goal.returns-then-r-eq-START
returns-then-r-eq-START c = c.start_again.ensures _ _ c.requires.held

pub frame-requires : goal.frame-requires
frame-requires c = frame_asked c.requires.held

pub returns-then-r-eq-FRAME : goal.returns-then-r-eq-FRAME
returns-then-r-eq-FRAME c = c.frame.ensures _ _ c.requires.held

pub returns-then-r-eq-KEEP : goal.returns-then-r-eq-KEEP
returns-then-r-eq-KEEP c = c.keep.ensures _ _ _ _ _ _ c.requires.held

pub read-requires-clause-reads_left : goal.read-requires-clause-reads_left
read-requires-clause-reads_left c = reads_next c.requires.held
