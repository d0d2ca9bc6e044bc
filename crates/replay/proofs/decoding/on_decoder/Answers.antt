-- `replay::decoding::on_decoder` meets its contract: between the calls the decoder and its stores are as the last one left them.
use mathlib.Core.Path.{◌∙◌}
use Rattle.replay.specs.Places.{record_from}
use Rattle.replay_calls.specs.Held.{answered_next}
use native.Mathlib.Omega.{arith}
use Rattle.replay.proofs.decoding.on_decoder.Goals as goal

pub answer-requires-clause-held : goal.answer-requires-clause-held
answer-requires-clause-held c = c.loop-r.invariant.1

pub loop-r-preserved-in-Left : goal.loop-r-preserved-in-Left
loop-r-preserved-in-Left c = let h = rw c.in-Some.is at (rw c.in_ok-r.was at (record_from _ _ _ c.record_at.ensures)) in (omega (arith, h, c.loop-r.invariant.0), c.loop-r.invariant.1, c.loop-r.invariant.2)

pub loop-r-smaller : goal.loop-r-smaller
loop-r-smaller c = let h = rw c.in-Some.is at (rw c.in_ok-r.was at (record_from _ _ _ c.record_at.ensures)) in omega (arith, h)

pub loop-r-preserved : goal.loop-r-preserved
loop-r-preserved c = let h = rw c.in-Some.is at (rw c.in_ok-r.was at (record_from _ _ _ c.record_at.ensures)) in (omega (arith, h, c.loop-r.invariant.0), answered_next _ _ _ _ _ _ _ _ _ _ c.answer.ensures c.in-Some-answer.is c.answer.auto.queue c.answer.auto.scratch, record { tokens = c.answer.auto.tokens ∙ c.loop-r.invariant.2.tokens; sums = c.answer.auto.sums ∙ c.loop-r.invariant.2.sums; records = c.answer.auto.records ∙ c.loop-r.invariant.2.records; labels = c.answer.auto.labels ∙ c.loop-r.invariant.2.labels; gaps = c.answer.auto.gaps ∙ c.loop-r.invariant.2.gaps; queue = c.answer.auto.queue ∙ c.loop-r.invariant.2.queue; scratch = c.answer.auto.scratch ∙ c.loop-r.invariant.2.scratch })
