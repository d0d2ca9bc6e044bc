-- Too short, or written.
use mathlib.Core.Path.{refl, sym, ◌∙◌}
use Rattle.traceback.specs.Right.{parts}
use Rattle.traceback.specs.Answers.{trace_refused, trace_written}
use Rattle.traceback.proofs.trace.Goals as goal

pub returns-then-too_short : goal.returns-then-too_short
returns-then-too_short c = let a = c.args in
    trace_refused a.records.now a.labels.now a.route.now a.used a.n a.link c.measure-size.result c.measure-size.ensures (parts a.words.now a.frames.now a.segments.now) (sym c.too_short.ensures ∙ c.if-too_short.true) refl

pub returns : goal.returns
returns c = let a = c.args in
    trace_written a.records.now a.labels.now a.route.now a.used a.n a.link c.measure-size.result c.measure-size.ensures (parts a.words.now a.frames.now a.segments.now) (sym c.too_short.ensures ∙ c.if-too_short.false) c.write.ensures
