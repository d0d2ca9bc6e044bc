-- `replay_calls::calls::keep` meets its contract: a margin changes no store.
use mathlib.Core.Bool.{true, false}
use Rattle.model.specs.Basics.{0f}
use Rattle.replay_calls.specs.Held.{kept_left}
use Rattle.replay_calls.proofs.calls.keep.Goals as goal

pub returns-then-first-eq0 : goal.returns-then-first-eq0
returns-then-first-eq0 c = kept_left _ false 0f _ _ c.set_keep.ensures c.say_called.ensures

pub returns-then-first-eq1 : goal.returns-then-first-eq1
returns-then-first-eq1 c = kept_left _ true c.from_word-margin.result _ _ c.set_keep-then-first-eq1.ensures c.say_called-then-first-eq1.ensures
