-- `replay_reads::alternatives::say_unlisted` meets its contract.
use mathlib.Core.Path.{sym, ◌∙◌}
use Rattle.replay_reads.proofs.alternatives.say_unlisted.Goals as goal

pub returns-then-not-list_fits : goal.returns-then-not-list_fits
returns-then-not-list_fits c = λ e. sym (c.if-not-list_fits.true) ∙ c.list_fits.ensures ∙ e
