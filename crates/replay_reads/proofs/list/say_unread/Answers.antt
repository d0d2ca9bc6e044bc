-- `replay_reads::list::say_unread` meets its contract.
use mathlib.Core.Path.{sym, ◌∙◌}
use Rattle.replay_reads.proofs.list.say_unread.Goals as goal

pub returns-then-not-all_entries : goal.returns-then-not-all_entries
returns-then-not-all_entries c = λ e f. sym (c.if-not-all_entries.true) ∙ c.all_entries.ensures ∙ e

pub returns-then-not-all_output : goal.returns-then-not-all_output
returns-then-not-all_output c = λ e f. sym (c.if-not-all_output.true) ∙ c.all_output.ensures ∙ f
