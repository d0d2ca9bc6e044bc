-- One way out for each of its cases.
use Rattle.std.proofs.Common.{sym, refl, ◌∙◌, arith}
use Rattle.model.specs.Ints.{back}
use Rattle.arrivals.specs.PutOn.{sum_refused, record_refused, link_on_it, no_link_on_it}
use Rattle.arrivals.proofs.put_on.Goals as goal

pub returns-then-not-is_tame : goal.returns-then-not-is_tame
returns-then-not-is_tame c = sum_refused (sym c.is_tame.ensures ∙ c.if-not-is_tame.true) refl refl

pub returns-then-not-is_link : goal.returns-then-not-is_link
returns-then-not-is_link c = no_link_on_it (sym c.is_tame.ensures ∙ c.if-not-is_tame.false) (sym c.is_link.ensures ∙ c.if-not-is_link.true) refl refl

pub returns-then-used-setting : goal.returns-then-used-setting
returns-then-used-setting c = record_refused (sym c.is_tame.ensures ∙ c.if-not-is_tame.false) (sym c.is_link.ensures ∙ c.if-not-is_link.false) c.if-used-setting.true refl refl

pub returns : goal.returns
returns c = link_on_it {r = c.put_link-link.result} (sym c.is_tame.ensures ∙ c.if-not-is_tame.false) (sym c.is_link.ensures ∙ c.if-not-is_link.false) (omega arith) (rw (sym c.starts.ensures) (rw (back c.args.a.word search) at c.put_link-link.ensures))
