-- 6, or the new margin.
use mathlib.Core.Path.{sym, ap, ◌∙◌}
use borrow.Author.Tests.{not-true, not-false}
use Rattle.decoder.specs.declared.Called.TheVariants.{Done, Refused}
use Rattle.decoder.specs.Keep.{keep_refuses, keep_takes}
use Rattle.decoder.proofs.set_keep.Goals as goal

pub returns-then-margin_wrong : goal.returns-then-margin_wrong
returns-then-margin_wrong c = ap (Refused c.args.decoder) c.unfit.ensures ∙ keep_refuses c.args.decoder c.args.keeps c.args.margin (not-true _ (sym c.margin_wrong.ensures ∙ c.if-margin_wrong.true))

pub returns : goal.returns
returns c = ap Done c.with_margin.ensures ∙ keep_takes c.args.decoder c.args.keeps c.args.margin (not-false _ (sym c.margin_wrong.ensures ∙ c.if-margin_wrong.false))
