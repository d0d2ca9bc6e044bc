-- The tables emptied, the start token put, and the pass.
use mathlib.Core.Path.{refl, ◌∙◌}
use native.Mathlib.Omega.{arith}
use lib.Ieee.{of_bits}
use Rattle.decoder.specs.Begin.{put_asks, pass_given, begins_nowhere, begins_on, begins_refused}
use Rattle.decoder.proofs.begin.Goals as goal

pub returns-then-first : goal.returns-then-first
returns-then-first c = λ g s l st G. begins_nowhere G _ (record { tokens = c.clear_both.auto.tokens; sums = refl; records = refl; labels = refl; gaps = refl }) c.clear_both.ensures c.if-first.true _ c.emptied.ensures

pub put_token-requires : goal.put_token-requires
put_token-requires c = put_asks c.requires.is c.if-first.false c.clear_both.new.tokens c.clear_both.auto.tokens

pub nonemitting-requires : goal.nonemitting-requires
unfolding of_bits
nonemitting-requires c = rw c.setting_of.ensures (pass_given c.requires.is c.if-first.false _ _ _ c.clear_both.ensures (c.put_token.auto.tokens ∙ c.clear_both.auto.tokens) c.put_token.auto.sums c.put_token.ensures _ refl)

pub clear_both-requires-in-Err : goal.clear_both-requires-in-Err
clear_both-requires-in-Err c = let z = c.requires.is.fixed.stores.tokens in
    let a = c.nonemitting.auto.tokens in
    let b = c.put_token.auto.tokens in
    let d = c.clear_both.auto.tokens in
    omega arith

pub returns-in-Err : goal.returns-in-Err
unfolding of_bits
returns-in-Err c = rw c.at.ensures (λ g s l st G. begins_refused G c.if-first.false _ _ _ c.clear_both.ensures (c.put_token.auto.tokens ∙ c.clear_both.auto.tokens) c.put_token.auto.sums c.put_token.ensures _ refl _ (record { tokens = c.nonemitting.auto.tokens ∙ c.put_token.auto.tokens ∙ c.clear_both.auto.tokens; sums = c.nonemitting.auto.sums ∙ c.put_token.auto.sums; records = c.nonemitting.auto.records; labels = c.nonemitting.auto.labels; gaps = c.nonemitting.auto.gaps }) _ _ (rw c.setting_of.ensures at c.nonemitting.ensures) _ c.in-Err.is _ c.clear_both-in-Err.auto.tokens c.clear_both-in-Err.ensures _ c.emptied-in-Err.ensures)

pub returns-in-Ok : goal.returns-in-Ok
unfolding of_bits
returns-in-Ok c = λ g s l st G. begins_on G c.if-first.false _ _ _ c.clear_both.ensures (c.put_token.auto.tokens ∙ c.clear_both.auto.tokens) c.put_token.auto.sums c.put_token.ensures _ refl _ (record { tokens = c.nonemitting.auto.tokens ∙ c.put_token.auto.tokens ∙ c.clear_both.auto.tokens; sums = c.nonemitting.auto.sums ∙ c.put_token.auto.sums; records = c.nonemitting.auto.records; labels = c.nonemitting.auto.labels; gaps = c.nonemitting.auto.gaps }) _ _ (rw c.setting_of.ensures at c.nonemitting.ensures) _ c.in-Ok.is _ c.turned.ensures
