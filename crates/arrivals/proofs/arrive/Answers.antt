-- Each way out is a law of what its parts leave.
use Rattle.std.proofs.Common.{◌≡◌, Bool, sym, refl, ap, ◌∙◌, arith}
use Rattle.std.proofs.lemmas.Result.{err_from_is_err_and}
use Rattle.arrivals.specs.declared.Meets.{Meets}
use Rattle.arrivals.specs.Arrival.{is_cut_off}
use Rattle.arrivals.specs.Arrives.{cut_is, total_refused, target_room, room_asks, then_asks, arrived}
use Rattle.arrivals.proofs.arrive.Goals as goal

passes : {met m : Meets} {cut b : Bool} → met ≡ m → cut ≡ is_cut_off met → cut ≡ b → is_cut_off m ≡ b
passes p q r = ap is_cut_off (sym p) ∙ sym q ∙ r

pub returns-then-is_cut : goal.returns-then-is_cut
returns-then-is_cut c = λ G. cut_is _ _ _ _ _ _ G (passes c.meet-met.ensures c.is_cut.ensures c.if-is_cut.true) _ refl

pub returns-then-not-is_tame : goal.returns-then-not-is_tame
returns-then-not-is_tame c = λ G. total_refused _ _ _ _ _ _ G (passes c.meet-met.ensures c.is_cut.ensures c.if-is_cut.false) (sym c.is_tame.ensures ∙ c.if-not-is_tame.true)

pub make_room-made-requires : goal.make_room-made-requires
make_room-made-requires c = (c.requires.pass.few, rw c.with_link.ensures (room_asks _ _ _ _ _ _ c.requires))

pub settle-requires : goal.settle-requires
settle-requires c = let G = c.requires in let z = target_room _ _ _ _ _ _ G in let k = c.make_room-made.auto.tokens in record { side_bound = (G.pass.side, omega arith, z.1); settle_asks = rw c.with_link-2.ensures (then_asks _ _ _ _ _ _ G (passes c.meet-met.ensures c.is_cut.ensures c.if-is_cut.false) (sym c.is_tame.ensures ∙ c.if-not-is_tame.false) _ _ _ _ c.make_room-made.auto.tokens c.make_room-made.auto.records c.make_room-made.auto.labels c.make_room-made.auto.gaps _ (rw c.with_link.ensures at c.make_room-made.ensures)) }

pub put_token-requires : goal.put_token-requires
put_token-requires c = let G = c.requires in let z = target_room _ _ _ _ _ _ G in let k = c.make_room-made.auto.tokens in (G.pass.side, omega arith, z.1)

pub put_token-requires-in-Joins : goal.put_token-requires-in-Joins
put_token-requires-in-Joins c = let G = c.requires in let z = target_room _ _ _ _ _ _ G in let k = c.make_room-made.auto.tokens in (G.pass.side, omega arith, z.1)

pub returns-in_err-settled : goal.returns-in_err-settled
returns-in_err-settled c = let p = err_from_is_err_and c.from_residual.result c.from_residual.ensures.1 in rw (p.1, p.2) (λ G. arrived _ _ _ _ _ _ G (passes c.meet-met.ensures c.is_cut.ensures c.if-is_cut.false) (sym c.is_tame.ensures ∙ c.if-not-is_tame.false) _ _ _ _ c.make_room-made.auto.tokens c.make_room-made.auto.records c.make_room-made.auto.labels c.make_room-made.auto.gaps _ (rw c.with_link.ensures at c.make_room-made.ensures) _ _ _ c.settle.auto.records c.settle.auto.labels c.settle.auto.gaps _ (rw (c.with_link-2.ensures, c.meet-met.ensures) at c.in_err-settled.ensures))

pub returns-in-Stays : goal.returns-in-Stays
returns-in-Stays c = λ G. arrived _ _ _ _ _ _ G (passes c.meet-met.ensures c.is_cut.ensures c.if-is_cut.false) (sym c.is_tame.ensures ∙ c.if-not-is_tame.false) _ _ _ _ c.make_room-made.auto.tokens c.make_room-made.auto.records c.make_room-made.auto.labels c.make_room-made.auto.gaps _ (rw c.with_link.ensures at c.make_room-made.ensures) _ _ _ c.settle.auto.records c.settle.auto.labels c.settle.auto.gaps _ (rw (c.with_link-2.ensures, c.meet-met.ensures, c.in-Stays.is) at c.in_ok-settled.ensures)

pub returns-in-Wins : goal.returns-in-Wins
returns-in-Wins c = λ G. arrived _ _ _ _ _ _ G (passes c.meet-met.ensures c.is_cut.ensures c.if-is_cut.false) (sym c.is_tame.ensures ∙ c.if-not-is_tame.false) _ _ _ _ c.make_room-made.auto.tokens c.make_room-made.auto.records c.make_room-made.auto.labels c.make_room-made.auto.gaps _ (rw c.with_link.ensures at c.make_room-made.ensures) _ _ _ c.settle.auto.records c.settle.auto.labels c.settle.auto.gaps _ (rw (c.with_link-2.ensures, c.meet-met.ensures, c.in-Wins.is) at c.in_ok-settled.ensures) _ _ c.put_token.auto.tokens c.put_token.auto.sums c.put_token.ensures

pub returns-in-Joins : goal.returns-in-Joins
returns-in-Joins c = λ G. arrived _ _ _ _ _ _ G (passes c.meet-met.ensures c.is_cut.ensures c.if-is_cut.false) (sym c.is_tame.ensures ∙ c.if-not-is_tame.false) _ _ _ _ c.make_room-made.auto.tokens c.make_room-made.auto.records c.make_room-made.auto.labels c.make_room-made.auto.gaps _ (rw c.with_link.ensures at c.make_room-made.ensures) _ _ _ c.settle.auto.records c.settle.auto.labels c.settle.auto.gaps _ (rw (c.with_link-2.ensures, c.meet-met.ensures, c.in-Joins.is) at c.in_ok-settled.ensures) _ _ c.put_token-in-Joins.auto.tokens c.put_token-in-Joins.auto.sums c.put_token-in-Joins.ensures
