-- The first mark in the rest of the state's block, or else in the next block that has one.
use Rattle.std.proofs.Common.{ℕ, ◌+◌, ◌*◌, ◌/◌, ◌%◌, subst, arith}
use Rattle.lists.specs.Tests.{case, lt_or_le}
use Rattle.tokens.specs.Layout.{FirstBit}
use Rattle.tokens.proofs.Blocks.{before_first, at_first, passed, found_in, next_is, none_next}
use Rattle.tokens.proofs.next_active.Goals as goal

pub returns-then-j-lt16 : goal.returns-then-j-lt16
returns-then-j-lt16 c = let a = c.args in
    let f = subst (λ (n : ℕ). FirstBit n (a.s % 16) c.first_bit-j.result) c.active_in.ensures c.first_bit-j.ensures in
    next_is a.tokens.now a.side c.requires.0 a.s a.states (a.s / 16 * 16 + c.first_bit-j.result) _ (omega arith) (omega (arith, f.from))
    (λ i h l. before_first a.tokens.now a.side c.requires.0 (a.s / 16) (a.s % 16) c.first_bit-j.result f i (omega arith) l)
    (at_first a.tokens.now a.side c.requires.0 (a.s / 16) (a.s % 16) c.first_bit-j.result f c.if-j-lt16.true) c.min.ensures

pub returns-in-Some : goal.returns-in-Some
returns-in-Some c = let a = c.args in
    let tk = a.tokens.now in
    let k = c.in-Some.next in
    let next = c.in-Some.ensures in
    let f = subst (λ (n : ℕ). FirstBit n (a.s % 16) c.first_bit-j.result) c.active_in.ensures c.first_bit-j.ensures in
    let g = subst (λ (n : ℕ). FirstBit n 0 c.first_bit.result) c.active_in-in-Some.ensures c.first_bit.ensures in
    next_is tk a.side c.requires.0 a.s a.states (k * 16 + c.first_bit.result) _ (omega arith) (omega (arith, next.from))
    (λ i h l. case (lt_or_le i (k * 16))
    (λ b. passed tk a.side c.requires.0 a.s c.first_bit-j.result f c.if-j-lt16.false i h (λ u. next.none (i / 16) u (omega arith)))
    (λ b. before_first tk a.side c.requires.0 k 0 c.first_bit.result g i (omega arith) l))
    (at_first tk a.side c.requires.0 k 0 c.first_bit.result g (found_in tk a.side c.requires.0 k c.first_bit.result next.some g)) c.min-in-Some.ensures

pub returns-in-None : goal.returns-in-None
returns-in-None c = let a = c.args in
    let f = subst (λ (n : ℕ). FirstBit n (a.s % 16) c.first_bit-j.result) c.active_in.ensures c.first_bit-j.ensures in
    none_next a.tokens.now a.side c.requires.0 a.s a.states (omega arith)
    (λ i h l. passed a.tokens.now a.side c.requires.0 a.s c.first_bit-j.result f c.if-j-lt16.false i h (λ u. c.in-None.ensures (i / 16) u (omega arith)))
