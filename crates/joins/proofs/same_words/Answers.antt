-- A word on top of the loser stands against the winner's newest.
use mathlib.Core.Path.{refl, sym, ap, ◌∙◌}
use mir.Syntax.{w32}
use mir.Val.{of_z}
use Rattle.model.specs.Ints.{nonzero_yes, bits_eq}
use Rattle.joins.proofs.Compare.{same_next, other_next, one_ends, over_front, next_is}
use Rattle.joins.proofs.same_words.Goals as goal

pub returns-then-a-met : goal.returns-then-a-met
returns-then-a-met c =
    record {
      is = λ gs h ok. sym (one_ends
          (c.next_word-a.ensures.none c.if-a-met.true gs h ok)
          (over_front c.args.over _ (nonzero_yes c.args.over c.if-over-eq0.false))).0;
    }

pub returns-then-word_of-over : goal.returns-then-word_of-over
returns-then-word_of-over c =
    record {
      is = λ gs h ok. sym (other_next
          (next_is c.next_word-a.ensures gs h ok c.if-a-met.false c.word_of.ensures refl)
          (over_front c.args.over _ (nonzero_yes c.args.over c.if-over-eq0.false))
          (λ e. c.if-word_of-over.true (ap (of_z w32) e)));
    }

pub returns : goal.returns
returns c =
    record {
      is = λ gs h ok. c.same_above-2.ensures.is gs h ok ∙ sym (same_next
          (next_is c.next_word-a.ensures gs h ok c.if-a-met.false c.word_of.ensures c.prev_of.ensures)
          (over_front c.args.over _ (nonzero_yes c.args.over c.if-over-eq0.false))
          (bits_eq c.word_of.result c.args.over (record { sfits = c.word_of.type_inv }) c.ranges.over c.if-word_of-over.false));
    }
