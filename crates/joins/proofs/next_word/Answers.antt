-- The words from `r` down are the words from the cursor down, since no record that was passed has one.
use Prim.Native.Nat.{◌-◌}
use mathlib.Core.Path.{◌∙◌}
use Rattle.model.specs.Ints.{nonzero_yes, nonzero_no}
use Rattle.joins.proofs.Steps.{words_at, words_none}
use native.Mathlib.Omega.{arith}
use Rattle.joins.proofs.next_word.Goals as goal

pub returns-then-word_of-ne0 : goal.returns-then-word_of-ne0
returns-then-word_of-ne0 c =
    let w = c.word_of in
    record {
      low = c.loop-q.invariant.0;
      none = λ a. absurd (omega arith);
      some = λ a gs h ok. c.loop-q.invariant.1 gs h ok ∙ words_at ok (c.loop-q.q - 1) c.args.met (omega arith) (omega arith) (omega arith)
          ∙ simp (← w.ensures, nonzero_yes w.result c.if-word_of-ne0.true);
    }

pub loop-q-preserved : goal.loop-q-preserved
loop-q-preserved c =
    let w = c.word_of in
    let d = c.requires.0.prev_low (c.loop-q.q - 1) (omega arith) in (
      omega (arith, c.prev_of-q.ensures),
      λ gs h ok. c.loop-q.invariant.1 gs h ok ∙ words_at ok (c.loop-q.q - 1) c.args.met (omega arith) (omega arith) (omega arith)
          ∙ simp (← w.ensures, ← c.prev_of-q.ensures, nonzero_no w.result (record { sfits = w.type_inv }) c.if-word_of-ne0.false),
    )

pub returns : goal.returns
returns c =
    record {
      low = c.loop-q.invariant.0;
      none = λ a gs h ok. c.loop-q.invariant.1 gs h ok ∙ words_none _ c.args.used h ok c.args.met c.loop-q.q (omega arith) a;
      some = λ a. absurd (omega arith);
    }
