-- What the longer list has more is passed over, and says the order of the newer parts.
use native.Mathlib.Omega.{arith}
use Rattle.routes.specs.Before.{skipped_alike, skipped_before}
use Rattle.routes.proofs.words_before.Goals as goal

pub skip_words-p-requires : goal.skip_words-p-requires
skip_words-p-requires c = let e = c.saturating_sub.ensures in (c.requires.0, c.requires.1, omega (arith, c.requires.3))

pub skip_words-q-requires : goal.skip_words-q-requires
skip_words-q-requires c = let e = c.saturating_sub-2.ensures in (c.requires.0, c.requires.2, omega (arith, c.requires.4))

pub before_along-requires : goal.before_along-requires
before_along-requires c = let p = c.requires in
    let i = c.skip_words-p.ensures in
    let j = c.skip_words-q.ensures in
    let a = i.low in
    let b = j.low in (p.0, omega (arith, p.1), omega (arith, p.2), skipped_alike p.3 p.4 (rw c.saturating_sub.ensures at i) (rw c.saturating_sub-2.ensures at j))

pub returns : goal.returns
returns c = let p = c.requires in
    skipped_before p.3 p.4 (rw c.saturating_sub.ensures at c.skip_words-p.ensures) (rw c.saturating_sub-2.ensures at c.skip_words-q.ensures) c.before_along.ensures
