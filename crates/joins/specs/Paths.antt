-- A path and its history agree on what is worth keeping. Assumes nothing.
use Rattle.std.specs.Prelude.{◌≡◌, ℕ, ◌≤◌, true, false, not, ◌&&◌, List, pos, Float}
use Rattle.std.proofs.Math.Path.{refl}
use Rattle.std.proofs.Common.{ap, ◌∙◌, arith}
use borrow.Author.Tests.{not-true}
use Rattle.lists.specs.Tests.{case, either, or_neither, and_both}
use Rattle.model.specs.Basics.{nonzero}
use Rattle.model.specs.Path.{Step, Path, empty_path, arc_onto, branch_on, is_link, word, links, words_back, memℕ, above, kept_within, worth_keeping}
use Rattle.records.specs.History.{History, tag, history_of, plain, history_link, history_quiet}
use Rattle.records.specs.Layout.{Store}
use Rattle.records.specs.Stands.{Stands, tag_upto}
use Rattle.joins.specs.Worth.{numbers, words_of, kept_within_of, above_of, among, apart_from, worth}
use Rattle.joins.specs.Fresh.{skip, absent}

-- an arc of a plain path
module _ (s : Step) (p : Path) (e : plain (arc_onto s p) ≡ true) where
  pub own_arc : s.beside ≡ false
  unfolding plain
  own_arc = not-true s.beside (and_both (not s.beside) (plain p) e).0

  pub plain_rest : plain p ≡ true
  unfolding plain
  plain_rest = (and_both (not s.beside) (plain p) e).1

pub links_are : (p : Path) → plain p ≡ true → links p ≡ numbers (history_of p)
unfolding links numbers history_of plain
links_are empty_path e = refl
links_are (arc_onto s p) e =
    let b = own_arc s p e in
    let g = links_are p (plain_rest s p e) in
    case (either (is_link s)) (λ l. rw (history_link s p l b, l, g)) (λ l. rw (history_quiet s p l, l, g))
links_are (branch_on m k p) e = rw (links_are p e)

-- ---- the part above the first of some numbers

module _ (ns : List ℕ) where
  above_plain : (p : Path) → plain p ≡ true → plain (above ns p) ≡ true
  unfolding above plain
  above_plain empty_path e = refl
  above_plain (arc_onto s p) e =
      let b = own_arc s p e in
      let g = above_plain p (plain_rest s p e) in
      case (either (is_link s && memℕ s.number ns)) (λ q. rw q) (λ q. rw (q, b, g))
  above_plain (branch_on m k p) e = case (either (memℕ m.number ns)) (λ q. rw q) (λ q. rw q (above_plain p e))

  above_is : (p : Path) → plain p ≡ true → history_of (above ns p) ≡ above_of (among ns) (history_of p)
  unfolding above above_of among history_of plain
  above_is empty_path e = refl
  above_is (arc_onto s p) e =
      let b = own_arc s p e in
      let g = above_is p (plain_rest s p e) in
      case (either (is_link s))
      (λ l. case (either (memℕ s.number ns)) (λ q. rw (history_link s p l b, l, q)) (λ q. rw (history_link s p l b, l, q, history_link s (above ns p) l b, g)))
      (λ l. rw (history_quiet s p l, l, history_quiet s (above ns p) l, g))
  above_is (branch_on m k p) e = case (either (memℕ m.number ns)) (λ q. rw q) (λ q. rw (q, above_is p e))

-- ---- words and kept histories

pub words_are : (p : Path) → plain p ≡ true → words_back p ≡ words_of (history_of p)
unfolding words_back words_of history_of plain
words_are empty_path e = refl
words_are (arc_onto s p) e =
    let b = own_arc s p e in
    let g = words_are p (plain_rest s p e) in
    case (either (is_link s)) (λ l. rw (history_link s p l b, g)) (λ l. rw (history_quiet s p l, (or_neither (nonzero (word s)) (nonzero s.starts) l).0, g))
words_are (branch_on m k p) e = words_are p e

kept_are : (slack : Float) (p : Path) → plain p ≡ true → kept_within slack p ≡ kept_within_of slack (history_of p)
unfolding kept_within kept_within_of history_of plain
kept_are slack empty_path e = refl
kept_are slack (arc_onto s p) e =
    let b = own_arc s p e in
    let g = kept_are slack p (plain_rest s p e) in
    case (either (is_link s)) (λ l. rw (history_link s p l b, g)) (λ l. rw (history_quiet s p l, g))
kept_are slack (branch_on m k p) e = rw (kept_are slack p e)

module _ (ns : List ℕ) (p : Path) (e : plain p ≡ true) where
  words_above : words_back (above ns p) ≡ words_of (above_of (among ns) (history_of p))
  words_above = words_are (above ns p) (above_plain ns p e) ∙ ap words_of (above_is ns p e)

  kept_above : (slack : Float) → kept_within slack (above ns p) ≡ kept_within_of slack (above_of (among ns) (history_of p))
  kept_above slack = kept_are slack (above ns p) (above_plain ns p e) ∙ ap (kept_within_of slack) (above_is ns p e)

-- ---- what is worth keeping

module _ (won lost : Path) (slack : Float) (a : plain won ≡ true) (b : plain lost ≡ true) where
  -- a loser that was the state's token
  pub worth_plain : worth_keeping won lost slack ≡ worth (history_of won) (history_of lost) (pos 0) slack
  unfolding worth_keeping worth
  worth_plain = rw (words_above (links lost) won a, words_above (links won) lost b, kept_above (links won) lost b slack, links_are won a, links_are lost b)

  module _ (s : Step) (d : memℕ s.number (links won) ≡ false) where
    -- the winner's part is the same with a fresh arc on the loser
    won_part : words_back (above (links (arc_onto s lost)) won) ≡ words_of (apart_from (history_of lost) (history_of won))
    unfolding links among
    won_part =
        let e = links_are lost b in
        words_above (links (arc_onto s lost)) won a ∙ case (either (is_link s))
        (λ l. rw (l, e) (ap words_of (skip s.number (numbers (history_of lost)) (history_of won) (rw (links_are won a) at d))))
        (λ l. rw (l, e))

    lost_part : above (links won) (arc_onto s lost) ≡ arc_onto s (above (links won) lost)
    unfolding above
    lost_part = case (either (is_link s)) (λ l. rw (l, d)) (λ l. rw l)

    -- an arrival that lost, its last arc held beside the join
    pub worth_beside : worth_keeping won (arc_onto s lost) slack ≡ worth (history_of won) (history_of lost) (word s) slack
    unfolding worth_keeping worth words_back kept_within
    worth_beside = rw (won_part, lost_part, words_above (links won) lost b, kept_above (links won) lost b slack, links_are won a)

-- a number not yet given out is on no token's path
pub fresh_apart : (s : Store) (n : ℕ) (h : ℕ → History) → Stands s n h → (k : ℕ) (p : Path) → k ≤ n → h k ≡ history_of p → plain p ≡ true → (m : ℕ) → tag (h n) ≤ m
    → memℕ m (links p) ≡ false
unfolding among
fresh_apart s n h ok k p l e a m f = rw (links_are p a, ← e) (absent s n h ok k m l (omega (arith, tag_upto s n h ok k l)))
