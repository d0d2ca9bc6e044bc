-- Records that have no word and are no join are passed over on every route. Assumes nothing.
use Rattle.std.specs.Prelude.{◌≡◌, refl, ℕ, suc, ◌+◌, ◌*◌, ◌≤◌, ◌<◌, Bool, true, false, ◌&&◌, List, ℤ, length}
use Rattle.std.proofs.Common.{sym, ◌∙◌, arith}
use Rattle.std.proofs.Math.Path.{ap}
use Rattle.lists.specs.Tests.{or_neither}
use Rattle.model.specs.Basics.{nonzero}
use Rattle.model.specs.Path.{memℕ}
use Rattle.records.specs.Layout.{prev_at, word_at}
use Rattle.histories.specs.Reading.{is_join_at}
use Rattle.summaries.specs.Summed.{skip_at, tells_at, Quiet, here, down, Skips}
use Rattle.traceback.specs.Chain.{own_step, step_of, Walkable}
use Rattle.traceback.specs.Walk.{step_own}
use Rattle.routes.specs.declared.Word.{Word}
use Rattle.routes.specs.Back.{back_along, NextOn, ended, a_word}
use Rattle.routes.specs.Words.{back_quiet, at_end, at_word}

module _ {rs : List ℕ} {ls : List ℤ} {used : ℕ} (w : Walkable rs ls used) (route : List ℕ) where
  quiet_next : (k : ℕ) → k < used → tells_at rs ls k ≡ false → back_along rs ls route (suc k) ≡ back_along rs ls route (prev_at rs k)
  unfolding own_step
  quiet_next k l e =
      let (wordless, joinless) = or_neither (nonzero (word_at ls k)) (is_join_at rs ls k) e in
      back_quiet route w (suc k) (own_step rs ls k) (λ z. omega arith) l (step_own rs ls route k 0 (ap (λ (b : Bool). b && memℕ (suc k) route) joinless) ∙ ap (step_of rs ls route 0) (omega arith)) wordless

  quiet_back : {r q : ℕ} → Quiet rs ls r q → r ≤ used → back_along rs ls route r ≡ back_along rs ls route q
  quiet_back (here r) l = refl
  quiet_back (down k q e t) l = quiet_next k l e ∙ quiet_back t (let z = w.prev_low k l in omega arith)

-- the record that is skipped to
module _ {rs : List ℕ} {ls : List ℤ} {used : ℕ} {cs : List ℕ} (skips : Skips rs ls used used cs) {r : ℕ} (l : r ≤ used) where
  pub skip_room : r * 2 ≤ length cs
  skip_room = let z = skips.room in omega arith

  module _ {q : ℕ} (e : q ≡ skip_at cs r) where
    pub skip_low : q ≤ used
    skip_low = let z = (skips.skips r l).low in omega arith

    -- the next word from it on is the next from r on
    pub skip_next : Walkable rs ls used → {route : List ℕ} {x : Word} → NextOn rs ls route q x → NextOn rs ls route r x
    skip_next w {route} {x} n = go n
      where
        same : back_along rs ls route r ≡ back_along rs ls route q
        same = quiet_back w route (skips.skips r l).quiet l ∙ ap (back_along rs ls route) (sym e)

        go : NextOn rs ls route q x → NextOn rs ls route r x
        go (ended a b) = ended a (same ∙ b)
        go (a_word a h b) = a_word a (let z = (skips.skips r l).low in omega arith) (same ∙ b)

-- ---- counted one by one

-- n of them are passed, and those from record r down are left
pub record Counted (rs : List ℕ) (ls : List ℤ) (route : List ℕ) (link r n : ℕ) : Type 0 where
  pub low : n + r ≤ link
  pub many : n + length (back_along rs ls route r) ≡ length (back_along rs ls route link)

module _ {rs : List ℕ} {ls : List ℤ} {route : List ℕ} {link : ℕ} where
  pub counted_none : Counted rs ls route link link 0
  counted_none = record { low = omega arith; many = omega arith }

  module _ {r n : ℕ} {x : Word} (i : Counted rs ls route link r n) (m : NextOn rs ls route r x) where
    pub counted_next : nonzero x.word ≡ true → Counted rs ls route link x.next (n + 1)
    counted_next y =
        let p = at_word m y in
        record { low = let a = p.low in let b = i.low in omega arith; many = let a = ap length p.is in let b = i.many in omega arith }

    pub counted_end : nonzero x.word ≡ false → n ≡ length (back_along rs ls route link)
    counted_end y = let a = ap length (at_end m y) in let b = i.many in omega arith
