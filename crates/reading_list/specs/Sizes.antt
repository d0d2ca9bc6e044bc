-- The size of a path, and of its words alone. Assumes nothing.
use Rattle.std.specs.Prelude.{◌≡◌, refl, Bool, true, false, cond, List, [], ◌∷◌, ℤ, pos, length}
use Rattle.std.proofs.Common.{sym, ◌∙◌, ap}
use Prim.Native.Nat.{ℕ, zero, suc, ◌+◌, ◌*◌, ◌≤◌}
use native.Mathlib.Omega.{arith}
use Rattle.model.specs.Basics.{eqℤ, nonzero}
use Rattle.model.specs.Path.{with_word}
use Rattle.model.specs.Reads.{Segment}
use Rattle.traceback.specs.declared.Step.{Step}
use Rattle.traceback.specs.declared.Size.{Size}
use Rattle.traceback.specs.Trail.{Trail, no_trail, segment, begun, start_of}
use Rattle.traceback.specs.Chain.{step_of, back_at, tell, chain_trail, trail_from, SizeIs}
use Rattle.routes.specs.Back.{back_along}
use Rattle.routes.specs.Words.{back_many}
use Rattle.reading_list.specs.Lines.{SizeFor}

-- ---- a record adds one word and two segments at most

word_few : (w : ℤ) (ws : List ℤ) → length (with_word w ws) ≤ length ws + 1
word_few w ws = go (nonzero w)
  where
    go : (b : Bool) → length (cond b (w ∷ ws) ws) ≤ length ws + 1
    go true = omega arith
    go false = omega arith

begun_few : (n : ℕ) (p : ℤ) (f : ℕ) (ss : List Segment) → length (begun n p f ss) ≤ length ss + 1
begun_few n p f [] = go (nonzero p)
  where
    go : (b : Bool) → length (cond b (segment p f n ∷ []) []) ≤ length {A = Segment} [] + 1
    go true = omega arith
    go false = omega arith
begun_few n p f (s ∷ ss) = go (nonzero p) (eqℤ s.phone p)
  where
    go : (a b : Bool) → length (cond a (cond b (segment p f s.end ∷ ss) (segment p f s.start ∷ (s ∷ ss))) (s ∷ ss)) ≤ length (s ∷ ss) + 1
    go true true = omega arith
    go true false = omega arith
    go false b = omega arith

tell_few : (n : ℕ) (s : Step) (t : Trail) → (length (tell n s t).words ≤ length t.words + 1) × (length (tell n s t).segments ≤ length t.segments + 2)
unfolding tell
tell_few n s t =
    let back = begun n (pos (back_at (start_of n t.segments) s)) s.at t.segments in
    let a = begun_few n (pos (back_at (start_of n t.segments) s)) s.at t.segments in
    let b = begun_few n (pos s.phone) s.frame back in (word_few s.word t.words, omega arith)

module _ (rs : List ℕ) (ls : List ℤ) (route : List ℕ) (n : ℕ) where
  chain_few : (f r : ℕ) (t : Trail) → (length (chain_trail rs ls route n f r t).words ≤ f + length t.words) × (length (chain_trail rs ls route n f r t).segments ≤ f * 2 + length t.segments)
  unfolding chain_trail
  chain_few zero r t = (omega arith, omega arith)
  chain_few (suc f) zero t = (omega arith, omega arith)
  chain_few (suc f) (suc k) t =
      let s = step_of rs ls route n k in
      let (a, b) = tell_few n s t in
      let (c, d) = chain_few f s.next (tell n s t) in (omega arith, omega arith)

  module _ {link used : ℕ} (l : link ≤ used) where
    abbrev trail : Trail
    trail = trail_from rs ls route n link no_trail

    -- any path has a size
    pub size_own : SizeIs trail used (record { words = length trail.words; segments = length trail.segments })
    size_own = let (a, b) = chain_few link link no_trail in record { words = refl; segments = refl; few = (omega arith, omega arith) }

    -- its words alone
    pub size_words : {traced : Bool} {w : ℕ} → traced ≡ false → w ≡ length (back_along rs ls route link) → SizeFor traced trail used (record { words = w; segments = 0 })
    size_words {traced} {w} e m =
        let q : w ≡ length trail.words = m ∙ sym (back_many rs ls route n link) in
        let (a, b) = chain_few link link no_trail in
        record { words = q; segments = ap (λ (c : Bool). length (cond c trail.segments [])) (sym e); few = (omega arith, omega arith) }

  pub size_back : (link : ℕ) {used : ℕ} {traced : Bool} {z : Size} → SizeFor traced (trail_from rs ls route n link no_trail) used z → z.words ≡ length (back_along rs ls route link)
  size_back link i = i.words ∙ back_many rs ls route n link

-- ---- all of it, where it is traced

module _ {t : Trail} {used : ℕ} {traced : Bool} {z : Size} (e : traced ≡ true) where
  pub size_for : SizeIs t used z → SizeFor traced t used z
  size_for i = record { words = i.words; segments = i.segments ∙ ap (λ (c : Bool). length (cond c t.segments [])) (sym e); few = i.few }

  pub size_whole : SizeFor traced t used z → SizeIs t used z
  size_whole i = record { words = i.words; segments = i.segments ∙ ap (λ (c : Bool). length (cond c t.segments [])) e; few = i.few }
