-- The walk from a record back to the oldest, over the lists of the store alone.
use Rattle.std.specs.Prelude.{◌≡◌, ℕ, zero, suc, ◌+◌, ◌*◌, ◌≤◌, ◌<◌, Bool, not, ◌&&◌, ◌||◌, cond, List, ℤ, pos, ltb, eqb, length}
use Rattle.model.specs.Basics.{nonzero}
use Rattle.model.specs.Path.{memℕ}
use Rattle.records.specs.Layout.{prev_at, frame_at, starts_at, kept_at, word_at, kept_word_at, kept_starts_at, kept_phone_at, winner_at}
use Rattle.traceback.specs.declared.Step.{Step}
use Rattle.traceback.specs.declared.Head.{Head}
use Rattle.traceback.specs.declared.Size.{Size}
use Rattle.traceback.specs.Trail.{Trail, begun, start_of, add_to}

-- ---- one record, number k + 1

-- it is a join whose kept history the route takes
abbrev pub takes_kept : List ℕ → List ℤ → (route : List ℕ) → ℕ → Bool
takes_kept rs ls route k = not (nonzero (word_at ls k) || nonzero (pos (starts_at rs k))) && memℕ (suc k) route

unfoldable pub own_step : List ℕ → List ℤ → ℕ → Step
own_step rs ls k = record { next = prev_at rs k; frame = frame_at rs k; word = word_at ls k; phone = starts_at rs k; back = 0; at = 0 }

-- the winner's phone is another, and goes on after this frame of n
abbrev pub goes_on : (kept winner frame n : ℕ) → Bool
goes_on k w f n = not (eqb k w) && ltb (suc f) n

unfoldable pub kept_step : List ℕ → List ℤ → (n : ℕ) → ℕ → Step
kept_step rs ls n k =
    let f = frame_at rs k in
    let b = goes_on (kept_phone_at rs k) (winner_at rs k) f n in
    record { next = kept_at rs k; frame = f; word = kept_word_at ls k; phone = kept_starts_at rs k; back = cond b (winner_at rs k) 0; at = cond b (suc f) 0 }

unfoldable pub step_of : List ℕ → List ℤ → (route : List ℕ) → (n : ℕ) → ℕ → Step
step_of rs ls route n k = cond (takes_kept rs ls route k) (kept_step rs ls n k) (own_step rs ls k)

-- ---- what it adds

-- the phone that goes on where a kept history is left, unless one starts there
abbrev pub back_at : (start : ℕ) → Step → ℕ
back_at start s = cond (eqb start s.at) 0 s.back

unfoldable pub tell : (n : ℕ) → Step → Trail → Trail
tell n s t = add_to n s.frame s.word (pos s.phone) (record { words = t.words; frames = t.frames; segments = begun n (pos (back_at (start_of n t.segments) s)) s.at t.segments })

unfoldable pub chain_trail : List ℕ → List ℤ → (route : List ℕ) → (n fuel r : ℕ) → Trail → Trail
chain_trail rs ls route n zero r t = t
chain_trail rs ls route n (suc f) zero t = t
chain_trail rs ls route n (suc f) (suc k) t = let s = step_of rs ls route n k in chain_trail rs ls route n f s.next (tell n s t)

-- from record r back to the oldest: numbers fall
abbrev pub trail_from : List ℕ → List ℤ → (route : List ℕ) → (n r : ℕ) → Trail → Trail
trail_from rs ls route n r t = chain_trail rs ls route n r r t

-- ---- the code's registers

unfoldable pub head_on : Head → (phone frame : ℕ) → Head
head_on k p f =
    cond (eqb p 0) k
    (cond (eqb k.phone p) (record { count = k.count; phone = p; start = f; end = k.end }) (record { count = k.count + 1; phone = p; start = f; end = k.start }))

abbrev pub back_in : Head → Step → ℕ
back_in k s = back_at k.start s

-- what a walk asks of the first n records
pub record Walkable (rs : List ℕ) (ls : List ℤ) (n : ℕ) : Type 0 where
  pub records : n * 8 ≤ length rs
  pub labels : n * 2 ≤ length ls
  pub few : n ≤ 1_048_576
  pub prev_low : (k : ℕ) → k < n → prev_at rs k ≤ k
  pub kept_low : (k : ℕ) → k < n → kept_at rs k ≤ k

pub record SizeIs (t : Trail) (used : ℕ) (r : Size) : Type 0 where
  pub words : r.words ≡ length t.words
  pub segments : r.segments ≡ length t.segments
  pub few : (r.words ≤ used) × (r.segments ≤ used * 2)
