-- What is read from the tokens: best path, groups, alternatives, and the small reads.
use Rattle.std.specs.Prelude.{ℕ, suc, Bool, true, false, not, ◌&&◌, ◌||◌, cond, ℤ, pos, ltb, eqb, length, take, Float}
use Rattle.std.proofs.Math.Option.{Option, none, some}
use mathlib.Core.List.{List, [], ◌∷◌, map, reverse, head?}
use Rattle.std.specs.Float.Ieee.{eq, of_bits}
use Rattle.std.specs.Float.{binary32}
use Rattle.std.specs.Float.Ieee.Scale.{finite}
use Rattle.lists.specs.Lists.{keep_if, sort_by, firsts}
use Rattle.real32.specs.Least.{fmin}
use Rattle.model.specs.Basics.{◌≺◌, ◌⊕◌, ◌⊖◌, ◌⊗◌, 0f, 1f, ∞, eqℤ, nonzero}
use Rattle.model.specs.Graph.{Graph, is_final, final_weight}
use Rattle.model.specs.Path.{Merge, Path, empty_path, arc_onto, branch_on, Token, Table, tokens, word, words_back, memℕ, same_words}
use Rattle.model.specs.Passes.{State}

-- ---- ranks

-- the Rust's `GRAPH_SCALE`: 0.9 as an f32
abbrev pub graph_scale : Float
graph_scale = of_bits binary32 0x3f66_6666

pub record Ranked : Type 0 where
  pub rank : Float
  pub cost : Float
  pub token : Token

-- some state from s on is active and final
abbrev pub any_final : Graph → ℕ → Table → Bool
any_final g s [] = false
any_final g s (none ∷ ts) = any_final g (suc s) ts
any_final g s (some t ∷ ts) = is_final g s || any_final g (suc s) ts

-- Finals count if they are asked for and any active state is final.
abbrev pub use_finals : Graph → State → (use_final : Bool) → Bool
use_finals g st use_final = use_final && any_final g 0 st.table

-- c is the cost and the final weight; the rank is c − (1 − 0.9)·(graph + final weight) where finals count, and c otherwise
unfoldable pub rank_one : (finals : Bool) → (weight : Float) → Token → Ranked
rank_one finals fw t = let c = t.cost ⊕ fw in record { rank = cond finals (c ⊖ (1f ⊖ graph_scale) ⊗ (t.graph ⊕ fw)) c; cost = c; token = t }

-- a token whose c is not finite does not count
unfoldable pub rank_from : Graph → (finals : Bool) → ℕ → Table → List Ranked
rank_from g finals s [] = []
rank_from g finals s (none ∷ ts) = rank_from g finals (suc s) ts
rank_from g finals s (some t ∷ ts) =
    let r = rank_one finals (cond finals (final_weight g s) 0f) t in
    let rest = rank_from g finals (suc s) ts in
    cond (finite r.cost) (r ∷ rest) rest

-- Lower rank first; of equal ranks the larger seq. No two active tokens have one seq, so the order is total.
abbrev pub sooner : Ranked → Ranked → Bool
sooner a b = a.rank ≺ b.rank || (eq a.rank b.rank && ltb b.token.seq a.token.seq)

-- the active tokens that count, best first
unfoldable pub ranked : Graph → State → (use_final : Bool) → List Ranked
ranked g st use_final = sort_by sooner (rank_from g (use_finals g st use_final) 0 st.table)

-- the Rust's `best_token`
abbrev pub best_token : Graph → State → (use_final : Bool) → Option Ranked
best_token g st use_final = head? (ranked g st use_final)

-- ---- traces

-- the Rust's `PhoneSegment`
pub record Segment : Type 0 where
  pub phone : ℤ
  pub start : ℕ
  pub end : ℕ

-- the Rust's `Path`, which a trace gives
pub record Traced : Type 0 where
  pub words : List ℤ
  pub word_frames : List ℕ
  pub phones : List Segment
  pub cost : Float

-- what a trace reads of a record
pub record Rec : Type 0 where
  pub frame : ℕ
  pub word : ℤ
  pub phone : ℤ

-- the first of the records, oldest first, that starts a phone, starts it at this frame
abbrev pub changes_at : ℕ → List Rec → Bool
changes_at n [] = false
changes_at n (r ∷ rs) = cond (nonzero r.phone) (eqb r.frame n) (changes_at n rs)

-- From the frame after the merge a kept history is in the winner's phone, which records no change there when it stays in its own. n are the frames decoded.
unfoldable pub resume : (n : ℕ) → Merge → List Rec → List Rec
resume n m rs = cond (not (eqℤ m.kept_phone m.phone) && ltb (suc m.frame) n && not (changes_at (suc m.frame) rs)) (record { frame = suc m.frame; word = pos 0; phone = m.phone } ∷ rs) rs

-- A path's records in front of later ones, oldest first. At a branch whose number is on the route it goes down the kept path.
unfoldable pub recs_on : (route : List ℕ) → (n : ℕ) → Path → List Rec → List Rec
recs_on route n empty_path rs = rs
recs_on route n (arc_onto s p) rs = recs_on route n p (record { frame = s.frame; word = word s; phone = s.starts } ∷ rs)
recs_on route n (branch_on m k p) rs = elim (memℕ m.number route) [ true ↦ recs_on route n k (resume n m rs) | false ↦ recs_on route n p rs ]

abbrev pub word_recs : List Rec → List Rec
word_recs = keep_if (λ (r : Rec). nonzero r.word)

-- the records that start a phone; a kept path and the winner's that it meets may be in one phone
abbrev pub phone_recs : ℤ → List Rec → List Rec
phone_recs ph [] = []
phone_recs ph (r ∷ rs) = elim (nonzero r.phone && not (eqℤ r.phone ph)) [ true ↦ r ∷ phone_recs r.phone rs | false ↦ phone_recs ph rs ]

-- each segment ends where the next begins, the last with the frames decoded
abbrev pub segments : (n : ℕ) → List Rec → List Segment
segments n [] = []
segments n (r ∷ []) = record { phone = r.phone; start = r.frame; end = n } ∷ []
segments n (r ∷ (q ∷ rs)) = record { phone = r.phone; start = r.frame; end = q.frame } ∷ segments n (q ∷ rs)

-- The Rust's `trace_route`, and its `trace`: that is the empty route's, since on a token's own path no phone starts twice in a row.
unfoldable pub trace : (n : ℕ) → (route : List ℕ) → Path → (cost : Float) → Traced
trace n route p cost =
    let rs = recs_on route n p [] in
    record { words = map (λ (r : Rec). r.word) (word_recs rs); word_frames = map (λ (r : Rec). r.frame) (word_recs rs); phones = segments n (phone_recs (pos 0) rs); cost = cost }

-- the Rust's `best_path`; no tokens give no path, which is a result
unfoldable pub best_path : Graph → State → (use_final : Bool) → Option Traced
best_path g st use_final = elim (best_token g st use_final) [ none ↦ none | some r ↦ some (trace st.frames [] r.token.path r.cost) ]

-- ---- groups

-- the Rust's `Group`; its route by the numbers of the branches whose kept path it takes
pub record Group : Type 0 where
  pub words : List ℤ
  pub rank : Float
  pub cost : Float
  pub token : Token
  pub route : List ℕ

abbrev pub own_group : Ranked → Group
own_group r = record { words = reverse (words_back r.token.path); rank = r.rank; cost = r.cost; token = r.token; route = [] }

-- The Rust's `grouped`: of each word list the best token, best first. The Rust takes the best of each word list and then sorts; the order is total, so it is the same.
unfoldable pub grouped : Graph → State → (use_final : Bool) → List Group
grouped g st use_final = firsts (λ (a b : Group). same_words a.words b.words) [] (map own_group (ranked g st use_final))

-- the Rust's `trace_groups`: the first `max`
abbrev pub trace_groups : State → (max : ℕ) → List Group → List Traced
trace_groups st max gs = map (λ (g : Group). trace st.frames g.route g.token.path g.cost) (take max gs)

-- the Rust's `alternatives`
unfoldable pub alternatives : Graph → State → (use_final : Bool) → (max : ℕ) → List Traced
alternatives g st use_final max = trace_groups st max (grouped g st use_final)

-- ---- the small reads

-- the least cost, and the least with its final weight
abbrev pub least_from : Graph → ℕ → Table → Float × Float → Float × Float
least_from g s [] b = b
least_from g s (none ∷ ts) b = least_from g (suc s) ts b
least_from g s (some t ∷ ts) b = least_from g (suc s) ts (fmin b.0 t.cost, fmin b.1 (t.cost ⊕ final_weight g s))

-- the Rust's `final_relative_cost`
unfoldable pub final_relative_cost : Graph → State → Float
final_relative_cost g st = let b = least_from g 0 st.table (∞, ∞) in cond (not (finite b.0) && not (finite b.1)) ∞ (b.1 ⊖ b.0)

-- the Rust's `num_active`
abbrev pub num_active : State → ℕ
num_active st = length (tokens st.table)
