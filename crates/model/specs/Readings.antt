-- The Rust's `readings`: the groups, and beside them the readings that merges kept.
use Rattle.std.specs.Prelude.{ℕ, zero, suc, ◌-◌, Bool, true, false, not, ◌&&◌, ◌||◌, cond, ℤ, ltb, eqb, length, take, Float}
use Rattle.std.proofs.Math.Option.{none, some}
use mathlib.Core.List.{List, [], ◌∷◌, ◌++◌, map, tail}
use Rattle.std.specs.Float.Ieee.{eq}
use Rattle.lists.specs.Lists.{keep_if, sort_by, firsts, sum}
use Rattle.model.specs.Basics.{◌≺◌, ◌≼◌, ◌⊕◌, ◌⊖◌, ◌⊗◌, 0f, 1f, ∞, eqℤ, ltℤ, nonzero}
use Rattle.model.specs.Graph.{Graph}
use Rattle.model.specs.Path.{Path, empty_path, arc_onto, branch_on, word, with_word, same_words}
use Rattle.model.specs.Passes.{State}
use Rattle.model.specs.Reads.{graph_scale, Ranked, use_finals, sooner, ranked, trace, Group, grouped}
use Rattle.model.specs.Hash.{hash_word}

-- ---- the lists below joins: the Rust's `Below`, `Way`, `fill_below`

-- A path from somewhere down to the start: its words as a hash and a count, what it costs over the path it leaves, and the branches whose kept path it takes.
pub record Below : Type 0 where
  pub hash : ℕ
  pub len : ℕ
  pub cost : Float
  pub graph : Float
  pub route : List ℕ

-- the Rust's `START`
abbrev pub at_start : Below
at_start = record { hash = 0; len = 0; cost = 0f; graph = 0f; route = [] }

unfoldable pub on_top : ℤ → Below → Below
on_top w b = cond (nonzero w) (record { hash = hash_word w b.hash; len = suc b.len; cost = b.cost; graph = b.graph; route = b.route }) b

-- down a way that costs so much, by these kept paths
unfoldable pub by_way : (cost graph : Float) → (via : List ℕ) → Below → Below
by_way c gr via b = record { hash = b.hash; len = b.len; cost = c ⊕ b.cost; graph = gr ⊕ b.graph; route = via ++ b.route }

-- word lists count as equal here where hash and length agree
abbrev pub same_key : Below → Below → Bool
same_key a b = eqb a.hash b.hash && eqb a.len b.len

-- the `cap` cheapest, one for each word list; on a tie the join's own path, which stands first
unfoldable pub cheapest : (cap : ℕ) → List Below → List Below
cheapest cap bs = take cap (firsts same_key [] (sort_by (λ (a b : Below). a.cost ≺ b.cost) bs))

-- What `fill_below` puts down for a join, its own path first; from any other place, the same with the words above the join on top. The margin is today's.
unfoldable pub below : (margin : Float) → (cap : ℕ) → Path → List Below
below margin cap empty_path = at_start ∷ []
below margin cap (arc_onto s p) = map (on_top (word s)) (below margin cap p)
below margin cap (branch_on m k p) =
    let own = map (by_way 0f 0f []) (below margin cap p) in
    let kept = cond (m.cost ≼ margin) (map (by_way m.cost m.graph (m.number ∷ [])) (below margin cap k)) [] in
    cheapest cap (keep_if (λ (b : Below). not (margin ≺ b.cost)) (own ++ kept))

-- the joins that this visits, each with the length of its list
unfoldable pub visited : (margin : Float) → (cap : ℕ) → Path → List (ℕ × ℕ)
visited margin cap empty_path = []
visited margin cap (arc_onto s p) = visited margin cap p
visited margin cap (branch_on m k p) =
    (m.number, length (below margin cap (branch_on m k p))) ∷ (visited margin cap p ++ cond (m.cost ≼ margin) (visited margin cap k) [])

-- ---- the Rust's `heads`: tokens by the first join on their path and the words above it (`down_to_join`); of each only the best

-- 0 where the path has no join; a branch's number is never 0
abbrev pub join_number : Path → ℕ
join_number empty_path = 0
join_number (arc_onto s p) = join_number p
join_number (branch_on m k p) = m.number

abbrev pub words_to_join : Path → List ℤ
words_to_join empty_path = []
words_to_join (arc_onto s p) = with_word (word s) (words_to_join p)
words_to_join (branch_on m k p) = []

abbrev pub same_head : Ranked → Ranked → Bool
same_head a b = eqb (join_number a.token.path) (join_number b.token.path) && same_words (words_to_join a.token.path) (words_to_join b.token.path)

-- the heads that are expanded, best first: those with a join, and where finals do not count only those that rank below the bound
unfoldable pub heads : (finals : Bool) → (bound : Float) → List Ranked → List Ranked
heads finals bound rs = keep_if (λ (r : Ranked). ltb 0 (join_number r.token.path) && (finals || not (bound ≼ r.rank))) (firsts same_head [] rs)

-- ---- kept readings

pub record Kept : Type 0 where
  pub key : Below
  pub ranked : Ranked

unfoldable pub kept_of : (finals : Bool) → Ranked → Below → Kept
kept_of finals r b = record { key = b; ranked = record { rank = r.rank ⊕ b.cost ⊖ cond finals ((1f ⊖ graph_scale) ⊗ b.graph) 0f; cost = r.cost ⊕ b.cost; token = r.token } }

-- a list's first is the token's own path, which is no kept reading
abbrev pub kept_below : (finals : Bool) → (margin : Float) → (cap : ℕ) → List Ranked → List Kept
kept_below finals margin cap [] = []
kept_below finals margin cap (r ∷ rs) = map (kept_of finals r) (tail (below margin cap r.token.path)) ++ kept_below finals margin cap rs

-- the Rust's `kept` map: of each hash and length the best that ranks below the bound
unfoldable pub kept_map : (finals : Bool) → (margin bound : Float) → (cap : ℕ) → List Ranked → List Kept
kept_map finals margin bound cap hs =
    firsts (λ (a b : Kept). same_key a.key b.key) []
    (sort_by (λ (a b : Kept). sooner a.ranked b.ranked) (keep_if (λ (k : Kept). not (bound ≼ k.ranked.rank)) (kept_below finals margin cap hs)))

-- with the words along its route (`route_words`)
abbrev pub kept_group : Kept → Group
kept_group k = let t = k.ranked.token in record { words = (trace 0 k.key.route t.path 0f).words; rank = k.ranked.rank; cost = k.ranked.cost; token = t; route = k.key.route }

-- ---- the list

-- the order of Rust's slices
abbrev pub words_lt : List ℤ → List ℤ → Bool
words_lt [] [] = false
words_lt [] (b ∷ bs) = true
words_lt (a ∷ as') [] = false
words_lt (a ∷ as') (b ∷ bs) = ltℤ a b || (eqℤ a b && words_lt as' bs)

abbrev pub is_own : Group → Bool
is_own g = eqb (length g.route) 0

-- the Rust's `read_order`, strictly: rank, a survivor before a kept one, the larger seq, the words
unfoldable pub read_order : Group → Group → Bool
read_order a b =
    a.rank ≺ b.rank ||
    (eq a.rank b.rank &&
    ((is_own a && not (is_own b)) ||
    (not (not (is_own a) && is_own b) && (ltb b.token.seq a.token.seq || (eqb a.token.seq b.token.seq && words_lt a.words b.words)))))

-- the rank of the group at this place, +∞ where there is none
abbrev pub rank_at : ℕ → List Group → Float
rank_at n [] = ∞
rank_at zero (g ∷ gs) = g.rank
rank_at (suc n) (g ∷ gs) = rank_at n gs

-- The survivors' first group stays first; every other reading takes its best copy, kept or surviving.
abbrev pub merged : (own kept : List Group) → List Group
merged [] kept = []
merged (g ∷ gs) kept = g ∷ firsts (λ (a b : Group). same_words a.words b.words) (g ∷ []) (sort_by read_order (gs ++ kept))

-- the readings, and how many entries the Rust holds in its lists below joins and in its kept map
pub record Readings : Type 0 where
  pub groups : List Group
  pub belows : ℕ
  pub kepts : ℕ

abbrev pub visited_all : (margin : Float) → (cap : ℕ) → List Ranked → List (ℕ × ℕ)
visited_all margin cap [] = []
visited_all margin cap (r ∷ rs) = visited margin cap r.token.path ++ visited_all margin cap rs

unfoldable pub expanded : Graph → State → (use_final : Bool) → (listed : ℕ) → (margin : Float) → Readings
expanded g st use_final listed margin =
    let finals = use_finals g st use_final in
    let own = grouped g st use_final in
    let bound = rank_at (listed - 1) own in
    let hs = heads finals bound (ranked g st use_final) in
    let kept = kept_map finals margin bound (suc listed) hs in
    let joins = firsts (λ (a b : ℕ × ℕ). eqb a.0 b.0) [] (visited_all margin (suc listed) hs) in
    record { groups = merged own (map kept_group kept); belows = sum (map (λ (j : ℕ × ℕ). j.1) joins); kepts = length kept }

abbrev pub plain : Graph → State → (use_final : Bool) → Readings
plain g st use_final = record { groups = grouped g st use_final; belows = 0; kepts = 0 }

-- with no margin, or none listed, the groups alone; the list is not cut at `listed`
unfoldable pub readings : Graph → State → (use_final : Bool) → (listed : ℕ) → Readings
readings g st use_final zero = plain g st use_final
readings g st use_final (suc n) = elim st.margin [ none ↦ plain g st use_final | some m ↦ expanded g st use_final (suc n) m ]
