-- Every reading that is listed is along a route of an active token's path, to a final state where finals count; and no two have the same words. Assumes nothing.
use Rattle.std.specs.Prelude.{◌≡◌, refl, ℕ, zero, suc, ◌-◌, Bool, not, Float}
use Rattle.std.proofs.Common.{sym, ap, ◌∙◌, subst}
use Rattle.std.proofs.Math.Option.{Option, none, some}
use mathlib.Core.List.Memᴰ
use mathlib.Core.List.Memᴰ.{head as here}
use mathlib.Core.List.Memᴰ.{tail as there}
use mathlib.Core.List.{List, [], ◌∷◌, ◌++◌, map, tail}
use Rattle.lists.specs.Tests.{case}
use Rattle.lists.specs.Lists.{◌∈◌, keep_if, sort_by, firsts}
use Rattle.lists.specs.Members.{keep_from, sort_from, firsts_from, map_from}
use Rattle.model.specs.Basics.{◌≼◌, 0f}
use Rattle.model.specs.Graph.{Graph}
use Rattle.model.specs.Path.{same_words}
use Rattle.model.specs.Passes.{State}
use Rattle.model.specs.Reads.{Ranked, use_finals, sooner, ranked, Group, own_group, grouped}
use Rattle.model.specs.Readings.{Below, below, same_head, same_key, heads, Kept, kept_of, kept_below, kept_map, kept_group, read_order, rank_at, merged, Readings, expanded, plain, readings}
use Rattle.copy_laws.proofs.Routes.{trace_words, own_words_lem}
use Rattle.copy_laws.proofs.Ranks.{ranked_at_lem, ranked_final}
use Rattle.copy_laws.specs.Listed.{Listed, KeptBy}

-- ---- the survivors

own_listed : (g : Graph) (st : State) (f : Bool) (r : Ranked) → r ∈ ranked g st f → Listed g (use_finals g st f) st.table (own_group r)
own_listed g st f r m =
    let a = ranked_at_lem g st f r m in
    record { state = a.state; at = a.at; final = ranked_final g (use_finals g st f) st.table r a; words = own_words_lem r.token.path }

-- each is a ranked token's
pub grouped_own : (g : Graph) (st : State) (f : Bool) (x : Group) → x ∈ grouped g st f → (r : Ranked) × (r ∈ ranked g st f) × (x ≡ own_group r)
unfolding grouped
grouped_own g st f x m = map_from own_group (ranked g st f) x (firsts_from (λ (a b : Group). same_words a.words b.words) [] (map own_group (ranked g st f)) x m)

pub grouped_listed : (g : Graph) (st : State) (f : Bool) (x : Group) → x ∈ grouped g st f → Listed g (use_finals g st f) st.table x
grouped_listed g st f x m = let (r, n, e) = grouped_own g st f x m in subst (Listed g (use_finals g st f) st.table) (sym e) (own_listed g st f r n)

tail_from : {A : Type 0} (xs : List A) (x : A) → x ∈ tail xs → x ∈ xs
tail_from [] x m = m
tail_from (y ∷ xs) x m = there m

kept_below_lem : (finals : Bool) (margin : Float) (cap : ℕ) (rs : List Ranked) (k : Kept) → k ∈ kept_below finals margin cap rs → KeptBy finals margin cap rs k
kept_below_lem finals margin cap [] k m = elim m [ ]
kept_below_lem finals margin cap (r ∷ rs) k m = case (Memᴰ.append_cases (map (kept_of finals r) bs) m) first (λ n. later (kept_below_lem finals margin cap rs k n))
  where
    bs : List Below
    bs = tail (below margin cap r.token.path)

    first : k ∈ map (kept_of finals r) bs → KeptBy finals margin cap (r ∷ rs) k
    first n = let (b, i, e) = map_from (kept_of finals r) bs k n in record { head = r; among = here refl; way = b; behind = i; below = tail_from (below margin cap r.token.path) b i; is = e }

    later : KeptBy finals margin cap rs k → KeptBy finals margin cap (r ∷ rs) k
    later d = record { head = d.head; among = there d.among; way = d.way; behind = d.behind; below = d.below; is = d.is }

-- of the heads among these tokens
pub kept_heads : (finals : Bool) (margin bound : Float) (cap : ℕ) (rs : List Ranked) (k : Kept) → k ∈ keep_if (λ (k : Kept). not (bound ≼ k.ranked.rank)) (kept_below finals margin cap (heads finals bound rs)) → KeptBy finals margin cap rs k
unfolding heads
kept_heads finals margin bound cap rs k m =
    let hs = heads finals bound rs in
    let d = kept_below_lem finals margin cap hs k (keep_from (λ (k : Kept). not (bound ≼ k.ranked.rank)) (kept_below finals margin cap hs) k m) in
    record { head = d.head; among = firsts_from same_head [] rs d.head (keep_from _ (firsts same_head [] rs) d.head d.among); way = d.way; behind = d.behind; below = d.below; is = d.is }

-- of the kept map over these heads
pub kept_by_lem : (g : Graph) (st : State) (f : Bool) (margin bound : Float) (cap : ℕ) (k : Kept) → k ∈ kept_map (use_finals g st f) margin bound cap (heads (use_finals g st f) bound (ranked g st f)) → KeptBy (use_finals g st f) margin cap (ranked g st f) k
unfolding kept_map
kept_by_lem g st f margin bound cap k m = kept_heads (use_finals g st f) margin bound cap (ranked g st f) k (sort_from (λ (a b : Kept). sooner a.ranked b.ranked) _ k (firsts_from (λ (a b : Kept). same_key a.key b.key) [] _ k m))

kept_listed : (g : Graph) (st : State) (f : Bool) (margin bound : Float) (cap : ℕ) (k : Kept) → k ∈ kept_map (use_finals g st f) margin bound cap (heads (use_finals g st f) bound (ranked g st f)) → Listed g (use_finals g st f) st.table (kept_group k)
unfolding kept_of
kept_listed g st f margin bound cap k m =
    let d = kept_by_lem g st f margin bound cap k m in
    let a = ranked_at_lem g st f d.head d.among in
    let tk : k.ranked.token ≡ d.head.token = ap (λ (x : Kept). x.ranked.token) d.is in
    record { state = a.state; at = a.at ∙ ap some (sym tk); final = ranked_final g (use_finals g st f) st.table d.head a; words = trace_words 0 k.key.route k.ranked.token.path 0f }

-- ---- both

merged_each : (P : Group → Type 0) (own kept : List Group) → ((x : Group) → x ∈ own → P x) → ((x : Group) → x ∈ kept → P x) → (x : Group) → x ∈ merged own kept → P x
merged_each P [] kept f k x m = elim m [ ]
merged_each P (y ∷ own) kept f k x (here e) = subst P (sym e) (f y (here refl))
merged_each P (y ∷ own) kept f k x (there m) =
    case (Memᴰ.append_cases own (sort_from read_order (own ++ kept) x (firsts_from (λ (a b : Group). same_words a.words b.words) (y ∷ []) (sort_by read_order (own ++ kept)) x m))) (λ n. f x (there n)) (k x)

-- what holds of the survivors and of every kept reading holds of every reading
pub readings_each : (P : Group → Type 0) (g : Graph) (st : State) (f : Bool) (n : ℕ) → ((x : Group) → x ∈ grouped g st f → P x)
    → ((margin bound : Float) (cap : ℕ) (k : Kept) → st.margin ≡ some margin → k ∈ kept_map (use_finals g st f) margin bound cap (heads (use_finals g st f) bound (ranked g st f)) → P (kept_group k)) → (x : Group) → x ∈ (readings g st f n).groups → P x
unfolding readings expanded
readings_each P g st f zero own kept x m = own x m
readings_each P g st f (suc n) own kept x m = go st.margin refl m
  where
    finals : Bool
    finals = use_finals g st f

    go : (o : Option Float) → st.margin ≡ o → x ∈ (elim o as (λ y. Readings) [ none ↦ plain g st f | some k ↦ expanded g st f (suc n) k ]).groups → P x
    go none e m = own x m
    go (some margin) e m =
        let bound = rank_at (suc n - 1) (grouped g st f) in
        let ks = kept_map finals margin bound (suc (suc n)) (heads finals bound (ranked g st f)) in
        merged_each P (grouped g st f) (map kept_group ks) own (λ y k. let (z, i, q) = map_from kept_group ks y k in subst P (sym q) (kept margin bound (suc (suc n)) z e i)) x m

pub readings_listed_lem : (g : Graph) (st : State) (f : Bool) (n : ℕ) (x : Group) → x ∈ (readings g st f n).groups → Listed g (use_finals g st f) st.table x
readings_listed_lem g st f n = readings_each (Listed g (use_finals g st f) st.table) g st f n (grouped_listed g st f) (λ margin bound cap k e. kept_listed g st f margin bound cap k)
