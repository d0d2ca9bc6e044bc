-- No two readings of a list have the same words, nor two alternatives, nor two of the traces. Assumes nothing.
use Rattle.std.specs.Prelude.{◌≡◌, refl, ℕ, zero, suc, Bool, List, [], ◌∷◌, ◌++◌, map, take, ℤ, Float}
use Rattle.std.proofs.Common.{sym, ◌∙◌, subst}
use Rattle.std.proofs.Math.Option.{Option, none, some}
use mathlib.Core.List.Memᴰ.{head as here}
use mathlib.Core.List.Memᴰ.{tail as there}
use Rattle.lists.specs.Lists.{◌∈◌, sort_by}
use Rattle.lists.specs.Members.{take_from, map_from, map_to}
use Rattle.lists.specs.Firsts.{firsts_are}
use Rattle.lists.specs.Count.{Nodup}
use Rattle.model.specs.Graph.{Graph}
use Rattle.model.specs.Path.{same_words}
use Rattle.model.specs.Passes.{State}
use Rattle.model.specs.Reads.{ranked, trace, Group, own_group, grouped, trace_groups, alternatives}
use Rattle.model.specs.Readings.{read_order, merged, Readings, expanded, plain, readings}
use Rattle.copy_laws.proofs.Labels.{words_alike, words_same}
use Rattle.copy_laws.proofs.Minima.{apart_nodup}
use Rattle.copy_laws.proofs.Routes.{trace_words}
use Rattle.copy_laws.proofs.Listed.{grouped_listed, readings_listed_lem}
use Rattle.copy_laws.specs.Distinct.{group_words, traced_words, WordsRight}

module _ {A : Type 0} (f : A → List ℤ) where
  abbrev pub same_of : A → A → Bool
  same_of a b = same_words (f a) (f b)

  pub take_nodup : (n : ℕ) (xs : List A) → Nodup (map f xs) → Nodup (map f (take n xs))
  take_nodup zero [] p = tt
  take_nodup zero (x ∷ xs) p = tt
  take_nodup (suc n) [] p = tt
  take_nodup (suc n) (x ∷ xs) p = (λ m. let (y, k, e) = map_from f (take n xs) (f x) m in p.0 (subst (λ (w : List ℤ). w ∈ map f xs) (sym e) (map_to f xs y (take_from n xs y k))), take_nodup n xs p.1)

pub grouped_distinct : (g : Graph) (st : State) (f : Bool) → Nodup (group_words (grouped g st f))
unfolding grouped
grouped_distinct g st f = apart_nodup (λ (x : Group). x.words) same_words words_same words_alike (grouped g st f) (firsts_are (same_of (λ (x : Group). x.words)) [] (map own_group (ranked g st f))).apart

merged_distinct : (own kept : List Group) → Nodup (group_words (merged own kept))
merged_distinct [] kept = tt
merged_distinct (x ∷ own) kept =
    let d = firsts_are (same_of (λ (y : Group). y.words)) (x ∷ []) (sort_by read_order (own ++ kept)) in
    apart_nodup (λ (y : Group). y.words) same_words words_same words_alike (merged (x ∷ own) kept) (λ y m. d.unseen y m x (here refl), d.apart)

pub readings_distinct : (g : Graph) (st : State) (f : Bool) (n : ℕ) → Nodup (group_words (readings g st f n).groups)
unfolding readings expanded
readings_distinct g st f zero = grouped_distinct g st f
readings_distinct g st f (suc n) = go st.margin
  where
    go : (o : Option Float) → Nodup (group_words (elim o as (λ y. Readings) [ none ↦ plain g st f | some m ↦ expanded g st f (suc n) m ]).groups)
    go none = grouped_distinct g st f
    go (some m) = merged_distinct (grouped g st f) _

traces_say : (st : State) (xs : List Group) → ((x : Group) → x ∈ xs → WordsRight x) → traced_words (map (λ (x : Group). trace st.frames x.route x.token.path x.cost) xs) ≡ group_words xs
traces_say st [] h = refl
traces_say st (x ∷ xs) h =
    let a : (trace st.frames x.route x.token.path x.cost).words ≡ x.words = trace_words st.frames x.route x.token.path x.cost ∙ sym (h x (here refl)) in
    let b = traces_say st xs (λ y m. h y (there m)) in
    cc

traces_distinct : (st : State) (max : ℕ) (xs : List Group) → ((x : Group) → x ∈ xs → WordsRight x) → Nodup (group_words xs) → Nodup (traced_words (trace_groups st max xs))
traces_distinct st max xs h d = subst Nodup (sym (traces_say st (take max xs) (λ x m. h x (take_from max xs x m)))) (take_nodup (λ (x : Group). x.words) max xs d)

pub alternatives_distinct : (g : Graph) (st : State) (f : Bool) (max : ℕ) → Nodup (traced_words (alternatives g st f max))
unfolding alternatives
alternatives_distinct g st f max = traces_distinct st max (grouped g st f) (λ x m. (grouped_listed g st f x m).words) (grouped_distinct g st f)

pub reading_traces_distinct : (g : Graph) (st : State) (f : Bool) (n max : ℕ) → Nodup (traced_words (trace_groups st max (readings g st f n).groups))
reading_traces_distinct g st f n max = traces_distinct st max (readings g st f n).groups (λ x m. (readings_listed_lem g st f n x m).words) (readings_distinct g st f n)
