-- What an arrival of the nonemitting pass spends: a push is paid for by a cost that falls in rank, or by the one requeue of a join. Assumes nothing.
use Rattle.std.specs.Prelude.{◌≡◌, ℕ, zero, suc, ◌+◌, ◌*◌, ◌^◌, ◌<◌, ◌≤◌, Bool, ◌&&◌, ◌||◌, cond, List, [], ◌∷◌, length, get_or, set, T, eqb, Float}
use Rattle.std.proofs.Math.Path.{refl, ap}
use Rattle.std.proofs.Common.{sym, ◌∙◌, subst, suc-mul, eqb→eq}
use native.Mathlib.Omega.{arith}
use Rattle.std.proofs.Math.Bool.{true, false, not}
use Rattle.std.proofs.Math.Option.{Option, none, some}
use Rattle.std.proofs.Math.Dec.{eqb_refl}
use Rattle.std.specs.Float.Ieee.{binary32, fits}
use Rattle.std.proofs.lemmas.Bool.{not-true}
use Rattle.lists.specs.Tests.{holds, is_true, never, and_both}
use Rattle.real32.specs.Rank.{rank}
use Rattle.real32.proofs.Rank.{rank_lt, rank_32}
use Rattle.real32.specs.Small.{tame}
use Rattle.model.specs.Basics.{◌≺◌, ◌≼◌, ◌⊖◌, over, check}
use Rattle.model.specs.Graph.{Arc, has_eps}
use Rattle.model.specs.Path.{Path, Token, Table, memℕ}
use Rattle.model.specs.Arrive.{nonemitting, total, lower, Here, Work, Meets, past_cutoff, vacant, better, not_better, against, meets, arriving, joined, keeps, keep, path_in_hand, check_winner, Change, arc_cut, token_stays, token_wins, token_joins, or_else, joins_or_stays, fills, beats, loses, settle, passed, put, push, finish, place_of, arrive}
use Rattle.model.specs.Accepted.{Ok}
use Rattle.model.proofs.Accepted.{then, after, branches}
use Rattle.copy_laws.specs.Spending.{value, worth, Fits, spare, left}

worth-set : (ts : Table) (s : ℕ) (t : Token) → s < length ts → worth (set ts s (some t)) + (value (get_or ts s none) + value (get_or ts s none)) ≡ worth ts + (value (some t) + value (some t))
worth-set [] s t h = absurd (omega arith)
worth-set (o ∷ ts) zero t h = omega arith
worth-set (o ∷ ts) (suc s) t h = let z = worth-set ts s t (omega arith) in omega arith

pub worth_le : (ts : Table) → Fits ts → worth ts ≤ length ts * 2 ^ 33
worth_le [] f = omega arith
worth_le (none ∷ ts) f = let z = worth_le ts (λ s. f (suc s)) in rw suc-mul (omega arith)
worth_le (some t ∷ ts) f = let z = worth_le ts (λ s. f (suc s)) in let y = rank_32 t.cost (f 0 t refl) in rw suc-mul (omega arith)

pub spare_nil : (n : ℕ) → spare n [] ≡ n
spare_nil zero = refl
spare_nil (suc n) = let z = spare_nil n in omega arith

spare_one : (b c : Bool) → cond (b || c) 0 1 ≤ cond c 0 1
spare_one true true = omega arith
spare_one true false = omega arith
spare_one false c = omega arith

spare_le : (n s : ℕ) (re : List ℕ) → spare n (s ∷ re) ≤ spare n re
spare_le zero s re = omega arith
spare_le (suc n) s re = let y = spare_one (eqb n s) (memℕ n re) in let z = spare_le n s re in omega arith

spare_less : (n s : ℕ) (re : List ℕ) → s < n → memℕ s re ≡ false → suc (spare n (s ∷ re)) ≤ spare n re
spare_less zero s re h e = absurd (omega arith)
spare_less (suc n) s re h e = go (eqb n s) refl (λ k. spare_less n s re k e)
  where
    go : (b : Bool) → eqb n s ≡ b → (s < n → suc (spare n (s ∷ re)) ≤ spare n re) → suc (cond (eqb n s || memℕ n re) 0 1 + spare n (s ∷ re)) ≤ cond (memℕ n re) 0 1 + spare n re
    go true q k =
        let i : n ≡ s = eqb→eq n s (holds q) in
        let f : memℕ n re ≡ false = subst (λ (k : ℕ). memℕ k re ≡ false) (sym i) e in
        let z = spare_le n s re in
        rw (q, f) (omega arith)
    go false q k =
        let d : n ≡ s → ⊥ = λ i. never (sym q ∙ subst (λ (x : ℕ). eqb n x ≡ true) i (is_true (eqb_refl n))) in
        let z = k (omega arith) in
        let y = spare_one (eqb n s) (memℕ n re) in
        omega arith

module _ (h : Here) (n : ℕ) (t : Token) (a : Arc) (w : Work) (inside : a.target < n) (long : length w.table ≡ n) where
  abbrev tot : Float
  tot = total h.graph nonemitting t a

  abbrev Spends : Work → Type 0
  Spends v = left n v ≤ left n w

  push_spends : (s : ℕ) (re : List ℕ) (v : Work) → suc (worth v.table + length v.queue + (spare n re + spare n re)) ≤ left n w → Ok Spends (push h s re v)
  unfolding push
  push_spends s re v z = branches Spends (over (suc (length v.queue)) h.limits.queue) _ _ (λ c. tt) (λ c. omega arith)

  -- what becomes of the target: a winner ranks lower than what was there, and a token with a loser joined to it no higher
  abbrev Lighter : Change → Type 0
  Lighter arc_cut = Unit {0}
  Lighter token_stays = Unit {0}
  Lighter (token_wins u q) = value (some u) < value (place_of w a)
  Lighter (token_joins u) = value (some u) ≤ value (place_of w a)

  finish_spends : (c : Change) → Lighter c → Ok Spends (finish h nonemitting a.target tot w c)
  unfolding finish passed put lower
  finish_spends arc_cut l = omega arith
  finish_spends token_stays l = omega arith
  finish_spends (token_wins u q) l = let z = worth-set w.table a.target u (omega arith) in push_spends a.target w.requeued (put a.target u q (passed nonemitting tot w)) (omega arith)
  finish_spends (token_joins u) l =
      let v = put a.target u w.seq (passed nonemitting tot w) in
      let z = worth-set w.table a.target u (omega arith) in
      branches Spends (has_eps h.graph a.target && not (memℕ a.target w.requeued)) _ _
      (λ c. push_spends a.target (a.target ∷ w.requeued) v (let y = spare_less n a.target w.requeued inside (not-true (memℕ a.target w.requeued) (and_both (has_eps h.graph a.target) _ c).1) in omega arith))
      (λ c. omega arith)

  -- ---- what was met there

  abbrev Met : Meets → Type 0
  Met past_cutoff = Unit {0}
  Met vacant = place_of w a ≡ none
  Met (better gap held) = (place_of w a ≡ some held) × T (tot ≺ held.cost)
  Met (not_better gap held) = place_of w a ≡ some held

  met : Met (meets w.cutoff tot (place_of w a))
  unfolding meets
  met = go (w.cutoff ≼ tot) (place_of w a) refl
    where
      beside : (held : Token) → place_of w a ≡ some held → (b : Bool) → (tot ≺ held.cost) ≡ b → Met (cond b (better (held.cost ⊖ tot) held) (not_better (tot ⊖ held.cost) held))
      beside held e true l = (e, holds l)
      beside held e false l = e

      go : (b : Bool) (o : Option Token) → place_of w a ≡ o → Met (elim b as (λ c. Meets) [ true ↦ past_cutoff | false ↦ against tot o ])
      go true o e = tt
      go false none e = e
      go false (some held) e = beside held e (tot ≺ held.cost) refl

  abbrev CostsAs : Token → Option Token → Type 0
  CostsAs won none = Unit {0}
  CostsAs won (some j) = j.cost ≡ won.cost

  keep_cost : (hand : List Path) (k : ℕ) (gap : Float) (won lost : Token) → Ok (CostsAs won) (keep h hand k gap won lost)
  unfolding keep joined
  keep_cost hand k gap won lost = branches (CostsAs won) (keeps h.margin gap won lost) _ _ (λ e. branches (CostsAs won) (h.limits.full hand) _ _ (λ f. tt) (λ f. refl)) (λ e. tt)

  or_else_cost : (won : Token) (j : Option Token) → CostsAs won j → value (some (or_else won j)) ≡ value (some won)
  or_else_cost won none e = refl
  or_else_cost won (some j) e = ap (rank binary32) e

  joins_lighter : (held : Token) → place_of w a ≡ some held → (j : Option Token) → CostsAs held j → Lighter (joins_or_stays j)
  joins_lighter held e none c = tt
  joins_lighter held e (some j) c = let z : value (place_of w a) ≡ value (some j) = ap value e ∙ ap (rank binary32) (sym c) in omega arith

  settle_lighter : T (fits binary32 tot) → ((held : Token) → place_of w a ≡ some held → T (fits binary32 held.cost)) → (m : Meets) → Met m → Ok Lighter (settle h nonemitting t a w m)
  unfolding settle fills beats loses arriving
  settle_lighter f k past_cutoff e = tt
  settle_lighter f k vacant e =
      after Lighter (check 12 (tame tot)) _ λ u. after Lighter (check_winner h w nonemitting t a) _ λ x. let z : value (place_of w a) ≡ value none = ap value e in let y = rank_32 tot f in omega arith
  settle_lighter f k (better gap held) e =
      let won = arriving h nonemitting t a w.fresh held.seq false in
      after Lighter (check 12 (tame tot)) _ λ u. after Lighter (check_winner h w nonemitting t a) _ λ x.
      then (CostsAs won) Lighter (keep h (path_in_hand h w won.path) (suc w.fresh) gap won held) _ (keep_cost _ (suc w.fresh) gap won held) λ j c.
      let z : value (place_of w a) ≡ value (some held) = ap value e.0 in
      let y = rank_lt binary32 tot held.cost f (k held e.0) e.1 in
      let q = or_else_cost won j c in
      omega arith
  settle_lighter f k (not_better gap held) e =
      let lost = arriving h nonemitting t a w.fresh 0 true in
      after Lighter (check 12 (tame tot)) _ λ u.
      then (CostsAs held) Lighter (keep h (path_in_hand h w lost.path) (suc w.fresh) gap held lost) _ (keep_cost _ (suc w.fresh) gap held lost) λ j c. joins_lighter held e j c

  pub arrive_spends : T (fits binary32 tot) → ((held : Token) → place_of w a ≡ some held → T (fits binary32 held.cost)) → Ok Spends (arrive h nonemitting t a w)
  unfolding arrive
  arrive_spends f k = then Lighter Spends (settle h nonemitting t a w (meets w.cutoff tot (place_of w a))) _ (settle_lighter f k (meets w.cutoff tot (place_of w a)) met) finish_spends
