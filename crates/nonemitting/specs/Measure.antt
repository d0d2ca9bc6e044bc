-- What is left to spend, read from the stores: no turn of the queue's loop leaves as much. Assumes nothing.
use Rattle.std.specs.Prelude.{◌≡◌, refl, ℕ, zero, suc, ◌+◌, ◌^◌, ◌<◌, Bool, cond, List, [], ◌∷◌, ltb, length, get_or, Float}
use Rattle.std.proofs.Common.{sym, ap, ap₂, ◌∙◌, arith, lt-ltb, le-ltb}
use Rattle.std.proofs.Math.Option.{Option, none, some}
use Rattle.std.specs.Float.{binary32}
use Rattle.real32.specs.Rank.{rank}
use Rattle.model.specs.Path.{Path, Token, Table, memℕ}
use Rattle.model.specs.Arrive.{Work as ModelWork}
use Rattle.tokens.specs.Layout.{Cell, cell_at, held_at, cost_at, requeued_at, place_in}
use Rattle.records.specs.History.{History}
use Rattle.copy_laws.specs.Spending.{value, worth, spare, left}
use Rattle.stores.specs.Shown.{Shows, shows_none, shows_token}
use Rattle.stores.specs.Rep.{Lent}
use Rattle.arrivals.specs.declared.Setting.{Setting}
use Rattle.arcs.specs.declared.Work.{Work}
use Rattle.arcs.specs.Queue.{queued-length}
use Rattle.arcs.specs.Passed.{At}

-- a place with no token is dearer than any
abbrev pub value_in : (tokens : List ℕ) (sums : List Float) (place : ℕ) → ℕ
value_in tk sm p = cond (ltb 0 (held_at tk p)) (rank binary32 (cost_at sm p)) (2 ^ 32)

-- the first n values, each twice
abbrev pub worth_in : (ℕ → ℕ) → ℕ → ℕ
worth_in f zero = 0
worth_in f (suc n) = f 0 + f 0 + worth_in (λ s. f (suc s)) n

-- the states below n that were not requeued
abbrev pub spare_in : (ℕ → Bool) → ℕ → ℕ
spare_in f zero = 0
spare_in f (suc n) = cond (f n) 0 1 + spare_in f n

unfoldable pub left_in : (tokens : List ℕ) (sums : List Float) (side states queued : ℕ) → ℕ
left_in tk sm b n k =
    let spared = spare_in (λ s. ltb 0 (requeued_at tk (place_in b s))) n in
    worth_in (λ s. value_in tk sm (place_in b s)) n + k + (spared + spared)

-- ---- it is what the definition has left

worth_is : (ts : Table) (f : ℕ → ℕ) → ((s : ℕ) → s < length ts → f s ≡ value (get_or ts s none)) → worth_in f (length ts) ≡ worth ts
worth_is [] f e = refl
worth_is (o ∷ ts) f e = let a = e 0 (omega arith) in let b = worth_is ts (λ s. f (suc s)) (λ s l. e (suc s) (omega arith)) in omega arith

spare_is : (n : ℕ) (f : ℕ → Bool) (re : List ℕ) → ((s : ℕ) → s < n → memℕ s re ≡ f s) → spare_in f n ≡ spare n re
spare_is zero f re e = refl
spare_is (suc n) f re e = ap₂ (λ (b : Bool) (k : ℕ). cond b 0 1 + k) (sym (e n (omega arith))) (spare_is n f re (λ s l. e s (omega arith)))

value_is : (h : ℕ → History) (used : ℕ) (tk : List ℕ) (sm : List Float) (p : ℕ) (o : Option Token) → Shows h used (cell_at tk sm p) o → value_in tk sm p ≡ value o
unfolding cell_at
value_is h used tk sm p none (shows_none e) = ap (λ (b : Bool). cond b (rank binary32 (cost_at sm p)) (2 ^ 32)) (le-ltb 0 (held_at tk p) (omega arith))
value_is h used tk sm p (some t) (shows_token s e i) =
    ap₂ (λ (b : Bool) (c : Float). cond b (rank binary32 c) (2 ^ 32)) (lt-ltb 0 (held_at tk p) (let z = ap (λ (c : Cell). c.held) e in omega arith)) (ap (λ (c : Cell). c.cost) e ∙ i.cost)

pub left_is : {g : Setting} {m : Lent} {qs : List ℕ} {x : Work} {done : Table} {p : Path} {w : ModelWork} → At g m qs x done p w → left_in m.tokens m.sums g.side g.states x.queued ≡ left g.states w
unfolding left_in
left_is {g} {m} {qs} {x} {done} {p} {w} A =
    let R = A.stood.rep.progress in
    let a : worth_in (λ s. value_in m.tokens m.sums (place_in g.side s)) g.states ≡ worth w.table =
    ap (worth_in (λ s. value_in m.tokens m.sums (place_in g.side s))) (sym R.size) ∙
    worth_is w.table (λ s. value_in m.tokens m.sums (place_in g.side s)) (λ s l. value_is _ _ m.tokens m.sums (place_in g.side s) (get_or w.table s none) (R.place s (let z = R.size in omega arith))) in
    let b : length w.queue ≡ x.queued = queued-length g.states qs x.queued w.queue A.queue in
    let c : spare_in (λ s. ltb 0 (requeued_at m.tokens (place_in g.side s))) g.states ≡ spare g.states w.requeued = spare_is g.states _ w.requeued A.stood.requeued in
    λ i. a i + sym b i + (c i + c i)
