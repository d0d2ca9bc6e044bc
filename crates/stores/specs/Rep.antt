-- What the lent stores stand for during a pass.
use Rattle.std.specs.Prelude.{◌≡◌, refl, ℕ, ◌-◌, ◌*◌, ◌≤◌, List, ℤ, length, Float}
use Rattle.std.proofs.Common.{sym, ◌∙◌, subst, arith}
use Rattle.model.specs.Path.{Path, Table}
use Rattle.records.specs.History.{History, tag}
use Rattle.records.specs.Layout.{Store, store, Room}
use Rattle.records.specs.Stands.{Stands}
use Rattle.stores.specs.Shown.{Is, Shown}

-- the five lists that every pass writes, at one moment
pub record Lent : Type 0 where
  pub tokens : List ℕ
  pub sums : List Float
  pub records : List ℕ
  pub labels : List ℤ
  pub gaps : List Float

abbrev pub lent : List ℕ → List Float → List ℕ → List ℤ → List Float → Lent
lent tk sm rs ls gs = record { tokens = tk; sums = sm; records = rs; labels = ls; gaps = gs }

abbrev pub store_of : Lent → Store
store_of m = store m.records m.labels m.gaps

-- places for n states and for `cap` records
pub record Places (n cap : ℕ) (m : Lent) : Type 0 where
  pub tokens : n * 8 ≤ length m.tokens
  pub sums : n * 4 ≤ length m.sums
  pub store : Room (store_of m) cap

-- The finished table and the one in progress (side b), the path in hand, which record x stands for, and a number that the model has not given out.
pub record Rep (b n : ℕ) (m : Lent) (used x : ℕ) (p : Path) (done going : Table) (fresh : ℕ) : Type 0 where
  pub h : ℕ → History
  pub stands : Stands (store_of m) used h
  pub finished : Shown h used m.tokens m.sums (1 - b) n done
  pub progress : Shown h used m.tokens m.sums b n going
  pub hand : Is h used x p
  pub newest : tag (h used) ≤ fresh

-- what a refusal leaves: the finished table
pub record Old (b n cap : ℕ) (m : Lent) (done : Table) : Type 0 where
  pub h : ℕ → History
  pub used : ℕ
  pub fits : used ≤ cap
  pub stands : Stands (store_of m) used h
  pub finished : Shown h used m.tokens m.sums (1 - b) n done

-- stores that are the same stand for the same
pub rep_as : {b n : ℕ} (m m' : Lent) {used x : ℕ} {p : Path} {done going : Table} {fresh : ℕ} → m' ≡ m → Rep b n m used x p done going fresh → Rep b n m' used x p done going fresh
rep_as {b} {n} m m' {used} {x} {p} {done} {going} {fresh} e = subst (λ (z : Lent). Rep b n z used x p done going fresh) (sym e)

-- stores of the same lengths have the same places
pub room_as : (rs rs' : List ℕ) (ls ls' : List ℤ) (gs gs' : List Float) {cap : ℕ} → length rs' ≡ length rs → length ls' ≡ length ls → length gs' ≡ length gs → Room (store rs ls gs) cap → Room (store rs' ls' gs') cap
room_as rs rs' ls ls' gs gs' a b c r = record { records = omega (arith, r.records); labels = omega (arith, r.labels); gaps = omega (arith, r.gaps) }

-- lengths stay
pub record Lens (m m' : Lent) : Type 0 where
  pub tokens : length m'.tokens ≡ length m.tokens
  pub sums : length m'.sums ≡ length m.sums
  pub records : length m'.records ≡ length m.records
  pub labels : length m'.labels ≡ length m.labels
  pub gaps : length m'.gaps ≡ length m.gaps

pub lens_self : (m : Lent) → Lens m m
lens_self m = record { tokens = refl; sums = refl; records = refl; labels = refl; gaps = refl }

pub lens_then : {m m' m'' : Lent} → Lens m m' → Lens m' m'' → Lens m m''
lens_then a b = record { tokens = b.tokens ∙ a.tokens; sums = b.sums ∙ a.sums; records = b.records ∙ a.records; labels = b.labels ∙ a.labels; gaps = b.gaps ∙ a.gaps }

-- one table between calls, as the reads have it
pub record Finished (b n : ℕ) (m : Lent) (used : ℕ) (ts : Table) : Type 0 where
  pub h : ℕ → History
  pub stands : Stands (store_of m) used h
  pub shown : Shown h used m.tokens m.sums b n ts
