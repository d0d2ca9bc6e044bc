-- What putting a winner's record on leaves, one constructor for each way out.
use Rattle.std.specs.Prelude.{◌≡◌, ℕ, ◌*◌, ◌<◌, ◌≤◌, true, false, List, length, ℤ, Result, Ok, Err}
use Rattle.real32.specs.Small.{tame}
use Rattle.tokens.specs.declared.Token.{Token as Stored}
use Rattle.records.specs.Puts.{LinkPut}
use Rattle.arrivals.specs.declared.Arrival.{Arrival}
use Rattle.arrivals.specs.declared.Setting.{Setting}
use Rattle.arrivals.specs.Arrival.{starts_of, links}
use Rattle.arrivals.specs.declared.Linked.{Linked}
use Rattle.refusals.specs.declared.Reason.{Reason}
use Rattle.refusals.specs.declared.Reason.TheVariants.{SumTooLarge, RecordsFull}

-- the records in use, and their places
pub record RoomFor (cap used : ℕ) (rs : List ℕ) (ls : List ℤ) : Type 0 where
  pub fits : used ≤ cap
  pub small : cap ≤ 1048576
  pub records : cap * 8 ≤ length rs
  pub labels : cap * 2 ≤ length ls

abbrev pub linked : (link used : ℕ) → Linked
linked l u = record { link = l; used = u }

pub data PutOnIs (rs rs' : List ℕ) (ls ls' : List ℤ) (g : Setting) (used : ℕ) (s : Stored) (a : Arrival) : Result Linked Reason → Type 0 where
  sum_refused : tame a.graph ≡ false → rs' ≡ rs → ls' ≡ ls → PutOnIs rs rs' ls ls' g used s a (Err SumTooLarge)
  record_refused : tame a.graph ≡ true → links s a ≡ true → used ≡ g.cap → rs' ≡ rs → ls' ≡ ls → PutOnIs rs rs' ls ls' g used s a (Err RecordsFull)
  link_on_it : {r : ℕ} → tame a.graph ≡ true → links s a ≡ true → used < g.cap → LinkPut rs rs' ls ls' used s.link g.frame a.word (starts_of s a) r → PutOnIs rs rs' ls ls' g used s a (Ok (linked r r))
  no_link_on_it : tame a.graph ≡ true → links s a ≡ false → rs' ≡ rs → ls' ≡ ls → PutOnIs rs rs' ls ls' g used s a (Ok (linked s.link used))
