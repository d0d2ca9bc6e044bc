-- What comes of an arc, one constructor for each way out.
use Rattle.std.specs.Prelude.{◌≡◌, ℕ, suc, ◌+◌, ◌%◌, ◌^◌, ◌≤◌, List, length, ℤ, pos, Float, Option, Some, None, Result, Ok, Err}
use Rattle.std.proofs.Common.{sym, subst, arith}
use Rattle.tokens.specs.declared.Token.{Token as Stored}
use Rattle.tokens.specs.Layout.{Cell, token_of}
use Rattle.records.specs.Layout.{Store, store, Room}
use Rattle.records.specs.History.{History, tag}
use Rattle.records.specs.Stands.{Stands}
use Rattle.records.specs.Shape.{Shape, shape_of}
use Rattle.joins.specs.Keep.{KeepAsks, KeepIs}
use Rattle.arrivals.specs.declared.Arrival.{Arrival}
use Rattle.arrivals.specs.declared.Setting.{Setting}
use Rattle.arrivals.specs.declared.Meets.{Meets}
use Rattle.arrivals.specs.declared.Meets.TheVariants.{CutOff, Vacant, Better, NotBetter}
use Rattle.arrivals.specs.declared.Counts.{Counts}
use Rattle.arrivals.specs.declared.Settled.{Settled}
use Rattle.arrivals.specs.declared.Settled.TheVariants.{Stays, Wins, Joins}
use Rattle.arrivals.specs.Arrival.{starts_of}
use Rattle.arrivals.specs.PutOn.{linked, PutOnIs, link_on_it, no_link_on_it}
use Rattle.refusals.specs.declared.Reason.{Reason}

abbrev pub with_link : Stored → ℕ → Stored
with_link t l = record { cost = t.cost; graph = t.graph; link = l; phone = t.phone; seq = t.seq }

abbrev pub new_token : Arrival → (link seq : ℕ) → Stored
new_token a l q = record { cost = a.total; graph = a.graph; link = l; phone = a.phone; seq = q }

abbrev pub counts : (used seq : ℕ) → Counts
counts u q = record { used = u; seq = q }

-- what safety asks of the store, the source and the token that is met
pub record SettleAsks (s : Store) (g : Setting) (k : Counts) (x held : Stored) : Type 0 where
  pub h : ℕ → History
  pub stands : Stands s k.used h
  pub room : Room s g.cap
  pub fits : k.used ≤ g.cap
  pub small : g.cap ≤ 1048576
  pub source_low : x.link ≤ k.used
  pub held_low : held.link ≤ k.used

abbrev pub next_seq : Counts → ℕ
next_seq k = (k.seq + 1) % 2 ^ 32

-- an empty state
pub data FillIs (rs rs' : List ℕ) (ls ls' : List ℤ) (g : Setting) (k : Counts) (x : Stored) (a : Arrival) : Result Settled Reason → Type 0 where
  fill_refused : {e : Reason} → PutOnIs rs rs' ls ls' g k.used x a (Err e) → FillIs rs rs' ls ls' g k x a (Err e)
  fill_wins : {l u : ℕ} → PutOnIs rs rs' ls ls' g k.used x a (Ok (linked l u)) → FillIs rs rs' ls ls' g k x a (Ok (Wins (new_token a l (next_seq k)) (counts u (next_seq k))))

-- what a winner becomes, by what became of the loser
abbrev pub won_with : Stored → (used seq : ℕ) → Result (Option ℕ) Reason → Result Settled Reason
won_with new u q (Ok None) = Ok (Wins new (counts u q))
won_with new u q (Err e) = Err e
won_with new u q (Ok (Some r)) = Ok (Wins (with_link new r) (counts r q))

-- better; s₁ is the store after the arc's own record
pub data BeatIs (s s' : Store) (g : Setting) (k : Counts) (gap : Float) (x : Stored) (a : Arrival) (held : Stored) : Result Settled Reason → Type 0 where
  beat_refused : {e : Reason} → PutOnIs s.records s'.records s.labels s'.labels g k.used x a (Err e) → s'.gaps ≡ s.gaps → BeatIs s s' g k gap x a held (Err e)
  beat_wins : {l u : ℕ} (r : Result (Option ℕ) Reason) (rs₁ : List ℕ) (ls₁ : List ℤ) → PutOnIs s.records rs₁ s.labels ls₁ g k.used x a (Ok (linked l u))
      → KeepIs (store rs₁ ls₁ s.gaps) s' u g.cap g.frame g.margin gap (new_token a l held.seq) held (pos 0) 0 r → BeatIs s s' g k gap x a held (won_with (new_token a l held.seq) u k.seq r)

abbrev pub lost_with : (held : Stored) → (used seq : ℕ) → Result (Option ℕ) Reason → Result Settled Reason
lost_with held u q (Ok None) = Ok Stays
lost_with held u q (Err e) = Err e
lost_with held u q (Ok (Some r)) = Ok (Joins (with_link held r) (counts r q))

-- not better
pub data LoseIs (s s' : Store) (g : Setting) (k : Counts) (gap : Float) (x : Stored) (a : Arrival) (held : Stored) : Result Settled Reason → Type 0 where
  lose_keeps : (r : Result (Option ℕ) Reason) → KeepIs s s' k.used g.cap g.frame g.margin gap held (new_token a x.link 0) a.word (starts_of x a) r → LoseIs s s' g k gap x a held (lost_with held k.used k.seq r)

-- by what the arc met in the place
pub data SettledIs (s s' : Store) (g : Setting) (k : Counts) (x : Stored) (a : Arrival) (c : Cell) : Meets → Result Settled Reason → Type 0 where
  settled_cut : s' ≡ s → SettledIs s s' g k x a c CutOff (Ok Stays)
  settled_fills : {r : Result Settled Reason} → FillIs s.records s'.records s.labels s'.labels g k x a r → s'.gaps ≡ s.gaps → SettledIs s s' g k x a c Vacant r
  settled_beats : {gap : Float} {r : Result Settled Reason} → BeatIs s s' g k gap x a (token_of c) r → SettledIs s s' g k x a c (Better gap) r
  settled_loses : {gap : Float} {r : Result Settled Reason} → LoseIs s s' g k gap x a (token_of c) r → SettledIs s s' g k x a c (NotBetter gap) r

-- ---- what safety asks is there

module _ (s : Store) (g : Setting) (k : Counts) (x held : Stored) (asks : SettleAsks s g k x held) where
  pub lose_asks : (a : Arrival) (q : ℕ) → KeepAsks s k.used g.cap held (new_token a x.link q)
  lose_asks a q =
      record { shape = shape_of s k.used asks.h (less asks.room) asks.stands; room = asks.room; fits = asks.fits; small = asks.small; won_low = asks.held_low; lost_low = asks.source_low }
    where
      less : Room s g.cap → Room s k.used
      less r = let f = asks.fits in record { records = omega (arith, r.records); labels = omega (arith, r.labels); gaps = omega (arith, r.gaps) }

  -- after the arc's own record
  module _ (rs₁ : List ℕ) (ls₁ : List ℤ) (p : length rs₁ ≡ length s.records) (q : length ls₁ ≡ length s.labels) (a : Arrival) where
    abbrev s₁ : Store
    s₁ = store rs₁ ls₁ s.gaps

    roomy : (n : ℕ) → n ≤ g.cap → Room s₁ n
    roomy n l = let r = asks.room in record { records = omega (arith, r.records); labels = omega (arith, r.labels); gaps = omega (arith, r.gaps) }

    pub beat_asks : (l u seq : ℕ) → PutOnIs s.records rs₁ s.labels ls₁ g k.used x a (Ok (linked l u)) → KeepAsks s₁ u g.cap (new_token a l seq) held
    beat_asks l u seq (link_on_it {r} e f d P) =
        let h = asks.h in
        let n = P.number in
        let st = P.stands s.gaps h (tag (h k.used)) asks.stands (omega arith) asks.source_low f in
        record {
          shape = subst (Shape s₁) (sym n) (shape_of s₁ (suc k.used) _ (roomy (suc k.used) (omega arith)) st);
          room = roomy g.cap (omega arith);
          fits = omega arith;
          small = asks.small;
          won_low = omega arith;
          lost_low = let m = asks.held_low in omega arith;
        }
    beat_asks l u seq (no_link_on_it e f d b) =
        record {
          shape = shape_of s₁ u asks.h (roomy u asks.fits) (rw (d, b) asks.stands);
          room = roomy g.cap (omega arith);
          fits = asks.fits;
          small = asks.small;
          won_low = asks.source_low;
          lost_low = asks.held_low;
        }
