-- Own groups and kept readings settled: of each word list one of both stays. What this asks and leaves. Assumes nothing.
use Rattle.std.specs.Prelude.{◌≡◌, ℕ, ◌≤◌, ◌<◌, Bool, false, cond, List, eqb, ℤ, length, get_or, take, Float}
use Rattle.std.proofs.Common.{sym, ap, ◌∙◌, arith, eq-eqb}
use Rattle.lists.specs.Tests.{case, never, eq_or_not}
use Rattle.lists.specs.Lists.{keep_if}
use Rattle.model.specs.Hash.{hash_words}
use Rattle.traceback.specs.Chain.{Walkable}
use Rattle.histories.specs.Reading.{KeyIs}
use Rattle.sorting.specs.Moves.{Lent}
use Rattle.sorting.specs.Sorting.{Sorted}
use Rattle.groups.specs.Places.{PlacesSorted}
use Rattle.groups.specs.Firsts.{link_at, dropped, StatesAsk, KeysFilled, ClosedUp}
use Rattle.groups.specs.Laws.{sorted_places}
use Rattle.merged.specs.Twins.{words_in, HashesSorted}
use Rattle.merged.specs.Items.{OwnAsks}
use Rattle.merged.specs.Drops.{KeptAsks, DropsAsk, TwinsDropped}
use Rattle.merged.specs.Left.{GoneDropped, kept_stands, own_still_left, kept_left, own_left}
use Rattle.listing.specs.declared.Counts.{Counts}

-- own groups, no two of one word list, whose keys are the hashes of their words; and kept readings in order
pub record SettleAsks (tk : List ℕ) (sm fs : List Float) (rs : List ℕ) (ls : List ℤ) (b used : ℕ) (own : List ℕ) (m keys places : ℕ) (gone nexts khs kns : List ℕ) (kxs : List Float) (order : List ℕ) (n : ℕ) (route : List ℕ) : Type 0 where
  pub states : StatesAsk tk rs ls b used own m
  pub walk : Walkable rs ls used
  pub ranks : (p : ℕ) → p < m → OwnAsks tk sm fs (get_or own p 0)
  pub keyed : (p : ℕ) → p < m → (k : ℕ) → KeyIs rs ls used (link_at tk b (get_or own p 0)) false k → k ≡ hash_words (words_in rs ls tk b own p)
  pub apart : (p q : ℕ) → p < m → q < m → words_in rs ls tk b own p ≡ words_in rs ls tk b own q → p ≡ q
  pub keys_long : m ≤ keys
  pub places_long : m ≤ places
  pub gone_long : m ≤ length gone
  pub order_long : n ≤ length order
  pub named : (j : ℕ) → j < n → (get_or order j 0 ≡ dropped → ⊥)
  pub kepts : (j : ℕ) → j < n → KeptAsks tk rs ls b used nexts khs kns kxs route (get_or order j 0)

-- what is left of both
pub record Settled (same first : ℕ → ℕ → Bool) (own own' : List ℕ) (m : ℕ) (order order' : List ℕ) (n : ℕ) (r : Counts) : Type 0 where
  pub own_few : r.own ≤ m
  pub kept_few : r.kept ≤ n
  pub owns : take r.own own' ≡ own_still_left same first (take n order) (take m own)
  pub kepts : take r.kept order' ≡ keep_if (kept_stands same first (take m own)) (take n order)

module _ {tk : List ℕ} {sm fs : List Float} {rs : List ℕ} {ls : List ℤ} {b used : ℕ} {own : List ℕ} {m keys places : ℕ} {gone nexts khs kns : List ℕ} {kxs : List Float} {order : List ℕ} {n : ℕ} {route : List ℕ}
    (A : SettleAsks tk sm fs rs ls b used own m keys places gone nexts khs kns kxs order n route) where
  module _ {ks ps : List ℕ} (F : KeysFilled tk rs ls b used false own m ks ps) (ks-long : m ≤ length ks) (ps-long : m ≤ length ps) {ks' ps' : List ℕ} (L : Lent ks' ps' m) (S : Sorted ks ks' ps ps' m) where
    sorted : PlacesSorted (λ (p : ℕ). get_or ks p 0) m ks' ps'
    sorted = sorted_places A.states F ks-long ps-long L S

    hashes_sorted : HashesSorted (words_in rs ls tk b own) m ks' ps'
    hashes_sorted =
        record {
          keys = record { long = L.keys_long; sorted = λ i j l u. case (eq_or_not i j) (λ e. let z = ap (λ (k : ℕ). get_or ks' k 0) e in omega arith) (λ d. case (sorted.ordered i j (omega arith) u) (λ a. omega arith) (λ a. let z = a.0 in omega arith)) };
          places_long = L.items_long;
          inside = sorted.inside;
          every = λ p l. let (i, u, e) = sorted.each p l in record { at = i; few = u; is = e };
          hashes = λ i l. let q = get_or ps' i 0 in let u = sorted.inside i l in sorted.key_is i l ∙ A.keyed q u (get_or ks q 0) (F.keys q u);
        }

    -- sorted by their hashes, the own groups are found by the words of a kept reading
    pub drops_ask : DropsAsk tk sm fs rs ls b used own m gone ks' ps' nexts khs kns kxs order n route
    drops_ask =
        record {
          owns = record {
            side = A.states.side;
            walk = A.walk;
            own_long = A.states.long;
            few = A.states.few;
            tokens = λ p l. let z = A.states.each p l in record { inside = z.inside; low = z.low };
            ranks = A.ranks;
            sorted = hashes_sorted;
            apart = A.apart;
          };
          gone_long = A.gone_long;
          order_long = A.order_long;
          kepts = A.kepts;
        }

  module _ {same first : ℕ → ℕ → Bool} {gone' order' own' own'' order'' : List ℕ} {i j : ℕ} where
    -- dropped and closed up, those are left that should be
    pub settled : TwinsDropped (λ (i p : ℕ). same i (get_or own p 0)) (λ (i p : ℕ). cond (eqb p 0) false (first i (get_or own p 0))) m gone' order n order' → length order' ≡ length order
        → GoneDropped own own' gone' m → length own' ≡ length own → ClosedUp own' own'' m i → ClosedUp order' order'' n j → Settled same first own own'' m order order'' n (record { own = i; kept = j })
    settled T o G w C D =
        record {
          own_few = C.few;
          kept_few = D.few;
          owns = C.is ∙ own_left same first own order m n A.states.long A.order_long A.named T G w (λ p l q. never (sym (A.states.each p l).named ∙ eq-eqb (get_or own p 0) dropped q));
          kepts = D.is ∙ kept_left same first own order m n A.states.long A.order_long A.named T o;
        }
