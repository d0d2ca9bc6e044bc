-- Of a kept reading and the own group of its words the later one goes. Assumes nothing.
use Rattle.std.specs.Prelude.{◌≡◌, refl, ℕ, ◌+◌, ◌≤◌, ◌<◌, Bool, true, false, cond, List, reverse, eqb, ℤ, length, get_or, take, set, Float, Option}
use Rattle.std.proofs.Common.{sym, ap, ◌∙◌, subst, arith, length-set, get_or-set_same, get_or-set_other}
use Rattle.std.proofs.lemmas.List.{reverse-reverse}
use Rattle.lists.specs.Tests.{case, never, eq_or_not}
use Rattle.model.specs.Path.{Path, same_words}
use Rattle.model.specs.Ints.{same_words_true}
use Rattle.model.specs.Hash.{hash_words}
use Rattle.model.specs.Reads.{trace}
use Rattle.model.specs.Readings.{Below}
use Rattle.records.specs.History.{History}
use Rattle.records.specs.Layout.{store}
use Rattle.records.specs.Stands.{Stands}
use Rattle.stores.specs.Shown.{Is}
use Rattle.traceback.specs.Chain.{Walkable}
use Rattle.below.specs.Stored.{Decoded}
use Rattle.groups.specs.Firsts.{link_at, dropped}
use Rattle.routes.specs.Back.{back_along}
use Rattle.routes.specs.Entries.{RouteAsks, RouteIs}
use Rattle.routes.specs.Entries.{joins_of}
use Rattle.routes.specs.Joins.{joins_routed, numbers_are}
use Rattle.routes.specs.Told.{words_told, entry_words}
use Rattle.kept_readings.specs.declared.KeptReading.{KeptReading}
use Rattle.kept_readings.specs.Kept.{kept_read_in, Room}
use Rattle.merged.specs.Items.{OwnAsks, kept_first}
use Rattle.merged.specs.Twins.{words_in, TokenAsks, HashesSorted, TwinAsks, TwinIs}

-- the words of a kept reading, newest first
abbrev pub kept_words : List ℕ → List ℤ → List ℕ → (side : ℕ) → (nexts : List ℕ) → KeptReading → List ℤ
kept_words rs ls tk b nx k = back_along rs ls (joins_of nx k.entry) (link_at tk b k.state)

-- a route that was written gives a kept reading's words
pub record RouteTells (rs : List ℕ) (ls : List ℤ) (nx : List ℕ) (entry link : ℕ) : Type 0 where
  pub is : (route : List ℕ) (n : ℕ) → RouteIs nx entry route n → back_along rs ls (take n route) link ≡ back_along rs ls (joins_of nx entry) link

-- where the record stands for a path and the entries are decoded
pub route_tells : {rs : List ℕ} {ls : List ℤ} {gs : List Float} {used : ℕ} {h : ℕ → History} → Stands (store rs ls gs) used h → (link : ℕ) (p : Path) → Is h used link p → (cost : Float) → {hs nx : List ℕ} {xs : List Float} {bs : List Below} {entry : ℕ} → Decoded h used hs nx xs bs
    → entry ≤ length bs → RouteTells rs ls nx entry link
route_tells {rs} {ls} {h = h} ok link p shows cost {nx = nx} {entry = entry} d l =
    record {
      is = λ route n i.
          let a = entry_words ok 0 link p cost shows route i d l in
          let b = words_told ok 0 link p cost shows (joins_of nx entry) (joins_routed d entry l) in
          sym (reverse-reverse (back_along rs ls (take n route) link)) ∙ ap reverse (sym a ∙ ap (λ (js : List ℕ). (trace 0 js p cost).words) (sym (numbers_are d entry l)) ∙ b) ∙ reverse-reverse (back_along rs ls (joins_of nx entry) link);
    }

-- kept reading number i
pub record KeptAsks (tk rs : List ℕ) (ls : List ℤ) (b used : ℕ) (nx hs ns : List ℕ) (xs : List Float) (route : List ℕ) (i : ℕ) : Type 0 where
  pub room : Room hs ns xs (i + 1)
  pub token : TokenAsks tk b used (kept_read_in hs ns xs i).state
  pub routed : RouteAsks nx (kept_read_in hs ns xs i).entry route
  pub tells : RouteTells rs ls nx (kept_read_in hs ns xs i).entry (link_at tk b (kept_read_in hs ns xs i).state)
  pub hash : (kept_read_in hs ns xs i).hash ≡ hash_words (kept_words rs ls tk b nx (kept_read_in hs ns xs i))

pub record OwnsAsk (tk : List ℕ) (sm fs : List Float) (rs : List ℕ) (ls : List ℤ) (b used : ℕ) (own : List ℕ) (m : ℕ) (ks ps : List ℕ) : Type 0 where
  pub side : b ≤ 1
  pub walk : Walkable rs ls used
  pub own_long : m ≤ length own
  pub few : m < 4_294_967_296
  pub tokens : (p : ℕ) → p < m → TokenAsks tk b used (get_or own p 0)
  pub ranks : (p : ℕ) → p < m → OwnAsks tk sm fs (get_or own p 0)
  pub sorted : HashesSorted (words_in rs ls tk b own) m ks ps
  pub apart : (p q : ℕ) → p < m → q < m → words_in rs ls tk b own p ≡ words_in rs ls tk b own q → p ≡ q

-- kept reading i reads as the own group in place p does
abbrev pub same_at : List ℕ → List ℤ → List ℕ → (side : ℕ) → (nexts own hs ns : List ℕ) → List Float → (i p : ℕ) → Bool
same_at rs ls tk b nx own hs ns xs i p = same_words (kept_words rs ls tk b nx (kept_read_in hs ns xs i)) (words_in rs ls tk b own p)

-- and comes before it; the best own group stays
abbrev pub wins_at : List ℕ → (sm fs : List Float) → (side : ℕ) → (counts : Bool) → (own hs ns : List ℕ) → List Float → (i p : ℕ) → Bool
wins_at tk sm fs b counts own hs ns xs i p = cond (eqb p 0) false (kept_first tk sm fs b counts hs ns xs i (get_or own p 0))

pub record DropAsks (tk : List ℕ) (sm fs : List Float) (rs : List ℕ) (ls : List ℤ) (b used : ℕ) (own : List ℕ) (m : ℕ) (gone ks ps nx hs ns : List ℕ) (xs : List Float) (order : List ℕ) (j : ℕ) (route : List ℕ) : Type 0 where
  pub owns : OwnsAsk tk sm fs rs ls b used own m ks ps
  pub gone_long : m ≤ length gone
  pub some : j < length order
  pub kept : KeptAsks tk rs ls b used nx hs ns xs route (get_or order j 0)

pub record DropsAsk (tk : List ℕ) (sm fs : List Float) (rs : List ℕ) (ls : List ℤ) (b used : ℕ) (own : List ℕ) (m : ℕ) (gone ks ps nx hs ns : List ℕ) (xs : List Float) (order : List ℕ) (n : ℕ) (route : List ℕ) : Type 0 where
  pub owns : OwnsAsk tk sm fs rs ls b used own m ks ps
  pub gone_long : m ≤ length gone
  pub order_long : n ≤ length order
  pub kepts : (j : ℕ) → j < n → KeptAsks tk rs ls b used nx hs ns xs route (get_or order j 0)

-- one kept reading is judged
pub data TwinDropped (same wins : ℕ → ℕ → Bool) (m : ℕ) (gone gone' order order' : List ℕ) (j : ℕ) : Type 0 where
  no_twin : ((p : ℕ) → p < m → same (get_or order j 0) p ≡ false) → gone' ≡ gone → order' ≡ order → TwinDropped same wins m gone gone' order order' j
  a_twin : (p : ℕ) → p < m → same (get_or order j 0) p ≡ true → gone' ≡ cond (wins (get_or order j 0) p) (set gone p 1) gone → order' ≡ cond (wins (get_or order j 0) p) order (set order j dropped)
      → TwinDropped same wins m gone gone' order order' j

-- a kept reading stays where it wins against every own group of its words
pub data KeptJudged (same wins : ℕ → ℕ → Bool) (m i v : ℕ) : Type 0 where
  kept_stays : ((p : ℕ) → p < m → same i p ≡ true → wins i p ≡ true) → v ≡ i → KeptJudged same wins m i v
  kept_goes : (p : ℕ) → p < m → same i p ≡ true → wins i p ≡ false → v ≡ dropped → KeptJudged same wins m i v

-- an own group stays, with the mark 0, where no kept reading of its words wins against it
pub data OwnJudged (same wins : ℕ → ℕ → Bool) (order : List ℕ) (n p v : ℕ) : Type 0 where
  own_stays : ((j : ℕ) → j < n → same (get_or order j 0) p ≡ true → wins (get_or order j 0) p ≡ false) → v ≡ 0 → OwnJudged same wins order n p v
  own_goes : (j : ℕ) → j < n → same (get_or order j 0) p ≡ true → wins (get_or order j 0) p ≡ true → v ≡ 1 → OwnJudged same wins order n p v

pub record TwinsDropped (same wins : ℕ → ℕ → Bool) (m : ℕ) (gone' order : List ℕ) (n : ℕ) (order' : List ℕ) : Type 0 where
  pub kepts : (j : ℕ) → j < n → KeptJudged same wins m (get_or order j 0) (get_or order' j 0)
  pub owns : (p : ℕ) → p < m → OwnJudged same wins order n p (get_or gone' p 0)

-- ---- laws

module _ (same wins : ℕ → ℕ → Bool) (m : ℕ) (order₀ : List ℕ) where
  -- the first j are judged
  pub record DropsTo (gone₀ gone order : List ℕ) (j : ℕ) : Type 0 where
    pub gone-length : length gone ≡ length gone₀
    pub order-length : length order ≡ length order₀
    pub kepts : (k : ℕ) → k < j → KeptJudged same wins m (get_or order₀ k 0) (get_or order k 0)
    pub ahead : (k : ℕ) → j ≤ k → get_or order k 0 ≡ get_or order₀ k 0
    pub owns : (p : ℕ) → p < m → OwnJudged same wins order₀ j p (get_or gone p 0)

  pub drops_none : (gone : List ℕ) → ((p : ℕ) → p < m → get_or gone p 0 ≡ 0) → DropsTo gone gone order₀ 0
  drops_none gone z = record { gone-length = refl; order-length = refl; kepts = λ k l. absurd (omega arith); ahead = λ k l. refl; owns = λ p l. own_stays (λ j u. absurd (omega arith)) (z p l) }

  -- an own group that the next kept reading does not win against
  own_same : (j p v v' : ℕ) → v' ≡ v → (same (get_or order₀ j 0) p ≡ true → wins (get_or order₀ j 0) p ≡ false) → OwnJudged same wins order₀ j p v → OwnJudged same wins order₀ (j + 1) p v'
  own_same j p v v' e d (own_stays f z) = own_stays (λ k u. case (eq_or_not k j) (λ q. subst (λ (i : ℕ). same (get_or order₀ i 0) p ≡ true → wins (get_or order₀ i 0) p ≡ false) (sym q) d) (λ q. f k (omega arith))) (e ∙ z)
  own_same j p v v' e d (own_goes k u s w z) = own_goes k (omega arith) s w (e ∙ z)

  module _ {gone₀ gone order : List ℕ} {j : ℕ} (D : DropsTo gone₀ gone order j) (l : j < length order₀) (long : m ≤ length gone₀) (unique : (p q : ℕ) → p < m → q < m → same (get_or order₀ j 0) p ≡ true → same (get_or order₀ j 0) q ≡ true → p ≡ q) where
    abbrev i : ℕ
    i = get_or order₀ j 0

    kept_same : (order' : List ℕ) → ((k : ℕ) → k < j → get_or order' k 0 ≡ get_or order k 0) → KeptJudged same wins m i (get_or order' j 0) → (k : ℕ) → k < j + 1 → KeptJudged same wins m (get_or order₀ k 0) (get_or order' k 0)
    kept_same order' f K k u =
        case (eq_or_not k j) (λ q. subst (λ (k : ℕ). KeptJudged same wins m (get_or order₀ k 0) (get_or order' k 0)) (sym q) K) (λ q. subst (KeptJudged same wins m (get_or order₀ k 0)) (sym (f k (omega arith))) (D.kepts k (omega arith)))

    found : (p : ℕ) → p < m → same i p ≡ true → {gone' order' : List ℕ} → (w : Bool) → wins i p ≡ w → gone' ≡ cond w (set gone p 1) gone → order' ≡ cond w order (set order j dropped) → DropsTo gone₀ gone' order' (j + 1)
    found p u s true e a b =
        let y = D.gone-length in
        rw (a, b) (record {
          gone-length = length-set gone p 1 ∙ D.gone-length;
          order-length = D.order-length;
          kepts = kept_same order (λ k v. refl) (kept_stays (λ q v t. subst (λ (k : ℕ). wins i k ≡ true) (unique p q u v s t) e) (D.ahead j (omega arith)));
          ahead = λ k v. D.ahead k (omega arith);
          owns = λ q v. case (eq_or_not q p) (λ z. own_goes j (omega arith) (ap (same i) z ∙ s) (ap (wins i) z ∙ e) (ap (λ (k : ℕ). get_or (set gone p 1) k 0) z ∙ get_or-set_same gone p 1 0 (omega arith)))
              (λ z. own_same j q (get_or gone q 0) _ (get_or-set_other gone p q 1 0 z) (λ t. absurd (z (unique q p v u t s))) (D.owns q v));
        })
    found p u s false e a b =
        let y = D.order-length in
        rw (a, b) (record {
          gone-length = D.gone-length;
          order-length = length-set order j dropped ∙ D.order-length;
          kepts = kept_same (set order j dropped) (λ k v. get_or-set_other order j k dropped 0 (λ z. omega arith)) (kept_goes p u s e (get_or-set_same order j dropped 0 (omega arith)));
          ahead = λ k v. get_or-set_other order j k dropped 0 (λ z. omega arith) ∙ D.ahead k (omega arith);
          owns = λ q v. own_same j q (get_or gone q 0) _ refl (λ t. subst (λ (k : ℕ). wins i k ≡ false) (unique p q u v s t) e) (D.owns q v);
        })

    pub drops_next : {gone' order' : List ℕ} → TwinDropped same wins m gone gone' order order' j → DropsTo gone₀ gone' order' (j + 1)
    drops_next (no_twin f a b) =
        let g : (p : ℕ) → p < m → same i p ≡ false = λ p u. subst (λ (k : ℕ). same k p ≡ false) (D.ahead j (omega arith)) (f p u) in
        rw (a, b) (record {
          gone-length = D.gone-length;
          order-length = D.order-length;
          kepts = kept_same order (λ k v. refl) (kept_stays (λ p u t. never (sym (g p u) ∙ t)) (D.ahead j (omega arith)));
          ahead = λ k v. D.ahead k (omega arith);
          owns = λ q v. own_same j q (get_or gone q 0) _ refl (λ t. never (sym (g q v) ∙ t)) (D.owns q v);
        })
    drops_next (a_twin p u s a b) =
        let e = D.ahead j (omega arith) in
        found p u (subst (λ (k : ℕ). same k p ≡ true) e s) (wins (get_or order j 0) p) (ap (λ (k : ℕ). wins k p) (sym e)) a b

  pub drops_all : {gone₀ gone order : List ℕ} {n : ℕ} → DropsTo gone₀ gone order n → TwinsDropped same wins m gone order₀ n order
  drops_all D = record { kepts = D.kepts; owns = D.owns }

-- no two own groups read the same
pub one_twin : (words : ℕ → List ℤ) (m : ℕ) → ((p q : ℕ) → p < m → q < m → words p ≡ words q → p ≡ q) → (ws : List ℤ) (p q : ℕ) → p < m → q < m → same_words ws (words p) ≡ true → same_words ws (words q) ≡ true → p ≡ q
one_twin words m apart ws p q u v s t = apart p q u v (sym (same_words_true ws (words p) s) ∙ same_words_true ws (words q) t)

-- a route of the same length will do
pub asks_for : {nx : List ℕ} {e : ℕ} {route route' : List ℕ} → RouteAsks nx e route → length route' ≡ length route → RouteAsks nx e route'
asks_for a l = record { h = a.h; used = a.used; hs = a.hs; xs = a.xs; bs = a.bs; decoded = a.decoded; low = a.low; nexts = a.nexts; room = let z = a.room in omega arith }

pub kept_asks_for : {tk rs : List ℕ} {ls : List ℤ} {b used : ℕ} {nx hs ns : List ℕ} {xs : List Float} {route route' : List ℕ} {i i' : ℕ} → i' ≡ i → length route' ≡ length route → KeptAsks tk rs ls b used nx hs ns xs route i → KeptAsks tk rs ls b used nx hs ns xs route' i'
kept_asks_for e l K = rw e (record { room = K.room; token = K.token; routed = asks_for K.routed l; tells = K.tells; hash = K.hash })

module _ {tk rs : List ℕ} {ls : List ℤ} {b used : ℕ} {nx hs ns : List ℕ} {xs : List Float} {route : List ℕ} {i : ℕ} (K : KeptAsks tk rs ls b used nx hs ns xs route i) {k : KeptReading} (e : k ≡ kept_read_in hs ns xs i) where
  pub route_asks : RouteAsks nx k.entry route
  route_asks = subst (λ (k : KeptReading). RouteAsks nx k.entry route) (sym e) K.routed

  module _ {route' : List ℕ} {n : ℕ} (R : RouteIs nx k.entry route' n) where
    words_are : back_along rs ls (take n route') (link_at tk b k.state) ≡ kept_words rs ls tk b nx (kept_read_in hs ns xs i)
    words_are =
        ap (λ (k : KeptReading). back_along rs ls (take n route') (link_at tk b k.state)) e ∙ K.tells.is route' n (subst (λ (k : KeptReading). RouteIs nx k.entry route' n) e R)

    pub twin_asks : {sm fs : List Float} {own : List ℕ} {m : ℕ} {ks ps : List ℕ} → OwnsAsk tk sm fs rs ls b used own m ks ps → TwinAsks tk rs ls b used own m ks ps k (take n route')
    twin_asks O =
        record {
          side = O.side;
          walk = O.walk;
          own_long = O.own_long;
          few = O.few;
          owns = O.tokens;
          kept = subst (λ (k : KeptReading). TokenAsks tk b used k.state) (sym e) K.token;
          sorted = O.sorted;
          hash = ap (λ (k : KeptReading). k.hash) e ∙ K.hash ∙ ap hash_words (sym words_are);
        }

    pub twin_told : {words : ℕ → List ℤ} {m : ℕ} {p : Option ℕ} → TwinIs words m (back_along rs ls (take n route') (link_at tk b k.state)) p → TwinIs words m (kept_words rs ls tk b nx (kept_read_in hs ns xs i)) p
    twin_told {words} {m} {p} T = subst (λ (ws : List ℤ). TwinIs words m ws p) words_are T
