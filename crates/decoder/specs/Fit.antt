-- The fitter. Assumes nothing.
use Rattle.std.specs.Prelude.{◌≡◌, refl, ℕ, ◌+◌, ◌-◌, ◌/◌, ◌≤◌, Bool, true, false, ◌||◌, List, [], ◌∷◌, ◌++◌, T, ltb, length, get_or, drop, Float, Result, Ok, Err}
use Rattle.std.proofs.Common.{sym, ap, ◌∙◌, subst, arith}
use Rattle.std.proofs.Math.Option.{Option, none, some}
use mathlib.Core.List.Memᴰ.{head as here}
use mathlib.Core.List.Memᴰ.{tail as there}
use Rattle.std.specs.Float.{binary32, nan}
use Rattle.std.specs.Float.Ieee.{fits}
use Rattle.lists.specs.Members.{member_at}
use Rattle.lists.specs.Tests.{or_neither}
use Rattle.model.specs.Basics.{0f, Refusal as ModelRefusal}
use Rattle.model.specs.Graph.{Graph, states, has_eps, runs_from0, check_graph}
use Rattle.model.specs.Checked.{GoodGraph}
use Rattle.model.proofs.Checked.{checked}
use Rattle.model.specs.Path.{Limits}
use Rattle.model.specs.Passes.{fitted, check_fit}
use Rattle.copy_laws.specs.Sums.{All32, Floats32}
use Rattle.cutoff.specs.declared.Config.{Config}
use Rattle.cutoff.specs.Costs.{config_of}
use Rattle.stores.specs.Rep.{Lent, Lens, Places}
use Rattle.fst.specs.declared.Graph.{Graph as Value}
use Rattle.refusals.specs.declared.Refusal.{Refusal}
use Rattle.fst.specs.Answer.{build_of, built_of, value_of, refusal_of, was_accepted}
use Rattle.fst.specs.Epsilons.{EpsFilled, eps_bits, eps_at, bit}
use Rattle.checks.specs.declared.Lengths.{Lengths}
use Rattle.checks.specs.Fit.{least_each, record_places, places_of, config_wrong, stores_wrong, config_refused, stores_refused, fit_accepted, Roomy, roomy}
use Rattle.arcs.specs.declared.Pass.TheVariants.{Nonemitting}
use Rattle.arcs.specs.State.{Tables, TablesOf}
use Rattle.decoder.specs.declared.Decoder.{Decoder}
use Rattle.decoder.specs.declared.Called.{Called}
use Rattle.decoder.specs.Represents.{LimitsAre, limits_by, limits_by_lem}
use Rattle.decoder.specs.Promises.{Behind, unfit, FitIs, fit_graph, fit_unfit, fit_called}
use Rattle.decoder.specs.Begin.{BeginGiven, BeginAsks, BeginIs}

abbrev pub new_decoder : Value → Config → (cap : ℕ) → Decoder
new_decoder v c cap = record { graph = v; config = c; cap = cap; keeps = false; margin = 0f; side = 0; frames = 0; seq = 0; used = 0 }

-- what is lent to a fitting
abbrev pub lengths_of : Lent → (eps : List ℕ) → (scratch : List Float) → (keys places own heads list lists route history_keys history_skips kept_hashes kept_links : List ℕ) → (kept_sums : List Float) → (order : List ℕ) → Lengths
lengths_of m eps sc ks ps os hs ls lists route hk hc kh kl kx order =
    record {
      tokens = length m.tokens;
      sums = length m.sums;
      eps = length eps;
      scratch = length sc;
      keys = length ks;
      places = length ps;
      own = length os;
      heads = length hs;
      list = length ls;
      records = length m.records;
      labels = length m.labels;
      gaps = length m.gaps;
      lists = length lists;
      route = length route;
      history_keys = length hk;
      history_skips = length hc;
      kept_hashes = length kh;
      kept_links = length kl;
      kept_sums = length kx;
      order = length order;
    }

-- the lengths of these stores are among those that are judged
pub record Measures (l : Lengths) (m : Lent) (eps : List ℕ) : Type 0 where
  pub tokens : l.tokens ≡ length m.tokens
  pub sums : l.sums ≡ length m.sums
  pub records : l.records ≡ length m.records
  pub labels : l.labels ≡ length m.labels
  pub gaps : l.gaps ≡ length m.gaps
  pub eps_are : l.eps ≡ length eps

-- what the code knows of a slice of f32 values
pub all_known : (xs : List Float) → ((i : ℕ) → T (fits binary32 (get_or xs i nan))) → All32 xs
all_known xs k x m = let (i, l, e) = member_at xs x nan m in subst (λ (y : Float). T (fits binary32 y)) e (k i)

bit_test : (b : Bool) → ltb 0 (bit b) ≡ b
bit_test true = refl
bit_test false = refl

-- ---- a graph that is refused

pub graph_refused : (g : Graph) (T : Tables) (m : Lent) (l : Lengths) (qs eps : List ℕ) (c : Config) (f : Refusal) → Err f ≡ build_of g → FitIs g T m m l qs qs eps eps c (Err f)
graph_refused g T m l qs eps c f e = go (check_graph g) refl e
  where
    go : (o : Option ModelRefusal) → check_graph g ≡ o → Err f ≡ built_of g o → FitIs g T m m l qs qs eps eps c (Err f)
    go none q b = let z : ◌≡◌ {A = ℕ} 0 1 = cc in absurd (omega arith)
    go (some w) q b = let z : f ≡ refusal_of w = cc in subst (λ (y : Refusal). FitIs g T m m l qs qs eps eps c (Err y)) (sym z) (fit_graph w q refl refl refl)

-- ---- a graph that is built

module _ (g : Graph) (T : Tables) (m : Lent) (l : Lengths) (qs eps : List ℕ) (c : Config) (v : Value) (built : Ok v ≡ build_of g) where
  accepted : check_graph g ≡ none
  accepted = (was_accepted g v built).0

  value_is : v ≡ value_of g
  value_is = (was_accepted g v built).1

  good : GoodGraph g
  good = checked g accepted

  states_are : v.states ≡ states g
  states_are = ap (λ (x : Value). x.states) value_is

  pub fit_refused : (config_wrong c || stores_wrong v.states l) ≡ true → (f : Refusal) → f ≡ unfit → FitIs g T m m l qs qs eps eps c (Err f)
  fit_refused e f is = subst (λ (y : Refusal). FitIs g T m m l qs qs eps eps c (Err y)) (sym is) (fit_unfit accepted (go (config_wrong c) refl (ap (λ (n : ℕ). config_wrong c || stores_wrong n l) (sym states_are) ∙ e)) refl refl refl)
    where
      go : (b : Bool) → config_wrong c ≡ b → (b || stores_wrong (states g) l) ≡ true → check_fit g (config_of c) (places_of (states g) l) ≡ some 6
      go true q d = config_refused g c l q
      go false q d = stores_refused g c l q d

  module _ (measured : Measures l m eps) (fair : (config_wrong c || stores_wrong v.states l) ≡ false) where
    room_for : Roomy v.states l
    room_for = roomy v.states l (or_neither (config_wrong c) (stores_wrong v.states l) fair).1

    eps_long : v.states ≤ length eps
    eps_long = let z = room_for.per_state l.eps (there (there (here refl))) in let k = measured.eps_are in omega arith

    -- what filling the table of epsilon states asks
    pub fill_asks : (runs_from0 (length g.ilabels) g.offsets ≡ true) × (length g.offsets ≤ length eps + 1)
    fill_asks = let sh = good.shape in (sh.rising, let z = sh.offsets in let e = states_are in let k = eps_long in omega arith)

    pub few_records : record_places l ≤ 1_048_576
    few_records = room_for.records_few

    places : Places v.states (record_places l) m
    places =
        let R = room_for in
        let x = R.per_state (l.tokens / 8) (here refl) in
        let y = R.per_state (l.sums / 4) (there (here refl)) in
        let p = least_each (l.records / 8) (l.labels / 2 ∷ l.gaps / 2 ∷ []) in
        let p0 = p (l.records / 8) (here refl) in
        let p1 = p (l.labels / 2) (there (here refl)) in
        let p2 = p (l.gaps / 2) (there (there (here refl))) in
        let M = measured in
        record { tokens = omega arith; sums = omega arith; store = record { records = omega arith; labels = omega arith; gaps = omega arith } }

    module _ (of : TablesOf g Nonemitting T) (floats : Floats32 g) (eps' : List ℕ) (long : length eps' ≡ length eps) (filled : EpsFilled g.offsets g.ilabels eps eps') where
      abbrev new : Decoder
      new = new_decoder v c (record_places l)

      begin_given : (lim : Limits) → LimitsAre lim (record_places l) (length qs) → BeginGiven g (config_of c) lim T m eps' (length qs) new (fitted g)
      begin_given lim L =
          record {
            fixed = record {
              good = good;
              floats = floats;
              of = of;
              states_are = states_are;
              arcs_are = ap (λ (x : Value). x.arcs) value_is;
              start_is = ap (λ (x : Value). x.start) value_is;
              pdfs_are = ap (λ (x : Value). x.pdfs) value_is;
              config_is = refl;
              limits = L;
              small = few_records;
              side = omega arith;
              stores = places;
              eps_long = let z = eps_long in omega arith;
              eps_is = λ s low. ap (ltb 0) (eps_at g eps eps' filled s (let z = good.shape.offsets in let e = states_are in omega arith)) ∙ bit_test (has_eps g s);
            };
            fair = refl;
            margin_is = refl;
            idle = λ e. refl;
          }

      -- the new decoder is one that a start can be given
      pub begin_asks : (d : Decoder) → d ≡ new → BeginAsks T m eps' (length qs) d
      begin_asks d e = subst (BeginAsks T m eps' (length qs)) (sym e) (record { g = g; c = config_of c; l = limits_by (record_places l) (length qs); st = fitted g; is = begin_given (limits_by (record_places l) (length qs)) (limits_by_lem (record_places l) (length qs)) })

      eps_are : eps' ≡ eps_bits g (states g) ++ drop (states g) eps
      eps_are = let e : length g.offsets - 1 ≡ states g = let z = good.shape.offsets in omega arith in filled.filled g refl refl ∙ ap (λ (n : ℕ). eps_bits g n ++ drop n eps) e

      pub fit_called_lem : (d : Decoder) → d ≡ new → (m' : Lent) (qs' : List ℕ) (r : Called) → (BeginIs T m m' eps' (length qs) d r) × (Behind d.graph.states d.cap m m') → Lens m m' → length qs' ≡ length qs → (f : Result Called Refusal) → f ≡ Ok r → FitIs g T m m' l qs qs' eps eps' c f
      fit_called_lem d e m' qs' r (B, past) L long f q =
          subst (FitIs g T m m' l qs qs' eps eps' c) (sym q)
          (fit_called accepted (fit_accepted g c l no.0 no.1) (λ lim L. subst (λ (y : Decoder). BeginIs T m m' eps' (length qs) y r) e B g (config_of c) lim (fitted g) (begin_given lim L)) (record { stores = L; behind = behind; queue = record { same_length = long } }) eps_are)
        where
          no : (config_wrong c ≡ false) × (stores_wrong (states g) l ≡ false)
          no = or_neither (config_wrong c) (stores_wrong (states g) l) (ap (λ (n : ℕ). config_wrong c || stores_wrong n l) (sym states_are) ∙ fair)

          behind : Behind (states g) (record_places l) m m'
          behind = subst (λ (n : ℕ). Behind n (record_places l) m m') states_are (subst (λ (y : Decoder). Behind y.graph.states y.cap m m') e past)
