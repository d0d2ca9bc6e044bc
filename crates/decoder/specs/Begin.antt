-- A start. Assumes nothing.
use Rattle.std.specs.Prelude.{◌≡◌, ℕ, zero, suc, ◌+◌, ◌-◌, ◌*◌, ◌≤◌, ◌<◌, Bool, ltb, length, set, replicate, Float, Result, Ok, Err}
use Rattle.std.proofs.Math.Path.{refl, ap, subst}
use Rattle.std.proofs.Common.{sym, ◌∙◌, arith, length-set}
use Rattle.std.proofs.Math.Bool.{true, false}
use Rattle.std.proofs.Math.Option.{Option, none, some}
use mathlib.Core.List.{List, []}
use Rattle.std.proofs.Math.Dec.{eqb}
use Rattle.std.proofs.lemmas.List.{length-replicate}
use borrow.Author.Tests.{eq-eqb, ne_eqb}
use Rattle.model.specs.Basics.{0f, nowhere, over, Outcome, ok, refused, ◌>>=◌}
use Rattle.model.specs.Graph.{Graph, no_state, states}
use Rattle.model.specs.Path.{empty_path, Token, paths, Limits}
use Rattle.model.specs.Cutoff.{Config as Settings}
use Rattle.model.specs.Arrive.{Here, Work as ModelWork}
use Rattle.model.specs.Passes.{State, no_tokens, dropped, done, during, start_token, start_work, nonemitting_pass, start, fair_margin}
use Rattle.model.specs.Calls.{start_call, said, call, Said}
use Rattle.model.specs.Accepted.{Ok as Accepted}
use Rattle.copy_laws.specs.Tables.{vacant}
use Rattle.copy_laws.proofs.Tables.{vacant_le}
use Rattle.copy_laws.specs.States.{Standing}
use Rattle.copy_laws.proofs.States.{standing_none, start_inside, start_standing}
use Rattle.tokens.specs.declared.Token.{Token as Stored}
use Rattle.tokens.specs.Layout.{place_in, requeued_at, TokenPut, Cleared}
use Rattle.joins.specs.Model.{margin_of}
use Rattle.records.specs.History.{History, no_history, tag}
use Rattle.records.specs.Stands.{Stands}
use Rattle.records.specs.Layout.{Store}
use Rattle.stores.specs.Shown.{TokenIs, Shown, is_none}
use Rattle.stores.specs.Tables.{shown_put, shown_aside, shown_cleared, shown_uncleared}
use Rattle.stores.specs.Rep.{Lent, lent, Lens, store_of, room_as}
use Rattle.refusals.specs.declared.Place.TheVariants.{Nowhere}
use Rattle.arrivals.specs.Stood.{Stood}
use Rattle.arcs.specs.declared.Work.{Work}
use Rattle.arcs.specs.Passed.{Ground, going_of}
use Rattle.arcs.specs.State.{Tables}
use Rattle.arcs.specs.Ended.{EndedBy, ended_refused, ended_on}
use Rattle.nonemitting.specs.Pass.{NonemittingGiven, NonemittingIs}
use Rattle.decoder.specs.declared.Decoder.{Decoder}
use Rattle.decoder.specs.declared.Called.{Called}
use Rattle.decoder.specs.declared.Called.TheVariants.{Done, Refused}
use Rattle.decoder.specs.Represents.{margin_in, setting_of, Fixed, Idle, Represents, CalledBy, called_done, called_refused}
use Rattle.refusals.specs.declared.Reason.{Reason}
use Rattle.refusals.specs.Numbers.{number_of, refused_at}

-- ---- the values

abbrev pub moved_to : Decoder → (side frames seq used : ℕ) → Decoder
moved_to d side frames seq used = record { graph = d.graph; config = d.config; cap = d.cap; keeps = d.keeps; margin = d.margin; side = side; frames = frames; seq = seq; used = used }

abbrev pub emptied_of : Decoder → Decoder
emptied_of d = moved_to d d.side 0 0 0

abbrev pub turned_of : Decoder → (frames : ℕ) → Work → Decoder
turned_of d n w = moved_to d (1 - d.side) n w.seq w.used

abbrev pub start_work_of : Decoder → Work
start_work_of d = record { used = 0; seq = 0; link = 0; cutoff = d.config.beam; queued = 0 }

-- both tables emptied
pub record BothCleared (tk tk' : List ℕ) (n : ℕ) : Type 0 where
  pub middle : List ℕ
  pub first : Cleared tk middle 0 n
  pub second : Cleared middle tk' 1 n

-- a start is given a decoder with a fair margin; of its tokens and records nothing is asked
pub record BeginGiven (g : Graph) (c : Settings) (l : Limits) (T : Tables) (m : Lent) (eps : List ℕ) (places : ℕ) (d : Decoder) (st : State) : Type 0 where
  pub fixed : Fixed g c l T m eps places d
  pub fair : fair_margin st.margin ≡ true
  pub margin_is : st.margin ≡ margin_of (margin_in d)
  pub idle : Idle d

pub record BeginAsks (T : Tables) (m : Lent) (eps : List ℕ) (places : ℕ) (d : Decoder) : Type 0 where
  pub g : Graph
  pub c : Settings
  pub l : Limits
  pub st : State
  pub is : BeginGiven g c l T m eps places d st

abbrev pub BeginIs : (T : Tables) (m m' : Lent) (eps : List ℕ) (places : ℕ) → Decoder → Called → Type 0
BeginIs T m m' eps places d r = (g : Graph) (c : Settings) (l : Limits) (st : State) → BeginGiven g c l T m eps places d st → CalledBy g c l T m' eps places (call g c l start_call st) r

-- ---- stores without tokens

-- no records stand for anything but the empty path
abbrev empty : ℕ → History
empty k = no_history

no_records : (s : Store) → Stands s 0 empty
no_records s = record { none = refl; each = λ k l. absurd (omega arith); ascends = λ j k a b. absurd (omega arith) }

pub none_newer : (n : ℕ) → tag no_history ≤ n
unfolding tag
none_newer n = omega arith

no_paths : (n : ℕ) → paths (replicate n none) ≡ []
no_paths zero = refl
no_paths (suc n) = no_paths n

both_none : {tk tk' : List ℕ} {n : ℕ} → BothCleared tk tk' n → (sm : List Float) (b : ℕ) → b ≤ 1 → Shown empty 0 tk' sm b n (replicate n none)
both_none B sm zero l = shown_uncleared B.second (omega arith) (shown_cleared B.first)
both_none B sm (suc zero) l = shown_cleared B.second
both_none B sm (suc (suc b)) l = absurd (omega arith)

sides_differ : (s r : ℕ) → place_in 0 s ≡ place_in 1 r → ⊥
sides_differ s r e = omega arith

none_requeued : {tk tk' : List ℕ} {n : ℕ} → BothCleared tk tk' n → (b s : ℕ) → b ≤ 1 → s < n → requeued_at tk' (place_in b s) ≡ 0
none_requeued B zero s l k = B.second.requeued (place_in 0 s) (sides_differ s) ∙ B.first.fresh s k
none_requeued B (suc zero) s l k = B.second.fresh s k
none_requeued B (suc (suc b)) s l k = absurd (omega arith)

-- ---- the start token

abbrev pub first_token : Stored
first_token = record { cost = 0f; graph = 0f; link = 0; phone = 0; seq = 0 }

first_is : TokenIs empty 0 first_token start_token
unfolding start_token
first_is = record { cost = refl; graph = refl; link = is_none empty 0 refl; phone = refl; seq = refl }

-- a decoder that stands on the other side: the same table
pub back_side : (b : ℕ) → b ≤ 1 → 1 - (1 - b) ≡ b
back_side zero l = refl
back_side (suc zero) l = refl
back_side (suc (suc b)) l = absurd (omega arith)

pub other_side : (b : ℕ) → b ≤ 1 → 1 - b ≤ 1
other_side b l = omega arith

-- what does not change is so of other stores of the same lengths, and of a decoder that has moved on
pub fixed_moved : {g : Graph} {c : Settings} {l : Limits} {T : Tables} {m : Lent} {eps : List ℕ} {places : ℕ} {d : Decoder} → Fixed g c l T m eps places d → (m' : Lent) → Lens m m' → (side frames seq used : ℕ) → side ≤ 1 → Fixed g c l T m' eps places (moved_to d side frames seq used)
fixed_moved {m = m} f m' L side frames seq used low =
    record {
      good = f.good;
      floats = f.floats;
      of = f.of;
      states_are = f.states_are;
      arcs_are = f.arcs_are;
      start_is = f.start_is;
      pdfs_are = f.pdfs_are;
      config_is = f.config_is;
      limits = f.limits;
      small = f.small;
      side = low;
      stores = record {
        tokens = let z = f.stores.tokens in let k = L.tokens in omega arith;
        sums = let z = f.stores.sums in let k = L.sums in omega arith;
        store = room_as m.records m'.records m.labels m'.labels m.gaps m'.gaps L.records L.labels L.gaps f.stores.store;
      };
      eps_long = f.eps_long;
      eps_is = f.eps_is;
    }

module _ {g : Graph} {c : Settings} {l : Limits} {T : Tables} {m : Lent} {eps : List ℕ} {places : ℕ} {d : Decoder} {st : State} (G : BeginGiven g c l T m eps places d st) where
  abbrev d₀ : Decoder
  d₀ = emptied_of d

  few : d.graph.states ≤ 65535
  few = let z = G.fixed.good.shape.states_few in let e = G.fixed.states_are in omega arith

  start_low : (d.graph.start ≡ no_state → ⊥) → d.graph.start < d.graph.states
  start_low somewhere =
      let z = start_inside g G.fixed.good (ne_eqb g.start no_state (λ e. somewhere (G.fixed.start_is ∙ e))) in let a = G.fixed.start_is in let b = G.fixed.states_are in omega arith

  -- what safety asks of the start token
  pub put_asks : (d.graph.start ≡ no_state → ⊥) → (tk : List ℕ) → length tk ≡ length m.tokens
      → (d.side ≤ 1) × (d.graph.start * 8 + 8 ≤ length tk) × (d.graph.start * 4 + 4 ≤ length m.sums)
  put_asks somewhere tk e =
      let l = start_low somewhere in
      (G.fixed.side, let z = G.fixed.stores.tokens in omega arith, let z = G.fixed.stores.sums in omega arith)

  fixed_as : (m' : Lent) → Lens m m' → (side frames seq used : ℕ) → side ≤ 1 → Fixed g c l T m' eps places (moved_to d side frames seq used)
  fixed_as m' = fixed_moved G.fixed m'

  none_are : no_tokens g ≡ replicate d.graph.states none
  none_are = ap (λ (n : ℕ). replicate n none) (sym G.fixed.states_are)

  -- no tokens, no records: what a start begins with, and what a refused one leaves
  emptied_is : (m' : Lent) → Lens m m' → (tk : List ℕ) → BothCleared tk m'.tokens d.graph.states → Represents g c l T m' eps places d₀ [] (dropped g st)
  unfolding dropped
  emptied_is m' L tk B =
      record {
        fixed = fixed_as m' L d.side 0 0 0 G.fixed.side;
        standing = standing_none g st.margin G.fair;
        margin_is = G.margin_is;
        idle = G.idle;
        frames_are = refl;
        seq_is = refl;
        fits = omega arith;
        h = empty;
        stands = no_records (store_of m');
        finished = subst (Shown empty 0 m'.tokens m'.sums (1 - d.side) d.graph.states) (sym none_are) (both_none B m'.sums (1 - d.side) (other_side d.side G.fixed.side));
        newest = none_newer 0;
      }

  -- ---- a graph with no start

  nowhere_is : (m' : Lent) → Lens m m' → BothCleared m.tokens m'.tokens d.graph.states → d.graph.start ≡ no_state → CalledBy g c l T m' eps places (call g c l start_call st) (Done d₀)
  unfolding call start dropped
  nowhere_is m' L B e =
      let test : eqb g.start no_state ≡ true = eq-eqb g.start no_state (sym G.fixed.start_is ∙ e) in
      subst (λ (s : Said). CalledBy g c l T m' eps places s (Done d₀)) (sym (ap (λ (b : Bool). said (dropped g st) nowhere (elim b as (λ z. Outcome State) [ true ↦ ok (dropped g st) | false ↦ nonemitting_pass (during g l st 0 []) (start_work g c) >>= λ v. ok (done st 0 v) ])) test))
      (called_done [] refl (emptied_is m' L m.tokens B))

  pub begins_nowhere : (m' : Lent) → Lens m m' → BothCleared m.tokens m'.tokens d.graph.states → d.graph.start ≡ no_state → (d' : Decoder) → d' ≡ d₀ → CalledBy g c l T m' eps places (call g c l start_call st) (Done d')
  begins_nowhere m' L B e d' q = subst (λ (z : Decoder). CalledBy g c l T m' eps places (call g c l start_call st) (Done z)) (sym q) (nowhere_is m' L B e)

  -- ---- the pass

  module _ (somewhere : d.graph.start ≡ no_state → ⊥) (tk₁ tk₂ : List ℕ) (sm₂ : List Float) (B : BothCleared m.tokens tk₁ d.graph.states) (lt : length tk₂ ≡ length m.tokens) (ls : length sm₂ ≡ length m.sums)
      (P : TokenPut tk₁ tk₂ m.sums sm₂ (place_in d.side d.graph.start) first_token) (qs : List ℕ) (room : length qs ≡ places) where
    abbrev m₂ : Lent
    m₂ = lent tk₂ sm₂ m.records m.labels m.gaps

    abbrev H : Here
    H = during g l st 0 []

    low : d.graph.start < d.graph.states
    low = start_low somewhere

    put_table : set (replicate d.graph.states none) d.graph.start (some start_token) ≡ (start_work g c).table
    put_table = λ k. set (sym none_are k) (G.fixed.start_is k) (some start_token)

    few_vacant : vacant (start_work g c).table ≤ 65535
    few_vacant =
        let a = vacant_le (start_work g c).table in
        let b = length-set (no_tokens g) g.start (some start_token) in
        let e = length-replicate {A = Option Token} (states g) none in
        let f = few in
        let h = G.fixed.states_are in
        omega arith

    pub ground : Ground (setting_of d₀) H (replicate d.graph.states none) eps (length qs)
    ground =
        let f = G.fixed in
        record {
          pass = record {
            side = f.side;
            few = few;
            small = f.small;
            before = sym (no_paths d.graph.states);
            frame = refl;
            margin = G.margin_is;
            full = f.limits.full;
          };
          good = f.good;
          states = f.states_are;
          eps_long = f.eps_long;
          eps_is = f.eps_is;
          queue = λ k. ap (over k) f.limits.queue ∙ ap (λ (n : ℕ). ltb n k) (sym room);
        }

    pub stood : Stood (setting_of d₀) m₂ (going_of (start_work_of d)) (replicate d.graph.states none) empty_path (start_work g c)
    stood =
        record {
          places = record { tokens = let z = G.fixed.stores.tokens in omega arith; sums = let z = G.fixed.stores.sums in omega arith; store = G.fixed.stores.store };
          fits = omega arith;
          rep = record {
            h = empty;
            stands = no_records (store_of m₂);
            finished = shown_aside d.side d.graph.start G.fixed.side P (both_none B m.sums (1 - d.side) (other_side d.side G.fixed.side));
            progress = subst (Shown empty 0 tk₂ sm₂ d.side d.graph.states) put_table (shown_put low P first_is (both_none B m.sums d.side G.fixed.side));
            hand = is_none empty 0 refl;
            newest = none_newer 0;
          };
          seq = refl;
          seqs = let z = few_vacant in omega arith;
          requeued = λ s k. sym (ap (ltb 0) (P.requeued (place_in d.side s) ∙ none_requeued B d.side s G.fixed.side k));
        }

    abbrev pub pass_given : NonemittingGiven (setting_of d₀) m₂ qs eps T (start_work_of d)
    pass_given =
        record {
          H = H;
          w = start_work g c;
          done = replicate d.graph.states none;
          p = empty_path;
          ground = ground;
          at = record { stood = stood; cutoff = sym (ap (λ (x : Settings). x.beam) G.fixed.config_is); fits = omega arith; queue = refl };
          of = G.fixed.of;
          none_queued = refl;
          none_requeued = refl;
        }

    start_is : start g c l st ≡ (nonemitting_pass H (start_work g c) >>= λ v. ok (done st 0 v))
    unfolding start
    start_is =
        ap (λ (b : Bool). elim b as (λ z. Outcome State) [ true ↦ ok (dropped g st) | false ↦ nonemitting_pass H (start_work g c) >>= λ v. ok (done st 0 v) ])
        (ne_eqb g.start no_state (λ q. somewhere (G.fixed.start_is ∙ q)))

    module _ (m' : Lent) (L : Lens m m') (qs' : List ℕ) (r : Result Work Reason) (N : NonemittingIs (setting_of d₀) m₂ m' qs qs' eps T (start_work_of d) r) where
      abbrev By : Outcome ModelWork → Result Work Reason → Type 0
      By = EndedBy (setting_of d₀) m' qs' (replicate d.graph.states none)

      ends : By (nonemitting_pass H (start_work g c)) r
      ends = (N pass_given).ends

      pub begins_on : (x : Work) → r ≡ Ok x → (d' : Decoder) → d' ≡ turned_of d 0 x → CalledBy g c l T m' eps places (call g c l start_call st) (Done d')
      unfolding call
      begins_on x e d' z = subst (λ (y : Decoder). CalledBy g c l T m' eps places (call g c l start_call st) (Done y)) (sym z) (go (nonemitting_pass H (start_work g c)) refl (subst (By _) e ends))
        where
          go : (o : Outcome ModelWork) → nonemitting_pass H (start_work g c) ≡ o → By o (Ok x) → CalledBy g c l T m' eps places (said (dropped g st) nowhere (start g c l st)) (Done (turned_of d₀ 0 x))
          go o q (ended_on {w = v} p A) =
              let begun : start g c l st ≡ ok (done st 0 v) = start_is ∙ ap (λ (o : Outcome ModelWork). o >>= λ v. ok (done st 0 v)) q in
              subst (λ (o : Outcome State). CalledBy g c l T m' eps places (said (dropped g st) nowhere o) (Done (turned_of d₀ 0 x))) (sym begun)
              (called_done [] refl
              (record {
                fixed = fixed_as m' L (1 - d.side) 0 x.seq x.used (other_side d.side G.fixed.side);
                standing = subst (Accepted (Standing g [])) begun (start_standing g G.fixed.good G.fixed.floats c l st G.fair);
                margin_is = G.margin_is;
                idle = G.idle;
                frames_are = refl;
                seq_is = A.stood.seq;
                fits = A.stood.fits;
                h = A.stood.rep.h;
                stands = A.stood.rep.stands;
                finished = subst (λ (b : ℕ). Shown A.stood.rep.h x.used m'.tokens m'.sums b d.graph.states v.table) (sym (back_side d.side G.fixed.side)) A.stood.rep.progress;
                newest = A.stood.rep.newest;
              }))

      pub begins_refused : (e : Reason) → r ≡ Err e → (tk : List ℕ) → length tk ≡ length m'.tokens → BothCleared m'.tokens tk d.graph.states
          → (d' : Decoder) → d' ≡ d₀ → CalledBy g c l T (lent tk m'.sums m'.records m'.labels m'.gaps) eps places (call g c l start_call st) (Refused d' (refused_at e Nowhere))
      unfolding call
      begins_refused e is tk k B' d' z =
          subst (λ (y : Decoder). CalledBy g c l T (lent tk m'.sums m'.records m'.labels m'.gaps) eps places (call g c l start_call st) (Refused y (refused_at e Nowhere))) (sym z)
          (go (nonemitting_pass H (start_work g c)) refl (subst (By _) is ends))
        where
          go : (o : Outcome ModelWork) → nonemitting_pass H (start_work g c) ≡ o → By o (Err e) → CalledBy g c l T (lent tk m'.sums m'.records m'.labels m'.gaps) eps places (said (dropped g st) nowhere (start g c l st)) (Refused d₀ (refused_at e Nowhere))
          go o q (ended_refused j old) =
              let begun : start g c l st ≡ refused (number_of e) = start_is ∙ ap (λ (o : Outcome ModelWork). o >>= λ v. ok (done st 0 v)) q in
              subst (λ (o : Outcome State). CalledBy g c l T (lent tk m'.sums m'.records m'.labels m'.gaps) eps places (said (dropped g st) nowhere o) (Refused d₀ (refused_at e Nowhere))) (sym begun)
              (called_refused [] refl
              (emptied_is (lent tk m'.sums m'.records m'.labels m'.gaps) (record { tokens = k ∙ L.tokens; sums = L.sums; records = L.records; labels = L.labels; gaps = L.gaps }) m'.tokens B'))
