-- The arcs of one state as parts of the graph's tables. Assumes nothing.
use Rattle.std.specs.Prelude.{◌≡◌, refl, ℕ, suc, ◌+◌, ◌-◌, ◌≤◌, ◌<◌, ℤ, pos, length, take, drop, Float, Result}
use Rattle.std.proofs.Math.Path.{sym, ap}
use Rattle.std.proofs.Common.{ap₂, ◌∙◌, subst, arith}
use mathlib.Core.List.{List, map}
use Rattle.std.proofs.Math.ListN.{get_or}
use Rattle.lists.specs.Lists.{range}
use Rattle.lists.specs.Parts.{part_length, part_at, in_range, ranges_alike}
use Rattle.model.specs.Basics.{0f, Outcome}
use Rattle.model.specs.Graph.{Graph, Arc, states, arc_at, arcs_of}
use Rattle.model.specs.Checked.{GoodGraph, GoodArc}
use Rattle.model.specs.Path.{Token, Table}
use Rattle.model.specs.Arrive.{Here, Work as ModelWork, arrive_all}
use Rattle.tokens.specs.declared.Token.{Token as Stored}
use Rattle.stores.specs.Rep.{Lent}
use Rattle.arrivals.specs.declared.Setting.{Setting}
use Rattle.arcs.specs.declared.Pass.{Pass}
use Rattle.arcs.specs.declared.Work.{Work}
use Rattle.arcs.specs.Part.{pass_of, Part, part, PartOf, arc_in, arcs_from, Hears, SourceIs}
use Rattle.arcs.specs.Passed.{Ground, At, PassedBy}
use Rattle.arcs.specs.All.{AllGiven, AllIs}
use Rattle.refusals.specs.declared.Reason.{Reason}

-- the graph's tables as they are lent, with the frame
pub record Tables : Type 0 where
  pub offsets : List ℕ
  pub arcs : Part

abbrev pub tables : (offsets : List ℕ) (ilabels olabels : List ℤ) (weights : List Float) (nextstates : List ℕ) (tid2pdf tid2phone : List ℤ) (loglikes : List Float) → Tables
tables os il ol ws ns tp tf ls = record { offsets = os; arcs = part il ol ws ns tp tf ls }

pub record TablesOf (g : Graph) (pass : Pass) (T : Tables) : Type 0 where
  pub offsets : g.offsets ≡ T.offsets
  pub ilabels : g.ilabels ≡ T.arcs.ilabels
  pub olabels : g.olabels ≡ T.arcs.olabels
  pub weights : g.weights ≡ T.arcs.weights
  pub nextstates : g.nextstates ≡ T.arcs.nextstates
  pub pdfs : g.tid2pdf ≡ T.arcs.tid2pdf
  pub phones : g.tid2phone ≡ T.arcs.tid2phone
  pub heard : Hears pass g T.arcs.loglikes

pub record StateGiven (g : Setting) (m : Lent) (qs eps : List ℕ) (pass : Pass) (T : Tables) (x : Work) (source : Stored) (s : ℕ) : Type 0 where
  pub H : Here
  pub t : Token
  pub w : ModelWork
  pub done : Table
  pub ground : Ground g H done eps (length qs)
  pub at : At g m qs x done t.path w
  pub token : SourceIs source t
  pub of : TablesOf H.graph pass T
  pub low : s < g.states

-- what the definition gives
abbrev pub state_of : {g : Setting} {m : Lent} {qs eps : List ℕ} {pass : Pass} {T : Tables} {x : Work} {source : Stored} {s : ℕ} → StateGiven g m qs eps pass T x source s → Outcome ModelWork
state_of {pass = pass} {T = T} {s = s} G = arrive_all G.H (pass_of pass T.arcs.loglikes) G.t (arcs_of G.H.graph s) G.w

abbrev pub StateIs : (g : Setting) → (m m' : Lent) → (qs qs' eps : List ℕ) → Pass → Tables → Work → Stored → (s : ℕ) → Result Work Reason → Type 0
StateIs g m m' qs qs' eps pass T x source s r = (G : StateGiven g m qs eps pass T x source s) → PassedBy g m' qs' G.done G.t.path (state_of G) r

-- ---- the part of the tables that a state's arcs are

abbrev pub slice : {A : Type 0} → (a e : ℕ) → List A → List A
slice a e xs = take (e - a) (drop a xs)

abbrev pub part_of : Tables → (a e : ℕ) → Part
part_of T a e = let p = T.arcs in part (slice a e p.ilabels) (slice a e p.olabels) (slice a e p.weights) (slice a e p.nextstates) p.tid2pdf p.tid2phone p.loglikes

module _ (g : Graph) (pass : Pass) (T : Tables) (good : GoodGraph g) (of : TablesOf g pass T) (s : ℕ) (low : s < states g) where
  abbrev a : ℕ
  a = get_or T.offsets s 0

  abbrev e : ℕ
  e = get_or T.offsets (s + 1) 0

  next : s + 1 ≡ suc s
  next = omega arith

  begins : a ≡ get_or g.offsets s 0
  begins = ap (λ (xs : List ℕ). get_or xs s 0) (sym of.offsets)

  ends : e ≡ get_or g.offsets (suc s) 0
  ends = ap₂ (λ (xs : List ℕ) (k : ℕ). get_or xs k 0) (sym of.offsets) next

  pub rises : a ≤ e
  rises = let k = good.runs_on s low in let x = begins in let y = ends in omega arith

  fits : e ≤ length g.ilabels
  fits = let k = good.runs_to (suc s) in let y = ends in omega arith

  pub inside : (e ≤ length T.arcs.ilabels) × (e ≤ length T.arcs.olabels) × (e ≤ length T.arcs.weights) × (e ≤ length T.arcs.nextstates)
  inside =
      let k = fits in
      let sh = good.shape in
      let i = ap length of.ilabels in
      let o = ap length of.olabels in
      let w = ap length of.weights in
      let n = ap length of.nextstates in
      (omega arith, let z = sh.olabels in omega arith, let z = sh.weights in omega arith, let z = sh.nextstates in omega arith)

  pub two_offsets : s + 1 < length T.offsets
  two_offsets = let z = good.shape.offsets in let o = ap length of.offsets in omega arith

  long : {A : Type 0} (xs : List A) → e ≤ length xs → length (slice a e xs) ≡ e - a
  long xs l = part_length xs a e (length xs) refl rises l

  arc_alike : (i : ℕ) → i < e - a → arc_in (part_of T a e) s (0 + i) ≡ arc_at g s (a + i)
  unfolding arc_in arc_at
  arc_alike i l =
      λ k. record {
        source = s;
        ilabel = (part_at T.arcs.ilabels a (e - a) i (pos 0) l ∙ ap (λ (xs : List ℤ). get_or xs (a + i) (pos 0)) (sym of.ilabels)) k;
        olabel = (part_at T.arcs.olabels a (e - a) i (pos 0) l ∙ ap (λ (xs : List ℤ). get_or xs (a + i) (pos 0)) (sym of.olabels)) k;
        weight = (part_at T.arcs.weights a (e - a) i 0f l ∙ ap (λ (xs : List Float). get_or xs (a + i) 0f) (sym of.weights)) k;
        target = (part_at T.arcs.nextstates a (e - a) i 0 l ∙ ap (λ (xs : List ℕ). get_or xs (a + i) 0) (sym of.nextstates)) k;
      }

  arcs_by_lem : arcs_of g s ≡ map (arc_at g s) (range a (e - a))
  unfolding arcs_of
  arcs_by_lem = sym (ap₂ (λ (x y : ℕ). map (arc_at g s) (range x (y - x))) begins ends)

  pub arcs_are : arcs_of g s ≡ arcs_from (part_of T a e) s 0
  arcs_are =
      let n : e - a ≡ length (slice a e T.arcs.ilabels) - 0 = let z = long T.arcs.ilabels inside.0 in omega arith in
      arcs_by_lem ∙ sym (ranges_alike (arc_in (part_of T a e) s) (arc_at g s) 0 a (e - a) arc_alike) ∙ ap (λ (k : ℕ). map (arc_in (part_of T a e) s) (range 0 k)) n

  pub part_of_lem : PartOf g pass (part_of T a e) s
  part_of_lem =
      record {
        olabels = long T.arcs.olabels inside.1 ∙ sym (long T.arcs.ilabels inside.0);
        weights = long T.arcs.weights inside.2 ∙ sym (long T.arcs.ilabels inside.0);
        nextstates = long T.arcs.nextstates inside.3 ∙ sym (long T.arcs.ilabels inside.0);
        pdfs = of.pdfs;
        phones = of.phones;
        heard = of.heard;
        good = λ i l. sound i (let z = long T.arcs.ilabels inside.0 in omega arith);
      }
    where
      sound : (i : ℕ) → i < e - a → GoodArc g (arc_in (part_of T a e) s i)
      sound i l =
          let same : 0 + i ≡ i = omega arith in
          subst (λ (j : ℕ). GoodArc g (arc_in (part_of T a e) s j)) same (subst (GoodArc g) (sym (arc_alike i l)) (good.arc s (arc_at g s (a + i)) (rw arcs_by_lem (in_range (arc_at g s) a (e - a) i l))))

-- ---- from the state to its part

module _ {g : Setting} {m : Lent} {qs eps : List ℕ} {pass : Pass} {T : Tables} {x : Work} {source : Stored} {s : ℕ} (G : StateGiven g m qs eps pass T x source s) where
  below : s < states G.H.graph
  below = let z = G.ground.states in let l = G.low in omega arith

  abbrev first : ℕ
  first = get_or T.offsets s 0

  abbrev last : ℕ
  last = get_or T.offsets (s + 1) 0

  pub offset_room : s + 1 < length T.offsets
  offset_room = two_offsets G.H.graph pass T G.ground.good G.of s below

  part_room : (first ≤ last) × (last ≤ length T.arcs.ilabels) × (last ≤ length T.arcs.olabels) × (last ≤ length T.arcs.weights) × (last ≤ length T.arcs.nextstates) × (last ≤ 1_048_576)
  part_room =
      let i = inside G.H.graph pass T G.ground.good G.of s below in
      let few : last ≤ 1_048_576 = let z = G.ground.good.shape.arcs_few in let k = ap length G.of.ilabels in let j = i.0 in omega arith in
      (rises G.H.graph pass T G.ground.good G.of s below, i.0, i.1, i.2, i.3, few)

  abbrev given_all : AllGiven g m qs eps pass (part_of T first last) x source
  given_all = record { H = G.H; t = G.t; s = s; w = G.w; done = G.done; ground = G.ground; at = G.at; token = G.token; of = part_of_lem G.H.graph pass T G.ground.good G.of s below }

  module _ (a e : ℕ) (a-is : a ≡ first) (e-is : e ≡ last) where
    pub bounds : (a ≤ e) × (e ≤ length T.arcs.ilabels) × (e ≤ length T.arcs.olabels) × (e ≤ length T.arcs.weights) × (e ≤ length T.arcs.nextstates) × (e ≤ 1_048_576)
    bounds = rw (a-is, e-is) part_room

    pub all_given : AllGiven g m qs eps pass (part_of T a e) x source
    all_given = rw (a-is, e-is) given_all

    pub state_done : (m' : Lent) (qs' : List ℕ) (r : Result Work Reason) → AllIs g m m' qs qs' eps pass (part_of T a e) x source r → PassedBy g m' qs' G.done G.t.path (state_of G) r
    state_done m' qs' r A =
        let done : AllIs g m m' qs qs' eps pass (part_of T first last) x source r = rw (a-is, e-is) at A in
        subst (λ (xs : List Arc). PassedBy g m' qs' G.done G.t.path (arrive_all G.H (pass_of pass T.arcs.loglikes) G.t xs G.w) r) (sym (arcs_are G.H.graph pass T G.ground.good G.of s below)) (done given_all)
