-- The definition's graph as the ten arguments of `build`, and the code's answers by cases on the definition's.
use Rattle.std.specs.Prelude.{◌≡◌, refl, ℕ, suc, ◌≤◌, true, ◌&&◌, List, [], ◌∷◌, map, ℤ, pos, length, Float, Result, Ok, Err}
use Rattle.std.proofs.Common.{arith}
use Rattle.std.proofs.Math.Option.{Option, none, some}
use Rattle.lists.specs.Lists.{range}
use Rattle.model.specs.Basics.{ltℤ, first_of, Place as Where, nowhere, at_arc, at_state, at_frames, Refusal as Wrong}
use Rattle.model.specs.Graph.{Graph, Arc, states, emits, phone_of, label_wrong, runs_from0, refuse_at, arc_at, check_arcs, check_graph}
use Rattle.refusals.specs.declared.Place.{Place}
use Rattle.refusals.specs.declared.Place.TheVariants.{Nowhere, AtArc, AtState, AtFrames}
use Rattle.refusals.specs.declared.Refusal.{Refusal}
use Rattle.refusals.specs.declared.Reason.{Reason}
use Rattle.refusals.specs.Numbers.{number_of}
use Rattle.fst.specs.declared.Graph.{Graph as Value}

abbrev pub graph_of : (offsets : List ℕ) (ilabels olabels : List ℤ) (weights : List Float) (nextstates : List ℕ) (finals : List Float) (tid2pdf tid2phone : List ℤ) (start pdfs : ℕ) → Graph
graph_of offsets ilabels olabels weights nextstates finals tid2pdf tid2phone start pdfs =
    record {
      start = start;
      offsets = offsets;
      ilabels = ilabels;
      olabels = olabels;
      weights = weights;
      nextstates = nextstates;
      finals = finals;
      tid2pdf = tid2pdf;
      tid2phone = tid2phone;
      pdfs = pdfs;
    }

-- ---- the answers

abbrev pub place_of : Where → Place
place_of nowhere = Nowhere
place_of (at_arc s i) = AtArc s i
place_of (at_state s) = AtState s
place_of (at_frames n) = AtFrames n

abbrev pub refusal_of : Wrong → Refusal
refusal_of r = record { number = r.number; place = place_of r.place }

-- an accepted graph's value: its counts and its start
abbrev pub value_of : Graph → Value
value_of g = record { states = states g; arcs = length g.ilabels; start = g.start; pdfs = g.pdfs }

-- no refusal is an accepted graph
abbrev pub built_of : Graph → Option Wrong → Result Value Refusal
built_of g none = Ok (value_of g)
built_of g (some r) = Err (refusal_of r)

-- what `build` answers for a graph
abbrev pub build_of : Graph → Result Value Refusal
build_of g = built_of g (check_graph g)

-- what an answer says: the graph passed every check, and the value is its own
pub was_accepted : (g : Graph) (v : Value) → Ok v ≡ build_of g → (check_graph g ≡ none) × (v ≡ value_of g)
was_accepted g v e = go (check_graph g) e
  where
    go : (o : Option Wrong) → Ok v ≡ built_of g o → (o ≡ none) × (v ≡ value_of g)
    go none q = (refl, cc)
    go (some r) q = let z : ◌≡◌ {A = ℕ} 0 1 = cc in absurd (omega arith)

-- ---- what the checks on the way find

abbrev pub found_of : Option Wrong → Result (Unit {0}) Refusal
found_of none = Ok tt
found_of (some r) = Err (refusal_of r)

-- what the definition finds where the code finds this reason, or none
abbrev pub wrong_of : Result (Unit {0}) Reason → Option Wrong
wrong_of (Ok x) = none
wrong_of (Err e) = some (record { number = number_of e; place = nowhere })

-- of a graph, what the check of an arc reads
abbrev pub tables_of : (finals : List Float) (tid2pdf tid2phone : List ℤ) (pdfs : ℕ) → Graph
tables_of finals tid2pdf tid2phone pdfs = graph_of [] [] [] [] [] finals tid2pdf tid2phone 0 pdfs

-- of an arc, what its check reads
abbrev pub arc_of : (ilabel : ℤ) (weight : Float) (target : ℕ) → Arc
arc_of ilabel weight target = record { source = 0; ilabel = ilabel; olabel = pos 0; weight = weight; target = target }

-- of the check of an arc, the part on its input label: 3, then 4
abbrev pub check_label : Graph → Arc → Option Wrong
check_label g a = first_of (refuse_at nowhere 3 (label_wrong g a) ∷ refuse_at nowhere 4 (emits a && ltℤ (phone_of g a) (pos 1)) ∷ [])

-- of a graph, what the checks of its arcs read: not the output labels, nor the start
abbrev pub without_words : (offsets : List ℕ) (ilabels : List ℤ) (weights : List Float) (nextstates : List ℕ) (finals : List Float) (tid2pdf tid2phone : List ℤ) (pdfs : ℕ) → Graph
without_words offsets ilabels weights nextstates finals tid2pdf tid2phone pdfs = graph_of offsets ilabels [] weights nextstates finals tid2pdf tid2phone 0 pdfs

-- the check of a part of the arc tables, which is all the arcs of state s
abbrev pub check_part : Graph → ℕ → Option Wrong
check_part g s = check_arcs g s 0 (map (arc_at g s) (range 0 (length g.ilabels)))

-- of an accepted shape, what the check of all arcs needs
pub record Shaped (offsets : List ℕ) (ilabels : List ℤ) (weights : List Float) (nextstates : List ℕ) (finals : List Float) : Type 0 where
  pub states_few : length finals ≤ 65_535
  pub arcs_few : length ilabels ≤ 1_048_576
  pub offsets_long : length offsets ≡ suc (length finals)
  pub weights_long : length weights ≡ length ilabels
  pub nextstates_long : length nextstates ≡ length ilabels
  pub rising : runs_from0 (length ilabels) offsets ≡ true
