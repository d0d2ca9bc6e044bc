-- What becomes of a graph in a script. Assumes nothing.
use Rattle.std.specs.Prelude.{◌≡◌, ℕ, ◌+◌, cond, List, eqb, Result, Ok, Err}
use Rattle.std.specs.Float.{binary32}
use Rattle.std.specs.Float.Ieee.{of_bits}
use Rattle.std.specs.Int.{w32}
use Rattle.std.proofs.Common.{to_z}
use Rattle.model.specs.Graph.{Graph}
use Rattle.refusals.specs.declared.Refusal.{Refusal}
use Rattle.fst.specs.declared.Graph.{Graph as Value}
use Rattle.fst.specs.Answer.{graph_of, build_of}
use Rattle.script.specs.declared.Record.{Record}
use Rattle.replay_graph.specs.declared.shape.Shape.{Shape}
use Rattle.replay_graph.specs.declared.Tried.{Tried}
use Rattle.replay_graph.specs.Shapes.{ShapeIs, fits_here}
use Rattle.replay_graph.specs.Slices.{slice_in}

-- the graph of the slices
abbrev pub graph_in : List ℕ → Shape → Graph
graph_in bs g =
    graph_of (slice_in (λ w. w) bs g.offsets 4097) (slice_in (to_z w32) bs g.ilabels 16384) (slice_in (to_z w32) bs g.olabels 16384) (slice_in (of_bits binary32) bs g.weights 16384) (slice_in (λ w. w) bs g.nextstates 16384)
    (slice_in (of_bits binary32) bs g.finals 4096) (slice_in (to_z w32) bs g.tid2pdf 4096) (slice_in (to_z w32) bs g.tid2phone 4096) g.start g.pdfs

abbrev pub tried_by : Result Value Refusal → Tried
tried_by (Ok g) = Tried.Taken
tried_by (Err r) = Tried.Left

-- a graph is taken where its slices fill the payload, there are places for them, and the builder accepts it
pub record Tries (bs : List ℕ) (r : Record) (t : Tried) : Type 0 where
  pub shape : Shape
  pub shaped : ShapeIs bs r.start (r.start + r.count) shape
  pub answered : t ≡ cond (eqb (shape.tid2phone.at + shape.tid2phone.n) (r.start + r.count)) (cond (fits_here shape) (tried_by (build_of (graph_in bs shape))) Tried.Over) Tried.Left
