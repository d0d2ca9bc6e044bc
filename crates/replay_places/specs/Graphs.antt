-- The tables that the slices of a graph are. Assumes nothing.
use Rattle.arcs.specs.State.{Tables}
use Rattle.nonemitting.specs.Expand.{graph_tables}
use Rattle.replay_places.specs.declared.Graph.{Graph}

abbrev pub tables_of : Graph → Tables
tables_of g = graph_tables g.offsets.now g.ilabels.now g.olabels.now g.weights.now g.nextstates.now g.tid2pdf.now g.tid2phone.now
