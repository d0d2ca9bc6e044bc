-- Where a graph's payload has its slices. Assumes nothing.
use Rattle.std.specs.Prelude.{◌≡◌, ℕ, ◌+◌, ◌-◌, ◌≤◌, max, Bool, cond, ◌||◌, ◌&&◌, List, leb}
use Rattle.script.specs.Words.{word_at}
use Rattle.replay_graph.specs.declared.shape.Part.{Part}
use Rattle.replay_graph.specs.declared.shape.Shape.{Shape}

-- the slice whose length stands at a place: none, behind the end, where it does not end within the payload
unfoldable pub part_at : List ℕ → (at end : ℕ) → Part
part_at bs at end = cond (leb end at || leb (end - at) (word_at bs at)) (record { at = end + 1; n = 0 }) (record { at = at + 1; n = word_at bs at })

-- each slice stands behind the one before it
pub record ShapeIs (bs : List ℕ) (start end : ℕ) (t : Shape) : Type 0 where
  pub pdfs : t.pdfs ≡ word_at bs start
  pub starts : t.start ≡ word_at bs (start + 1)
  pub finals : t.finals ≡ part_at bs (start + 2) end
  pub offsets : t.offsets ≡ part_at bs (t.finals.at + t.finals.n) end
  pub ilabels : t.ilabels ≡ part_at bs (t.offsets.at + t.offsets.n) end
  pub olabels : t.olabels ≡ part_at bs (t.ilabels.at + t.ilabels.n) end
  pub weights : t.weights ≡ part_at bs (t.olabels.at + t.olabels.n) end
  pub nextstates : t.nextstates ≡ part_at bs (t.weights.at + t.weights.n) end
  pub tid2pdf : t.tid2pdf ≡ part_at bs (t.nextstates.at + t.nextstates.n) end
  pub tid2phone : t.tid2phone ≡ part_at bs (t.tid2pdf.at + t.tid2pdf.n) end
  pub within : t.tid2phone.at + t.tid2phone.n ≤ end + 1

-- there are places for each slice
unfoldable pub fits_here : Shape → Bool
fits_here g = leb g.finals.n 4096 && leb g.offsets.n 4097 && leb (max g.ilabels.n g.olabels.n) 16384 && leb (max g.weights.n g.nextstates.n) 16384 && leb (max g.tid2pdf.n g.tid2phone.n) 4096
