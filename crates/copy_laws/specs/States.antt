-- What holds of the copy's state between calls: an accepted start makes it, an accepted frame keeps it. Assumes nothing.
use Rattle.std.specs.Prelude.{◌≡◌, ◌<◌, ◌≤◌, true, length, Float}
use mathlib.Core.List.{List}
use Rattle.lists.specs.Lists.{all}
use Rattle.real32.specs.Small.{tame}
use Rattle.model.specs.Graph.{Graph}
use Rattle.model.specs.Path.{Limits}
use Rattle.model.specs.Arrive.{Here}
use Rattle.model.specs.Passes.{State, during, fair_margin}
use Rattle.copy_laws.specs.Walks.{Heard}
use Rattle.copy_laws.specs.Active.{Active}

-- after these frames since the latest start
pub record Standing (g : Graph) (fs : List Heard) (st : State) : Type 0 where
  pub active : Active g fs st.table st.seq st.fresh
  pub frames : st.frames ≡ length fs
  pub few : st.frames ≤ 65_536
  pub margin : fair_margin st.margin ≡ true

-- ---- a frame

-- 10, 8 and 9 do not refuse it
pub record Usable (g : Graph) (st : State) (ls : List Float) : Type 0 where
  pub few : st.frames < 65_536
  pub long : length ls ≡ g.pdfs
  pub tames : all tame ls ≡ true

abbrev pub in_frame : Graph → Limits → State → Here
in_frame g l st = during g l st st.frames st.table
