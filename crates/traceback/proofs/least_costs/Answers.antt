-- The least of the states passed, from which the walk goes on.
use mathlib.Core.Path.{◌≡◌, refl, sym, ap, ap₂, ◌∙◌}
use Prim.Native.Nat.{suc}
use native.Mathlib.Omega.{arith}
use mathlib.Core.List.{List}
use lib.ListN.{get_or}
use lib.Ieee.{Float, nan}
use Rattle.real32.specs.Least.{fmin}
use Rattle.model.specs.Basics.{◌⊕◌, ∞}
use Rattle.model.specs.Reads.{least_from}
use Rattle.tokens.specs.Layout.{Cell, cell_at}
use Rattle.traceback.specs.Table.{walk_start, walk_turn, walk_end}
use Rattle.lists.specs.Members.{get_d_any}
use Rattle.traceback.proofs.least_costs.Invariants.{from, whole}
use Rattle.traceback.proofs.least_costs.Goals as goal

pub loop-s-init : goal.loop-s-init
loop-s-init c = λ g q. walk_start (from g c.infinity-cost.result c.infinity-ending.result) (whole g) (λ s rest. refl) (λ ts. ap₂ (λ (x y : Float). least_from g 0 ts (x, y)) c.infinity-cost.ensures c.infinity-ending.ensures) c.next_active-s.ensures

pub loop-s-preserved : goal.loop-s-preserved
unfolding cell_at
loop-s-preserved c = λ g q.
    let l = c.loop-s in
    walk_turn (from g l.cost l.ending) (from g c.lesser-cost.result c.lesser-ending.result) (whole g) (λ s rest. refl) (l.invariant g q) (omega arith)
    (λ h used t y e i rest.
    let k : c.cost_at-c.result ≡ t.cost = c.cost_at-c.ensures ∙ ap (λ (z : Cell). z.cost) e ∙ i.cost in
    let f : get_or c.args.finals.now l.s nan ≡ get_or g.finals l.s ∞ = get_d_any c.args.finals.now l.s nan ∞ (omega arith) ∙ ap (λ (z : List Float). get_or z l.s ∞) (sym q) in
    ap₂ (λ (x y : Float). least_from g (suc l.s) rest (x, y)) (c.lesser-cost.ensures ∙ ap (fmin l.cost) k) (c.lesser-ending.ensures ∙ ap₂ (λ (x y : Float). fmin l.ending (x ⊕ y)) k f)) c.next_active-s-in-loop-s.ensures

pub returns : goal.returns
returns c = record { is = λ g q h used st w. walk_end (from g c.loop-s.cost c.loop-s.ending) (whole g) (c.loop-s.invariant g q) (omega arith) h used st.table w }
