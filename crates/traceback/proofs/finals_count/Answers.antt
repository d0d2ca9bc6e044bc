-- No state passed is final.
use mathlib.Core.Path.{refl, sym, ap, ◌∙◌}
use Prim.Native.Nat.{suc}
use native.Mathlib.Omega.{arith}
use mathlib.Core.Bool.{Bool, ◌&&◌, ◌||◌}
use Rattle.model.specs.Reads.{any_final}
use Rattle.traceback.specs.Table.{walk_start, walk_turn, walk_end, walk_here}
use Rattle.traceback.proofs.finals_count.Goals as goal

pub returns-then-not-use_final : goal.returns-then-not-use_final
returns-then-not-use_final c = record { is = λ sm g q h used st w. ap (λ (b : Bool). b && any_final g 0 st.table) (sym (c.if-not-use_final.true)) }

pub loop-s-init : goal.loop-s-init
loop-s-init c = λ g q sm. walk_start (any_final g) (any_final g 0) (λ s rest. refl) (λ ts. refl) c.next_active-s.ensures

pub returns-then-is_final : goal.returns-then-is_final
returns-then-is_final c = record {
  is = λ sm g q h used st w.
      let (t, rest, e) = walk_here (any_final g) (any_final g 0) (c.loop-s.invariant g q sm) (omega arith) h used st.table w in
      ap (λ (b : Bool). b || any_final g (suc c.loop-s.s) rest) (sym c.if-is_final.true ∙ c.is_final.ensures g q) ∙ e ∙ ap (λ (b : Bool). b && any_final g 0 st.table) (sym (c.if-not-use_final.false));
}

pub loop-s-preserved : goal.loop-s-preserved
loop-s-preserved c = λ g q sm. walk_turn (any_final g) (any_final g) (any_final g 0) (λ s rest. refl) (c.loop-s.invariant g q sm) (omega arith)
    (λ h used t y e i rest. ap (λ (b : Bool). b || any_final g (suc c.loop-s.s) rest) (sym c.if-is_final.false ∙ c.is_final.ensures g q)) c.next_active-s-in-loop-s.ensures

pub returns : goal.returns
returns c = record { is = λ sm g q h used st w. walk_end (any_final g) (any_final g 0) (c.loop-s.invariant g q sm) (omega arith) h used st.table w ∙ ap (λ (b : Bool). b && any_final g 0 st.table) (sym (c.if-not-use_final.false)) }
