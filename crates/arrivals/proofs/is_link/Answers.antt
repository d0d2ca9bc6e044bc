-- One test after the other.
use Rattle.std.proofs.Common.{◌≡◌, ℕ, zero, suc, not, eqb, pos, refl, ap, ne_eqb, ◌∙◌}
use lib.Dec.{eqb-suc-zero}
use Rattle.model.specs.Basics.{nonzero}
use Rattle.model.specs.Ints.{nonzero_yes, nonzero_no}
use Rattle.arrivals.proofs.is_link.Goals as goal

-- a u32 is not 0
pos_nonzero : (n : ℕ) → not (eqb n 0) ≡ nonzero (pos n)
pos_nonzero zero = refl
pos_nonzero (suc n) = rw (eqb-suc-zero n)

pub returns-then-a-ne0 : goal.returns-then-a-ne0
returns-then-a-ne0 c = rw (nonzero_yes c.args.a.word c.if-a-ne0.true, ne_eqb _ 0 c.if-a-ne0.true)

pub returns-else-a-ne0 : goal.returns-else-a-ne0
returns-else-a-ne0 c = let z = c.args.a.word in rw (nonzero_no z (record { sfits = search }) c.if-a-ne0.false) (pos_nonzero c.starts.result ∙ ap (λ (n : ℕ). nonzero (pos n)) c.starts.ensures)
