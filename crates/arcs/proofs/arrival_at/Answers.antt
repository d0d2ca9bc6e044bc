-- What arc i brings, read out of the tables.
use mathlib.Core.Path.{◌≡◌}
use native.Mathlib.Omega.{arith}
use lib.IntN.{pos}
use lib.ListN.{get_or}
use lib.Ieee.{nan}
use Rattle.model.specs.Ints.{back}
use Rattle.model.specs.Basics.{◌⊕◌, 0f}
use Rattle.lists.specs.Members.{get_d_any}
use Rattle.arcs.specs.Part.{heard_at, phone_asks}
use Rattle.arcs.proofs.arrival_at.Goals as goal

pub total-total-requires : goal.total-total-requires
total-total-requires c = let T = c.requires in let e = T.of.weights in let h = T.here in (omega arith, heard_at _ _ _ T)

pub phone_after-phone-requires : goal.phone_after-phone-requires
phone_after-phone-requires c = phone_asks _ _ _ c.requires

pub returns : goal.returns
returns c = let s = c.args in
    let T = c.requires in
    let weight_is : get_or s.weights.now s.i nan ≡ get_or s.weights.now s.i 0f = get_d_any s.weights.now s.i nan 0f (let e = T.of.weights in let h = T.here in omega arith) in
    λ k. record {
      total = c.total-total.ensures k;
      graph = s.source.graph ⊕ weight_is k;
      word = back (get_or s.olabels.now s.i (pos 0)) (search) k;
      phone = c.phone_after-phone.ensures k;
      target = get_or s.nextstates.now s.i 0;
    }
