-- The phone of a label, by the pass.
use mathlib.Core.Path.{sym, ap, ◌∙◌, subst}
use Prim.Native.Nat.{ℕ}
use native.Mathlib.Omega.{arith}
use lib.Dec.{T}
use lib.IntN.{pos, nat_abs}
use lib.Signed.{non_neg}
use lib.ListN.{get_or}
use Rattle.arcs.specs.declared.Pass.{Pass}
use Rattle.arcs.specs.Part.{Labelled, PhoneAsks, phone_in}
use Rattle.arcs.proofs.phone_after.Goals as goal

pub number_at-requires : goal.number_at-requires
number_at-requires c = let P : Labelled c.args.ilabels.now c.args.tid2phone.now c.args.i = subst (λ (p : Pass). PhoneAsks p c.args.ilabels.now c.args.tid2phone.now c.args.i) c.in-Emitting.is c.requires in (P.here, P.label)

pub number_at-requires-in-Emitting : goal.number_at-requires-in-Emitting
number_at-requires-in-Emitting c = let P : Labelled c.args.ilabels.now c.args.tid2phone.now c.args.i = subst (λ (p : Pass). PhoneAsks p c.args.ilabels.now c.args.tid2phone.now c.args.i) c.in-Emitting.is c.requires in
    let e = c.number_at.ensures.0 in
    (let k = P.inside in omega arith, subst (λ (n : ℕ). T (non_neg (get_or c.args.tid2phone.now n (pos 0)))) (sym e) P.number)

pub returns-in-Emitting : goal.returns-in-Emitting
returns-in-Emitting c = c.number_at-in-Emitting.ensures.0 ∙ ap (λ (n : ℕ). nat_abs (get_or c.args.tid2phone.now n (pos 0))) c.number_at.ensures.0 ∙
    sym (ap (λ (p : Pass). phone_in p c.args.ilabels.now c.args.tid2phone.now c.args.phone c.args.i) c.in-Emitting.is)

pub returns-in-Nonemitting : goal.returns-in-Nonemitting
returns-in-Nonemitting c = sym (ap (λ (p : Pass). phone_in p c.args.ilabels.now c.args.tid2phone.now c.args.phone c.args.i) c.in-Nonemitting.is)
