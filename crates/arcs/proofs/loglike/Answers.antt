-- The log-likelihood that a label's pdf has.
use mathlib.Core.Path.{◌≡◌, sym, ap, ◌∙◌, subst}
use Prim.Native.Nat.{ℕ}
use native.Mathlib.Omega.{arith}
use lib.Dec.{T}
use lib.IntN.{pos, nat_abs}
use lib.Signed.{non_neg}
use lib.ListN.{get_or}
use lib.Ieee.{nan}
use Rattle.model.specs.Basics.{0f}
use Rattle.lists.specs.Members.{get_d_any}
use Rattle.arcs.specs.Part.{by_label}
use Rattle.arcs.proofs.loglike.Goals as goal

pub number_at-requires-2 : goal.number_at-requires-2
number_at-requires-2 c = let e = c.number_at.ensures.0 in
    let P = c.requires.0 in
    (let k = P.inside in omega arith, subst (λ (n : ℕ). T (non_neg (get_or c.args.tid2pdf.now n (pos 0)))) (sym e) P.number)

pub bounds-loglikes-number_at : goal.bounds-loglikes-number_at
bounds-loglikes-number_at c = let e : c.number_at-2.result ≡ by_label c.args.ilabels.now c.args.tid2pdf.now c.args.i = c.number_at-2.ensures.0 ∙ ap (λ (n : ℕ). nat_abs (get_or c.args.tid2pdf.now n (pos 0))) c.number_at.ensures.0 in let k = c.requires.1 in omega arith

pub returns : goal.returns
returns c = let e : c.number_at-2.result ≡ by_label c.args.ilabels.now c.args.tid2pdf.now c.args.i = c.number_at-2.ensures.0 ∙ ap (λ (n : ℕ). nat_abs (get_or c.args.tid2pdf.now n (pos 0))) c.number_at.ensures.0 in
    let k = c.requires.1 in
    get_d_any c.args.loglikes.now c.number_at-2.result nan 0f (omega arith) ∙ ap (λ (n : ℕ). get_or c.args.loglikes.now n 0f) e
