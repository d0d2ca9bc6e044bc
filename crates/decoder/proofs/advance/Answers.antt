-- Refused before the passes, by one of them, or done.
use mathlib.Core.Path.{refl, sym, ap, ◌∙◌}
use native.Mathlib.Omega.{arith}
use Rattle.refusals.specs.Numbers.{number_of, numbered}
use Rattle.arrivals.specs.declared.Setting.{Setting}
use Rattle.decoder.specs.Frame.{a_fault, no_fault, frame_refused, can, run_asks, frame_on, frame_back}
use Rattle.decoder.proofs.advance.Goals as goal

pub returns-in-Err : goal.returns-in-Err
returns-in-Err c =
    let f = rw c.in-Err.is at c.check_frame.ensures in
    record {
      answer = λ g s l fs st R. frame_refused R _ _ (a_fault R _ _ f (numbered c.in-Err.reason)) _ c.refused.ensures;
      untouched = λ z. record { answer = rw (sym f) c.refused.ensures; stores = refl; queue = refl; scratch = refl };
    }

pub run_frame-requires : goal.run_frame-requires
run_frame-requires c = (run_asks c.requires.left.is _ (no_fault c.requires.left.is _ 0 (rw c.in_default.is at c.check_frame.ensures) refl) _ refl _ c.setting_of.ensures _ refl, let e = ap (λ (s : Setting). s.states) c.setting_of.ensures in let z = c.requires.wide in omega arith)

pub go_back-requires : goal.go_back-requires
go_back-requires c = let f = c.requires.left.is.fixed in
    (f.side, let z = f.stores.tokens in let k = c.run_frame.auto.tokens in omega arith, let z = f.stores.sums in let k = c.run_frame.auto.sums in omega arith)

pub overflow_add-decoder : goal.overflow_add-decoder
overflow_add-decoder c = let R = c.requires.left.is in let z = (can R c.args.loglikes.now (no_fault R c.args.loglikes.now 0 (rw c.in_default.is at c.check_frame.ensures) refl)).few in let k = R.frames_are in record { fits = omega arith }

pub returns-in-Err-run_frame : goal.returns-in-Err-run_frame
returns-in-Err-run_frame c =
    let none = rw c.in_default.is at c.check_frame.ensures in
    record {
      answer = λ g s l fs st R. frame_back R _ (no_fault R _ 0 none refl) _ refl _ c.setting_of.ensures _ refl _ (record { tokens = c.run_frame.auto.tokens; sums = c.run_frame.auto.sums; records = c.run_frame.auto.records; labels = c.run_frame.auto.labels; gaps = c.run_frame.auto.gaps }) _ _ c.run_frame.ensures _ c.in-Err-run_frame.is _ c.go_back.ensures _ c.refused-in-Err-run_frame.ensures;
      untouched = λ z. absurd (z (sym none));
    }

pub returns-in-Ok : goal.returns-in-Ok
returns-in-Ok c =
    let none = rw c.in_default.is at c.check_frame.ensures in
    record {
      answer = λ g s l fs st R. frame_on R _ (no_fault R _ 0 none refl) _ refl _ c.setting_of.ensures _ refl _ (record { tokens = c.run_frame.auto.tokens; sums = c.run_frame.auto.sums; records = c.run_frame.auto.records; labels = c.run_frame.auto.labels; gaps = c.run_frame.auto.gaps }) _ _ c.run_frame.ensures _ c.in-Ok.is _ c.turned.ensures;
      untouched = λ z. absurd (z (sym none));
    }
