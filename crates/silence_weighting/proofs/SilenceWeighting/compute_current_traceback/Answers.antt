-- `silence_weighting::SilenceWeighting::compute_current_traceback` meets its contract: what it stores is the definition's frame list.
use Rattle.std.proofs.Common.{sym, ap, ◌≡◌, ◌∙◌, false, arith}
use Rattle.std.specs.Float.Ieee.{of_bits}
use Rattle.model.specs.Basics.{ok}
use Rattle.model.specs.Silence.{weighting_wrong, too_many, bad_segments}
use Rattle.silence_weighting.specs.State.{places, segments_of}
use Rattle.silence_weighting.proofs.Answered.{traced_by}
use Rattle.silence_weighting.proofs.Limits.{passed, few_frames}
use Rattle.silence_weighting.proofs.Told.{traced_state, traced_behind}
use Rattle.silence_weighting.proofs.SilenceWeighting.compute_current_traceback.Goals as goal

pub returns : goal.returns
unfolding of_bits
returns c =
    let a = c.args in
    let ss = a.status.now in
    let ws = a.weights.now in
    let n = a.num_frames_decoded in
    let segments = segments_of a.phones.now a.starts.now a.ends.now in
    let wrong : weighting_wrong a.self.weight a.self.subsampling ≡ false = passed _ _ _ (sym c.in_ok-check_settings.was ∙ c.check_settings.ensures) in
    let long : too_many (places ss ws) a.self.frames ≡ false = passed _ _ _ (sym c.in_ok-check_frames.was ∙ rw c.min-store.ensures at c.check_frames.ensures) in
    let much : too_many (places ss ws) n ≡ false = passed _ _ _ (sym c.in_ok-check_frames-2.was ∙ rw c.min-store.ensures at c.check_frames-2.ensures) in
    let bad : bad_segments segments ≡ false = passed _ _ _ (sym c.in_ok-check_segments.was ∙ c.check_segments.ensures) in
    let l = few_frames (places ss ws) n much in
    let told = c.tell_segments in
    record {
      answer = ap ok (traced_state a.silence_phones.now a.self segments n ss ws c.max-total.result c.fill.new.xs told.new.status c.fill-2.new.xs c.max-total.ensures c.fill.ensures told.ensures c.fill-2.ensures (omega arith) (omega arith))
          ∙ traced_by a.silence_phones.now a.self a.phones.now a.starts.now a.ends.now n ss ws wrong long much bad;
      kept = traced_behind a.silence_phones.now a.self segments n ss ws c.max-total.result c.fill.new.xs told.new.status c.fill-2.new.xs c.max-total.ensures c.fill.ensures told.ensures c.fill-2.ensures;
    }
