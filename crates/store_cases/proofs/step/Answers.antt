-- Each line keeps the store ready.
use Rattle.records.specs.Layout.{store}
use Rattle.store_cases.proofs.step.Goals as goal

pub put_on-used-requires : goal.put_on-used-requires
put_on-used-requires c =
    let a = c.args in
    let r = c.token_line-y.ensures (store a.records.now a.labels.now a.gaps.now) c.requires.2 in
    (r.few, r.cap_few, c.requires.0)

pub returns : goal.returns
returns c = c.put_on-used.ensures.ready _ _ (c.token_line-y.ensures _ c.requires.2)
