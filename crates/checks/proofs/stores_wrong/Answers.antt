-- The four tests, one after the other.
use mathlib.Core.Path.{sym, ap, ap₂, ◌∙◌}
use Prim.Native.Nat.{ℕ, ◌-◌, ◌/◌}
use native.Mathlib.Omega.{arith}
use mathlib.Core.List.{List, [], ◌∷◌}
use lib.Dec.{ltb}
use borrow.Author.Tests.{le-ltb}
use Rattle.checks.proofs.Least.{first, turn}
use Rattle.checks.specs.declared.Lengths.{Lengths}
use Rattle.checks.specs.Fit.{record_places, kept_places_of, least_under, wrong_next, enough}
use Rattle.checks.proofs.stores_wrong.Goals as goal

abbrev others : Lengths → List ℕ
others l = l.sums / 4 ∷ l.eps ∷ l.scratch ∷ l.keys ∷ l.places ∷ l.own ∷ l.heads ∷ l.list ∷ []

abbrev records : Lengths → List ℕ
records l = l.route ∷ l.history_keys / 2 ∷ l.history_skips / 2 ∷ []

pub returns : goal.returns
returns c = let l = c.args.l in
    wrong_next (enough c.args.states (l.tokens / 8) (others l) c.fewest_per_state.ensures c.if-fewest_per_state-states.false)
    (wrong_next (sym (ap (ltb 1_048_576) c.record_places-records.ensures) ∙ le-ltb 1_048_576 c.record_places-records.result c.if-records-gt-MAX_RECORDS.false)
    (wrong_next (enough (record_places l) (l.lists / 2) (records l) c.fewest_per_record.ensures (let e = c.record_places-records.ensures in let h = c.if-fewest_per_record-records.false in omega arith))
    (ap₂ ltb (first _ _ (turn _ _ _ c.min-2.ensures c.min.ensures)) c.kept_places-kept.ensures ∙ least_under (kept_places_of l) l.keys (l.order ∷ (l.list - c.args.states) ∷ []))))
