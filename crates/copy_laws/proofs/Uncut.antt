-- A start and a frame that are accepted, and in which no cutoff drops anything, cover every path of their frames. Assumes nothing.
use Rattle.std.specs.Prelude.{◌≡◌, ◌<◌, Bool, true, false, eqb, Float}
use Rattle.std.proofs.Math.Path.{refl}
use Rattle.std.proofs.Common.{arith, eqb-true}
use Rattle.std.proofs.Math.Option.{Option, none}
use mathlib.Core.List.{List, [], ◌∷◌, ◌++◌}
use Rattle.std.proofs.lemmas.List.{length-replicate}
use Rattle.lists.specs.Tests.{or_neither}
use Rattle.model.specs.Basics.{0f, Outcome, ok, ◌>>=◌}
use Rattle.model.specs.Graph.{Graph, no_state, states}
use Rattle.model.specs.Path.{Token, Limits}
use Rattle.model.specs.Cutoff.{Config}
use Rattle.model.specs.Arrive.{total, Here, Work}
use Rattle.model.specs.Passes.{no_tokens, emitting_pass, nonemitting_pass, State, dropped, done, during, start_token, start_work, start, frame}
use Rattle.model.specs.Accepted.{Ok}
use Rattle.model.proofs.Accepted.{then}
use Rattle.model.specs.Checked.{GoodGraph}
use Rattle.copy_laws.specs.Walks.{Heard}
use Rattle.copy_laws.specs.Drops.{on_ok, drops_emitting, drops_nonemitting, drops_start, drops_frame}
use Rattle.copy_laws.proofs.Tables.{at_new}
use Rattle.copy_laws.proofs.Carried.{then_uncut}
use Rattle.copy_laws.specs.Sums.{Floats32}
use Rattle.copy_laws.specs.Kept.{hearing}
use Rattle.copy_laws.specs.States.{Standing, in_frame}
use Rattle.copy_laws.proofs.States.{frame_timely, start_inside, start_active, frame_passes}
use Rattle.copy_laws.specs.Within.{Within}
use Rattle.copy_laws.proofs.Within.{lowers_within}
use Rattle.copy_laws.proofs.Spread.{Emitted, emitting_spreads}
use Rattle.copy_laws.specs.Closing.{Whole}
use Rattle.copy_laws.proofs.Closing.{pass_closes}
use Rattle.copy_laws.specs.Least.{Covered}
use Rattle.copy_laws.proofs.Least.{start_covered, frame_covered}

module _ (g : Graph) (good : GoodGraph g) (floats : Floats32 g) (c : Config) (l : Limits) (st : State) where
  abbrev CoveredState : List Heard → State → Type 0
  CoveredState fs s = Covered g fs s.table

  no_start : eqb g.start no_state ≡ true → g.start < states g → ⊥
  no_start e i = let z = eqb-true g.start no_state e in let y = good.shape.states_few in omega arith

  pub start_covers : drops_start g c l st ≡ false → Ok (CoveredState []) (start g c l st)
  unfolding start drops_start dropped start_token
  start_covers d = go (eqb g.start no_state) refl d
    where
      h : Here
      h = during g l st 0 []

      first : (v : Work) → Whole g [] (start_work g c).table v → g.start < states g → Within v.table g.start 0f
      first v w i = w.lowered g.start start_token (at_new (no_tokens g) _ g.start start_token refl (let z = length-replicate {A = Option Token} (states g) none in omega arith))

      go : (b : Bool) → eqb g.start no_state ≡ b → (elim b as (λ x. Bool) [ true ↦ false | false ↦ drops_nonemitting h (start_work g c) ]) ≡ false
          → Ok (CoveredState []) (elim b as (λ x. Outcome State) [ true ↦ ok (dropped g st) | false ↦ nonemitting_pass h (start_work g c) >>= λ v. ok (done st 0 v) ])
      go true e d = λ route s w. absurd (no_start e w.begins)
      go false e d =
          then (Whole g [] (start_work g c).table) (CoveredState []) (nonemitting_pass h (start_work g c)) _ (pass_closes h [] good floats refl (start_work g c) (start_active g c (start_inside g good e)) refl refl d) λ v w.
          start_covered g good v.table w.closed (first v w)

  pub frame_covers : (fs : List Heard) (ls : List Float) → Standing g fs st → Covered g fs st.table → drops_frame g c l ls st ≡ false → Ok (CoveredState (fs ++ (hearing ls st.table ∷ []))) (frame g c l ls st)
  unfolding drops_frame
  frame_covers fs ls d covered cut =
      let h = in_frame g l st in
      let ts = st.table in
      let fs' = fs ++ (hearing ls ts ∷ []) in
      let m = emitting_pass h c ls ts st.seq st.fresh in
      let uncut = or_neither (drops_emitting h c ls ts st.seq st.fresh) (on_ok (drops_nonemitting h) m) cut in
      let Emit = Emitted h c ls ts st.seq st.fresh fs good floats d.frames d.active in
      frame_passes g good floats c l st (CoveredState fs') ls λ u.
      then_uncut (Unit {0}) Emit (CoveredState fs') (drops_nonemitting h) m _ (emitting_spreads h c ls ts st.seq st.fresh fs good floats d.frames d.active uncut.0) (λ z. uncut.1) λ w e y.
      then (Whole g fs' w.table) (CoveredState fs') (nonemitting_pass h w) _ (pass_closes h fs' good floats (frame_timely g l st fs ls d.frames) w e.since.active e.since.no_queue e.since.none_requeued (y tt)) λ v x.
      frame_covered g good fs ls ts v.table u.tames (λ s t i. (d.active.sound s t i).sums.cost_tame) covered
      (λ s t i a k n. lowers_within w.table v.table a.target _ x.lowered (unfold total in e.each s t i a k n)) x.closed
