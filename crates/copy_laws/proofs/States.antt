-- What holds of the copy's state between calls: an accepted start makes it, an accepted frame keeps it. Assumes nothing.
use Rattle.std.specs.Prelude.{◌≡◌, ℕ, suc, ◌*◌, ◌^◌, ◌<◌, ◌≤◌, Bool, true, false, not, length, eqb, leb, Float}
use Rattle.std.proofs.Math.Path.{refl}
use Rattle.std.proofs.Common.{sym, ◌∙◌, subst, mul-one, mul-le-mul_right, arith, length-append, leb-false, eqb-true}
use Rattle.std.proofs.Math.Option.{Option, none, some}
use mathlib.Core.List.{List, [], ◌∷◌, ◌++◌}
use Rattle.std.proofs.Math.ListN.{length-set, length-replicate}
use Rattle.std.specs.Float.Ieee.{lt, neg}
use Rattle.lists.specs.Tests.{case, never}
use Rattle.lists.specs.Lists.{all}
use Rattle.real32.specs.Small.{tame}
use Rattle.model.specs.Basics.{refuse, first_of, Outcome, ok, refused, ◌>>=◌}
use Rattle.model.specs.Graph.{Graph, no_state, states}
use Rattle.model.specs.Path.{Token, Limits}
use Rattle.model.specs.Cutoff.{Config}
use Rattle.model.specs.Arrive.{nonemitting}
use Rattle.model.specs.Passes.{no_tokens, emitting_pass, nonemitting_pass, State, dropped, done, during, start_token, start_work, start, check_frame, frame, fair_margin}
use Rattle.model.specs.Accepted.{Ok}
use Rattle.model.proofs.Accepted.{then, branches}
use Rattle.model.specs.Checked.{GoodGraph}
use Rattle.copy_laws.specs.Walks.{Heard}
use Rattle.copy_laws.proofs.Tables.{at_none, vacant_le, vacant_none}
use Rattle.copy_laws.specs.Sums.{Floats32}
use Rattle.copy_laws.specs.Tokens.{InFrame}
use Rattle.copy_laws.proofs.Tokens.{start_sound}
use Rattle.copy_laws.specs.Active.{Active}
use Rattle.copy_laws.proofs.Active.{active_none, put_active}
use Rattle.copy_laws.specs.Kept.{hearing, Since, Between}
use Rattle.copy_laws.proofs.Kept.{emitting_active, nonemitting_active}
use Rattle.copy_laws.specs.States.{Standing, Usable, in_frame}

-- no tokens: what a fitting and a refused start leave
pub standing_none : (g : Graph) (m : Option Float) → fair_margin m ≡ true → Standing g [] (record { margin = m; frames = 0; table = no_tokens g; seq = 0; fresh = 0 })
standing_none g m e = record { active = active_none g [] 0 0 (let z = mul-one (states g) in omega arith); frames = refl; few = omega arith; margin = e }

-- ---- a start

pub start_inside : (g : Graph) → GoodGraph g → eqb g.start no_state ≡ false → g.start < states g
start_inside g good e = case good.start (λ i. i) (λ q. never (sym e ∙ subst (λ (n : ℕ). eqb n no_state ≡ true) (sym q) refl))

-- the start state's token alone
pub start_active : (g : Graph) (c : Config) → g.start < states g → Active g [] (start_work g c).table 0 0
unfolding start_token
start_active g c i =
    let ts = no_tokens g in
    let us = (start_work g c).table in
    put_active g [] ts us g.start start_token refl 0 0 0 0 (active_none g [] 0 0 (let z = mul-one (states g) in omega arith)) (start_sound g i) (unfold tame lt neg in refl) (omega arith) (omega arith) (omega arith)
    (λ s t o e. at_none (states g) s t e) (let z = vacant_le us in let y = length-set ts g.start (some start_token) in let x = vacant_none (states g) in let v = length-replicate {A = Option Token} (states g) none in omega arith)

pub usable : (g : Graph) (st : State) (ls : List Float) → check_frame g st ls ≡ none → Usable g st ls
unfolding check_frame
usable g st ls e = go (leb 65_536 st.frames) (eqb (length ls) g.pdfs) (all tame ls) refl refl refl e
  where
    go : (a b t : Bool) → leb 65_536 st.frames ≡ a → eqb (length ls) g.pdfs ≡ b → all tame ls ≡ t → first_of (refuse 10 a ∷ refuse 8 (not b) ∷ refuse 9 (not t) ∷ []) ≡ none → Usable g st ls
    go false true true p q r e = record { few = leb-false 65_536 st.frames p; long = eqb-true (length ls) g.pdfs q; tames = r }
    go true b t p q r e = absurd (let z : ◌≡◌ {A = ℕ} 0 1 = cc in omega arith)
    go false false t p q r e = absurd (let z : ◌≡◌ {A = ℕ} 0 1 = cc in omega arith)
    go false true false p q r e = absurd (let z : ◌≡◌ {A = ℕ} 0 1 = cc in omega arith)

pub frame_timely : (g : Graph) (l : Limits) (st : State) (fs : List Heard) (ls : List Float) → st.frames ≡ length fs → InFrame (in_frame g l st) nonemitting (fs ++ (hearing ls st.table ∷ []))
frame_timely g l st fs ls e = let z = length-append fs (hearing ls st.table ∷ []) in omega arith

module _ (g : Graph) (good : GoodGraph g) (floats : Floats32 g) (c : Config) (l : Limits) (st : State) where
  pub start_standing : fair_margin st.margin ≡ true → Ok (Standing g []) (start g c l st)
  unfolding start dropped
  start_standing fair =
      let h = during g l st 0 [] in
      branches (Standing g []) (eqb g.start no_state) _ _ (λ e. standing_none g st.margin fair)
      (λ e. then (Between h []) (Standing g []) (nonemitting_pass h (start_work g c)) _ (nonemitting_active h [] good floats refl (start_work g c) (start_active g c (start_inside g good e))) λ v a.
      record { active = a; frames = refl; few = omega arith; margin = fair })

  -- an accepted frame is one that is usable, and whose two passes are accepted
  pub frame_passes : (P : State → Type 0) (ls : List Float) → (Usable g st ls → Ok P (emitting_pass (in_frame g l st) c ls st.table st.seq st.fresh >>= λ w. nonemitting_pass (in_frame g l st) w >>= λ v. ok (done st (suc st.frames) v))) → Ok P (frame g c l ls st)
  unfolding frame
  frame_passes P ls k = go (check_frame g st ls) refl
    where
      go : (o : Option ℕ) → check_frame g st ls ≡ o
          → Ok P (elim o as (λ x. Outcome State) [ none ↦ emitting_pass (in_frame g l st) c ls st.table st.seq st.fresh >>= λ w. nonemitting_pass (in_frame g l st) w >>= λ v. ok (done st (suc st.frames) v) | some n ↦ refused n ])
      go none e = k (usable g st ls e)
      go (some n) e = tt

  pub frame_standing : (fs : List Heard) (ls : List Float) → Standing g fs st → Ok (Standing g (fs ++ (hearing ls st.table ∷ []))) (frame g c l ls st)
  frame_standing fs ls d =
      let fs' = fs ++ (hearing ls st.table ∷ []) in
      frame_passes (Standing g fs') ls λ u.
      then (Since g fs' st.fresh) (Standing g fs') (emitting_pass (in_frame g l st) c ls st.table st.seq st.fresh) _ (emitting_active (in_frame g l st) c ls st.table st.seq st.fresh fs good floats d.frames d.active) λ w a.
      then (Between (in_frame g l st) fs') (Standing g fs') (nonemitting_pass (in_frame g l st) w) _ (nonemitting_active (in_frame g l st) fs' good floats (frame_timely g l st fs ls d.frames) w a.active) λ v b.
      record { active = b; frames = let z = d.frames in let y = length-append fs (hearing ls st.table ∷ []) in omega arith; few = let z = u.few in omega arith; margin = d.margin }

-- The u32 seq never wraps: 65,537 × 65,535 is 2 ^ 32 − 1.
pub seq_fits : (g : Graph) → GoodGraph g → (fs : List Heard) (st : State) → Standing g fs st → st.seq < 2 ^ 32
seq_fits g good fs st d =
    let n = states g in
    let k = suc (length fs) in
    let x : n * k ≤ 65_535 * k = mul-le-mul_right k good.shape.states_few in
    let y = d.active.room in
    let z = d.frames in
    let w = d.few in
    omega arith
