-- The word frames of a trace are those of the arcs with the words, along every route. Assumes nothing.
use Rattle.std.specs.Prelude.{◌≡◌, refl, ℕ, ◌+◌, ◌-◌, Bool, true, false, cond, List, [], ◌∷◌, ◌++◌, Float}
use Rattle.std.proofs.Common.{sym, ap, ◌∙◌, arith, append-nil, append_assoc}
use Rattle.lists.specs.Count.{count-append}
use Rattle.model.specs.Basics.{nonzero}
use Rattle.model.specs.Graph.{Graph, Arc, emits}
use Rattle.model.specs.Path.{Step, Path, empty_path, arc_onto, branch_on, word, memℕ}
use Rattle.model.specs.Reads.{Rec, resume, recs_on, trace}
use Rattle.copy_laws.specs.Walks.{Heard, emitted}
use Rattle.copy_laws.specs.Routes.{along, arcs}
use Rattle.copy_laws.proofs.Routes.{told-cons, told_resume}
use Rattle.copy_laws.specs.Shapes.{Mark, Marked, Forks}
use Rattle.copy_laws.specs.Stamps.{frame_of, word_frames_from, word_frames_on, stamps}

frames-append : (k : ℕ) (route more : List Arc) → word_frames_from k (route ++ more) ≡ word_frames_from k route ++ word_frames_from (k + emitted route) more
unfolding word_frames_from
frames-append k [] more = ap (λ (i : ℕ). word_frames_from i more) (omega arith)
frames-append k (a ∷ route) more =
    let one = cond (nonzero a.olabel) (frame_of k a ∷ []) [] in
    let j = k + emitted (a ∷ []) in
    ap (λ (l : List ℕ). one ++ l) (frames-append j route more ∙ ap (λ (i : ℕ). word_frames_from j route ++ word_frames_from i more) (let z = count-append emits (a ∷ []) route in omega arith))
    ∙ sym (append_assoc one (word_frames_from j route) (word_frames_from (k + emitted (a ∷ route)) more))

frames_on : (route : List Arc) (a : Arc) → word_frames_on (route ++ (a ∷ [])) ≡ word_frames_on route ++ cond (nonzero a.olabel) (frame_of (emitted route) a ∷ []) []
unfolding word_frames_from
frames_on route a =
    let z : 0 + emitted route ≡ emitted route = omega arith in
    frames-append 0 route (a ∷ []) ∙ ap (λ (l : List ℕ). word_frames_on route ++ l) (ap (λ (k : ℕ). word_frames_from k (a ∷ [])) z ∙ append-nil (cond (nonzero a.olabel) (frame_of (emitted route) a ∷ []) []))

-- a kept path has as many emitting arcs as the winner's
emitted_along : (g : Graph) (fs : List Heard) (route : List ℕ) (p : Path) → Forks g fs p → emitted (along route p) ≡ emitted (arcs p)
unfolding along
emitted_along g fs route empty_path b = refl
emitted_along g fs route (arc_onto x p) b = let z = emitted_along g fs route p b in let i = count-append emits (along route p) (x.arc ∷ []) in let j = count-append emits (arcs p) (x.arc ∷ []) in omega arith
emitted_along g fs route (branch_on m k p) b = go (memℕ m.number route) ((b.0.kept route).frames ∙ sym (b.0.won []).frames) (emitted_along g fs route p b.2)
  where
    go : (c : Bool) → emitted (along route k) ≡ emitted (arcs p) → emitted (along route p) ≡ emitted (arcs p) → emitted (elim c as (λ x. List Arc) [ true ↦ along route k | false ↦ along route p ]) ≡ emitted (arcs p)
    go true i j = i
    go false i j = j

frame_is : (g : Graph) (x : Step) (p : Path) → Mark g x p → x.frame ≡ frame_of (emitted (arcs p)) x.arc
frame_is g x p m = go (emits x.arc) refl
  where
    go : (b : Bool) → emits x.arc ≡ b → x.frame ≡ cond b (emitted (arcs p)) (emitted (arcs p) - 1)
    go true e = (m.emitting e).0
    go false e = (m.epsilon e).0

stamps_recs : (g : Graph) (fs : List Heard) (route : List ℕ) (n : ℕ) (p : Path) (rs : List Rec) → Forks g fs p → Marked g p → stamps (recs_on route n p rs) ≡ word_frames_on (along route p) ++ stamps rs
unfolding recs_on along word_frames_from
stamps_recs g fs route n empty_path rs b q = refl
stamps_recs g fs route n (arc_onto x p) rs b q =
    let r : Rec = record { frame = x.frame; word = word x; phone = x.starts } in
    let before = word_frames_on (along route p) in
    let one : ℕ → List ℕ = λ i. cond (nonzero (word x)) (i ∷ []) [] in
    let k = emitted (along route p) in
    let stamp : x.frame ≡ frame_of k x.arc = frame_is g x p q.0 ∙ ap (λ (i : ℕ). frame_of i x.arc) (sym (emitted_along g fs route p b)) in
    stamps_recs g fs route n p (r ∷ rs) b q.1 ∙ ap (λ (l : List ℕ). before ++ l) (told-cons (λ (r : Rec). r.frame) r rs ∙ ap (λ (i : ℕ). one i ++ stamps rs) stamp) ∙ sym (append_assoc before (one (frame_of k x.arc)) (stamps rs))
    ∙ ap (λ (l : List ℕ). l ++ stamps rs) (sym (frames_on (along route p) x.arc))
stamps_recs g fs route n (branch_on m k p) rs b q = go (memℕ m.number route) (stamps_recs g fs route n k (resume n m rs) b.1 q.0) (stamps_recs g fs route n p rs b.2 q.1)
  where
    go : (c : Bool) → stamps (recs_on route n k (resume n m rs)) ≡ word_frames_on (along route k) ++ stamps (resume n m rs) → stamps (recs_on route n p rs) ≡ word_frames_on (along route p) ++ stamps rs
        → stamps (elim c as (λ x. List Rec) [ true ↦ recs_on route n k (resume n m rs) | false ↦ recs_on route n p rs ]) ≡ word_frames_on (elim c as (λ x. List Arc) [ true ↦ along route k | false ↦ along route p ]) ++ stamps rs
    go true e f = e ∙ ap (λ (l : List ℕ). word_frames_on (along route k) ++ l) (told_resume (λ (r : Rec). r.frame) n m rs)
    go false e f = f

pub trace_frames : (g : Graph) (fs : List Heard) (n : ℕ) (route : List ℕ) (p : Path) (cost : Float) → Forks g fs p → Marked g p → (trace n route p cost).word_frames ≡ word_frames_on (along route p)
unfolding trace
trace_frames g fs n route p cost b q = stamps_recs g fs route n p [] b q ∙ append-nil (word_frames_on (along route p))
