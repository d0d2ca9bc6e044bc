-- A trace along a path is one along its history. Assumes nothing.
use Rattle.std.specs.Prelude.{◌≡◌, ℕ, Bool}
use Rattle.std.proofs.Math.Path.{refl, sym, ap}
use Rattle.std.proofs.Common.{◌∙◌}
use Rattle.std.proofs.Math.Bool.{true, false, not}
use mathlib.Core.List.{List, ◌∷◌}
use Rattle.lists.specs.Tests.{case, either, or_neither, and_both}
use Rattle.model.specs.Basics.{nonzero}
use Rattle.model.specs.Path.{Step, Merge, Path, empty_path, arc_onto, branch_on, is_link, word, memℕ}
use Rattle.model.specs.Reads.{Rec, resume, recs_on}
use Rattle.records.specs.History.{History, no_history, link_onto, join_on, history_of, beside_word, beside_starts, plain, history_link, history_quiet, history_beside}
use Rattle.stores.specs.Shown.{beside_in, timed}
use Rattle.traceback.specs.Trail.{Trail, add_to, resumed_in, trail_of, trail_on, add_nothing, trail_resumed}

-- what a history adds to what is there, by the numbers of the joins whose kept histories are taken
unfoldable pub history_trail : (route : List ℕ) → (n : ℕ) → History → Trail → Trail
history_trail route n no_history t = t
history_trail route n (link_onto i f w st r) t = history_trail route n r (add_to n f w st t)
history_trail route n (join_on i f b k r) t = elim (memℕ i route) [ true ↦ history_trail route n k (add_to n f b.word b.starts (resumed_in n f b.phone b.winner t)) | false ↦ history_trail route n r t ]

module _ (route : List ℕ) (n : ℕ) where
  -- of a path with nothing held beside a join, and of a kept path, whose first arc may be
  record Told (p : Path) : Type 0 where
    own : (rs : List Rec) → plain p ≡ true → timed p → trail_of n (recs_on route n p rs) ≡ history_trail route n (history_of p) (trail_of n rs)
    kept : (f : ℕ) (rs : List Rec) → beside_in f p → timed p → trail_of n (recs_on route n p rs) ≡ history_trail route n (history_of p) (add_to n f (beside_word p) (beside_starts p) (trail_of n rs))

  module _ (s : Step) (q : Path) (i : Told q) where
    arc_on : (rs : List Rec) → plain q ≡ true → timed q → trail_of n (recs_on route n (arc_onto s q) rs) ≡ history_trail route n (history_of q) (add_to n s.frame (word s) s.starts (trail_of n rs))
    unfolding recs_on
    arc_on rs e t = i.own (record { frame = s.frame; word = word s; phone = s.starts } ∷ rs) e t ∙ ap (history_trail route n (history_of q)) (trail_on n (record { frame = s.frame; word = word s; phone = s.starts }) rs)

    arc_own : (rs : List Rec) → s.beside ≡ false → plain q ≡ true → timed q → trail_of n (recs_on route n (arc_onto s q) rs) ≡ history_trail route n (history_of (arc_onto s q)) (trail_of n rs)
    unfolding history_trail
    arc_own rs b e t = case (either (is_link s)) (λ l. arc_on rs e t ∙ ap (λ (x : History). history_trail route n x (trail_of n rs)) (sym (history_link s q l b)))
        (λ l. let z = or_neither (nonzero (word s)) (nonzero s.starts) l in
        arc_on rs e t ∙ ap (history_trail route n (history_of q)) (add_nothing n s.frame (word s) s.starts (trail_of n rs) z.0 z.1) ∙ ap (λ (x : History). history_trail route n x (trail_of n rs)) (sym (history_quiet s q l)))

    arc_kept : (f : ℕ) (rs : List Rec) → (b : Bool) → s.beside ≡ b → beside_in f (arc_onto s q) → timed q
        → trail_of n (recs_on route n (arc_onto s q) rs) ≡ history_trail route n (history_of (arc_onto s q)) (add_to n f (beside_word (arc_onto s q)) (beside_starts (arc_onto s q)) (trail_of n rs))
    unfolding beside_word beside_starts
    arc_kept f rs true b d t =
        let T = trail_of n rs in
        let e : add_to n s.frame (word s) s.starts T ≡ add_to n f (beside_word (arc_onto s q)) (beside_starts (arc_onto s q)) T = rw (b, d.0 b) in
        arc_on rs d.1 t ∙ ap (λ (x : History). history_trail route n x (add_to n s.frame (word s) s.starts T)) (sym (history_beside s q b)) ∙ ap (history_trail route n (history_of (arc_onto s q))) e
    arc_kept f rs false b d t = arc_own rs b d.1 t ∙ rw (b)

  branch_own : (m : Merge) (k p : Path) → Told k → Told p → (rs : List Rec) → plain p ≡ true → timed (branch_on m k p)
      → trail_of n (recs_on route n (branch_on m k p) rs) ≡ history_trail route n (history_of (branch_on m k p)) (trail_of n rs)
  unfolding recs_on history_of history_trail
  branch_own m k p i j rs e t = go (memℕ m.number route)
    where
      go : (b : Bool)
          → trail_of n (elim b as (λ x. List Rec) [ true ↦ recs_on route n k (resume n m rs) | false ↦ recs_on route n p rs ])
          ≡ elim b as (λ x. Trail) [ true ↦ history_trail route n (history_of k) (add_to n m.frame (beside_word k) (beside_starts k) (resumed_in n m.frame m.kept_phone m.phone (trail_of n rs))) | false ↦ history_trail route n (history_of p) (trail_of n rs) ]
      go true = i.kept m.frame (resume n m rs) t.0 t.1 ∙ ap (λ (x : Trail). history_trail route n (history_of k) (add_to n m.frame (beside_word k) (beside_starts k) x)) (trail_resumed n m rs)
      go false = j.own rs e t.2

  told : (p : Path) → Told p
  unfolding plain history_of history_trail recs_on beside_word beside_starts
  told empty_path = record { own = λ rs e t. refl; kept = λ f rs b t. refl }
  told (arc_onto s q) =
      let i = told q in
      record { own = λ rs e t. let d = and_both (not s.beside) (plain q) e in arc_own s q i rs (not_so s.beside d.0) d.1 t; kept = λ f rs b t. arc_kept s q i f rs s.beside refl b t }
    where
      not_so : (b : Bool) → not b ≡ true → b ≡ false
      not_so true e = sym e
      not_so false e = refl
  told (branch_on m k p) = let i = told k in let j = told p in record { own = λ rs e t. branch_own m k p i j rs e t; kept = λ f rs b t. branch_own m k p i j rs b t }

  pub path_trail : (p : Path) (rs : List Rec) → plain p ≡ true → timed p → trail_of n (recs_on route n p rs) ≡ history_trail route n (history_of p) (trail_of n rs)
  path_trail p rs e t = (told p).own rs e t
