-- The phone segments of a token's own path are nonempty, abut and run from 0 to the frame count; frame by frame they are the phones of its emitting arcs. Assumes nothing.
use Rattle.std.specs.Prelude.{◌≡◌, refl, ℕ, zero, suc, ◌-◌, ◌<◌, Bool, true, false, not, ◌&&◌, cond, List, [], ◌∷◌, ◌++◌, map, replicate, ℤ, pos, negsuc, Float}
use Rattle.std.proofs.Common.{sym, ap, ◌∙◌, subst, arith, append-nil, append_assoc}
use mathlib.Core.List.Memᴰ
use mathlib.Core.List.Memᴰ.{head as here}
use mathlib.Core.List.Memᴰ.{tail as there}
use Rattle.std.proofs.lemmas.List.{map-append}
use Rattle.std.proofs.Math.Dec.{eqb-suc-zero}
use Rattle.lists.specs.Tests.{never}
use Rattle.lists.specs.Lists.{◌∈◌, keep_if}
use Rattle.lists.specs.Count.{count-append}
use Rattle.model.specs.Basics.{eqℤ, nonzero}
use Rattle.model.specs.Graph.{Graph, Arc, arcs_of, emits, phone_of}
use Rattle.model.specs.Path.{Path, empty_path, arc_onto, branch_on, word}
use Rattle.model.specs.Reads.{Segment, Rec, recs_on, phone_recs, segments, trace}
use Rattle.model.specs.Checked.{GoodGraph}
use Rattle.copy_laws.proofs.Labels.{eqℤ_same}
use Rattle.copy_laws.specs.Walks.{Leads, emitted}
use Rattle.copy_laws.proofs.Walks.{keep_append, emits_one, emits_none}
use Rattle.copy_laws.specs.Routes.{along, arcs}
use Rattle.copy_laws.specs.Shapes.{phone_from, phone_on, Marked}
use Rattle.copy_laws.proofs.Shapes.{phone-append}
use Rattle.copy_laws.specs.Segments.{Tiles, spelled, phones_on, Marks, marks_end, marks_epsilon, marks_emitting, Phoned, Spell}

phones-append : (g : Graph) (route more : List Arc) → phones_on g (route ++ more) ≡ phones_on g route ++ phones_on g more
phones-append g route more = ap (map (phone_of g)) (keep_append emits route more) ∙ map-append (phone_of g) (keep_if emits route) (keep_if emits more)

recs_mark : (g : Graph) (n : ℕ) (p : Path) (rs : List Rec) (qs : List ℤ) → Marked g p → Phoned g (arcs p) → Marks (phone_on g p) (emitted (arcs p)) n rs qs → Marks (pos 0) 0 n (recs_on [] n p rs) (phones_on g (arcs p) ++ qs)
unfolding recs_on along phone_from
recs_mark g n empty_path rs qs m f d = d
recs_mark g n (arc_onto x p) rs qs m f d =
    subst (λ (l : List ℤ). Marks (pos 0) 0 n (recs_on [] n p (r ∷ rs)) l) (sym (append_assoc (phones_on g (arcs p)) (phones_on g (x.arc ∷ [])) qs) ∙ ap (λ (l : List ℤ). l ++ qs) (sym (phones-append g (arcs p) (x.arc ∷ []))))
    (recs_mark g n p (r ∷ rs) (phones_on g (x.arc ∷ []) ++ qs) m.1 (λ a i. f a (Memᴰ.append_left (x.arc ∷ []) i)) (one (emits x.arc) refl))
  where
    r : Rec
    r = record { frame = x.frame; word = word x; phone = x.starts }

    phone_is : (b : Bool) → emits x.arc ≡ b → phone_from g (pos 0) (arcs p ++ (x.arc ∷ [])) ≡ cond b (phone_of g x.arc) (phone_on g p)
    phone_is b e = phone-append g (pos 0) (arcs p) x.arc ∙ ap (λ (c : Bool). cond c (phone_of g x.arc) (phone_on g p)) e

    one : (b : Bool) → emits x.arc ≡ b → Marks (phone_on g p) (emitted (arcs p)) n (r ∷ rs) (map (phone_of g) (cond b (x.arc ∷ []) []) ++ qs)
    one true e =
        marks_emitting (phone_of g x.arc) (f x.arc (Memᴰ.append_right (arcs p) (here refl)) e) (m.0.emitting e).0 (m.0.emitting e).1
        (subst (λ (z : ℤ). Marks z (suc (emitted (arcs p))) n rs qs) (phone_is true e)
        (subst (λ (k : ℕ). Marks (phone_from g (pos 0) (arcs p ++ (x.arc ∷ []))) k n rs qs) (let z = count-append emits (arcs p) (x.arc ∷ []) in let y = emits_one x.arc [] e in omega arith) d))
    one false e =
        marks_epsilon (m.0.epsilon e).1
        (subst (λ (z : ℤ). Marks z (emitted (arcs p)) n rs qs) (phone_is false e)
        (subst (λ (k : ℕ). Marks (phone_from g (pos 0) (arcs p ++ (x.arc ∷ []))) k n rs qs) (let z = count-append emits (arcs p) (x.arc ∷ []) in let y = emits_none x.arc [] e in omega arith) d))
recs_mark g n (branch_on m k p) rs qs q f d = recs_mark g n p rs qs q.1 f d

not_started : (r : Rec) (ph : ℤ) (rs : List Rec) → r.phone ≡ pos 0 → phone_recs ph (r ∷ rs) ≡ phone_recs ph rs
not_started r ph rs e = ap (λ (z : ℤ). elim (nonzero z && not (eqℤ z ph)) as (λ b. List Rec) [ true ↦ r ∷ phone_recs z rs | false ↦ phone_recs ph rs ]) e

started : (r : Rec) (ph q : ℤ) (rs : List Rec) → nonzero q ≡ true → eqℤ q ph ≡ false → r.phone ≡ q → phone_recs ph (r ∷ rs) ≡ r ∷ phone_recs q rs
started r ph q rs nz d e = ap (λ (z : ℤ). elim (nonzero z && not (eqℤ z ph)) as (λ b. List Rec) [ true ↦ r ∷ phone_recs z rs | false ↦ phone_recs ph rs ]) e ∙ rw (nz, d)

one_more : (m : ℕ) (q : ℤ) (qs : List ℤ) → replicate (suc m) q ++ qs ≡ replicate m q ++ (q ∷ qs)
one_more zero q qs = refl
one_more (suc m) q qs = ap (λ (l : List ℤ). q ∷ l) (one_more m q qs)

-- after a record that started phone ph at frame a, before k
spell_from : (ph : ℤ) (k n a : ℕ) (r : Rec) (rs : List Rec) (qs : List ℤ) → r.phone ≡ ph → r.frame ≡ a → a < k → Marks ph k n rs qs → Spell a n (segments n (r ∷ phone_recs ph rs)) (replicate (k - a) ph ++ qs)
spell_from ph k n a r rs qs e f l (marks_end {n = n'}) =
    record { tiles = (f, omega arith, refl); spells = ap (λ (z : ℕ). replicate (n' - z) r.phone ++ []) f ∙ ap (λ (z : ℤ). replicate (n' - a) z ++ []) e }
spell_from ph k n a r rs qs e f l (marks_epsilon {r = x} {rs = xs} q d) = subst (λ (z : List Rec). Spell a n (segments n (r ∷ z)) (replicate (k - a) ph ++ qs)) (sym (not_started x ph xs q)) (spell_from ph k n a r xs qs e f l d)
spell_from ph k n a r rs qs e f l (marks_emitting {r = x} {rs = xs} {qs = ps} q nz i j d) =
    go (eqℤ q ph) refl (λ z. spell_from q (suc k) n a r xs ps z f (omega arith) d) (λ z. spell_from q (suc k) n k x xs ps z i (omega arith) d)
  where
    go : (b : Bool) → eqℤ q ph ≡ b → (r.phone ≡ q → Spell a n (segments n (r ∷ phone_recs q xs)) (replicate (suc k - a) q ++ ps)) → (x.phone ≡ q → Spell k n (segments n (x ∷ phone_recs q xs)) (replicate (suc k - k) q ++ ps))
        → Spell a n (segments n (r ∷ phone_recs ph (x ∷ xs))) (replicate (k - a) ph ++ (q ∷ ps))
    go true z same new =
        let o : q ≡ ph = eqℤ_same q ph z in
        let none-new : x.phone ≡ pos 0 = j ∙ ap (λ (c : Bool). cond c (pos 0) q) z in
        let s = same (e ∙ sym o) in
        let longer : suc k - a ≡ suc (k - a) = omega arith in
        subst (λ (w : List Rec). Spell a n (segments n (r ∷ w)) (replicate (k - a) ph ++ (q ∷ ps))) (sym (not_started x ph xs none-new))
        (subst (λ (w : ℤ). Spell a n (segments n (r ∷ phone_recs w xs)) (replicate (k - a) w ++ (q ∷ ps))) o
        (record { tiles = s.tiles; spells = s.spells ∙ ap (λ (m : ℕ). replicate m q ++ ps) longer ∙ one_more (k - a) q ps }))
    go false z same new =
        let s = new (j ∙ ap (λ (c : Bool). cond c (pos 0) q) z) in
        let single : suc k - k ≡ 1 = omega arith in
        let between : x.frame - r.frame ≡ k - a = omega arith in
        subst (λ (w : List Rec). Spell a n (segments n (r ∷ w)) (replicate (k - a) ph ++ (q ∷ ps))) (sym (started x ph q xs nz z (j ∙ ap (λ (c : Bool). cond c (pos 0) q) z)))
        (record {
          tiles = (f, omega arith, subst (λ (m : ℕ). Tiles m n (segments n (x ∷ phone_recs q xs))) (sym i) s.tiles);
          spells = ap (λ (l : List ℤ). replicate (x.frame - r.frame) r.phone ++ l) (s.spells ∙ ap (λ (m : ℕ). replicate m q ++ ps) single) ∙ ap (λ (m : ℕ). replicate m r.phone ++ (q ∷ ps)) between ∙ ap (λ (w : ℤ). replicate (k - a) w ++ (q ∷ ps)) e;
        })

not_zero : (z : ℤ) → nonzero z ≡ true → eqℤ z (pos 0) ≡ false
not_zero (pos zero) e = never e
not_zero (pos (suc n)) e = eqb-suc-zero n
not_zero (negsuc n) e = refl

spell_all : (n : ℕ) (rs : List Rec) (qs : List ℤ) → Marks (pos 0) 0 n rs qs → Spell 0 n (segments n (phone_recs (pos 0) rs)) qs
spell_all n rs qs marks_end = record { tiles = refl; spells = refl }
spell_all n rs qs (marks_epsilon {r = x} {rs = xs} q d) = subst (λ (z : List Rec). Spell 0 n (segments n z) qs) (sym (not_started x (pos 0) xs q)) (spell_all n xs qs d)
spell_all n rs qs (marks_emitting {r = x} {rs = xs} {qs = ps} q nz i j d) =
    let phone : x.phone ≡ q = j ∙ ap (λ (c : Bool). cond c (pos 0) q) (not_zero q nz) in
    subst (λ (z : List Rec). Spell 0 n (segments n z) (q ∷ ps)) (sym (started x (pos 0) q xs nz (not_zero q nz) phone)) (spell_from q 1 n 0 x xs ps phone i (omega arith) d)

-- ---- a token's own path

leads_arcs : (g : Graph) (s : ℕ) (route : List Arc) (t : ℕ) → Leads g s route t → (a : Arc) → a ∈ route → (u : ℕ) × (a ∈ arcs_of g u)
leads_arcs g s (b ∷ route) t l a (here e) = (s, subst (λ (x : Arc). x ∈ arcs_of g s) (sym e) l.0)
leads_arcs g s [] t l a x'' = elim x'' [ ]
leads_arcs g s (b ∷ route) t l a (there m) = leads_arcs g b.target route t l.1 a m

phoned : (g : Graph) → GoodGraph g → (s : ℕ) (route : List Arc) (t : ℕ) → Leads g s route t → Phoned g route
phoned g good s route t l a m e = let (u, k) = leads_arcs g s route t l a m in ap nonzero ((good.arc u a k).emitting e).phone_is

pub own_marks : (g : Graph) → GoodGraph g → (n s : ℕ) (p : Path) → Marked g p → Leads g g.start (arcs p) s → emitted (arcs p) ≡ n → Marks (pos 0) 0 n (recs_on [] n p []) (phones_on g (arcs p) ++ [])
own_marks g good n s p m l e = recs_mark g n p [] [] m (phoned g good g.start (arcs p) s l) (subst (λ (k : ℕ). Marks (phone_on g p) k n [] []) (sym e) marks_end)

pub own_segments : (g : Graph) → GoodGraph g → (n s : ℕ) (p : Path) (cost : Float) → Marked g p → Leads g g.start (arcs p) s → emitted (arcs p) ≡ n
    → Tiles 0 n (trace n [] p cost).phones × (spelled (trace n [] p cost).phones ≡ phones_on g (arcs p))
unfolding trace
own_segments g good n s p cost m l e =
    let r = spell_all n (recs_on [] n p []) (phones_on g (arcs p) ++ []) (own_marks g good n s p m l e) in
    (r.tiles, r.spells ∙ append-nil (phones_on g (arcs p)))

-- none at 0
runs_up : (a : ℕ) (ss : List Segment) → Tiles a 0 ss → 0 < a → ⊥
runs_up a [] t h = omega arith
runs_up a (s ∷ ss) t h = runs_up s.end ss t.2 (let z = t.1 in omega arith)

pub no_segments : (ss : List Segment) → Tiles 0 0 ss → ss ≡ []
no_segments [] t = refl
no_segments (s ∷ ss) t = absurd (runs_up s.end ss t.2 (let z = t.1 in omega arith))
