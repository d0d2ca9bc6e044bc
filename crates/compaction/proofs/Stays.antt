-- What the slid store stands for: each record's history is the one that it had under its old number. Assumes nothing.
use mathlib.Core.Path.{◌≡◌, refl, sym, ◌∙◌, ap, subst}
use mathlib.Core.Logic.{◌⊎◌}
use Prim.Native.Nat.{ℕ, suc, ◌-◌, ◌≤◌, ◌<◌}
use native.Mathlib.Omega.{arith}
use mathlib.Core.Bool.{Bool, true, false}
use mathlib.Core.List.{List}
use Rattle.lists.specs.Tests.{case, lt_or_le}
use Rattle.records.specs.History.{History}
use Rattle.records.specs.Layout.{Store, Rec, rec_at, is_link_rec, Room}
use Rattle.records.specs.Stands.{top_by, Sound, Stands}
use Rattle.records.specs.Shape.{Shape}
use Rattle.compaction.specs.Marks.{new_of, Marked}
use Rattle.compaction.specs.Slide.{renumbered, Slid}

-- what a marked record names is marked, or none
pub record Closed (s : Store) (used : ℕ) : Type 0 where
  pub prevs : (k : ℕ) → k < used → Marked s.records (suc k) → ((rec_at s k).prev ≡ 0) ⊎ Marked s.records (rec_at s k).prev
  pub kepts : (k : ℕ) → k < used → Marked s.records (suc k) → ((rec_at s k).kept ≡ 0) ⊎ Marked s.records (rec_at s k).kept

top_renumbered : (b : Bool) (rs : List ℕ) (r : Rec) (m : ℕ) (t q : History) → top_by b r m t q ≡ top_by b (renumbered rs r) m t q
top_renumbered true rs r m t q = refl
top_renumbered false rs r m t q = refl

module _ (s s' : Store) (used n : ℕ) (S : Slid s s' used n) where
  -- a record that stays, or none, by its new number
  pub home : (r : ℕ) → r ≤ used → (r ≡ 0) ⊎ Marked s.records r → S.old (new_of s'.records r) ≡ r
  home r l w =
      case w
      (λ e.
      let z : new_of s'.records 0 ≡ 0 = ap (new_of s'.records) (sym S.none) ∙ S.forth 0 (omega arith) in
      rw (e, z) S.none)
      (S.back r l)

  -- old numbers ascend, so a lower old number is a lower new one
  lower : (i j : ℕ) → i ≤ n → j ≤ n → S.old i < S.old j → i < j
  lower i j a b l =
      case (lt_or_le i j) (λ h. h)
      (λ h. case (lt_or_le j i) (λ g. absurd (omega (arith, S.ascends j i g a))) (λ g. absurd (let e : S.old i ≡ S.old j = ap S.old (omega arith) in omega arith)))

  module _ (sh : Shape s used) (cl : Closed s used) where
    -- where record j + 1 stood
    at : ℕ → ℕ
    at j = S.old (suc j) - 1

    stood : (j : ℕ) → j < n → suc (at j) ≡ S.old (suc j)
    unfolding at
    stood j l = omega (arith, S.ascends 0 (suc j) (omega arith) l)

    within : (j : ℕ) → j < n → at j < used
    within j l = omega (arith, stood j l, S.upto (suc j) l)

    marked : (j : ℕ) → j < n → Marked s.records (suc (at j))
    marked j l = rw (stood j l) (S.live (suc j) (omega arith) l)

    -- a record below it that stays has a new number below its
    below : (j : ℕ) → j < n → (r : ℕ) → r ≤ at j → (r ≡ 0) ⊎ Marked s.records r → new_of s'.records r ≤ j
    below j l r a w =
        let d = within j l in
        let h = home r (omega arith) w in
        let b = lower (new_of s'.records r) (suc j) (S.small r (omega arith)) l (omega (arith, h, stood j l)) in
        omega arith

    prev_of : (j : ℕ) → j < n → ((rec_at s (at j)).prev ≡ 0) ⊎ Marked s.records (rec_at s (at j)).prev
    prev_of j l = cl.prevs (at j) (within j l) (marked j l)

    kept_of_lem : (j : ℕ) → j < n → ((rec_at s (at j)).kept ≡ 0) ⊎ Marked s.records (rec_at s (at j)).kept
    kept_of_lem j l = cl.kepts (at j) (within j l) (marked j l)

    moved : (j : ℕ) → j < n → rec_at s' j ≡ renumbered s'.records (rec_at s (at j))
    unfolding at
    moved = S.moved

    prev_at_lem : (j : ℕ) → j < n → (rec_at s (at j)).prev ≤ at j
    unfolding rec_at
    prev_at_lem j l = sh.prev_low (at j) (within j l)

    kept_at : (j : ℕ) → j < n → (rec_at s (at j)).kept ≤ at j
    unfolding rec_at
    kept_at j l = sh.kept_low (at j) (within j l)

    prev_low : (j : ℕ) → j < n → (rec_at s' j).prev ≤ j
    prev_low j l = subst (λ (x : Rec). x.prev ≤ j) (sym (moved j l)) (below j l (rec_at s (at j)).prev (prev_at_lem j l) (prev_of j l))

    kept_low : (j : ℕ) → j < n → (rec_at s' j).kept ≤ j
    kept_low j l = subst (λ (x : Rec). x.kept ≤ j) (sym (moved j l)) (below j l (rec_at s (at j)).kept (kept_at j l) (kept_of_lem j l))

    pub slid_shape : Room s' n → Shape s' n
    unfolding rec_at
    slid_shape room = record { room = room; prev_low = prev_low; kept_low = kept_low }

    module _ (h : ℕ → History) (ok : Stands s used h) where
      each : (j : ℕ) → j < n → Sound (λ i. h (S.old i)) (rec_at s' j) j
      each j l =
          let i = at j in
          let r = rec_at s i in
          let d = within j l in
          let a = ok.each i d in
          let pl = prev_at_lem j l in
          let kl = kept_at j l in
          let p = home r.prev (omega arith) (prev_of j l) in
          let q = home r.kept (omega arith) (kept_of_lem j l) in
          subst (λ (x : Rec). Sound (λ i. h (S.old i)) x j) (sym (moved j l))
          (record {
            prev_low = below j l r.prev pl (prev_of j l);
            kept_low = below j l r.kept kl (kept_of_lem j l);
            alone = λ t. ap (new_of s'.records) (a.alone t ∙ sym S.none) ∙ S.forth 0 (omega arith);
            number = a.number;
            is = rw (p, q) (ap h (sym (stood j l)) ∙ a.is ∙ top_renumbered (is_link_rec r) s'.records r a.number (h r.prev) (h r.kept));
          })

      pub slid_stands : Stands s' n (λ i. h (S.old i))
      slid_stands = record { none = ap h S.none ∙ ok.none; each = each; ascends = λ i j a b. ok.ascends (S.old i) (S.old j) (S.ascends i j a b) (S.upto j b) }
