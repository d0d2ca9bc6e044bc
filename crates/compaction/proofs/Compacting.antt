-- Marking, sliding and renumbering together are a compaction. Assumes nothing.
use mathlib.Core.Path.{◌≡◌, refl, sym, ◌∙◌, ap, subst}
use mathlib.Core.Logic.{◌⊎◌, inl, inr}
use Prim.Native.Nat.{ℕ, suc, ◌+◌, ◌*◌, ◌≤◌}
use native.Mathlib.Omega.{arith}
use mathlib.Core.List.{List}
use lib.ListN.{length, get_or, set}
use lib.Seq.{get_or-set_other}
use Rattle.lists.specs.Tests.{case, eq_or_not}
use Rattle.tokens.specs.Layout.{held_at}
use Rattle.tokens.specs.Held.{record_put, record_off, record_requeued}
use Rattle.records.specs.History.{History}
use Rattle.records.specs.Layout.{Store, store, Rec, rec_at, Room, prev_at, kept_at}
use Rattle.records.specs.Stands.{Sound, Stands}
use Rattle.records.specs.Shape.{Shape}
use Rattle.compaction.specs.Marks.{new_of, Marked, Root, Reach, from_root, through_prev, through_kept, LiveMarked}
use Rattle.compaction.specs.Slide.{Slid}
use Rattle.compaction.specs.Count.{reached_live}
use Rattle.compaction.specs.Carried.{Holds, Renumbered, Carried, Compacted, RoomMade}
use Rattle.compaction.proofs.Marking.{same_prev, same_kept_lem}
use Rattle.compaction.proofs.Stays.{Closed, home, slid_shape, slid_stands}

-- ---- new numbers in the tokens

pub renumbered_none : (rs tk : List ℕ) → Renumbered rs tk tk 0
renumbered_none rs tk = record { others = record { seq = λ p. refl; phone = λ p. refl; requeued = λ p. refl; beyond = λ p l. refl }; none = λ p e. e; held = λ p r l e. absurd (omega arith) }

module _ (rs tk₀ tk : List ℕ) (p : ℕ) (m : Renumbered rs tk₀ tk p) where
  pub renumbered_skip : held_at tk p ≡ 0 → Renumbered rs tk₀ tk (p + 1)
  renumbered_skip z =
      record {
        others = record { seq = m.others.seq; phone = m.others.phone; requeued = m.others.requeued; beyond = λ q l. m.others.beyond q (omega arith) };
        none = m.none;
        held = λ q r l e. case (eq_or_not q p) (λ d. absurd (omega (arith, m.others.beyond p (omega arith), ap (held_at tk₀) d))) (λ d. m.held q r (omega (arith, d)) e);
      }

  module _ (v : ℕ) (room : p * 4 + 4 ≤ length tk) where
    abbrev next : List ℕ
    next = set tk (p * 4) v

    field_same : (i : ℕ) → (i ≡ p * 4 → ⊥) → get_or next i 0 ≡ get_or tk i 0
    field_same i d = get_or-set_other tk (p * 4) i v 0 d

    pub renumbered_more : (r : ℕ) → held_at tk p ≡ suc r → v ≡ new_of rs r → Renumbered rs tk₀ next (p + 1)
    renumbered_more r e is =
        let was : held_at tk₀ p ≡ suc r = sym (m.others.beyond p (omega arith)) ∙ e in
        record {
          others = record {
            seq = λ q. field_same (q * 4 + 1) (λ d. omega arith) ∙ m.others.seq q;
            phone = λ q. field_same (q * 4 + 2) (λ d. omega arith) ∙ m.others.phone q;
            requeued = λ q. record_requeued tk p v q ∙ m.others.requeued q;
            beyond = λ q l. record_off tk p v q (λ d. omega arith) ∙ m.others.beyond q (omega arith);
          };
          none = λ q z. case (eq_or_not q p) (λ d. absurd (omega (arith, was, ap (held_at tk₀) d))) (λ d. record_off tk p v q d ∙ m.none q z);
          held = λ q j l a. case (eq_or_not q p)
              (λ d.
              let same : j ≡ r = omega (arith, ap (held_at tk₀) d) in
              ap (held_at next) d ∙ record_put tk p v room (λ z. omega arith) ∙ ap suc is ∙ ap (λ (x : ℕ). suc (new_of rs x)) (sym same))
              (λ d. record_off tk p v q d ∙ m.held q j (omega (arith, d)) a);
        }

-- ---- a compaction

module _ (s : Store) (tk rs : List ℕ) (places used x : ℕ) (h : Holds s tk places used x) (m : LiveMarked (Root tk places x) s.records rs used) (long : length rs ≡ length s.records) where
  -- the store with its marks
  abbrev marked : Store
  marked = store rs s.labels s.gaps

  same : (k : ℕ) → rec_at marked k ≡ rec_at s k
  same = m.same s.labels s.gaps

  pub marked_shape : Shape marked used
  marked_shape =
      record {
        room = record { records = rw long h.shape.room.records; labels = h.shape.room.labels; gaps = h.shape.room.gaps };
        prev_low = λ k l. rw (same_prev s.records rs m.same k) (h.shape.prev_low k l);
        kept_low = λ k l. rw (same_kept_lem s.records rs m.same k) (h.shape.kept_low k l);
      }

  -- what a live record names is live, or none
  alive : (r : ℕ) → r ≤ used → Reach s.records used (Root tk places x) r → (r ≡ 0) ⊎ Marked rs r
  alive r l t = case (eq_or_not r 0) inl (λ d. inr (m.all r (omega (arith, d)) l t))

  closed : Closed marked used
  unfolding rec_at
  closed =
      record {
        prevs = λ k l w. rw (same_prev s.records rs m.same k) (alive (prev_at s.records k) (omega (arith, h.shape.prev_low k l)) (through_prev k l (m.only (suc k) l w)));
        kepts = λ k l w. rw (same_kept_lem s.records rs m.same k) (alive (kept_at s.records k) (omega (arith, h.shape.kept_low k l)) (through_kept k l (m.only (suc k) l w)));
      }

  stands : (t : ℕ → History) → Stands s used t → Stands marked used t
  stands t ok = record { none = ok.none; each = λ k l. subst (λ (r : Rec). Sound t r k) (sym (same k)) (ok.each k l); ascends = ok.ascends }

  module _ (s' : Store) (n : ℕ) (S : Slid marked s' used n) where
    root_home : (r : ℕ) → r ≤ used → Root tk places x r → S.old (new_of s'.records r) ≡ r
    root_home r l w = home marked s' used n S r l (alive r l (from_root w))

    module _ (tk' : List ℕ) (N : Renumbered s'.records tk tk' places) (room : Room s' n) where
      carried : Carried s s' tk tk' places used n x (new_of s'.records x)
      carried =
          record {
            old = S.old;
            few = S.few;
            first = S.none;
            upto = S.upto;
            ascends = S.ascends;
            shape = slid_shape marked s' used n S marked_shape closed room;
            stands = λ t ok. slid_stands marked s' used n S marked_shape closed t (stands t ok);
            others = N.others;
            none = N.none;
            held = λ p r l e.
                let b : r ≤ used = omega (arith, h.held p l) in
                (new_of s'.records r, N.held p r l e, S.small r b, root_home r b (inl (p, l, e)));
            number = (S.small x h.number, root_home x h.number (inr refl));
          }

      pub compacted : (x' : ℕ) → x' ≡ new_of s'.records x → Compacted s s' tk tk' places used n x x'
      unfolding carried
      compacted x' e =
          rw e
          (record {
            carried = carried;
            live = λ t ps ok c j a l.
                let o = S.upto j l in
                let b = S.ascends 0 j a l in
                reached_live s used t ok (Root tk places x) ps c (S.old j) (omega arith) o (m.only (S.old j) o (S.live j a l));
          })

-- ---- room for two more

module _ (s : Store) (tk : List ℕ) (places used cap x : ℕ) (h : Holds s tk places used x) where
  pub room_left : used + 2 ≤ cap → RoomMade s s tk tk places used used cap x x
  room_left l =
      record {
        carried = record {
          old = λ j. j;
          few = omega arith;
          first = refl;
          upto = λ j l. l;
          ascends = λ i j a b. a;
          shape = h.shape;
          stands = λ t ok. ok;
          others = record { seq = λ p. refl; phone = λ p. refl; requeued = λ p. refl; beyond = λ p l. refl };
          none = λ p e. e;
          held = λ p r l e. (r, e, omega (arith, h.held p l), refl);
          number = (h.number, refl);
        };
        tight = λ t ps ok c. inl l;
      }

pub room_made_lem : (s s' : Store) (tk tk' : List ℕ) (places used used' cap x x' : ℕ) → Compacted s s' tk tk' places used used' x x' → RoomMade s s' tk tk' places used used' cap x x'
room_made_lem s s' tk tk' places used used' cap x x' c = record { carried = c.carried; tight = λ t ps ok v. inr (c.live t ps ok v) }
