-- What the first n records of a store stand for: a history each, said record by record.
use Rattle.std.specs.Prelude.{◌≡◌, refl, ℕ, suc, ◌≤◌, ◌<◌, Bool, true, false, cond, eqb}
use Rattle.std.proofs.Common.{sym, ◌∙◌, subst, arith, eq-eqb, ne_eqb}
use Rattle.lists.specs.Tests.{case, lt_or_le}
use Rattle.records.specs.History.{History, no_history, link_onto, join_on, tag}
use Rattle.records.specs.Layout.{Store, Rec, rec_at, is_link_rec}

abbrev pub top_by : Bool → Rec → ℕ → (below kept : History) → History
top_by true r n below kept = link_onto n r.frame r.word r.starts below
top_by false r n below kept = join_on n r.frame r.beside kept below

-- the history of a record that has this number in the model
abbrev pub top : Rec → ℕ → (below kept : History) → History
top r n below kept = top_by (is_link_rec r) r n below kept

-- Record number k + 1, where `h` gives each record's history. What it names has a lower number, and a link keeps nothing.
pub record Sound (h : ℕ → History) (r : Rec) (k : ℕ) : Type 0 where
  pub prev_low : r.prev ≤ k
  pub kept_low : r.kept ≤ k
  pub alone : is_link_rec r ≡ true → r.kept ≡ 0
  pub number : ℕ
  pub is : h (suc k) ≡ top r number (h r.prev) (h r.kept)

-- The model's numbers ascend with the records', so that equal records and equal model numbers are the same thing.
pub record Stands (s : Store) (n : ℕ) (h : ℕ → History) : Type 0 where
  pub none : h 0 ≡ no_history
  pub each : (k : ℕ) → k < n → Sound h (rec_at s k) k
  pub ascends : (j k : ℕ) → j < k → k ≤ n → tag (h j) < tag (h k)

-- a table of histories with one more
unfoldable pub put : (ℕ → History) → ℕ → History → ℕ → History
put h k v j = cond (eqb j k) v (h j)

pub put_same : (h : ℕ → History) (k : ℕ) (v : History) → put h k v k ≡ v
unfolding put
put_same h k v = rw (eq-eqb k k refl)

pub put_other : (h : ℕ → History) (k : ℕ) (v : History) (j : ℕ) → (j ≡ k → ⊥) → put h k v j ≡ h j
unfolding put
put_other h k v j d = rw (ne_eqb j k d)

-- ---- laws

pub tag_top : (r : Rec) (m : ℕ) (t q : History) → tag (top r m t q) ≡ suc m
unfolding tag
tag_top r m t q = go (is_link_rec r)
  where
    go : (b : Bool) → tag (top_by b r m t q) ≡ suc m
    go true = refl
    go false = refl

-- the empty store
pub stands_none : (s : Store) → Stands s 0 (λ j. no_history)
stands_none s = record { none = refl; each = λ k l. absurd (omega arith); ascends = λ j k l u. absurd (omega arith) }

-- the newest records dropped
pub stands_less : (s : Store) (used n : ℕ) (h : ℕ → History) → n ≤ used → Stands s used h → Stands s n h
stands_less s used n h l ok = record { none = ok.none; each = λ k a. ok.each k (omega arith); ascends = λ j k a b. ok.ascends j k a (omega arith) }

-- a later record has a later number
pub tag_upto : (s : Store) (n : ℕ) (h : ℕ → History) → Stands s n h → (j : ℕ) → j ≤ n → tag (h j) ≤ tag (h n)
tag_upto s n h ok j l = case (lt_or_le j n) (λ a. omega (arith, ok.ascends j n a (omega arith))) (λ a. let e : j ≡ n = omega arith in rw e (omega arith))

-- One more record: the older ones stand for what they stood for.
module _ (s s' : Store) (n : ℕ) (h : ℕ → History) (m : ℕ) (same : (k : ℕ) → k < n → rec_at s' k ≡ rec_at s k) (ok : Stands s n h) (new : tag (h n) ≤ m)
    (r : Rec) (is : rec_at s' n ≡ r) (p : r.prev ≤ n) (q : r.kept ≤ n) (one : is_link_rec r ≡ true → r.kept ≡ 0) where
  abbrev v : History
  v = top r m (h r.prev) (h r.kept)

  old : (k : ℕ) → k ≤ n → put h (suc n) v k ≡ h k
  old k l = put_other h (suc n) v k (λ e. omega arith)

  older : (k : ℕ) → k < n → Sound (put h (suc n) v) (rec_at s' k) k
  older k l =
      let a = ok.each k l in
      subst (λ (x : Rec). Sound (put h (suc n) v) x k) (sym (same k l))
      (record {
        prev_low = a.prev_low;
        kept_low = a.kept_low;
        alone = a.alone;
        number = a.number;
        is = rw (old (suc k) l, old (rec_at s k).prev (omega (arith, a.prev_low)), old (rec_at s k).kept (omega (arith, a.kept_low))) a.is;
      })

  newest : Sound (put h (suc n) v) (rec_at s' n) n
  newest =
      subst (λ (x : Rec). Sound (put h (suc n) v) x n) (sym is)
      (record { prev_low = p; kept_low = q; alone = one; number = m; is = rw (put_same h (suc n) v, old r.prev p, old r.kept q) })

  pub stands_put : Stands s' (suc n) (put h (suc n) v)
  stands_put =
      record {
        none = old 0 (omega arith) ∙ ok.none;
        each = λ k l. case (lt_or_le k n) (older k) (λ a. let e : k ≡ n = omega arith in rw e newest);
        ascends = λ j k l u. case (lt_or_le n k)
            (λ a. let e : k ≡ suc n = omega arith in rw (e, old j (omega arith), put_same h (suc n) v, tag_top r m (h r.prev) (h r.kept)) (omega (arith, tag_upto s n h ok j (omega arith))))
            (λ a. rw (old j (omega arith), old k a) (ok.ascends j k l a));
      }
