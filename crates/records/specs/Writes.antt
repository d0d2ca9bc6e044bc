-- What a put writes: the record's fields at its places, and every other record as it was. Assumes nothing.
use Rattle.std.specs.Prelude.{◌≡◌, refl, ℕ, suc, ◌+◌, ◌*◌, ◌≤◌, ◌<◌, true, ◌||◌, ℤ, length, Float}
use Rattle.std.proofs.Common.{ap, inl, arith}
use mathlib.Core.List.{List, [], ◌∷◌}
use Rattle.std.proofs.Math.IntN.{pos}
use Rattle.std.proofs.Math.ListN.{get_or}
use Rattle.std.proofs.lemmas.List.Edits.{sets}
use Rattle.std.specs.Float.Ieee.{nan}
use Rattle.lists.specs.Tests.{never}
use Rattle.lists.specs.Sets.{sets_off, sets_on, sets_first}
use Rattle.model.specs.Basics.{nonzero}
use Rattle.records.specs.declared.Kept.{Kept}
use Rattle.records.specs.History.{History, link_onto, join_on, tag}
use Rattle.records.specs.Layout.{Store, store, Rec, rec_at, beside_in}
use Rattle.records.specs.Stands.{Stands, put, top, top_by, stands_put}

abbrev pub link_numbers : (prev frame starts : ℕ) → List ℕ
link_numbers p f st = p ∷ f ∷ st ∷ 0 ∷ []

abbrev pub join_numbers : (prev frame : ℕ) → Kept → List ℕ
join_numbers p f k = p ∷ f ∷ 0 ∷ k.link ∷ k.starts ∷ k.phone ∷ k.winner ∷ []

-- ---- other records

module _ (j n : ℕ) (d : j < n) (vs : List ℕ) (ws : List ℤ) (xs : List Float) (s : Store) where
  abbrev after : Store
  after = store (sets s.records (n * 8) vs) (sets s.labels (n * 2) ws) (sets s.gaps (n * 2) xs)

  number_off : (c : ℕ) → c < 8 → get_or after.records (j * 8 + c) 0 ≡ get_or s.records (j * 8 + c) 0
  number_off c l = sets_off vs s.records (n * 8) (j * 8 + c) 0 (inl (omega arith))

  pub record_off : rec_at after j ≡ rec_at s j
  unfolding rec_at
  record_off i =
      record {
        prev = sets_off vs s.records (n * 8) (j * 8) 0 (inl (omega arith)) i;
        frame = number_off 1 (omega arith) i;
        kept = number_off 3 (omega arith) i;
        word = sets_off ws s.labels (n * 2) (j * 2) (pos 0) (inl (omega arith)) i;
        starts = pos (number_off 2 (omega arith) i);
        beside = record {
          word = sets_off ws s.labels (n * 2) (j * 2 + 1) (pos 0) (inl (omega arith)) i;
          starts = pos (number_off 4 (omega arith) i);
          cost = sets_off xs s.gaps (n * 2) (j * 2) nan (inl (omega arith)) i;
          graph = sets_off xs s.gaps (n * 2) (j * 2 + 1) nan (inl (omega arith)) i;
          phone = pos (number_off 5 (omega arith) i);
          winner = pos (number_off 6 (omega arith) i);
        };
      }

-- ---- the record itself

module _ (s : Store) (n p f : ℕ) where
  -- a link leaves the places of a kept history as they are
  abbrev link_rec : ℤ → ℕ → Store → Rec
  link_rec w st z = record { prev = p; frame = f; kept = 0; word = w; starts = pos st; beside = (rec_at z n).beside }

  abbrev pub link_written : ℤ → ℕ → Store
  link_written w st = store (sets s.records (n * 8) (link_numbers p f st)) (sets s.labels (n * 2) (w ∷ [])) s.gaps

  abbrev join_rec : Kept → Rec
  join_rec k = record { prev = p; frame = f; kept = k.link; word = pos 0; starts = pos 0; beside = beside_in k }

  abbrev pub join_written : Kept → Store
  join_written k = store (sets s.records (n * 8) (join_numbers p f k)) (sets s.labels (n * 2) (pos 0 ∷ k.word ∷ [])) (sets s.gaps (n * 2) (k.cost ∷ k.graph ∷ []))

  module _ (r : n * 8 + 8 ≤ length s.records) (l : n * 2 + 2 ≤ length s.labels) where
    link_is : (w : ℤ) (st : ℕ) → rec_at (link_written w st) n ≡ link_rec w st (link_written w st)
    unfolding rec_at
    link_is w st =
        let vs = link_numbers p f st in
        let at : (c : ℕ) → c < 4 → get_or (sets s.records (n * 8) vs) (n * 8 + c) 0 ≡ get_or vs c 0 = λ c h. sets_on vs s.records (n * 8) c 0 h (omega arith) in
        λ i. record {
          prev = sets_first vs s.records (n * 8) 0 (omega arith) (omega arith) i;
          frame = at 1 (omega arith) i;
          kept = at 3 (omega arith) i;
          word = sets_first (w ∷ []) s.labels (n * 2) (pos 0) (omega arith) (omega arith) i;
          starts = pos (at 2 (omega arith) i);
          beside = (rec_at (link_written w st) n).beside;
        }

    join_is : n * 2 + 2 ≤ length s.gaps → (k : Kept) → rec_at (join_written k) n ≡ join_rec k
    unfolding rec_at
    join_is g k =
        let vs = join_numbers p f k in
        let ws = pos 0 ∷ k.word ∷ [] in
        let xs = k.cost ∷ k.graph ∷ [] in
        let at : (c : ℕ) → c < 7 → get_or (sets s.records (n * 8) vs) (n * 8 + c) 0 ≡ get_or vs c 0 = λ c h. sets_on vs s.records (n * 8) c 0 h (omega arith) in
        λ i. record {
          prev = sets_first vs s.records (n * 8) 0 (omega arith) (omega arith) i;
          frame = at 1 (omega arith) i;
          kept = at 3 (omega arith) i;
          word = sets_first ws s.labels (n * 2) (pos 0) (omega arith) (omega arith) i;
          starts = pos (at 2 (omega arith) i);
          beside = record {
            word = sets_on ws s.labels (n * 2) 1 (pos 0) (omega arith) (omega arith) i;
            starts = pos (at 4 (omega arith) i);
            cost = sets_first xs s.gaps (n * 2) nan (omega arith) (omega arith) i;
            graph = sets_on xs s.gaps (n * 2) 1 nan (omega arith) (omega arith) i;
            phone = pos (at 5 (omega arith) i);
            winner = pos (at 6 (omega arith) i);
          };
        }

    module _ (h : ℕ → History) (m : ℕ) (ok : Stands s n h) (new : tag (h n) ≤ m) (low : p ≤ n) where
      pub link_stands : (w : ℤ) (st : ℕ) → (nonzero w || nonzero (pos st)) ≡ true → Stands (link_written w st) (suc n) (put h (suc n) (link_onto m f w (pos st) (h p)))
      link_stands w st e =
          let r = link_rec w st (link_written w st) in
          let v : top r m (h p) (h 0) ≡ link_onto m f w (pos st) (h p) = ap (λ b. top_by b r m (h p) (h 0)) e in
          rw v at (stands_put s (link_written w st) n h m (λ k d. record_off k n d (link_numbers p f st) (w ∷ []) [] s) ok new r (link_is w st) low (omega arith) (λ t. refl))

      pub join_stands : n * 2 + 2 ≤ length s.gaps → (k : Kept) → k.link ≤ n → Stands (join_written k) (suc n) (put h (suc n) (join_on m f (beside_in k) (h k.link) (h p)))
      join_stands g k q =
          stands_put s (join_written k) n h m (λ j d. record_off j n d (join_numbers p f k) (pos 0 ∷ k.word ∷ []) (k.cost ∷ k.graph ∷ []) s) ok new (join_rec k) (join_is g k) low q (λ t. never t)
