-- 13 is exact: where room for two records was made, the model refuses an arc's link, and then its join, just where the store has no further place.
use Rattle.std.specs.Prelude.{◌≡◌, ℕ, suc, ◌≤◌, true, false, not, ◌&&◌, List, ◌∷◌, eqb}
use mathlib.Core.List.Memᴰ.{tail as there}
use Rattle.lists.specs.Lists.{◌∈◌}
use Rattle.model.specs.Path.{Step, Path, arc_onto, is_link, word, full_at}
use Rattle.records.specs.History.{History, link_onto, history_of}
use Rattle.records.specs.Layout.{Store}
use Rattle.records.specs.Stands.{Stands, put}
use Rattle.compaction.specs.Marks.{Root}
use Rattle.compaction.specs.Count.{Known, Covers, full_is, tight_less, tight_link, tight_quiet, known_link, known_quiet}
use Rattle.compaction.specs.Carried.{RoomMade, known_again}

-- `p` is in hand, and the live paths are those of the roots.
module _ (s s' : Store) (tk tk' : List ℕ) (places used used' cap x x' : ℕ) (m : RoomMade s s' tk tk' places used used' cap x x') (h : ℕ → History) (ok : Stands s used h) (p : Path) (rest : List Path)
    (covers : Covers (Root tk places x) h (p ∷ rest)) (of-roots : (q : Path) → q ∈ (p ∷ rest) → (r : ℕ) × Root tk places x r × (h r ≡ history_of q)) where
  -- the histories by the new numbers
  abbrev pub moved : ℕ → History
  moved j = h (m.carried.old j)

  known : Known moved used' (p ∷ rest)
  known = known_again s s' tk tk' places used used' x x' m.carried h (p ∷ rest) of-roots

  -- the arc's own record
  pub full_at_link : used' ≤ cap → full_at cap (p ∷ rest) ≡ eqb used' cap
  full_at_link l = full_is s' used' moved (m.carried.stands h ok) (p ∷ rest) known cap l (tight_less 1 cap moved used' (p ∷ rest) (m.tight h (p ∷ rest) ok covers))

  module _ (a : Step) where
    -- the join of an arc that put a link on
    pub full_at_join : is_link a ≡ true → a.beside ≡ false → (prev : ℕ) → moved prev ≡ history_of p → suc used' ≤ cap → (s'' : Store)
        → Stands s'' (suc used') (put moved (suc used') (link_onto a.number a.frame (word a) a.starts (moved prev))) → full_at cap (arc_onto a p ∷ rest) ≡ eqb (suc used') cap
    full_at_join link plain prev e l s'' put_on =
        full_is s'' (suc used') (put moved (suc used') (link_onto a.number a.frame (word a) a.starts (moved prev))) put_on (arc_onto a p ∷ rest)
        (known_link moved used' a p rest link plain prev e (λ q i. known q (there i))) cap l (tight_link moved used' a p rest link plain 1 cap prev (m.tight h (p ∷ rest) ok covers))

    -- the join of an arc that put none on
    pub full_at_join_alone : (is_link a && not a.beside) ≡ false → used' ≤ cap → full_at cap (arc_onto a p ∷ rest) ≡ eqb used' cap
    full_at_join_alone quiet l =
        full_is s' used' moved (m.carried.stands h ok) (arc_onto a p ∷ rest) (known_quiet moved used' a p rest quiet known) cap l
        (tight_less 1 cap moved used' (arc_onto a p ∷ rest) (tight_quiet moved used' a p rest quiet 2 cap (m.tight h (p ∷ rest) ok covers)))
