-- The two tables and the hand are the roots: each root stands for a live path, and each live path is a root's. Assumes nothing.
use Rattle.std.specs.Prelude.{◌≡◌, ◌⊎◌, ℕ, zero, suc, ◌-◌, ◌*◌, ◌/◌, ◌%◌, ◌≤◌, ◌<◌, List, [], ◌∷◌, ◌++◌, length, Float}
use Rattle.std.proofs.Math.Path.{refl, ap}
use Rattle.std.proofs.Common.{sym, ◌∙◌, inl, inr, div-add-mod'}
use native.Mathlib.Omega.{arith}
use Rattle.std.proofs.Math.Option.{Option, none, some}
use mathlib.Core.List.Memᴰ
use mathlib.Core.List.Memᴰ.{head as here}
use mathlib.Core.List.Memᴰ.{tail as there}
use Rattle.std.proofs.Math.ListN.{get_or}
use Rattle.lists.specs.Tests.{case, eq_or_not}
use Rattle.lists.specs.Lists.{◌∈◌}
use Rattle.lists.specs.Members.{map_from, map_to}
use Rattle.model.specs.Path.{Path, Token, Table, tokens, paths}
use Rattle.tokens.specs.Layout.{Cell, cell_at, held_at, place_in}
use Rattle.records.specs.History.{History, history_of}
use Rattle.records.specs.Shape.{shape_of}
use Rattle.compaction.specs.Marks.{Root}
use Rattle.compaction.specs.Count.{Known, Covers}
use Rattle.compaction.specs.Carried.{Holds}
use Rattle.stores.specs.Shown.{Shows, shows_none, shows_token, Shown}
use Rattle.stores.specs.Rep.{Lent, store_of, Places, Rep}

-- ---- tokens of a table

pub token_at : (ts : Table) (t : Token) → t ∈ tokens ts → (s : ℕ) × (s < length ts) × (get_or ts s none ≡ some t)
token_at [] t m = elim m [ ]
token_at (none ∷ ts) t m = let (s, l, e) = token_at ts t m in (suc s, omega arith, e)
token_at (some u ∷ ts) t (here e) = (0, omega arith, ap some (sym e))
token_at (some u ∷ ts) t (there m) = let (s, l, e) = token_at ts t m in (suc s, omega arith, e)

pub at_token : (ts : Table) (s : ℕ) (t : Token) → get_or ts s none ≡ some t → t ∈ tokens ts
at_token [] s t e = absurd (let z : ◌≡◌ {A = ℕ} 0 1 = cc in omega arith)
at_token (none ∷ ts) zero t e = absurd (let z : ◌≡◌ {A = ℕ} 0 1 = cc in omega arith)
at_token (none ∷ ts) (suc s) t e = at_token ts s t e
at_token (some u ∷ ts) zero t e = here (let z : t ≡ u = cc in z)
at_token (some u ∷ ts) (suc s) t e = there (at_token ts s t e)

module _ {h : ℕ → History} {used : ℕ} {tk : List ℕ} {sm : List Float} {b n : ℕ} {ts : Table} (w : Shown h used tk sm b n ts) where
  -- a path of the table is a record's
  pub shown_known : (p : Path) → p ∈ paths ts → (r : ℕ) × (r ≤ used) × (h r ≡ history_of p)
  shown_known p m =
      let (t, k, e) = map_from (λ (t : Token). t.path) (tokens ts) p m in
      let (s, l, q) = token_at ts t k in
      go s t e (get_or ts s none) q (w.place s (let z = w.size in omega arith))
    where
      same : (u t : Token) → some u ≡ some t → u.path ≡ t.path
      same u t q = let z : u ≡ t = cc in ap (λ (v : Token). v.path) z

      go : (s : ℕ) (t : Token) → p ≡ t.path → (o : Option Token) → o ≡ some t → Shows h used (cell_at tk sm (place_in b s)) o → (r : ℕ) × (r ≤ used) × (h r ≡ history_of p)
      go s t e none q x = absurd (let z : ◌≡◌ {A = ℕ} 0 1 = cc in omega arith)
      go s t e (some u) q (shows_token y d i) = (y.link, i.link.low, i.link.is ∙ ap history_of (same u t q ∙ sym e))

  -- what a place holds is a path of the table
  pub held_known : (s j : ℕ) → s < n → held_at tk (place_in b s) ≡ suc j → (j ≤ used) × ((p : Path) × (p ∈ paths ts) × (h j ≡ history_of p))
  unfolding cell_at
  held_known s j l e = go (get_or ts s none) refl (w.place s l)
    where
      go : (o : Option Token) → get_or ts s none ≡ o → Shows h used (cell_at tk sm (place_in b s)) o → (j ≤ used) × ((p : Path) × (p ∈ paths ts) × (h j ≡ history_of p))
      go none q (shows_none d) = absurd (omega arith)
      go (some t) q (shows_token y d i) =
          let z : j ≡ y.link = let z = ap (λ (c : Cell). c.held) d in omega arith in
          (let a = i.link.low in omega arith, (t.path, map_to (λ (t : Token). t.path) (tokens ts) t (at_token ts s t q), ap h z ∙ i.link.is))

-- ---- both tables, and the hand

module _ {b n : ℕ} {m : Lent} {used x : ℕ} {p : Path} {done going : Table} {fresh : ℕ} (side : b ≤ 1) (r : Rep b n m used x p done going fresh) where
  abbrev live : List Path
  live = p ∷ (paths going ++ paths done)

  pub rep_known : Known r.h used live
  rep_known q (here e) = (x, r.hand.low, r.hand.is ∙ ap history_of (sym e))
  rep_known q (there i) = case (Memᴰ.append_cases (paths going) i) (shown_known r.progress q) (shown_known r.finished q)

  -- a place is one of this table or of the other
  place_of : (q : ℕ) → q < n * 2 → (s : ℕ) × (s < n) × ((q ≡ place_in b s) ⊎ (q ≡ place_in (1 - b) s))
  place_of q l =
      let e = div-add-mod' q 2 in
      (q / 2, omega arith, case (eq_or_not (q % 2) b) (λ d. inl (omega arith)) (λ d. inr (omega arith)))

  held_low : (q j : ℕ) → q < n * 2 → held_at m.tokens q ≡ suc j → (j ≤ used) × ((p' : Path) × (p' ∈ live) × (r.h j ≡ history_of p'))
  held_low q j l e =
      let (s, k, d) = place_of q l in
      case d
      (λ d. let (a, (p', i, z)) = held_known r.progress s j k (ap (held_at m.tokens) (sym d) ∙ e) in (a, (p', there (Memᴰ.append_left (paths done) i), z)))
      (λ d. let (a, (p', i, z)) = held_known r.finished s j k (ap (held_at m.tokens) (sym d) ∙ e) in (a, (p', there (Memᴰ.append_right (paths going) i), z)))

  pub rep_covers : Covers (Root m.tokens (n * 2) x) r.h live
  rep_covers j (inl (q, l, e)) = (held_low q j l e).1
  rep_covers j (inr e) = (p, here refl, ap r.h e ∙ r.hand.is)

  -- what a compaction asks
  pub rep_holds : (cap : ℕ) → used ≤ cap → cap ≤ 1048576 → Places n cap m → Holds (store_of m) m.tokens (n * 2) used x
  rep_holds cap f c z =
      record {
        shape = shape_of (store_of m) used r.h (let y = z.store in record { records = omega (arith, y.records); labels = omega (arith, y.labels); gaps = omega (arith, y.gaps) }) r.stands;
        few = omega arith;
        room = omega (arith, z.tokens);
        held = λ q l. low q l (held_at m.tokens q) refl;
        number = r.hand.low;
      }
    where
      low : (q : ℕ) → q < n * 2 → (v : ℕ) → held_at m.tokens q ≡ v → held_at m.tokens q ≤ suc used
      low q l zero e = omega arith
      low q l (suc j) e = let a = (held_low q j l e).0 in omega arith
