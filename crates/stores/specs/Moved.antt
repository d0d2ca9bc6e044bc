-- A compaction carries everything over. Assumes nothing.
use Rattle.std.specs.Prelude.{◌≡◌, ℕ, suc, ◌-◌, ◌*◌, ◌≤◌, ◌<◌, List, ℤ, get_or, Float}
use Rattle.std.proofs.Common.{◌∙◌, ap, arith}
use Rattle.std.proofs.Math.Option.{Option, none, some}
use Rattle.model.specs.Path.{Path, Token, Table}
use Rattle.tokens.specs.declared.Token.{Token as Stored}
use Rattle.tokens.specs.Layout.{Cell, cell_at, held_at, place_in}
use Rattle.records.specs.History.{History, tag}
use Rattle.records.specs.Layout.{Store}
use Rattle.records.specs.Stands.{Stands, tag_upto}
use Rattle.compaction.specs.Carried.{Carried}
use Rattle.stores.specs.Shown.{Is, Shows, shows_none, shows_token, Shown}
use Rattle.stores.specs.Rep.{Lent, lent, store_of, Rep}

module _ {s s' : Store} {tk tk' : List ℕ} {places used used' x x' : ℕ} (c : Carried s s' tk tk' places used used' x x') (h : ℕ → History) where
  abbrev h' : ℕ → History
  h' j = h (c.old j)

  pub is_moved : (l l' : ℕ) (p : Path) → l' ≤ used' → c.old l' ≡ l → Is h used l p → Is h' used' l' p
  is_moved l l' p a e i = record { low = a; is = ap h e ∙ i.is; own = i.own; frames = i.frames }

  abbrev renumbered : Stored → ℕ → Stored
  renumbered y l = record { cost = y.cost; graph = y.graph; link = l; phone = y.phone; seq = y.seq }

  pub shown_moved : (sm : List Float) (b n : ℕ) (ts : Table) → b ≤ 1 → n * 2 ≤ places → Shown h used tk sm b n ts → Shown h' used' tk' sm b n ts
  unfolding cell_at
  shown_moved sm b n ts side room w = record { size = w.size; place = λ s l. at s l (get_or ts s none) (w.place s l) }
    where
      same : (q : ℕ) (v : ℕ) → held_at tk' q ≡ v → cell_at tk' sm q ≡ record { held = v; seq = (cell_at tk sm q).seq; phone = (cell_at tk sm q).phone; cost = (cell_at tk sm q).cost; graph = (cell_at tk sm q).graph }
      same q v e = λ j. record { held = e j; seq = c.others.seq q j; phone = c.others.phone q j; cost = (cell_at tk sm q).cost; graph = (cell_at tk sm q).graph }

      at : (s : ℕ) → s < n → (o : Option Token) → Shows h used (cell_at tk sm (place_in b s)) o → Shows h' used' (cell_at tk' sm (place_in b s)) o
      at s l none (shows_none e) = shows_none (c.none (place_in b s) e)
      at s l (some t) (shows_token y e i) =
          let (r', d, a, o) = c.held (place_in b s) y.link (omega arith) (ap (λ (z : Cell). z.held) e) in
          shows_token (renumbered y r')
          (same (place_in b s) (suc r') d ∙ λ j. record { held = suc r'; seq = (e j).seq; phone = (e j).phone; cost = (e j).cost; graph = (e j).graph })
          (record { cost = i.cost; graph = i.graph; link = is_moved y.link r' t.path a o i.link; phone = i.phone; seq = i.seq })

  -- the newest record is no newer
  pub newest_moved : (fresh : ℕ) → Stands s used h → tag (h used) ≤ fresh → tag (h' used') ≤ fresh
  newest_moved fresh st l = let a = tag_upto s used h st (c.old used') (c.upto used' (omega arith)) in omega arith

abbrev pub rep_moved : {b n : ℕ} {m : Lent} {used used' x x' : ℕ} {p : Path} {done going : Table} {fresh : ℕ} {tk' : List ℕ} {rs' : List ℕ} {ls' : List ℤ} {gs' : List Float} → b ≤ 1 → (r : Rep b n m used x p done going fresh)
    → (c : Carried (store_of m) (store_of (lent tk' m.sums rs' ls' gs')) m.tokens tk' (n * 2) used used' x x') → Rep b n (lent tk' m.sums rs' ls' gs') used' x' p done going fresh
rep_moved {b} {n} {m} {used} {used'} {x} {x'} {p} {done} {going} {fresh} side r c =
    record {
      h = λ j. r.h (c.old j);
      stands = c.stands r.h r.stands;
      finished = shown_moved c r.h m.sums (1 - b) n done (omega arith) (omega arith) r.finished;
      progress = shown_moved c r.h m.sums b n going side (omega arith) r.progress;
      hand = is_moved c r.h x x' p c.number.0 c.number.1 r.hand;
      newest = newest_moved c r.h fresh r.stands r.newest;
    }
