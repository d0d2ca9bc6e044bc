-- What keeps a store ready. Assumes nothing.
use mathlib.Core.Path.{◌≡◌, sym, ap, ◌∙◌}
use Prim.Native.Nat.{ℕ, zero, suc, ◌+◌, ◌*◌, ◌/◌, ◌%◌, ◌≤◌, ◌<◌}
use native.Mathlib.Omega.{arith}
use native.Mathlib.Nat.{min-le_left}
use mathlib.Core.Bool.{true, ◌||◌}
use mathlib.Core.List.{List, []}
use lib.IntN.{ℤ, pos}
use lib.Ieee.{Float}
use lib.ListN.{length, get_or, set}
use lib.Bits.{bit_and, and_step, and_mod}
use lib.Seq.{get_or-set_same, get_or-set_other}
use Rattle.lists.specs.Tests.{case, eq_or_not}
use Rattle.model.specs.Basics.{nonzero}
use Rattle.tokens.specs.declared.Token.{Token}
use Rattle.tokens.specs.Layout.{place_in, active_in, block_of, bit_of, bit_at, held_by, held_at, Cell, cell_at, TokenPut, Cleared}
use Rattle.tokens.specs.Held.{held_same}
use Rattle.records.specs.declared.Kept.{Kept}
use Rattle.records.specs.History.{History, no_history, link_onto, join_on, tag}
use Rattle.records.specs.Layout.{Store, store, beside_in}
use Rattle.records.specs.Stands.{Stands, put, stands_none}
use Rattle.records.specs.Shape.{shape_of}
use Rattle.records.specs.Puts.{LinkPut, JoinPut}
use Rattle.compaction.specs.Carried.{Holds, RoomMade, holds_again}
use Rattle.store_cases.specs.Ready.{Lent, Ready, RecordsPut, HeldPut}

pub put_none : (s : Store) (n cap : ℕ) → n ≤ cap → RecordsPut s s n n cap
put_none s n cap l = record { few = l; ready = λ tk places r. r }

pub put_then : (s s' s'' : Store) (n n' n'' cap : ℕ) → RecordsPut s s' n n' cap → RecordsPut s' s'' n' n'' cap → RecordsPut s s'' n n'' cap
put_then s s' s'' n n' n'' cap a b = record { few = b.few; ready = λ tk places r. b.ready tk places (a.ready tk places r) }

-- one more record
put_one : (s s' : Store) (n r cap : ℕ) → r ≡ suc n → n < cap → ((h : ℕ → History) → Stands s n h → (t : ℕ → History) × Stands s' (suc n) t) → RecordsPut s s' n r cap
put_one s s' n r cap is l more =
    rw is
    (record {
      few = l;
      ready = λ tk places d.
          let (t, ok) = more d.histories d.stands in
          record { few = l; cap_few = d.cap_few; places_few = d.places_few; histories = t; stands = ok; held = λ p a. omega (arith, d.held p a) };
    })

pub put_link : (rs rs' : List ℕ) (ls ls' : List ℤ) (n prev frame st r cap : ℕ) (w : ℤ) → n < cap → prev ≤ n → (nonzero w || nonzero (pos st)) ≡ true → LinkPut rs rs' ls ls' n prev frame w st r
    → (gs : List Float) → RecordsPut (store rs ls gs) (store rs' ls' gs) n r cap
put_link rs rs' ls ls' n prev frame st r cap w l low link p gs =
    put_one (store rs ls gs) (store rs' ls' gs) n r cap p.number l
    (λ h ok. (put h (suc n) (link_onto (tag (h n)) frame w (pos st) (h prev)), p.stands gs h (tag (h n)) ok (omega arith) low link))

pub put_join : (s s' : Store) (n prev frame r cap : ℕ) (k : Kept) → n < cap → prev ≤ n → k.link ≤ n → JoinPut s s' n prev frame k r → RecordsPut s s' n r cap
put_join s s' n prev frame r cap k l low kept p =
    put_one s s' n r cap p.number l (λ h ok. (put h (suc n) (join_on (tag (h n)) frame (beside_in k) (h k.link) (h prev)), p.stands h (tag (h n)) ok (omega arith) low kept))

-- ---- tokens

pub ready_none : (s : Store) (tk : List ℕ) (cap places : ℕ) → cap ≤ 32768 → places ≤ 16 → ((p : ℕ) → p < 16 → held_at tk p ≡ 0) → Ready s tk 0 cap places
ready_none s tk cap places a b z =
    record { few = omega arith; cap_few = a; places_few = b; histories = λ j. no_history; stands = stands_none s; held = λ p l. omega (arith, z p (omega arith)) }

pub ready_held : (s : Store) (tk tk' : List ℕ) (n cap places held : ℕ) → held ≤ suc n → HeldPut tk tk' held → Ready s tk n cap places → Ready s tk' n cap places
ready_held s tk tk' n cap places held l m r =
    record { few = r.few; cap_few = r.cap_few; places_few = r.places_few; histories = r.histories; stands = r.stands; held = λ p a. m.within (suc n) p l (r.held p a) }

-- a token put
pub held_put : (tk tk' : List ℕ) (sm sm' : List Float) (q : ℕ) (t : Token) → TokenPut tk tk' sm sm' q t → HeldPut tk tk' (t.link + 1)
unfolding cell_at
held_put tk tk' sm sm' q t c =
    record {
      within = λ n p a b. case (eq_or_not p q) (λ e. omega (arith, ap (held_at tk') e, ap (λ (x : Cell). x.held) c.there)) (λ d. omega (arith, ap (λ (x : Cell). x.held) (c.elsewhere p d)));
    }

-- marks taken away
and_bit : (a b j : ℕ) → bit_at (bit_and a b) j ≤ bit_at a j
unfolding bit_at
and_bit a b zero = let l = min-le_left (a % 2) (b % 2) in omega (arith, and_step a b)
and_bit a b (suc j) = let l = min-le_left (a % 2) (b % 2) in let e : bit_and a b / 2 ≡ bit_and (a / 2) (b / 2) = omega (arith, and_step a b) in rw e (and_bit (a / 2) (b / 2) j)

held_less : (m m' r : ℕ) → m' ≤ m → held_by m' r ≤ held_by m r
held_less m zero r l = omega arith
held_less zero (suc m') r l = absurd (omega arith)
held_less (suc m) (suc m') r l = omega arith

module _ (tk : List ℕ) (i m : ℕ) where
  abbrev taken : List ℕ
  taken = set tk (i * 4 + 3) (bit_and (get_or tk (i * 4 + 3) 0) m)

  word_same : (j : ℕ) → (j ≡ i * 4 + 3 → ⊥) → get_or taken j 0 ≡ get_or tk j 0
  word_same j d = get_or-set_other tk (i * 4 + 3) j (bit_and (get_or tk (i * 4 + 3) 0) m) 0 d

  less : i * 4 + 4 ≤ length tk → (p : ℕ) → held_at taken p ≤ held_at tk p
  unfolding held_at
  less long p =
      case (eq_or_not (block_of p) i)
      (λ e. rw (word_same (p * 4) (λ d. omega arith), e, get_or-set_same tk (i * 4 + 3) (bit_and (get_or tk (i * 4 + 3) 0) m) 0 (omega arith), and_mod (get_or tk (i * 4 + 3) 0) m 16)
      (held_less (bit_at (active_in tk i) (bit_of p)) (bit_at (bit_and (active_in tk i) (m % 65536)) (bit_of p)) (get_or tk (p * 4) 0) (and_bit (active_in tk i) (m % 65536) (bit_of p))))
      (λ d. omega (arith, held_same tk p taken (word_same (block_of p * 4 + 3) (λ e. d (omega arith))) (word_same (p * 4) (λ e. omega arith))))

  pub held_taken : i * 4 + 4 ≤ length tk → HeldPut tk taken 0
  held_taken long = record { within = λ n p a b. omega (arith, less long p) }

pub held_kept : (tk : List ℕ) (held : ℕ) → HeldPut tk tk held
held_kept tk held = record { within = λ n p a b. b }

-- both tables emptied
pub emptied : (tk tk' tk'' : List ℕ) → Cleared tk tk' 0 8 → Cleared tk' tk'' 1 8 → (p : ℕ) → p < 16 → held_at tk'' p ≡ 0
unfolding cell_at
emptied tk tk' tk'' a b p l =
    case (eq_or_not (p % 2) 1)
    (λ e. let is : place_in 1 (p / 2) ≡ p = omega arith in ap (held_at tk'') (sym is) ∙ b.none (p / 2) (omega arith))
    (λ d.
    let is : place_in 0 (p / 2) ≡ p = omega (arith, d) in
    ap (λ (x : Cell). x.held) (b.cells p (λ s e. omega (arith, d)) []) ∙ ap (held_at tk') (sym is) ∙ a.none (p / 2) (omega arith))

-- ---- room

module _ (s : Store) (tk : List ℕ) (used cap places x : ℕ) (lent : Lent s) (r : Ready s tk used cap places) where
  pub ready_holds : 64 ≤ length tk → x ≤ used → Holds s tk places used x
  ready_holds l a =
      let few = r.few in
      let cf = r.cap_few in
      record {
        shape = shape_of s used r.histories (record { records = omega (arith, lent.records); labels = omega (arith, lent.labels); gaps = omega (arith, lent.gaps) }) r.stands;
        few = omega arith;
        room = omega (arith, r.places_few);
        held = r.held;
        number = a;
      }

  pub ready_made : (s' : Store) (tk' : List ℕ) (used' x' : ℕ) → 64 ≤ length tk → x ≤ used → length tk' ≡ length tk → RoomMade s s' tk tk' places used used' cap x x' → Ready s' tk' used' cap places
  ready_made s' tk' used' x' l a e m =
      let c = m.carried in
      let h = holds_again s s' tk tk' places used used' x x' c (ready_holds l a) e in
      record { few = omega (arith, c.few, r.few); cap_few = r.cap_few; places_few = r.places_few; histories = λ j. r.histories (c.old j); stands = c.stands r.histories r.stands; held = h.held }
