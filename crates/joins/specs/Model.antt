-- What `keep` leaves is what the definition's `keep` gives, for any loser: a token that stood there, or an arrival. Assumes nothing.
use Rattle.std.specs.Prelude.{◌≡◌, ℕ, suc, ◌≤◌, Bool, List, eqb, ℤ, pos, Float, Option as RustOption, Some, None, Result, Ok, Err}
use Rattle.std.proofs.Math.Path.{refl, sym, ap}
use Rattle.std.proofs.Common.{◌∙◌, arith}
use Rattle.std.proofs.Math.Bool.{true, false}
use Rattle.std.proofs.Math.Option.{Option, none, some}
use borrow.Author.Tests.{eq-eqb, ne_eqb}
use Rattle.model.specs.Basics.{◌⊖◌, ok, refused}
use Rattle.model.specs.Path.{Step, Path, empty_path, arc_onto, branch_on, Token, word, worth_keeping}
use Rattle.model.specs.Arrive.{Here, joined, keeps, keep}
use Rattle.tokens.specs.declared.Token
use Rattle.records.specs.History.{History, join_on, tag, history_of, plain, beside_word, beside_starts, history_beside}
use Rattle.records.specs.Layout.{Store, beside_in}
use Rattle.records.specs.Stands.{Stands, put}
use Rattle.joins.specs.Worth.{worth}
use Rattle.joins.specs.Paths.{own_arc, worth_plain, worth_beside, fresh_apart}
use Rattle.joins.specs.Keep.{keeps_of, kept_of, KeptIs, KeepIs, drops_loser, finds_full, joins_loser}
use Rattle.refusals.specs.declared.Reason.{Reason}
use Rattle.refusals.specs.Numbers.{number_of}

abbrev pub margin_of : RustOption Float → Option Float
margin_of None = none
margin_of (Some m) = some m

-- ---- the loser

-- The path `lost` as the store has it: the record ll, and beside it the last arc's word and the phone that it starts. The winner's record is wl.
pub record Loses (h : ℕ → History) (won lost : Path) (wl ll : ℕ) (over : ℤ) (starts : ℕ) : Type 0 where
  pub history : history_of lost ≡ h ll
  pub word_is : beside_word lost ≡ over
  pub starts_is : beside_starts lost ≡ pos starts
  pub worth_is : (slack : Float) → worth_keeping won lost slack ≡ worth (h wl) (h ll) over slack

none_beside : (p : Path) → plain p ≡ true → (beside_word p ≡ pos 0) × (beside_starts p ≡ pos 0)
unfolding beside_word beside_starts
none_beside empty_path e = (refl, refl)
none_beside (arc_onto s p) e = let b = own_arc s p e in (rw b, rw b)
none_beside (branch_on m k p) e = (refl, refl)

module _ {h : ℕ → History} {won : Path} {wl ll : ℕ} (a : plain won ≡ true) (e : h wl ≡ history_of won) where
  -- the token that stood there
  pub token_loses : (lost : Path) → plain lost ≡ true → h ll ≡ history_of lost → Loses h won lost wl ll (pos 0) 0
  token_loses lost b f =
      let n = none_beside lost b in
      record { history = sym f; word_is = n.0; starts_is = n.1; worth_is = λ slack. rw (e, f) (worth_plain won lost slack a b) }

  -- an arrival, whose last arc has a fresh number and is held beside the join
  pub arrival_loses : {s : Store} {n : ℕ} {over : ℤ} {starts : ℕ} → Stands s n h → wl ≤ n → (arc : Step) (source : Path) → arc.beside ≡ true → tag (h n) ≤ arc.number
      → word arc ≡ over → arc.starts ≡ pos starts → plain source ≡ true → h ll ≡ history_of source → Loses h won (arc_onto arc source) wl ll over starts
  unfolding beside_word beside_starts
  arrival_loses {s} {n} sd l arc source q m wd st b f =
      record {
        history = history_beside arc source q ∙ sym f;
        word_is = rw q wd;
        starts_is = rw q st;
        worth_is = λ slack. rw (e, f, ← wd) (worth_beside won source slack a b arc (fresh_apart s n h sd wl won l e a arc.number m));
      }

-- ---- the model's winner w and loser l, and the code's

-- The code's arguments are the model's: `hand` are the live paths, `number` is the join's.
pub record KeepFor (H : Here) (hand : List Path) (number : ℕ) (w l : Token) (h : ℕ → History) (s : Store)
    (used cap frame : ℕ) (margin : RustOption Float) (gap : Float) (won lost : Token.Token) (over : ℤ) (starts : ℕ) : Type 0 where
  pub stands : Stands s used h
  pub fresh : tag (h used) ≤ number
  pub full_is : keeps H.margin gap w l ≡ true → H.limits.full hand ≡ eqb used cap
  pub margin_is : H.margin ≡ margin_of margin
  pub frame_is : H.frame ≡ frame
  pub gap_is : l.cost ⊖ w.cost ≡ gap
  pub won_graph : w.graph ≡ won.graph
  pub lost_graph : l.graph ≡ lost.graph
  pub won_phone : w.phone ≡ pos won.phone
  pub lost_phone : l.phone ≡ pos lost.phone
  pub won_low : won.link ≤ used
  pub lost_low : lost.link ≤ used
  pub won_is : h won.link ≡ history_of w.path
  pub loses : Loses h w.path l.path won.link lost.link over starts

-- what comes of it, by the answer
abbrev pub KeepComes : Here → (hand : List Path) → (number : ℕ) → (gap : Float) → (w l : Token) → (ℕ → History) → (s s' : Store) → (used : ℕ) → Result (RustOption ℕ) Reason → Type 0
KeepComes H hand number gap w l h s s' used (Ok None) = (keep H hand number gap w l ≡ ok none) × (s' ≡ s)
KeepComes H hand number gap w l h s s' used (Err e) = (keep H hand number gap w l ≡ refused (number_of e)) × (s' ≡ s)
KeepComes H hand number gap w l h s s' used (Ok (Some r)) =
    (keep H hand number gap w l ≡ ok (some (joined H number w l))) × (r ≡ suc used) × Stands s' (suc used) (put h (suc used) (history_of (joined H number w l).path))

module _ {H : Here} {hand : List Path} {number : ℕ} {w l : Token} {h : ℕ → History} {s : Store}
    {used cap frame : ℕ} {margin : RustOption Float} {gap : Float} {won lost : Token.Token} {over : ℤ} {starts : ℕ}
    (F : KeepFor H hand number w l h s used cap frame margin gap won lost over starts) where
  pub keeps_is : keeps H.margin gap w l ≡ keeps_of margin gap (h won.link) (h lost.link) over
  unfolding keeps keeps_of
  keeps_is = ap (λ (o : Option Float). keeps o gap w l) F.margin_is ∙ go margin
    where
      go : (m : RustOption Float) → keeps (margin_of m) gap w l ≡ keeps_of m gap (h won.link) (h lost.link) over
      go None = refl
      go (Some m) = rw (F.gap_is, F.loses.worth_is (m ⊖ gap))

  pub joined_history : history_of (joined H number w l).path ≡ join_on number frame (beside_in (kept_of gap won lost over starts)) (h lost.link) (h won.link)
  unfolding joined history_of
  joined_history = cc (F.loses.word_is, F.loses.starts_is, F.loses.history)

  decided : (b : Bool) → KeptIs s used margin gap won lost over b → keeps H.margin gap w l ≡ b
  decided b k = keeps_is ∙ sym (k.is h F.stands)

  pub keep_comes : {s' : Store} {r : Result (RustOption ℕ) Reason} → KeepIs s s' used cap frame margin gap won lost over starts r → KeepComes H hand number gap w l h s s' used r
  unfolding keep
  keep_comes (drops_loser k e) = (rw (decided false k, keep), e)
  keep_comes (finds_full k q e) = (rw (decided true k, F.full_is (decided true k), eq-eqb used cap q, keep), e)
  keep_comes (joins_loser k q J) =
      (rw (decided true k, F.full_is (decided true k), ne_eqb used cap (λ e. omega arith), keep), J.number, rw joined_history (J.stands h number F.stands F.fresh F.won_low F.lost_low))

-- ---- a joined token's path

pub joined_tag : (H : Here) (number : ℕ) (w l : Token) → tag (history_of (joined H number w l).path) ≡ suc number
unfolding joined history_of tag
joined_tag H number w l = refl

pub joined_plain : (H : Here) (number : ℕ) (w l : Token) → plain w.path ≡ true → plain (joined H number w l).path ≡ true
unfolding joined plain
joined_plain H number w l e = e
