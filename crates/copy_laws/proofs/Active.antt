-- What holds of the active tokens of a table, and that every arrival keeps it, whichever the pass. Assumes nothing.
use Rattle.std.specs.Prelude.{◌≡◌, ◌⊎◌, ◌≢◌, ℕ, suc, ◌+◌, ◌*◌, ◌<◌, ◌≤◌, List, set, replicate}
use Rattle.std.proofs.Math.Path.{refl, ap, subst}
use Rattle.std.proofs.Common.{sym, ◌∙◌, inl, inr, length-set}
use native.Mathlib.Omega.{arith}
use Rattle.std.proofs.Math.Bool.{true, false}
use Rattle.std.proofs.Math.Option.{none, some}
use Rattle.std.proofs.Math.ListN.{length}
use Rattle.std.proofs.lemmas.List.{length-replicate}
use Rattle.lists.specs.Tests.{holds, fails}
use Rattle.lists.specs.Lists.{◌∈◌}
use Rattle.real32.specs.Order.{lt→le, not_lt→le}
use Rattle.real32.specs.Small.{tame, tame_real}
use Rattle.model.specs.Graph.{Graph, Arc, states, arcs_of}
use Rattle.model.specs.Path.{Token, Table}
use Rattle.model.specs.Arrive.{Pass, takes, Here, Work, arriving, joined}
use Rattle.model.specs.Came.{WithLoser}
use Rattle.model.proofs.Came.{Came, came_cut, came_vacant, came_better, came_dropped, came_joined}
use Rattle.model.specs.Checked.{GoodGraph}
use Rattle.copy_laws.specs.Walks.{Heard, heard_by}
use Rattle.copy_laws.specs.Tables.{At, vacant}
use Rattle.copy_laws.proofs.Tables.{at_set, at_put, at_none, vacant_none, vacant_fill, vacant_same}
use Rattle.copy_laws.specs.Sums.{Floats32}
use Rattle.copy_laws.specs.Tokens.{Sound, InFrame}
use Rattle.copy_laws.proofs.Tokens.{sound_more, arc_sound, join_sound}
use Rattle.copy_laws.specs.Active.{Active}

pub active_none : (g : Graph) (fs : List Heard) (q n : ℕ) → q + states g ≤ states g * suc (length fs) → Active g fs (replicate (states g) none) q n
active_none g fs q n r =
    record {
      long = length-replicate (states g) none;
      sound = λ s t e. at_none (states g) s t e;
      light = λ s t e. at_none (states g) s t e;
      old = λ s t e. at_none (states g) s t e;
      distinct = λ s t r u e. at_none (states g) s t e;
      room = let z = vacant_none (states g) in omega arith;
    }

-- ---- a token is put at i

module _ (g : Graph) (fs : List Heard) (ts us : Table) (i : ℕ) (u : Token) (f : us ≡ set ts i (some u)) (q q' n n' : ℕ) (a : Active g fs ts q n) where
  -- of another seq than those of the other places
  pub put_active : Sound g fs n' i u → tame u.graph ≡ true → n ≤ n' → q ≤ q' → u.seq ≤ q' → ((s : ℕ) (t : Token) → s ≢ i → At ts s t → u.seq ≢ t.seq) → q' + vacant us ≤ q + vacant ts → Active g fs us q' n'
  put_active d l nn qq uq apart r =
      record {
        long = ap length f ∙ length-set ts i (some u) ∙ a.long;
        sound = at_put (Sound g fs n') ts us i u f d (λ s t o e. sound_more g fs n n' s t nn (a.sound s t e));
        light = at_put (λ s t. tame t.graph ≡ true) ts us i u f l (λ s t o e. a.light s t e);
        old = at_put (λ s t. t.seq ≤ q') ts us i u f uq (λ s t o e. let z = a.old s t e in omega arith);
        distinct = λ s t k x e d y. apart_from_lem s t k x (found s t e) (found k x d) y;
        room = let z = a.room in omega arith;
      }
    where
      Found : ℕ → Token → Type 0
      Found s t = ((s ≡ i) × (t ≡ u)) ⊎ ((s ≢ i) × At ts s t)

      found : (s : ℕ) (t : Token) → At us s t → Found s t
      found s t e = at_set ts i u s t (subst (λ (x : Table). At x s t) f e)

      apart_from_lem : (s : ℕ) (t : Token) (k : ℕ) (x : Token) → Found s t → Found k x → t.seq ≡ x.seq → s ≡ k
      apart_from_lem s t k x (inl p) (inl q) y = p.0 ∙ sym q.0
      apart_from_lem s t k x (inl p) (inr q) y = absurd (apart k x q.0 q.1 (ap (λ (z : Token). z.seq) (sym p.1) ∙ y))
      apart_from_lem s t k x (inr p) (inl q) y = absurd (apart s t p.0 p.1 (ap (λ (z : Token). z.seq) (sym q.1) ∙ sym y))
      apart_from_lem s t k x (inr p) (inr q) y = a.distinct s t k x p.1 q.1 y

  -- in place of a token of the same seq
  pub over_active : (held : Token) → At ts i held → u.seq ≡ held.seq → Sound g fs n' i u → tame u.graph ≡ true → n ≤ n' → q ≡ q' → Active g fs us q' n'
  over_active held e same d l nn qq =
      put_active d l nn (omega arith) (let z = a.old i held e in omega arith) (λ s t o k y. o (sym (a.distinct i held s t e k (sym same ∙ y))))
      (let z = ap vacant f ∙ vacant_same ts i held u e in omega arith)

active_same : (g : Graph) (fs : List Heard) (ts us : Table) (q q' n n' : ℕ) → us ≡ ts → q' ≡ q → n ≤ n' → Active g fs ts q n → Active g fs us q' n'
active_same g fs ts us q q' n n' e f le a =
    subst (λ (x : Table). Active g fs x q' n') (sym e)
    (subst (λ (k : ℕ). Active g fs ts k n') (sym f)
    (record { long = a.long; sound = λ s t y. sound_more g fs n n' s t le (a.sound s t y); light = a.light; old = a.old; distinct = a.distinct; room = a.room }))

pub active_moved : (g : Graph) (fs : List Heard) (w v : Work) → v.table ≡ w.table → v.seq ≡ w.seq → v.fresh ≡ w.fresh → Active g fs w.table w.seq w.fresh → Active g fs v.table v.seq v.fresh
active_moved g fs w v e f n a = active_same g fs w.table v.table w.seq v.seq w.fresh v.fresh e f (omega arith) a

-- ---- one arrival

pub with_loser : (P : Token → Type 0) (h : Here) (k : ℕ) (won lost u : Token) → WithLoser h k won lost u → P won → P (joined h k won lost) → P u
with_loser P h k won lost u (inl e) p q = subst P (sym e) p
with_loser P h k won lost u (inr e) p q = subst P (sym e) q

module _ (h : Here) (p : Pass) (fs : List Heard) (good : GoodGraph h.graph) (floats : Floats32 h.graph) (timely : InFrame h p fs)
    (s : ℕ) (t : Token) (a : Arc) (m : a ∈ arcs_of h.graph s) (taken : takes p a ≡ true) where
  abbrev g : Graph
  g = h.graph

  abbrev OfWork : Work → Type 0
  OfWork w = Active g (heard_by p fs) w.table w.seq w.fresh

  pub came_active : (w v : Work) → Sound g fs w.fresh s t → tame t.graph ≡ true → OfWork w → Came h p t a w v → OfWork v
  unfolding arriving joined
  came_active w v d light o (came_cut c e) = subst OfWork (sym e) o
  came_active w v d light o (came_vacant c e l f q r) =
      let n = c.fresh in
      let i : a.target < length w.table = let z = (good.arc s a m).target in let y = o.long in omega arith in
      put_active g (heard_by p fs) w.table v.table a.target _ f w.seq v.seq w.fresh v.fresh o
      (sound_more g (heard_by p fs) (suc w.fresh) v.fresh a.target _ (omega arith) (arc_sound h p fs good floats s t a w.fresh w.fresh (suc w.seq) false timely m taken (omega arith) d light c.small))
      l (omega arith) (omega arith) (omega arith) (λ k x y z. let j = o.old k x z in omega arith)
      (let z = ap vacant f in let y = vacant_fill w.table a.target (arriving h p t a w.fresh (suc w.seq) false) i e in omega arith)
  came_active w v d light o (came_better c held e b l u j f q r) =
      let n = c.fresh in
      let fs' = heard_by p fs in
      let won = arriving h p t a w.fresh held.seq false in
      let sw = arc_sound h p fs good floats s t a w.fresh w.fresh held.seq false timely m taken (omega arith) d light c.small in
      let sh = o.sound a.target held e in
      over_active g fs' w.table v.table a.target u f w.seq v.seq w.fresh v.fresh o held e
      (with_loser (λ x. x.seq ≡ held.seq) h (suc w.fresh) won held u j refl refl)
      (with_loser (Sound g fs' v.fresh a.target) h (suc w.fresh) won held u j (sound_more g fs' (suc w.fresh) v.fresh a.target won (omega arith) sw)
      (sound_more g fs' (suc (suc w.fresh)) v.fresh a.target _ (omega arith)
      (join_sound h fs' a.target (suc w.fresh) (suc w.fresh) won held (omega arith) (omega arith) sw l (sound_more g fs' w.fresh (suc w.fresh) a.target held (omega arith) sh) (lt→le won.cost held.cost (holds b)))))
      (with_loser (λ x. tame x.graph ≡ true) h (suc w.fresh) won held u j l l) (omega arith) (sym q)
  came_active w v d light o (came_dropped c held e b f q r) = let n = c.fresh in active_same g (heard_by p fs) w.table v.table w.seq v.seq w.fresh v.fresh f q (omega arith) o
  came_active w v d light o (came_joined c held e b f q r) =
      let n = c.fresh in
      let fs' = heard_by p fs in
      let lost = arriving h p t a w.fresh 0 true in
      let sl = arc_sound h p fs good floats s t a w.fresh w.fresh 0 true timely m taken (omega arith) d light c.small in
      let sh = o.sound a.target held e in
      over_active g fs' w.table v.table a.target _ f w.seq v.seq w.fresh v.fresh o held e refl
      (sound_more g fs' (suc (suc w.fresh)) v.fresh a.target _ (omega arith)
      (join_sound h fs' a.target (suc w.fresh) (suc w.fresh) held lost (omega arith) (omega arith) (sound_more g fs' w.fresh (suc w.fresh) a.target held (omega arith) sh) (o.light a.target held e) sl
      (not_lt→le lost.cost held.cost (tame_real lost.cost (holds c.small)) (tame_real held.cost (holds sh.sums.cost_tame)) (fails b))))
      (o.light a.target held e) (omega arith) (sym q)
