-- Stores cut to their places. What decoder and stores stand for is said by the places alone, so that it is so of the whole stores too. Assumes nothing.
use Rattle.std.specs.Prelude.{◌≡◌, refl, ℕ, zero, suc, ◌+◌, ◌-◌, ◌*◌, ◌≤◌, ◌<◌, List, [], ◌∷◌, ◌++◌, pos, length, get_or, take, drop, Float}
use Rattle.std.proofs.Common.{sym, ap, ◌∙◌, subst, arith, length-append, length-drop, take-append-drop, length-take-le, get_or-take}
use Rattle.std.proofs.Math.Option.{none}
use Rattle.std.specs.Float.Ieee.{nan}
use Rattle.model.specs.Graph.{Graph}
use Rattle.model.specs.Path.{Limits}
use Rattle.model.specs.Cutoff.{Config as Settings}
use Rattle.model.specs.Passes.{State}
use Rattle.model.specs.Calls.{Said, frame_call}
use Rattle.copy_laws.specs.Walks.{Heard}
use Rattle.tokens.specs.Layout.{place_in, block_of, cell_at, held_at, Cell}
use Rattle.records.specs.Layout.{rec_at, Rec}
use Rattle.records.specs.Stands.{Sound}
use Rattle.stores.specs.Shown.{Shows}
use Rattle.stores.specs.Rep.{Lent, lent, Lens, store_of, Places}
use Rattle.checks.specs.Frame.{frame_number}
use Rattle.arcs.specs.State.{Tables}
use Rattle.decoder.specs.declared.Decoder.{Decoder}
use Rattle.decoder.specs.declared.Called.{Called}
use Rattle.decoder.specs.Represents.{Fixed, Represents, CalledBy, called_done, called_refused}
use Rattle.decoder.specs.Promises.{Behind, Promised, Untouched, FrameIs, FrameLeft}
use Rattle.decoder.specs.Begin.{BeginGiven, BeginAsks, BeginIs}

-- ---- the first elements of a list

-- the elements of the first k places are the same
abbrev pub Same : {A : Type 0} → ℕ → (xs ys : List A) → Type 0
Same {A} k xs ys = (i : ℕ) (z : A) → i < k → get_or ys i z ≡ get_or xs i z

append_same : {A : Type 0} (ys zs : List A) → Same (length ys) ys (ys ++ zs)
append_same [] zs i z h = absurd (omega arith)
append_same (y ∷ ys) zs zero z h = refl
append_same (y ∷ ys) zs (suc i) z h = append_same ys zs i z (omega arith)

drop_past : {A : Type 0} (ys zs : List A) → drop (length ys) (ys ++ zs) ≡ zs
drop_past [] [] = refl
drop_past [] (z ∷ zs) = refl
drop_past (y ∷ ys) zs = drop_past ys zs

-- the first k elements, and these put back before the rest
module _ {A : Type 0} (l : List A) (k : ℕ) (h : k ≤ length l) where
  pub first_long : length (take k l) ≡ k
  first_long = length-take-le k l h

  first_same : Same k l (take k l)
  first_same i z low = get_or-take k l i z low

  module _ (ys : List A) (e : length ys ≡ length (take k l)) where
    long : length ys ≡ k
    long = e ∙ first_long

    put_long : length (ys ++ drop k l) ≡ length l
    put_long = length-append ys (drop k l) ∙ (let a = length-drop k l in let b = long in omega arith)

    put_behind : drop k (ys ++ drop k l) ≡ drop k l
    put_behind = ap (λ (j : ℕ). drop j (ys ++ drop k l)) (sym long) ∙ drop_past ys (drop k l)

-- ---- stores with the same places

pub record SamePlaces (n cap : ℕ) (m m' : Lent) : Type 0 where
  pub tokens : Same (n * 8) m.tokens m'.tokens
  pub sums : Same (n * 4) m.sums m'.sums
  pub records : Same (cap * 8) m.records m'.records
  pub labels : Same (cap * 2) m.labels m'.labels
  pub gaps : Same (cap * 2) m.gaps m'.gaps

module _ {n cap : ℕ} {m m' : Lent} (S : SamePlaces n cap m m') where
  cell_same : (b s : ℕ) → b ≤ 1 → s < n → cell_at m'.tokens m'.sums (place_in b s) ≡ cell_at m.tokens m.sums (place_in b s)
  unfolding cell_at held_at
  cell_same b s l low =
      let p = place_in b s in
      let marks = S.tokens (block_of p * 4 + 3) 0 (omega arith) in
      let link = S.tokens (p * 4) 0 (omega arith) in
      let seq = S.tokens (p * 4 + 1) 0 (omega arith) in
      let phone = S.tokens (p * 4 + 2) 0 (omega arith) in
      let cost = S.sums (p * 2) nan (omega arith) in
      let graph = S.sums (p * 2 + 1) nan (omega arith) in
      cc

  record_same : (k : ℕ) → k < cap → rec_at (store_of m') k ≡ rec_at (store_of m) k
  unfolding rec_at
  record_same k low =
      let r0 = S.records (k * 8) 0 (omega arith) in
      let r1 = S.records (k * 8 + 1) 0 (omega arith) in
      let r2 = S.records (k * 8 + 2) 0 (omega arith) in
      let r3 = S.records (k * 8 + 3) 0 (omega arith) in
      let r4 = S.records (k * 8 + 4) 0 (omega arith) in
      let r5 = S.records (k * 8 + 5) 0 (omega arith) in
      let r6 = S.records (k * 8 + 6) 0 (omega arith) in
      let l0 = S.labels (k * 2) (pos 0) (omega arith) in
      let l1 = S.labels (k * 2 + 1) (pos 0) (omega arith) in
      let g0 = S.gaps (k * 2) nan (omega arith) in
      let g1 = S.gaps (k * 2 + 1) nan (omega arith) in
      cc

-- what is said of a decoder's places is so of all stores with the same places
pub fixed_same : {g : Graph} {c : Settings} {l : Limits} {T : Tables} {m : Lent} {eps : List ℕ} {places : ℕ} {d : Decoder} → Fixed g c l T m eps places d → (m' : Lent) → Places d.graph.states d.cap m' → Fixed g c l T m' eps places d
fixed_same f m' P =
    record {
      good = f.good;
      floats = f.floats;
      of = f.of;
      states_are = f.states_are;
      arcs_are = f.arcs_are;
      start_is = f.start_is;
      pdfs_are = f.pdfs_are;
      config_is = f.config_is;
      limits = f.limits;
      small = f.small;
      side = f.side;
      stores = P;
      eps_long = f.eps_long;
      eps_is = f.eps_is;
    }

pub represents_same : {g : Graph} {c : Settings} {l : Limits} {T : Tables} {m : Lent} {eps : List ℕ} {places : ℕ} {d : Decoder} {fs : List Heard} {st : State} → Represents g c l T m eps places d fs st
    → (m' : Lent) → Places d.graph.states d.cap m' → SamePlaces d.graph.states d.cap m m' → Represents g c l T m' eps places d fs st
represents_same {m = m} {d = d} {st = st} R m' P S =
    record {
      fixed = fixed_same R.fixed m' P;
      standing = R.standing;
      margin_is = R.margin_is;
      idle = R.idle;
      frames_are = R.frames_are;
      seq_is = R.seq_is;
      fits = R.fits;
      h = R.h;
      stands = record {
        none = R.stands.none;
        each = λ k low. subst (λ (x : Rec). Sound R.h x k) (sym (record_same S k (let z = R.fits in omega arith))) (R.stands.each k low);
        ascends = R.stands.ascends;
      };
      finished = record {
        size = R.finished.size;
        place = λ s low. subst (λ (x : Cell). Shows R.h d.used x (get_or st.table s none)) (sym (cell_same S (1 - d.side) s (omega arith) low)) (R.finished.place s low);
      };
      newest = R.newest;
    }

-- ---- stores cut to their places

abbrev pub cut_to : (n cap : ℕ) → Lent → Lent
cut_to n cap m = lent (take (n * 8) m.tokens) (take (n * 4) m.sums) (take (cap * 8) m.records) (take (cap * 2) m.labels) (take (cap * 2) m.gaps)

-- cut stores, written, where they came from
abbrev pub put_back : (n cap : ℕ) → (m m₁ : Lent) → Lent
put_back n cap m m₁ =
    lent (m₁.tokens ++ drop (n * 8) m.tokens) (m₁.sums ++ drop (n * 4) m.sums) (m₁.records ++ drop (cap * 8) m.records) (m₁.labels ++ drop (cap * 2) m.labels) (m₁.gaps ++ drop (cap * 2) m.gaps)

-- What written stores stand for, the whole ones do: a decoder's places lie in the written ones.
module _ (n cap : ℕ) (m m₁ : Lent) where
  module _ {k most : ℕ} (Q : Places k most m₁) where
    put_places : Places k most (put_back n cap m m₁)
    put_places =
        record {
          tokens = let e = length-append m₁.tokens (drop (n * 8) m.tokens) in let q = Q.tokens in omega arith;
          sums = let e = length-append m₁.sums (drop (n * 4) m.sums) in let q = Q.sums in omega arith;
          store = record {
            records = let e = length-append m₁.records (drop (cap * 8) m.records) in let q = Q.store.records in omega arith;
            labels = let e = length-append m₁.labels (drop (cap * 2) m.labels) in let q = Q.store.labels in omega arith;
            gaps = let e = length-append m₁.gaps (drop (cap * 2) m.gaps) in let q = Q.store.gaps in omega arith;
          };
        }

    put_same : SamePlaces k most m₁ (put_back n cap m m₁)
    put_same =
        record {
          tokens = λ i z low. append_same m₁.tokens (drop (n * 8) m.tokens) i z (let q = Q.tokens in omega arith);
          sums = λ i z low. append_same m₁.sums (drop (n * 4) m.sums) i z (let q = Q.sums in omega arith);
          records = λ i z low. append_same m₁.records (drop (cap * 8) m.records) i z (let q = Q.store.records in omega arith);
          labels = λ i z low. append_same m₁.labels (drop (cap * 2) m.labels) i z (let q = Q.store.labels in omega arith);
          gaps = λ i z low. append_same m₁.gaps (drop (cap * 2) m.gaps) i z (let q = Q.store.gaps in omega arith);
        }

  pub represents_whole : {g : Graph} {c : Settings} {l : Limits} {T : Tables} {eps : List ℕ} {places : ℕ} {d : Decoder} {fs : List Heard} {st : State} → Represents g c l T m₁ eps places d fs st → Represents g c l T (put_back n cap m m₁) eps places d fs st
  represents_whole R = represents_same R (put_back n cap m m₁) (put_places R.fixed.stores) (put_same R.fixed.stores)

  called_whole : {g : Graph} {c : Settings} {l : Limits} {T : Tables} {eps : List ℕ} {places : ℕ} {s : Said} {r : Called} → CalledBy g c l T m₁ eps places s r → CalledBy g c l T (put_back n cap m m₁) eps places s r
  called_whole (called_done fs e R) = called_done fs e (represents_whole R)
  called_whole (called_refused fs e R) = called_refused fs e (represents_whole R)

module _ {n cap : ℕ} {m : Lent} (P : Places n cap m) where
  pub cut_places : Places n cap (cut_to n cap m)
  cut_places =
      record {
        tokens = let e = first_long m.tokens (n * 8) P.tokens in omega arith;
        sums = let e = first_long m.sums (n * 4) P.sums in omega arith;
        store = record {
          records = let e = first_long m.records (cap * 8) P.store.records in omega arith;
          labels = let e = first_long m.labels (cap * 2) P.store.labels in omega arith;
          gaps = let e = first_long m.gaps (cap * 2) P.store.gaps in omega arith;
        };
      }

  cut_same : SamePlaces n cap m (cut_to n cap m)
  cut_same =
      record {
        tokens = first_same m.tokens (n * 8) P.tokens;
        sums = first_same m.sums (n * 4) P.sums;
        records = first_same m.records (cap * 8) P.store.records;
        labels = first_same m.labels (cap * 2) P.store.labels;
        gaps = first_same m.gaps (cap * 2) P.store.gaps;
      }

  module _ (m₁ : Lent) (L : Lens (cut_to n cap m) m₁) where
    pub put_lens : Lens m (put_back n cap m m₁)
    put_lens =
        record {
          tokens = put_long m.tokens (n * 8) P.tokens m₁.tokens L.tokens;
          sums = put_long m.sums (n * 4) P.sums m₁.sums L.sums;
          records = put_long m.records (cap * 8) P.store.records m₁.records L.records;
          labels = put_long m.labels (cap * 2) P.store.labels m₁.labels L.labels;
          gaps = put_long m.gaps (cap * 2) P.store.gaps m₁.gaps L.gaps;
        }

    pub put_back_behind : Behind n cap m (put_back n cap m m₁)
    put_back_behind =
        record {
          tokens = put_behind m.tokens (n * 8) P.tokens m₁.tokens L.tokens;
          sums = put_behind m.sums (n * 4) P.sums m₁.sums L.sums;
          records = put_behind m.records (cap * 8) P.store.records m₁.records L.records;
          labels = put_behind m.labels (cap * 2) P.store.labels m₁.labels L.labels;
          gaps = put_behind m.gaps (cap * 2) P.store.gaps m₁.gaps L.gaps;
        }

-- nothing written
put_back_none : (n cap : ℕ) (m : Lent) → put_back n cap m (cut_to n cap m) ≡ m
put_back_none n cap m =
    let t = take-append-drop (n * 8) m.tokens in
    let s = take-append-drop (n * 4) m.sums in
    let r = take-append-drop (cap * 8) m.records in
    let l = take-append-drop (cap * 2) m.labels in
    let g = take-append-drop (cap * 2) m.gaps in
    λ k. lent (t k) (s k) (r k) (l k) (g k)

-- what decoder and stores stand for, of the cut stores
abbrev pub cut_for : Decoder → Lent → Lent
cut_for d = cut_to d.graph.states d.cap

pub represents_cut : {g : Graph} {c : Settings} {l : Limits} {T : Tables} {m : Lent} {eps : List ℕ} {places : ℕ} {d : Decoder} {fs : List Heard} {st : State} → Represents g c l T m eps places d fs st → Represents g c l T (cut_for d m) eps places d fs st
represents_cut {m = m} {d = d} R = represents_same R (cut_for d m) (cut_places R.fixed.stores) (cut_same R.fixed.stores)

-- ---- a start

begin_cut : {g : Graph} {c : Settings} {l : Limits} {T : Tables} {m : Lent} {eps : List ℕ} {places : ℕ} {d : Decoder} {st : State} → BeginGiven g c l T m eps places d st → BeginGiven g c l T (cut_for d m) eps places d st
begin_cut {m = m} {d = d} G = record { fixed = fixed_same G.fixed (cut_for d m) (cut_places G.fixed.stores); fair = G.fair; margin_is = G.margin_is; idle = G.idle }

pub begin_cut_asks : {T : Tables} {m : Lent} {eps : List ℕ} {places : ℕ} {d : Decoder} → BeginAsks T m eps places d → BeginAsks T (cut_for d m) eps places d
begin_cut_asks A = record { g = A.g; c = A.c; l = A.l; st = A.st; is = begin_cut A.is }

pub begins_whole : {T : Tables} {m : Lent} {eps : List ℕ} {places : ℕ} {d : Decoder} {r : Called} → Places d.graph.states d.cap m → (m₁ : Lent) → Lens (cut_for d m) m₁ → BeginIs T (cut_for d m) m₁ eps places d r
    → (BeginIs T m (put_back d.graph.states d.cap m m₁) eps places d r) × (Behind d.graph.states d.cap m (put_back d.graph.states d.cap m m₁))
begins_whole {m = m} {d = d} P m₁ L B = (λ g c l st G. called_whole d.graph.states d.cap m m₁ (B g c l st (begin_cut G)), put_back_behind P m₁ L)

-- ---- a frame

-- a frame over stores of just their places: of their lengths nothing is said
pub record AdvanceIs (T : Tables) (m m' : Lent) (qs qs' : List ℕ) (sc sc' : List Float) (eps : List ℕ) (loglikes : List Float) (d : Decoder) (r : Called) : Type 0 where
  pub answer : Promised T m m' eps (length qs) (frame_call loglikes) d r
  pub untouched : let n = frame_number loglikes d.frames d.graph.pdfs in (n ≡ 0 → ⊥) → Untouched n m m' qs qs' sc sc' d r

pub frame_cut_asks : {T : Tables} {m : Lent} {eps : List ℕ} {places scratch : ℕ} {d : Decoder} → FrameLeft T m eps places scratch d → FrameLeft T (cut_for d m) eps places scratch d
frame_cut_asks A = let A₀ = A.left in record { left = record { g = A₀.g; c = A₀.c; l = A₀.l; fs = A₀.fs; st = A₀.st; is = represents_cut A₀.is }; wide = A.wide }

pub frame_whole : {T : Tables} {m : Lent} {qs qs' : List ℕ} {sc sc' : List Float} {eps : List ℕ} {loglikes : List Float} {d : Decoder} {r : Called} → Places d.graph.states d.cap m → (m₁ : Lent) → Lens (cut_for d m) m₁
    → length qs' ≡ length qs → length sc' ≡ length sc → AdvanceIs T (cut_for d m) m₁ qs qs' sc sc' eps loglikes d r → FrameIs T m (put_back d.graph.states d.cap m m₁) qs qs' sc sc' eps loglikes d r
frame_whole {m = m} {d = d} P m₁ L q s A =
    record {
      answer = λ g c l fs st R. called_whole d.graph.states d.cap m m₁ (A.answer g c l fs st (represents_cut R));
      lent = record { stores = put_lens P m₁ L; behind = put_back_behind P m₁ L; queue = record { same_length = q } };
      scratch = record { same_length = s };
      untouched = λ e. let U = A.untouched e in record { answer = U.answer; stores = ap (put_back d.graph.states d.cap m) U.stores ∙ put_back_none d.graph.states d.cap m; queue = U.queue; scratch = U.scratch };
    }
