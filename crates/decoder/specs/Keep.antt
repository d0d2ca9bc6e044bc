-- The keep margin, and the frames decoded. Assumes nothing.
use Rattle.std.specs.Prelude.{◌≡◌, refl, ℕ, Bool, true, false, cond, List, Float, Some, None}
use Rattle.std.proofs.Common.{sym, subst}
use Rattle.std.proofs.Math.Path.{ap}
use Rattle.model.specs.Basics.{0f, nowhere, Outcome, ok, refused}
use Rattle.model.specs.Graph.{Graph}
use Rattle.model.specs.Path.{Limits}
use Rattle.model.specs.Cutoff.{Config as Settings}
use Rattle.model.specs.Passes.{State, fair_margin, set_keep}
use Rattle.model.specs.Calls.{frames_decoded_read, keep_call, read_call, count_answer, read_answer, Said, said, call}
use Rattle.joins.specs.Model.{margin_of}
use Rattle.copy_laws.specs.Walks.{Heard}
use Rattle.stores.specs.Rep.{Lent}
use Rattle.arcs.specs.State.{Tables}
use Rattle.checks.specs.Margin.{asked}
use Rattle.decoder.specs.declared.Decoder.{Decoder}
use Rattle.decoder.specs.declared.Called.TheVariants.{Done, Refused}
use Rattle.decoder.specs.Represents.{Represents, CalledBy, called_done, called_refused}
use Rattle.decoder.specs.Promises.{with_margin, unfit, keep_of}

-- ---- the keep margin

-- the margin of the settings
pub asked_is : (keeps : Bool) (x : Float) → asked keeps x ≡ margin_of (cond keeps (Some x) None)
asked_is true x = refl
asked_is false x = refl

margin_kept : (keeps : Bool) (x : Float) → asked keeps x ≡ margin_of (cond keeps (Some (cond keeps x 0f)) None)
margin_kept true x = refl
margin_kept false x = refl

module _ {g : Graph} {c : Settings} {l : Limits} {T : Tables} {m : Lent} {eps : List ℕ} {places : ℕ} {d : Decoder} {fs : List Heard} {st : State} (R : Represents g c l T m eps places d fs st) (keeps : Bool) (x : Float) where
  abbrev kept : Bool → Said
  kept b = said st nowhere (elim b as (λ z. Outcome State) [ true ↦ ok (record { margin = asked keeps x; frames = st.frames; table = st.table; seq = st.seq; fresh = st.fresh }) | false ↦ refused 6 ])

  call_is : (b : Bool) → fair_margin (asked keeps x) ≡ b → call g c l (keep_call (asked keeps x)) st ≡ kept b
  unfolding call set_keep
  call_is b e = ap kept e

  -- the new value stands for the new margin
  kept_is : fair_margin (asked keeps x) ≡ true → Represents g c l T m eps places (with_margin d keeps x) fs (kept true).state
  kept_is e =
      let f = R.fixed in
      record {
        fixed = record {
          good = f.good;
          floats = f.floats;
          of = f.of;
          states_are = f.states_are;
          arcs_are = f.arcs_are;
          start_is = f.start_is;
          pdfs_are = f.pdfs_are;
          config_is = f.config_is;
          limits = f.limits;
          small = f.small;
          side = f.side;
          stores = f.stores;
          eps_long = f.eps_long;
          eps_is = f.eps_is;
        };
        standing = record { active = R.standing.active; frames = R.standing.frames; few = R.standing.few; margin = e };
        margin_is = margin_kept keeps x;
        idle = ap (λ (b : Bool). cond b x 0f);
        frames_are = R.frames_are;
        seq_is = R.seq_is;
        fits = R.fits;
        h = R.h;
        stands = R.stands;
        finished = R.finished;
        newest = R.newest;
      }

  pub keep_is : CalledBy g c l T m eps places (call g c l (keep_call (asked keeps x)) st) (keep_of d keeps x)
  keep_is = go (fair_margin (asked keeps x)) refl
    where
      go : (b : Bool) → fair_margin (asked keeps x) ≡ b → CalledBy g c l T m eps places (call g c l (keep_call (asked keeps x)) st) (cond b (Done (with_margin d keeps x)) (Refused d unfit))
      go true e = subst (λ (s : Said). CalledBy g c l T m eps places s (Done (with_margin d keeps x))) (sym (call_is true e)) (called_done fs refl (kept_is e))
      go false e = subst (λ (s : Said). CalledBy g c l T m eps places s (Refused d unfit)) (sym (call_is false e)) (called_refused fs refl R)

-- by the test of the margin
pub keep_refuses : (d : Decoder) (keeps : Bool) (x : Float) → fair_margin (asked keeps x) ≡ false → Refused d unfit ≡ keep_of d keeps x
keep_refuses d keeps x e = sym (ap (λ (b : Bool). cond b (Done (with_margin d keeps x)) (Refused d unfit)) e)

pub keep_takes : (d : Decoder) (keeps : Bool) (x : Float) → fair_margin (asked keeps x) ≡ true → Done (with_margin d keeps x) ≡ keep_of d keeps x
keep_takes d keeps x e = sym (ap (λ (b : Bool). cond b (Done (with_margin d keeps x)) (Refused d unfit)) e)

-- ---- the frames decoded

pub frames_is : {g : Graph} {c : Settings} {l : Limits} {T : Tables} {m : Lent} {eps : List ℕ} {places : ℕ} {d : Decoder} {fs : List Heard} {st : State} → Represents g c l T m eps places d fs st → (call g c l (read_call frames_decoded_read) st).answer ≡ count_answer d.frames
unfolding call read_answer
frames_is R = ap count_answer R.frames_are
