-- The slices that the reading list works in: their contents are left to the program. Assumes nothing.
use Rattle.std.specs.Prelude.{refl, ◌⊎◌, ℕ, ◌≤◌, ◌<◌, List, Float}
use Rattle.std.proofs.Common.{inl, inr, arith}
use Rattle.stores.specs.Lent.{LeftToProgram, Used}

pub record Scratch : Type 0 where
  pub keys : List ℕ
  pub places : List ℕ
  pub own : List ℕ
  pub heads : List ℕ
  pub list : List ℕ
  pub lists : List ℕ
  pub route : List ℕ
  pub history_keys : List ℕ
  pub history_skips : List ℕ
  pub entry_hashes : List ℕ
  pub entry_nexts : List ℕ
  pub entry_sums : List Float
  pub kept_hashes : List ℕ
  pub kept_links : List ℕ
  pub kept_sums : List Float
  pub order : List ℕ

abbrev pub scratch : (keys places own heads list lists route history_keys history_skips entry_hashes entry_nexts : List ℕ) → (entry_sums : List Float) → (kept_hashes kept_links : List ℕ) → (kept_sums : List Float) → (order : List ℕ) → Scratch
scratch ks ps os hs ls bs rt hk hc eh en ex kh kl kx ord =
    record {
      keys = ks;
      places = ps;
      own = os;
      heads = hs;
      list = ls;
      lists = bs;
      route = rt;
      history_keys = hk;
      history_skips = hc;
      entry_hashes = eh;
      entry_nexts = en;
      entry_sums = ex;
      kept_hashes = kh;
      kept_links = kl;
      kept_sums = kx;
      order = ord;
    }

pub record ScratchLeft (w w' : Scratch) : Type 0 where
  pub keys : LeftToProgram w.keys w'.keys
  pub places : LeftToProgram w.places w'.places
  pub own : LeftToProgram w.own w'.own
  pub heads : LeftToProgram w.heads w'.heads
  pub list : LeftToProgram w.list w'.list
  pub lists : LeftToProgram w.lists w'.lists
  pub route : LeftToProgram w.route w'.route
  pub history_keys : LeftToProgram w.history_keys w'.history_keys
  pub history_skips : LeftToProgram w.history_skips w'.history_skips
  pub entry_hashes : LeftToProgram w.entry_hashes w'.entry_hashes
  pub entry_nexts : LeftToProgram w.entry_nexts w'.entry_nexts
  pub entry_sums : LeftToProgram w.entry_sums w'.entry_sums
  pub kept_hashes : LeftToProgram w.kept_hashes w'.kept_hashes
  pub kept_links : LeftToProgram w.kept_links w'.kept_links
  pub kept_sums : LeftToProgram w.kept_sums w'.kept_sums
  pub order : LeftToProgram w.order w'.order

pub used_self : {E : Type 0} (w : Scratch) → Used ScratchLeft E w w
used_self w =
    record {
      left = record {
        keys = record { same_length = refl };
        places = record { same_length = refl };
        own = record { same_length = refl };
        heads = record { same_length = refl };
        list = record { same_length = refl };
        lists = record { same_length = refl };
        route = record { same_length = refl };
        history_keys = record { same_length = refl };
        history_skips = record { same_length = refl };
        entry_hashes = record { same_length = refl };
        entry_nexts = record { same_length = refl };
        entry_sums = record { same_length = refl };
        kept_hashes = record { same_length = refl };
        kept_links = record { same_length = refl };
        kept_sums = record { same_length = refl };
        order = record { same_length = refl };
      };
      untouched = λ h. refl;
    }

pub used_late : {listed max : ℕ} {w w' : Scratch} → listed ≤ 64 → max ≤ 64 → ScratchLeft w w' → Used ScratchLeft ((64 < listed) ⊎ (64 < max)) w w'
used_late few less l = record { left = l; untouched = λ h. elim h [ inl i ↦ absurd (omega arith) | inr i ↦ absurd (omega arith) ] }
