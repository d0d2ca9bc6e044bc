-- The decoder that the program holds between calls. Assumes nothing.
use Rattle.std.specs.Prelude.{◌≡◌, ℕ, ◌+◌, ◌≤◌, Bool, true, List, leb, Float, Option, Some, None, Result, Ok, Err}
use Rattle.std.proofs.Common.{subst, sym, leb-true}
use Rattle.lists.specs.Tests.{and_both}
use Rattle.script.specs.Words.{word_count, fitting}
use Rattle.model.specs.Calls.{Call, keep_call}
use Rattle.stores.specs.Rep.{Lent}
use Rattle.arcs.specs.State.{Tables}
use Rattle.checks.specs.Margin.{asked}
use Rattle.decoder.specs.declared.Decoder.{Decoder}
use Rattle.decoder.specs.declared.Called.{Called}
use Rattle.decoder.specs.Promises.{Promised, keep_of}
use Rattle.decoder.specs.Behaves.{value_of}
use Rattle.decoder.specs.Keep.{keep_is}
use Rattle.replay_places.specs.Held.{Held, HeldFitted, call_held}
use Rattle.refusals.specs.declared.Refusal.{Refusal}

-- after an answer the decoder and its stores are as a call leaves them
abbrev pub AnsweredLeft : (T : Tables) (m : Lent) (finals : List Float) (eps : List ℕ) (places scratch : ℕ) → Option Decoder → Type 0
AnsweredLeft T m finals eps places scratch (Some d) = Held T m finals eps places scratch d
AnsweredLeft T m finals eps places scratch None = Unit {0}

-- the decoder goes on as it is, if at all
abbrev pub NextIs : Decoder → Option Decoder → Type 0
NextIs d (Some x) = x ≡ d
NextIs d None = Unit {0}

-- the decoder goes on as a call gave it back
abbrev pub Goes : Called → Option Decoder → Type 0
Goes (Called.Done d) a = NextIs d a
Goes (Called.Refused d f) a = NextIs d a

abbrev pub GoesFitted : Result Called Refusal → Option Decoder → Type 0
GoesFitted (Err f) a = a ≡ None
GoesFitted (Ok c) a = Goes c a

-- what a call on stores and what one on the decoder alone keeps
abbrev pub GoesOn : (T : Tables) (m m' : Lent) (eps : List ℕ) (places : ℕ) → Decoder → Option Decoder → Type 0
GoesOn T m m' eps places d a = (finals : List Float) (scratch : ℕ) → Held T m finals eps places scratch d → AnsweredLeft T m' finals eps places scratch a

abbrev pub GoesOnAll : Decoder → Option Decoder → Type 0
GoesOnAll d a = (T : Tables) (m : Lent) (eps : List ℕ) (places : ℕ) → GoesOn T m m eps places d a

module _ (T : Tables) (m : Lent) (finals : List Float) (eps : List ℕ) (places scratch : ℕ) where
  pub next_left : (d : Decoder) (a : Option Decoder) → NextIs d a → Held T m finals eps places scratch d → AnsweredLeft T m finals eps places scratch a
  next_left d (Some x) e H = subst (Held T m finals eps places scratch) (sym e) H
  next_left d None e H = tt

  goes_left : (r : Called) (a : Option Decoder) → Goes r a → Held T m finals eps places scratch (value_of r) → AnsweredLeft T m finals eps places scratch a
  goes_left (Called.Done d) a e H = next_left d a e H
  goes_left (Called.Refused d f) a e H = next_left d a e H

  fitted_left : (f : Result Called Refusal) (a : Option Decoder) → GoesFitted f a → HeldFitted T m finals eps places scratch f → AnsweredLeft T m finals eps places scratch a
  fitted_left (Err x) a e H = subst (AnsweredLeft T m finals eps places scratch) (sym e) tt
  fitted_left (Ok (Called.Done d)) a e H = next_left d a e H
  fitted_left (Ok (Called.Refused d x)) a e H = next_left d a e H

pub called_left : (T : Tables) (m m' : Lent) (eps : List ℕ) (places : ℕ) (k : Call) (d : Decoder) (r : Called) (a : Option Decoder) → Promised T m m' eps places k d r → Goes r a → GoesOn T m m' eps places d a
called_left T m m' eps places k d r a P e finals scratch H = goes_left T m' finals eps places scratch r a e (call_held H k r P)

pub kept_left : (d : Decoder) (keeps : Bool) (margin : Float) (r : Called) (a : Option Decoder) → r ≡ keep_of d keeps margin → Goes r a → GoesOnAll d a
kept_left d keeps margin r a q e T m eps places =
    called_left T m m eps places (keep_call (asked keeps margin)) d (keep_of d keeps margin) a (λ g c l fs st R. keep_is R keeps margin) (subst (λ (x : Called). Goes x a) q e)

-- an answer that goes on, with a queue and a scratch as long
pub answered_next : (T : Tables) (m : Lent) (finals : List Float) (eps : List ℕ) (n n' k k' : ℕ) (a : Option Decoder) (d : Decoder) → AnsweredLeft T m finals eps n k a → a ≡ Some d → n' ≡ n → k' ≡ k → Held T m finals eps n' k' d
answered_next T m finals eps n n' k k' a d H e p q =
    subst (λ (x : ℕ). Held T m finals eps n' x d) (sym q) (subst (λ (x : ℕ). Held T m finals eps x k d) (sym p) (subst (AnsweredLeft T m finals eps n k) e H))

-- a decoder that was fitted goes on with a queue as long
pub fitted_next : (T : Tables) (m : Lent) (finals : List Float) (eps : List ℕ) (n n' k : ℕ) (f : Result Called Refusal) (a : Option Decoder) (d : Decoder) → HeldFitted T m finals eps n k f → GoesFitted f a → a ≡ Some d → n' ≡ n → Held T m finals eps n' k d
fitted_next T m finals eps n n' k f a d H o e p =
    subst (λ (x : ℕ). Held T m finals eps x k d) (sym p) (subst (AnsweredLeft T m finals eps n k) e (fitted_left T m finals eps n k f a o H))

-- words that fit are no more than the places
pub fits_places : (bs : List ℕ) (at n places : ℕ) → fitting bs at n places ≡ true → n ≤ places
fits_places bs at n places t = leb-true _ _ (and_both (leb n places) (leb (at + n) (word_count bs)) t).0
