-- A slice of a script in an array. Assumes nothing.
use Rattle.std.specs.Prelude.{◌≡◌, refl, ℕ, ◌+◌, ◌≤◌, Bool, true, false, cond, List, ◌++◌, leb, length, take, drop}
use Rattle.std.proofs.Common.{sym, ap, ◌∙◌, zero-le, arith, leb-true, take_at, length-take-le}
use Rattle.lists.specs.Tests.{and_both}
use Rattle.script.specs.Words.{word_count, words_from, fitting, Filled}
use Rattle.script.proofs.Stores.{length_words}
use Rattle.replay_graph.specs.declared.shape.Part.{Part}

-- how many words of a slice an array of so many places holds: all or none
abbrev pub count_in : List ℕ → Part → (places : ℕ) → ℕ
count_in bs p places = cond (fitting bs p.at p.n places) p.n 0

-- these words
abbrev pub slice_in : {A : Type 0} → (ℕ → A) → List ℕ → Part → (places : ℕ) → List A
slice_in f bs p places = words_from f bs p.at (count_in bs p places)

pub record CountIs (bs : List ℕ) (p : Part) (places t : ℕ) : Type 0 where
  pub counted : t ≡ count_in bs p places
  pub within : t ≤ places

-- an array of so many places starts with them
pub record Slice {A : Type 0} (f : ℕ → A) (bs : List ℕ) (p : Part) (places : ℕ) (t : List A) : Type 0 where
  pub as_long : places ≡ length t
  pub holds : take (count_in bs p places) t ≡ slice_in f bs p places

no_words : {A : Type 0} (f : ℕ → A) (bs : List ℕ) (at : ℕ) (l : List A) → take 0 l ≡ words_from f bs at 0
unfolding words_from
no_words f bs at l = refl

pub filled_slice : {A : Type 0} (f : ℕ → A) (bs : List ℕ) (p : Part) (places : ℕ) (out left : List A) (told : Bool) → places ≡ length out → length left ≡ length out → Filled f bs p.at p.n out told left → Slice f bs p places left
filled_slice {A} f bs p places out left told q k F =
    record { as_long = q ∙ sym k; holds = go (fitting bs p.at p.n places) (rw (sym q) at F.written) }
  where
    go : (b : Bool) → left ≡ cond b (words_from f bs p.at p.n ++ drop p.n out) out → take (cond b p.n 0) left ≡ words_from f bs p.at (cond b p.n 0)
    go true e = rw e (take_at (words_from f bs p.at p.n) (drop p.n out) p.n (length_words f bs p.at p.n out p.n))
    go false e = no_words f bs p.at left

pub count_all : (bs : List ℕ) (p : Part) (places : ℕ) → fitting bs p.at p.n places ≡ true → CountIs bs p places p.n
count_all bs p places t = record { counted = rw t refl; within = leb-true _ _ (and_both (leb p.n places) (leb (p.at + p.n) (word_count bs)) t).0 }

pub count_none : (bs : List ℕ) (p : Part) (places : ℕ) → fitting bs p.at p.n places ≡ false → CountIs bs p places 0
count_none bs p places t = record { counted = rw t refl; within = zero-le }

-- what an array is lent by
pub lent_length : {A : Type 0} {bs : List ℕ} {p : Part} {places n : ℕ} (t : List A) → CountIs bs p places n → places ≡ length t → n ≡ length (take n t)
lent_length {n = n} t C q = sym (length-take-le n t (omega (arith, C.within, q)))

pub lent_holds : {A : Type 0} {f : ℕ → A} {bs : List ℕ} {p : Part} {places n : ℕ} {t : List A} → CountIs bs p places n → Slice f bs p places t → take n t ≡ slice_in f bs p places
lent_holds {t = t} C S = ap (λ k. take k t) C.counted ∙ S.holds
