-- Sums over lists without repeats, and over the numbers that pass a test. Assumes nothing.
use Rattle.std.specs.Prelude.{◌≡◌, refl, ℕ, zero, suc, ◌+◌, ◌≤◌, ◌<◌, Bool, true, false, cond, List, [], ◌∷◌, ◌++◌, map}
use Rattle.std.proofs.Common.{sym, ap, ◌∙◌, subst, arith}
use mathlib.Core.List.Memᴰ.{head as here}
use mathlib.Core.List.Memᴰ.{tail as there}
use Rattle.std.proofs.lemmas.List.{map-append}
use Rattle.lists.specs.Tests.{case, lt_or_le}
use Rattle.lists.specs.Lists.{◌∈◌, keep_if, range, sum}
use Rattle.lists.specs.Members.{keep_from}
use Rattle.lists.specs.Count.{Nodup}
use Rattle.below.specs.Maps.{range_member}

module _ {A : Type 0} (f : A → ℕ) where
  -- the list without one of its members
  abbrev without : (x : A) (ys : List A) → x ∈ ys → List A
  without x [] x'' = elim x'' [ ]
  without x (y ∷ ys) (here e) = ys
  without x (y ∷ ys) (there m) = y ∷ without x ys m

  sum_without : (x : A) (ys : List A) (m : x ∈ ys) → sum (map f ys) ≡ f x + sum (map f (without x ys m))
  sum_without x (y ∷ ys) (here e) = ap (λ (z : A). f z + sum (map f ys)) (sym e)
  sum_without x [] m = elim m [ ]
  sum_without x (y ∷ ys) (there m) = let z = sum_without x ys m in omega arith

  in_without : (x : A) (ys : List A) (m : x ∈ ys) (z : A) → z ∈ ys → (z ≡ x → ⊥) → z ∈ without x ys m
  in_without x [] m z _ d = elim m [ ]
  in_without x (y ∷ ys) (here e) z (here q) d = absurd (d (q ∙ sym e))
  in_without x (y ∷ ys) (here e) z (there n) d = n
  in_without x (y ∷ ys) (there m) z (here q) d = here q
  in_without x (y ∷ ys) (there m) z (there n) d = there (in_without x ys m z n d)

  -- fewer members
  pub sum_less : (xs ys : List A) → Nodup xs → ((z : A) → z ∈ xs → z ∈ ys) → sum (map f xs) ≤ sum (map f ys)
  sum_less [] ys n g = omega arith
  sum_less (x ∷ xs) ys n g =
      let m = g x (here refl) in
      let l = sum_less xs (without x ys m) n.1 (λ z k. in_without x ys m z (g z (there k)) (λ e. n.0 (subst (λ (w : A). w ∈ xs) e k))) in
      let e = sum_without x ys m in
      omega arith

  -- the same members
  pub sum_same : (xs ys : List A) → Nodup xs → Nodup ys → ((z : A) → z ∈ xs → z ∈ ys) → ((z : A) → z ∈ ys → z ∈ xs) → sum (map f xs) ≡ sum (map f ys)
  sum_same xs ys n k g e = let a = sum_less xs ys n g in let b = sum_less ys xs k e in omega arith

pub sum-append : (xs ys : List ℕ) → sum (xs ++ ys) ≡ sum xs + sum ys
sum-append [] ys = omega arith
sum-append (x ∷ xs) ys = let z = sum-append xs ys in omega arith

-- ---- the numbers from 1 to n that pass a test

-- they, ascending
abbrev pub passing : (ℕ → Bool) → ℕ → List ℕ
passing p n = keep_if p (range 1 n)

keep_range : (p : ℕ → Bool) (a n : ℕ) → Nodup (keep_if p (range a n))
keep_range p a zero = tt
keep_range p a (suc n) = go (p a) (keep_range p (suc a) n)
  where
    go : (b : Bool) → Nodup (keep_if p (range (suc a) n)) → Nodup (cond b (a ∷ keep_if p (range (suc a) n)) (keep_if p (range (suc a) n)))
    go true d = (λ m. let z = (range_member (suc a) n a (keep_from p (range (suc a) n) a m)).0 in omega arith, d)
    go false d = d

-- each once
pub passing_once : (p : ℕ → Bool) (n : ℕ) → Nodup (passing p n)
passing_once p n = keep_range p 1 n

-- from 1 to n
pub passing_low : (p : ℕ → Bool) (n j : ℕ) → j ∈ passing p n → (0 < j) × (j ≤ n)
passing_low p n j m = let z = range_member 1 n j (keep_from p (range 1 n) j m) in let x = z.0 in let y = z.1 in (omega arith, omega arith)

range_last : (a n : ℕ) → range a (suc n) ≡ range a n ++ ((a + n) ∷ [])
range_last a zero = ap (λ (k : ℕ). k ∷ []) (let e : a ≡ a + 0 = omega arith in e)
range_last a (suc n) = ap (λ (l : List ℕ). a ∷ l) (range_last (suc a) n ∙ ap (λ (k : ℕ). range (suc a) n ++ (k ∷ [])) (let e : suc a + n ≡ a + suc n = omega arith in e))

keep_append : (p : ℕ → Bool) (xs ys : List ℕ) → keep_if p (xs ++ ys) ≡ keep_if p xs ++ keep_if p ys
keep_append p [] ys = refl
keep_append p (x ∷ xs) ys = go (p x) (keep_append p xs ys)
  where
    go : (b : Bool) → keep_if p (xs ++ ys) ≡ keep_if p xs ++ keep_if p ys → cond b (x ∷ keep_if p (xs ++ ys)) (keep_if p (xs ++ ys)) ≡ cond b (x ∷ keep_if p xs) (keep_if p xs) ++ keep_if p ys
    go true e = ap (λ (l : List ℕ). x ∷ l) e
    go false e = e

-- with the next number
pub passing_next : (p : ℕ → Bool) (n : ℕ) → passing p (suc n) ≡ passing p n ++ cond (p (suc n)) (suc n ∷ []) []
passing_next p n = ap (keep_if p) (range_last 1 n) ∙ keep_append p (range 1 n) ((1 + n) ∷ []) ∙ ap (λ (k : ℕ). passing p n ++ keep_if p (k ∷ [])) (let e : 1 + n ≡ suc n = omega arith in e)

-- a sum over them
abbrev pub sum_to : (p : ℕ → Bool) → (f : ℕ → ℕ) → ℕ → ℕ
sum_to p f n = sum (map f (passing p n))

-- with the next number
pub sum_next : (p : ℕ → Bool) (f : ℕ → ℕ) (n : ℕ) → sum_to p f (suc n) ≡ sum_to p f n + cond (p (suc n)) (f (suc n)) 0
sum_next p f n =
    ap (λ (l : List ℕ). sum (map f l)) (passing_next p n) ∙ ap sum (map-append f (passing p n) (cond (p (suc n)) (suc n ∷ []) [])) ∙ sum-append (map f (passing p n)) (map f (cond (p (suc n)) (suc n ∷ []) [])) ∙
    ap (λ (k : ℕ). sum_to p f n + k) (go (p (suc n)))
  where
    go : (b : Bool) → sum (map f (cond b (suc n ∷ []) [])) ≡ cond b (f (suc n)) 0
    go true = omega arith
    go false = refl

-- no less further on
pub sum_upto : (p : ℕ → Bool) (f : ℕ → ℕ) (m n : ℕ) → m ≤ n → sum_to p f m ≤ sum_to p f n
sum_upto p f m zero l = let e : m ≡ 0 = omega arith in rw e (omega arith)
sum_upto p f m (suc n) l =
    case (lt_or_le m (suc n)) (λ a. let z = sum_upto p f m n (omega arith) in let y = sum_next p f n in omega arith) (λ a. let e : m ≡ suc n = omega arith in rw e (omega arith))
