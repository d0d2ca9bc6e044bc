-- `firsts` keeps one of each class, the first, and leaves the order. Assumes nothing.
use Rattle.std.specs.Prelude.{◌≡◌, refl, ◌⊎◌, Bool, true, false}
use Rattle.std.proofs.Common.{ap, ◌∙◌, inl, inr}
use mathlib.Core.List.Memᴰ.{head as here}
use mathlib.Core.List.Memᴰ.{tail as there}
use mathlib.Core.List.{List, [], ◌∷◌, Sublistᴰ}
use Rattle.lists.specs.Tests.{case}
use Rattle.lists.specs.Lists.{◌∈◌, any, firsts}
use Rattle.lists.specs.Members.{any_no, any_some}

module _ {A : Type 0} (same : A → A → Bool) where
  -- no element is the same as one in front of it
  abbrev pub Apart : List A → Type 0
  Apart [] = Unit {0}
  Apart (x ∷ xs) = ((y : A) → y ∈ xs → same y x ≡ false) × Apart xs

  -- an element of the list that x is, or is the same as
  pub record Like (x : A) (xs : List A) : Type 0 where
    pub one : A
    pub in_list : one ∈ xs
    pub like : (x ≡ one) ⊎ (same x one ≡ true)

  pub record Firsts (seen xs ys : List A) : Type 0 where
    pub in_order : Sublistᴰ ys xs
    pub apart : Apart ys
    pub unseen : (y : A) → y ∈ ys → (s : A) → s ∈ seen → same y s ≡ false
    pub each : (x : A) → x ∈ xs → Like x seen ⊎ Like x ys

  like_more : (x y : A) (ys : List A) → Like x ys → Like x (y ∷ ys)
  like_more x y ys l = record { one = l.one; in_list = there l.in_list; like = l.like }

  like_self : (x : A) (xs : List A) → x ∈ xs → Like x xs
  like_self x xs m = record { one = x; in_list = m; like = inl refl }

  -- x was seen
  passed_over : (x : A) (seen xs : List A) → any (same x) seen ≡ true → (ys : List A) → Firsts seen xs ys → Firsts seen (x ∷ xs) ys
  passed_over x seen xs e ys f = record { in_order = Sublistᴰ.cons f.in_order; apart = f.apart; unseen = f.unseen; each = each_of }
    where
      each_of : (z : A) → z ∈ (x ∷ xs) → Like z seen ⊎ Like z ys
      each_of z (here q) = let (s, m, t) = any_some (same x) seen e in inl (record { one = s; in_list = m; like = inr (ap (λ (w : A). same w s) q ∙ t) })
      each_of z (there m) = f.each z m

  -- x is the first of its class
  put_first : (x : A) (seen xs : List A) → any (same x) seen ≡ false → (ys : List A) → Firsts (x ∷ seen) xs ys → Firsts seen (x ∷ xs) (x ∷ ys)
  put_first x seen xs e ys f = record { in_order = Sublistᴰ.cons-cons refl f.in_order; apart = (λ y m. f.unseen y m x (here refl), f.apart); unseen = unseen_of; each = each_of }
    where
      unseen_of : (y : A) → y ∈ (x ∷ ys) → (s : A) → s ∈ seen → same y s ≡ false
      unseen_of y (here q) s m = ap (λ (w : A). same w s) q ∙ any_no (same x) seen e s m
      unseen_of y (there k) s m = f.unseen y k s (there m)

      older : (z o : A) → o ∈ (x ∷ seen) → (z ≡ o) ⊎ (same z o ≡ true) → Like z seen ⊎ Like z (x ∷ ys)
      older z o (here q) l = inr (record { one = o; in_list = here q; like = l })
      older z o (there m) l = inl (record { one = o; in_list = m; like = l })

      each_of : (z : A) → z ∈ (x ∷ xs) → Like z seen ⊎ Like z (x ∷ ys)
      each_of z (here q) = inr (like_self z (x ∷ ys) (here q))
      each_of z (there m) = case (f.each z m) (λ l. older z l.one l.in_list l.like) (λ l. inr (like_more z x ys l))

  pub firsts_are : (seen xs : List A) → Firsts seen xs (firsts same seen xs)
  firsts_are seen [] = record { in_order = Sublistᴰ.slnil; apart = tt; unseen = λ y m. elim m [ ]; each = λ x m. elim m [ ] }
  firsts_are seen (x ∷ xs) = go (any (same x) seen) refl (firsts_are seen xs) (firsts_are (x ∷ seen) xs)
    where
      go : (b : Bool) → any (same x) seen ≡ b → Firsts seen xs (firsts same seen xs) → Firsts (x ∷ seen) xs (firsts same (x ∷ seen) xs)
          → Firsts seen (x ∷ xs) (elim b as (λ c. List A) [ true ↦ firsts same seen xs | false ↦ x ∷ firsts same (x ∷ seen) xs ])
      go true e f g = passed_over x seen xs e (firsts same seen xs) f
      go false e f g = put_first x seen xs e (firsts same (x ∷ seen) xs) g
