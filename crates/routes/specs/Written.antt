-- Words written from the newest to the oldest, in front of those so far. Assumes nothing.
use Rattle.std.specs.Prelude.{◌≡◌, refl, ℕ, suc, ◌-◌, ◌≤◌, ◌<◌, ℤ, pos, length, take, drop, set}
use Rattle.std.proofs.Common.{sym, ◌∙◌, ap, ap₂, arith, length-set, drop-cons, drop-set-lt, get_or-set_same, take_at, drop_at}
use mathlib.Core.List.{List, [], ◌∷◌, ◌++◌, reverse, reverse_aux}
use Rattle.std.proofs.Math.ListN.{length-reverse_aux}
use Rattle.std.proofs.lemmas.List.{length-reverse}
use Rattle.routes.specs.declared.Word.{Word}
use Rattle.routes.specs.Back.{back_along, NextOn, WordsWritten}
use Rattle.routes.specs.Words.{Passed, at_some}

-- those from the place k on are written, and the k from record r down are left
pub record Writing (rs : List ℕ) (ls : List ℤ) (route : List ℕ) (link n : ℕ) (ws ws' : List ℤ) (r k : ℕ) : Type 0 where
  pub low : r ≤ link
  pub done : List ℤ
  pub back : reverse (back_along rs ls route link) ≡ reverse_aux (back_along rs ls route r) done
  pub left : length (back_along rs ls route r) ≡ k
  pub written : drop k ws' ≡ done ++ drop n ws
  pub long : length ws' ≡ length ws

none_left : (xs : List ℤ) → length xs ≡ 0 → xs ≡ []
none_left [] e = refl
none_left (x ∷ xs) e = absurd (omega arith)

module _ {rs : List ℕ} {ls : List ℤ} {route : List ℕ} {link n : ℕ} {ws : List ℤ} (many : n ≡ length (back_along rs ls route link)) (room : n ≤ length ws) where
  pub writing_none : Writing rs ls route link n ws ws link n
  writing_none = record { low = omega arith; done = []; back = refl; left = sym many; written = refl; long = refl }

  module _ {ws' : List ℤ} {r k : ℕ} (i : Writing rs ls route link n ws ws' r k) where
    pub writing_low : k ≤ length ws'
    writing_low =
        let a = ap length i.back in
        let b = length-reverse_aux (back_along rs ls route r) i.done in
        let c = length-reverse (back_along rs ls route link) in
        let d = i.left in
        let e = i.long in
        omega arith

    pub writing_passed : {x : Word} → 0 < k → NextOn rs ls route r x → Passed rs ls route r x
    writing_passed l m = at_some m (let z = i.left in omega arith)

    pub writing_next : {x : Word} → 0 < k → NextOn rs ls route r x → Writing rs ls route link n ws (set ws' (k - 1) x.word) x.next (k - 1)
    writing_next {x} l m =
        let p = writing_passed l m in
        let low = writing_low in
        let j = k - 1 in
        let z : suc j ≡ k = omega arith in
        record {
          low = let a = p.low in let b = i.low in omega arith;
          done = x.word ∷ i.done;
          back = i.back ∙ ap (λ (l : List ℤ). reverse_aux l i.done) p.is;
          left = let a = ap length p.is in let b = i.left in omega arith;
          written = drop-cons (set ws' j x.word) j (pos 0) (rw (length-set ws' j x.word) (omega arith))
              ∙ ap₂ (λ (w : ℤ) (l : List ℤ). w ∷ l) (get_or-set_same ws' j x.word (pos 0) (omega arith)) (drop-set-lt (suc j) ws' j x.word (omega arith) ∙ ap (λ (v : ℕ). drop v ws') z ∙ i.written);
          long = length-set ws' j x.word ∙ i.long;
        }

  pub writing_end : {ws' : List ℤ} {r k : ℕ} → k ≤ 0 → Writing rs ls route link n ws ws' r k → WordsWritten (back_along rs ls route link) n ws ws'
  writing_end {ws'} {r} {k} l i =
      let z : k ≡ 0 = omega arith in
      let e : reverse (back_along rs ls route link) ≡ i.done = i.back ∙ ap (λ (l : List ℤ). reverse_aux l i.done) (none_left (back_along rs ls route r) (i.left ∙ z)) in
      let v : length i.done ≡ n = ap length (sym e) ∙ length-reverse (back_along rs ls route link) ∙ sym many in
      let w : ws' ≡ i.done ++ drop n ws = ap (λ (j : ℕ). drop j ws') (sym z) ∙ i.written in
      record { first = ap (take n) w ∙ take_at i.done (drop n ws) n v ∙ sym e; rest = ap (drop n) w ∙ drop_at i.done (drop n ws) n v }
