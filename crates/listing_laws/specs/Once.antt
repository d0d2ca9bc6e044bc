-- What is listed below a path has each hash and number of words once: the hash of one word more tells the hashes below it apart, since its base is odd. Assumes nothing.
use Rattle.std.specs.Prelude.{◌≡◌, refl, Bool, true, false, not, ◌&&◌, cond, [], ◌∷◌, ◌++◌, map, eqb, ℤ, Float}
use Rattle.std.proofs.Common.{sym, ap, ap₂, ◌∙◌, arith, mul_assoc, mul-add, mul-one, add_comm, mod-eq_of_lt, div-add-mod', add-mul, mul_right_comm, eq-eqb, eqb-true}
use Prim.Native.Nat.{ℕ, suc, ◌+◌, ◌*◌, ◌%◌, ◌^◌, ◌<◌}
use Rattle.std.proofs.Math.Nat.{add-mul-mod_self_right}
use mathlib.Core.List.Memᴰ.{head as here}
use mathlib.Core.List.Memᴰ.{tail as there}
use Rattle.lists.specs.Tests.{and_both}
use Rattle.lists.specs.Lists.{◌∈◌, keep_if, sort_by, firsts}
use Rattle.lists.specs.Members.{take_from, map_from}
use Rattle.lists.specs.Firsts.{firsts_are}
use Rattle.model.specs.Basics.{◌≺◌, ◌≼◌, 0f, nonzero, unsigned}
use Rattle.model.specs.Path.{Path, empty_path, arc_onto, branch_on, word}
use Rattle.model.specs.Hash.{hash_base, hash_word}
use Rattle.model.specs.Readings.{Below, on_top, by_way, same_key, cheapest, below}
use Rattle.copy_laws.proofs.Below.{below_each}
use Rattle.listing_laws.specs.Alike.{apart_one}

-- ---- one word more

-- hash-base times this is 1, modulo 2 ^ 64
abbrev back : ℕ
back = 0xf1de_83e1_9937_733d

abbrev turns : ℕ
turns = 0x957b_bf35_006e_d677

back_is : hash_base * back ≡ turns * 2 ^ 64 + 1
back_is = refl

early : (m a b : ℕ) → (a % m * b) % m ≡ (a * b) % m
early m a b = sym (ap (λ (z : ℕ). (z * b) % m) (sym (div-add-mod' a m)) ∙ ap (λ (z : ℕ). z % m) (split (Prim.Native.Nat.◌/◌ a m) (a % m)) ∙ add-mul-mod_self_right (a % m * b) (Prim.Native.Nat.◌/◌ a m * b) m)
  where
    split : (q r : ℕ) → (q * m + r) * b ≡ r * b + q * b * m
    split q r = add-mul (q * m) r b ∙ add_comm (q * m * b) (r * b) ∙ ap (λ (z : ℕ). r * b + z) (mul_right_comm q m b)

unshift : (h : ℕ) → h < 2 ^ 64 → (h * hash_base % 2 ^ 64 * back) % 2 ^ 64 ≡ h
unshift h l =
    early (2 ^ 64) (h * hash_base) back
    ∙ ap (λ (z : ℕ). z % 2 ^ 64) (mul_assoc h hash_base back ∙ ap (λ (z : ℕ). h * z) back_is ∙ mul-add h (turns * 2 ^ 64) 1 ∙ ap₂ (λ (x y : ℕ). x + y) (sym (mul_assoc h turns (2 ^ 64))) (mul-one h) ∙ add_comm (h * turns * 2 ^ 64) h)
    ∙ add-mul-mod_self_right h (h * turns) (2 ^ 64) ∙ mod-eq_of_lt l

word_apart : (w : ℤ) (h k : ℕ) → h < 2 ^ 64 → k < 2 ^ 64 → hash_word w h ≡ hash_word w k → h ≡ k
unfolding hash_word
word_apart w h k a b e =
    let r : h * hash_base % 2 ^ 64 ≡ k * hash_base % 2 ^ 64 = less (h * hash_base) (k * hash_base) (unsigned w) e in
    sym (unshift h a) ∙ ap (λ (z : ℕ). (z * back) % 2 ^ 64) r ∙ unshift k b
  where
    less : (x y u : ℕ) → (x + u) % 2 ^ 64 ≡ (y + u) % 2 ^ 64 → x % 2 ^ 64 ≡ y % 2 ^ 64
    less x y u e = omega arith

-- ---- keys

-- one key is one hash and one number of words
key_parts : (a b : Below) → same_key a b ≡ true → (a.hash ≡ b.hash) × (a.len ≡ b.len)
key_parts a b e = let d = and_both (eqb a.hash b.hash) (eqb a.len b.len) e in (eqb-true a.hash b.hash d.0, eqb-true a.len b.len d.1)

pub key_of : (a b : Below) → a.hash ≡ b.hash → a.len ≡ b.len → same_key a b ≡ true
key_of a b p q = ap₂ (λ (x y : Bool). x && y) (eq-eqb a.hash b.hash p) (eq-eqb a.len b.len q)

key_back : (a b : Below) → same_key a b ≡ true → same_key b a ≡ true
key_back a b e = let d = key_parts a b e in key_of b a (sym d.0) (sym d.1)

below_fits : (margin : Float) (cap : ℕ) (p : Path) (b : Below) → b ∈ below margin cap p → b.hash < 2 ^ 64
unfolding on_top by_way hash_word
below_fits margin cap = below_each margin cap (λ p b. b.hash < 2 ^ 64) (record { start = omega arith; arc = λ x p b r. on (word x) b (nonzero (word x)) r; own = λ m k p b e r. r; kept = λ m k p b q e r. r })
  where
    on : (w : ℤ) (b : Below) (c : Bool) → b.hash < 2 ^ 64 → (cond c (record { hash = hash_word w b.hash; len = suc b.len; cost = b.cost; graph = b.graph; route = b.route }) b).hash < 2 ^ 64
    on w b true r = omega arith
    on w b false r = r

on_top_apart : (w : ℤ) (a b : Below) → a.hash < 2 ^ 64 → b.hash < 2 ^ 64 → same_key (on_top w a) (on_top w b) ≡ true → same_key a b ≡ true
unfolding on_top
on_top_apart w a b i j = go (nonzero w)
  where
    on : Bool → Below → Below
    on c x = cond c (record { hash = hash_word w x.hash; len = suc x.len; cost = x.cost; graph = x.graph; route = x.route }) x

    go : (c : Bool) → same_key (on c a) (on c b) ≡ true → same_key a b ≡ true
    go true e = let d = key_parts (on true a) (on true b) e in key_of a b (word_apart w a.hash b.hash i j d.0) (let z = d.1 in omega arith)
    go false e = e

-- ---- lists

-- no key comes twice below a path
pub below_once : (margin : Float) (cap : ℕ) (p : Path) (a b : Below) → a ∈ below margin cap p → b ∈ below margin cap p → same_key a b ≡ true → a ≡ b
unfolding below cheapest
below_once margin cap empty_path a b (here p) (here q) e = p ∙ sym q
below_once margin cap empty_path a b (here p) (there j) e = elim j [ ]
below_once margin cap empty_path a b (there i) j e = elim i [ ]
below_once margin cap (arc_onto x p) a b i j e =
    let (c, k, q) = map_from (on_top (word x)) (below margin cap p) a i in
    let (d, l, r) = map_from (on_top (word x)) (below margin cap p) b j in
    q ∙ ap (on_top (word x)) (below_once margin cap p c d k l (on_top_apart (word x) c d (below_fits margin cap p c k) (below_fits margin cap p d l) (ap₂ same_key (sym q) (sym r) ∙ e))) ∙ sym r
below_once margin cap (branch_on m k p) a b i j e =
    let xs = sort_by (λ (a b : Below). a.cost ≺ b.cost) (keep_if (λ (b : Below). not (margin ≺ b.cost)) (map (by_way 0f 0f []) (below margin cap p) ++ cond (m.cost ≼ margin) (map (by_way m.cost m.graph (m.number ∷ [])) (below margin cap k)) [])) in
    apart_one same_key (firsts same_key [] xs) (firsts_are same_key [] xs).apart a b (take_from cap (firsts same_key [] xs) a i) (take_from cap (firsts same_key [] xs) b j) e (key_back a b e)
