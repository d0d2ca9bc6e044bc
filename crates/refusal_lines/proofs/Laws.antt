-- A line has at most 96 bytes, and tells its refusal. Assumes nothing.
use Rattle.std.specs.Prelude.{◌≡◌, refl, ℕ, zero, suc, ◌+◌, ◌^◌, ◌<◌, ◌≤◌, Bool, true, false, ◌&&◌, List, [], ◌∷◌, ◌++◌, leb, ltb, eqb, length, get_or, Option, Some, None, Ok}
use Rattle.std.proofs.Common.{sym, ap, ◌∙◌, arith, ltb-true, leb-true, eqb-true, ne_eqb, length-append}
use Rattle.lists.specs.Lists.{all}
use Rattle.lists.specs.Tests.{case, either, and_both}
use Rattle.decimals.specs.Decimal.{digits, decimal}
use Rattle.decimals.specs.Numbers.{outside, with_digit, numbers_from, numbers_in, none}
use Rattle.decimals.specs.RoundTrip.{plain, decimal-length, numbers-append, text_after, number_after}
use Rattle.decimals.specs.declared.Numbers.{Numbers}
use Rattle.refusals.specs.declared.Place.{Place}
use Rattle.refusals.specs.declared.Place.TheVariants.{Nowhere, AtArc, AtState, AtFrames}
use Rattle.refusals.specs.declared.Refusal.{Refusal}
use Rattle.refusal_lines.specs.Line.{text, numbered, unnamed, names, named, bare_name, name_of, place_text, between, always_placed, may_have, heading, line_of, refusal_of}
use Rattle.refusal_lines.specs.Answer.{WrittenLine, PlaceFits, Fits, IsRefusal, ReadLine}
use Rattle.refusal_lines.specs.Laws.{just, found}

-- ---- names

-- without digits, not empty, and of at most 40 bytes
good_name : List ℕ → Bool
good_name t = plain t && ltb 0 (length t) && leb (length t) 40

all_at : (p : List ℕ → Bool) (ts : List (List ℕ)) (n : ℕ) (d : List ℕ) → all p ts ≡ true → p d ≡ true → p (get_or ts n d) ≡ true
all_at p [] n d h k = k
all_at p (t ∷ ts) zero d h k = (and_both (p t) (all p ts) h).0
all_at p (t ∷ ts) (suc n) d h k = all_at p ts n d (and_both (p t) (all p ts) h).1 k

name_good : (n : ℕ) → good_name (name_of n) ≡ true
unfolding good_name name_of names unnamed text
name_good n = all_at (λ t. good_name (named t)) names n unnamed refl refl

name_plain : (n : ℕ) → plain (name_of n) ≡ true
unfolding good_name
name_plain n = let (a, b) = and_both (plain (name_of n) && ltb 0 (length (name_of n))) _ (name_good n) in (and_both (plain (name_of n)) _ a).0

pub name_length : (n : ℕ) → (0 < length (name_of n)) × (length (name_of n) ≤ 40)
unfolding good_name
name_length n =
    let (a, b) = and_both (plain (name_of n) && ltb 0 (length (name_of n))) _ (name_good n) in
    (ltb-true _ _ (and_both (plain (name_of n)) _ a).1, leb-true _ _ b)

-- ---- lengths

pub name_parts : (n : ℕ) → length (name_of n) ≡ length (bare_name n) + 2
unfolding name_of text
name_parts n = simp length-append (omega arith)

pub numbered_parts : (label : List ℕ) (n : ℕ) → length (numbered label n) ≡ length label + length (decimal n) + 1
unfolding numbered text
numbered_parts label n = simp length-append

pub numbered-length : (label : List ℕ) (n : ℕ) → length (numbered label n) ≤ length label + 11
numbered-length label n = omega (arith, numbered_parts label n, decimal-length n)

pub place-length : (p : Place) → length (place_text p) ≤ 34
unfolding place_text text
place-length Nowhere = omega arith
place-length (AtArc state arc) = simp length-append (omega (arith, numbered-length (text " state ") state, numbered-length (text " arc ") arc))
place-length (AtState state) = omega (arith, numbered-length (text " state ") state)
place-length (AtFrames frames) = omega (arith, numbered-length (text " frames decoded ") frames)

heading-length : (n : ℕ) → (0 < length (heading n)) × (length (heading n) ≤ 59)
unfolding heading text
heading-length n = simp length-append (omega (arith, numbered-length (text "refusal ") n, name_length n))

-- at most 96 bytes
pub line-length : (x : Refusal) → length (line_of x) ≤ 96
unfolding line_of
line-length x = case (either (may_have x.number x.place)) (λ t. rw t (simp length-append (omega (arith, heading-length x.number, place-length x.place)))) (λ t. rw t (omega arith))

numbered_read : (s : Numbers) (label : List ℕ) (n : ℕ) → plain label ≡ true → 0 < length label → n < 2 ^ 32 → numbers_from s (numbered label n) ≡ outside (with_digit false (outside s) n)
unfolding numbered text numbers_from
numbered_read s label n p h f = text_after s (label ++ decimal n) (text ";") refl (omega arith) ∙ ap outside (number_after s [] label n p h f)

heading_read : (n : ℕ) → n < 2 ^ 32 → numbers_from none (heading n) ≡ just n
unfolding heading text
heading_read n f =
    text_after none (numbered (text "refusal ") n) (name_of n) (name_plain n) (name_length n).0 ∙ ap outside (numbered_read none (text "refusal ") n refl (omega arith) f)

place_read : (n : ℕ) (p : Place) → PlaceFits p → numbers_from (just n) (place_text p) ≡ found n p
unfolding place_text text numbers_from
place_read n Nowhere f = refl
place_read n (AtArc state arc) f =
    numbers-append (numbered (text " state ") state) (numbered (text " arc ") arc) (just n)
    ∙ ap (λ (s : Numbers). numbers_from s (numbered (text " arc ") arc)) (numbered_read (just n) (text " state ") state refl (omega arith) f.0)
    ∙ numbered_read (found n (AtState state)) (text " arc ") arc refl (omega arith) f.1
place_read n (AtState state) f = numbered_read (just n) (text " state ") state refl (omega arith) f
place_read n (AtFrames frames) f = numbered_read (just n) (text " frames decoded ") frames refl (omega arith) f

within : (low high n : ℕ) → between low high n ≡ true → (low ≤ n) × (n ≤ high)
within low high n t = let (a, b) = and_both (leb low n) (leb n high) t in (leb-true _ _ a, leb-true _ _ b)

refusal_found : (n : ℕ) (p : Place) → may_have n p ≡ true → refusal_of (found n p) ≡ record { number = n; place = p }
unfolding may_have refusal_of
refusal_found n Nowhere t = refl
refusal_found n (AtArc state arc) t = let w = within 2 5 n t in rw (ne_eqb n 0 (λ e. omega arith))
refusal_found n (AtState state) t = rw (eqb-true n 5 t)
refusal_found n (AtFrames frames) t =
    let h : 8 ≤ n = case (either (between 8 10 n)) (λ a. (within 8 10 n a).0) (λ a. let w = within 12 14 n (rw a at t) in omega arith) in
    rw (ne_eqb n 0 (λ e. omega arith), ne_eqb n 5 (λ e. omega arith))

-- ---- what the line of a refusal tells

line_is : (x : Refusal) → IsRefusal x → line_of x ≡ heading x.number ++ place_text x.place
unfolding line_of
line_is x r = rw r.placed

-- the line yields number and place again
pub read_back : (x : Refusal) → IsRefusal x → refusal_of (numbers_in (line_of x)) ≡ x
read_back x r =
    let n = x.number in
    let p = x.place in
    ap refusal_of
    (ap numbers_in (line_is x r) ∙ numbers-append (heading n) (place_text p) none ∙ ap (λ (s : Numbers). numbers_from s (place_text p)) (heading_read n r.fits.0)
    ∙ place_read n p r.fits.1)
    ∙ refusal_found n p r.placed

-- two refusals that differ in number or place have different lines
pub lines_differ : (x y : Refusal) → IsRefusal x → IsRefusal y → line_of x ≡ line_of y → x ≡ y
lines_differ x y a b e = sym (read_back x a) ∙ ap (λ (bs : List ℕ). refusal_of (numbers_in bs)) e ∙ read_back y b

-- reading a written line gives the refusal again
pub read_written : (x : Refusal) (r : Option Refusal) → IsRefusal x → ReadLine (line_of x) r → r ≡ Some x
read_written x (Some y) a h = ap Some (lines_differ y x h.0 a h.1)
read_written x None a h = absurd (h x a refl)

-- bytes that are a refusal's line have its numbers, and no other's
pub only_refusal : (bs : List ℕ) (found : Numbers) (x y : Refusal) → found ≡ numbers_in bs → y ≡ refusal_of found → IsRefusal x → line_of x ≡ bs → y ≡ x
only_refusal bs found x y e f r d = f ∙ ap refusal_of (e ∙ ap numbers_in (sym d)) ∙ read_back x r

-- numbers that are u32 make a refusal that fits
pub refusal_fits : (s : Numbers) → s.first < 2 ^ 32 → s.second < 2 ^ 32 → s.third < 2 ^ 32 → Fits (refusal_of s)
unfolding refusal_of
refusal_fits s a b c =
    case (either (eqb s.first 0))
    (λ t.
    rw t
    (case (either (eqb s.second 0)) (λ u. rw u (c, tt))
    (λ u. rw u (case (either (eqb s.second 5)) (λ v. rw v (omega arith, c)) (λ v. rw v (b, c))))))
    (λ t. rw t (a, (b, c)))

-- just a refusal's line is not empty
pub line_not_empty : (x : Refusal) → IsRefusal x → 0 < length (line_of x)
line_not_empty x r = rw (line_is x r) (simp length-append (omega (arith, heading-length x.number)))

pub line_placed : (x : Refusal) → 0 < length (line_of x) → may_have x.number x.place ≡ true
unfolding line_of
line_placed x h = case (either (may_have x.number x.place)) (λ t. t) (λ t. absurd (let k = rw t at h in omega arith))

-- a line that was written stands in the slice
pub written_fits : (x : Refusal) (out left : List ℕ) (n : ℕ) → WrittenLine x out (Ok n) left → n ≤ length left
written_fits x out left n (h, e, f) = rw f (simp length-append (omega (arith, e)))

-- ---- samples

arc_line : line_of (record { number = 2; place = AtArc 17 0 }) ≡ text "refusal 2; start or arc target is no state; state 17; arc 0;"
unfolding line_of may_have always_placed heading numbered name_of names unnamed place_text text decimal digits
arc_line = refl

later_line : line_of (record { number = 4294967295; place = Nowhere }) ≡ text "refusal 4294967295; not known to this version;"
unfolding line_of may_have always_placed heading numbered name_of names unnamed place_text text decimal digits
later_line = refl
