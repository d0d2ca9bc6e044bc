-- Laws that do not hold, each by a case that antt computes: what a proof about costs must not use. Assumes nothing.
use Rattle.std.specs.Prelude.{◌≡◌, refl, true, false, pos, negsuc, T}
use Rattle.std.specs.Float.{nan, inf, fin, binary32}
use Rattle.std.specs.Float.Ieee.{add, sub, lt, eq, neg}
use Rattle.real32.specs.Sum.{zp, zn}
use Rattle.real32.specs.Small.{pow2, tame}

-- a sum is not strictly monotone: 0 < 1, and 2 ^ 25 + 0 and 2 ^ 25 + 1 are both 2 ^ 25. So a beam above 0 can leave a cutoff at the best cost itself
absorbed : add binary32 (pow2 25) (pow2 0) ≡ pow2 25
unfolding add
absorbed = refl

-- nor associative: (2 ^ 24 + 1) + 1 is 2 ^ 24, and 2 ^ 24 + (1 + 1) is not
regrouped : T (lt (add binary32 (add binary32 (pow2 24) (pow2 0)) (pow2 0)) (add binary32 (pow2 24) (add binary32 (pow2 0) (pow2 0))))
unfolding add lt
regrouped = tt

-- and a difference does not undo it: (1 + 2 ^ 25) - 2 ^ 25 is 0
undone : sub binary32 (add binary32 (pow2 0) (pow2 25)) (pow2 25) ≡ zp
unfolding sub
undone = refl

-- -0 and +0 are level, and two data; -0 + +0 is +0
level_zeros : T (eq zn zp)
unfolding eq
level_zeros = tt

zeros : add binary32 zn zp ≡ zp
unfolding add
zeros = refl

-- a sum of two infinities can be a NaN, and one of two finite values an infinity
clash : add binary32 (inf false) (inf true) ≡ nan
unfolding add
clash = refl

over : add binary32 (pow2 127) (pow2 127) ≡ inf false
unfolding add
over = refl

-- what does not fit is rounded, so there x + 0 can be below x: at 2 ^ 24 + 1
rounded_down : T (lt (add binary32 (fin false 16777217 (pos 0)) zp) (fin false 16777217 (pos 0)))
unfolding add lt
rounded_down = tt

-- negating a sum can change the sign of a zero: -(1 - 1) is -0, and -1 + 1 is +0
turned : neg (add binary32 (pow2 0) (neg (pow2 0))) ≡ zn
unfolding add neg
turned = refl

turned_2 : add binary32 (neg (pow2 0)) (pow2 0) ≡ zp
unfolding add neg
turned_2 = refl

-- of values that do not fit, both below 2 ^ 100, the sum can be 2 ^ 101 itself: so a sum of two tame values is said to be at most that
up_to_the_power : add binary32 (fin false 67108863 (pos 74)) (fin false 67108863 (pos 74)) ≡ pow2 101
unfolding add
up_to_the_power = refl

both_tame : T (tame (fin false 67108863 (pos 74)))
unfolding tame lt neg
both_tame = tt

-- and one that does not fit can vanish into -0
vanished : add binary32 (fin true 1 (negsuc 160)) zn ≡ zn
unfolding add
vanished = refl
