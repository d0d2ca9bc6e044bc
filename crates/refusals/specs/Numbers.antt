-- The number of each reason. Assumes nothing.
use Rattle.std.specs.Prelude.{◌≡◌, ℕ}
use Rattle.std.proofs.Common.{arith}
use Rattle.refusals.specs.declared.Place.{Place}
use Rattle.refusals.specs.declared.Refusal.{Refusal}
use Rattle.refusals.specs.declared.Reason.{Reason}
use Rattle.refusals.specs.declared.Reason.TheVariants.{BadShape, NoSuchState, BadLabel, BadPhone, BadWeight, BadSetting, BadSilenceSetting, BadFrameLength, BadLoglike, TooManyFrames, TooShort, SumTooLarge, RecordsFull, QueueFull, ListsFull, LineTooLong, BadBlock, BadCourse}

abbrev pub number_of : Reason → ℕ
number_of BadShape = 1
number_of NoSuchState = 2
number_of BadLabel = 3
number_of BadPhone = 4
number_of BadWeight = 5
number_of BadSetting = 6
number_of BadSilenceSetting = 7
number_of BadFrameLength = 8
number_of BadLoglike = 9
number_of TooManyFrames = 10
number_of TooShort = 11
number_of SumTooLarge = 12
number_of RecordsFull = 13
number_of QueueFull = 14
number_of ListsFull = 15
number_of LineTooLong = 16
number_of BadBlock = 20
number_of BadCourse = 22

abbrev pub refused_at : Reason → Place → Refusal
refused_at e p = record { number = number_of e; place = p }

-- no reason has the number 0, which tells that a call is not refused
pub numbered : (e : Reason) → number_of e ≡ 0 → ⊥
numbered BadShape e = omega arith
numbered NoSuchState e = omega arith
numbered BadLabel e = omega arith
numbered BadPhone e = omega arith
numbered BadWeight e = omega arith
numbered BadSetting e = omega arith
numbered BadSilenceSetting e = omega arith
numbered BadFrameLength e = omega arith
numbered BadLoglike e = omega arith
numbered TooManyFrames e = omega arith
numbered TooShort e = omega arith
numbered SumTooLarge e = omega arith
numbered RecordsFull e = omega arith
numbered QueueFull e = omega arith
numbered ListsFull e = omega arith
numbered LineTooLong e = omega arith
numbered BadBlock e = omega arith
numbered BadCourse e = omega arith
