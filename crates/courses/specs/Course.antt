-- The course of a frame: the whole part of frame × courses / frames, and the remainder. Assumes nothing.
use Rattle.std.specs.Prelude.{◌≡◌, refl, ℕ, ◌+◌, ◌*◌, ◌/◌, ◌%◌, ◌^◌, ◌≤◌, ◌<◌, Bool, true, false, ◌||◌, cond, ltb, Result, Ok, Err}
use Rattle.std.proofs.Common.{arith, div-add-mod', mod-lt, mod-eq_of_lt, mul-le-mul, mul-le-mul_right, lt_of_mul-lt-mul_right, ltb-false}
use Rattle.std.proofs.Math.Nat.{mul-add-div_right, mul-add-mod_self_right, div-eq_of_lt}
use Rattle.lists.specs.Tests.{or_neither}
use Rattle.refusals.specs.declared.Reason.{Reason}
use Rattle.refusals.specs.declared.Reason.TheVariants.{BadCourse}
use Rattle.courses.specs.declared.Course.{Course}

abbrev pub outside : ℕ → Bool
outside n = ltb n 1 || ltb 65_535 n

-- 22: courses or frames outside 1 to 65,535, or a frame above 65,536
abbrev pub wrong : (frame courses frames : ℕ) → Bool
wrong frame courses frames = outside courses || outside frames || ltb 65_536 frame

abbrev pub course_at : (frame courses frames : ℕ) → Result Course Reason
course_at frame courses frames = cond (wrong frame courses frames) (Err BadCourse) (Ok (record { course = frame * courses / frames; remainder = frame * courses % frames }))

-- an answer that is no refusal
answered : (w : Bool) {x c : Course} → cond w (Err BadCourse) (Ok x) ≡ Ok c → (w ≡ false) × (x ≡ c)
answered true e = let z : ◌≡◌ {A = ℕ} 0 1 = cc in absurd (omega arith)
answered false e = (refl, cc)

module _ (courses frames : ℕ) where
  -- what is not refused: the product is at most 65,536 × 65,535 and so fits 32 bits, and there is something to divide it by
  pub within : (frame : ℕ) → wrong frame courses frames ≡ false → (frame * courses < 2 ^ 32) × (0 < frames)
  within frame w =
      let (a, b) = or_neither (outside courses || outside frames) (ltb 65_536 frame) w in
      let (c, d) = or_neither (outside courses) (outside frames) a in
      let h = mul-le-mul (ltb-false 65_536 frame b) (ltb-false 65_535 courses (or_neither (ltb courses 1) (ltb 65_535 courses) c).1) in
      (omega arith, ltb-false frames 1 (or_neither (ltb frames 1) (ltb 65_535 frames) d).0)

  -- the two numbers make up frame × courses, and the remainder is below frames
  pub parts : (frame : ℕ) (c : Course) → course_at frame courses frames ≡ Ok c → (c.course * frames + c.remainder ≡ frame * courses) × (c.remainder < frames)
  parts frame c e =
      let (w, q) = answered (wrong frame courses frames) e in
      rw (← q) (div-add-mod' (frame * courses) frames, mod-lt (frame * courses) (within frame w).1)

  -- and no other two do
  pub only : (frame : ℕ) (c : Course) → wrong frame courses frames ≡ false → c.course * frames + c.remainder ≡ frame * courses → c.remainder < frames
      → course_at frame courses frames ≡ Ok c
  only frame c w e h =
      let q : frame * courses / frames ≡ c.course = rw (← e, mul-add-div_right (within frame w).1, div-eq_of_lt h) (omega arith) in
      let m : frame * courses % frames ≡ c.remainder = rw (← e, mul-add-mod_self_right, mod-eq_of_lt h) in
      rw (w, q, m)

  -- a later frame never has a lower course
  pub later : (frame frame' : ℕ) (c c' : Course) → course_at frame courses frames ≡ Ok c → course_at frame' courses frames ≡ Ok c' → frame ≤ frame' → c.course ≤ c'.course
  later frame frame' c c' e e' h =
      let (p, q) = parts frame c e in
      let (p', q') = parts frame' c' e' in
      let k : c.course * frames < (c'.course + 1) * frames = omega (arith, mul-le-mul_right courses h) in
      omega (arith, lt_of_mul-lt-mul_right frames k)
