-- Closed cases, decided by computation: what is remembered of a list of calls; that nothing was cut in M2 and M3, whose best paths so cost the least, and that something was in M4; and that the claim of the least cost needs that nothing was cut and that finals do not count. That it needs an accepted start is not shown. Assumes nothing.
use Rattle.std.specs.Prelude.{ℕ, Bool, true, false, List, [], ◌∷◌, length, pos, negsuc, Float}
use Rattle.std.proofs.Math.Option.{Option, none, some}
use Rattle.std.specs.Float.{fin}
use Rattle.model.specs.Basics.{0f, ∞}
use Rattle.model.specs.Graph.{Graph, Arc}
use Rattle.model.specs.Cutoff.{Config}
use Rattle.model.specs.Passes.{start}
use Rattle.model.specs.Reads.{Traced}
use Rattle.model.specs.Calls.{Call, start_call, frame_call, best_path_read, read_call}
use Rattle.copy_laws.specs.Points.{Point, reached}

-- document 01's graph A with this final weight at state 1, and with one more arc 0 to 1, an epsilon arc of this weight
abbrev pub A : (final : Float) → Graph
A fw =
    record {
      start = 0;
      offsets = 0 ∷ 1 ∷ 2 ∷ [];
      ilabels = pos 1 ∷ pos 1 ∷ [];
      olabels = pos 7 ∷ pos 0 ∷ [];
      weights = fin false 1 (negsuc 0) ∷ fin false 1 (negsuc 1) ∷ [];
      nextstates = 1 ∷ 1 ∷ [];
      finals = ∞ ∷ fw ∷ [];
      tid2pdf = pos 0 ∷ pos 0 ∷ [];
      tid2phone = pos 0 ∷ pos 3 ∷ [];
      pdfs = 1;
    }

abbrev pub A-eps : Float → Graph
A-eps w =
    record {
      start = 0;
      offsets = 0 ∷ 2 ∷ 3 ∷ [];
      ilabels = pos 1 ∷ pos 0 ∷ pos 1 ∷ [];
      olabels = pos 7 ∷ pos 0 ∷ pos 0 ∷ [];
      weights = fin false 1 (negsuc 0) ∷ w ∷ fin false 1 (negsuc 1) ∷ [];
      nextstates = 1 ∷ 1 ∷ 1 ∷ [];
      finals = ∞ ∷ 0f ∷ [];
      tid2pdf = pos 0 ∷ pos 0 ∷ [];
      tid2phone = pos 0 ∷ pos 3 ∷ [];
      pdfs = 1;
    }

abbrev pub settings : Float → ℕ → ℕ → Config
settings beam max min = record { beam = beam; max_active = max; min_active = min; beam_delta = fin false 1 (negsuc 0) }

abbrev pub usual : Config
usual = settings (fin false 1 (pos 3)) 10 2

abbrev pub begun : Call × ℕ
begun = (start_call, 0)

abbrev pub one_frame : Call × ℕ
one_frame = (frame_call (fin true 1 (pos 0) ∷ []), 0)

-- ---- what is remembered

pub record Case : Type 0 where
  pub graph : Graph
  pub config : Config
  pub calls : List (Call × ℕ)
  pub started : Bool
  pub cut : Bool
  pub heard : ℕ

abbrev pub table : List Case
table =
    -- fitted, and no start yet
    record { graph = A 0f; config = usual; calls = []; started = false; cut = false; heard = 0 } ∷
    -- M1, M2, M3
    record { graph = A 0f; config = usual; calls = begun ∷ []; started = true; cut = false; heard = 0 } ∷
    record { graph = A 0f; config = usual; calls = begun ∷ one_frame ∷ []; started = true; cut = false; heard = 1 } ∷
    record { graph = A 0f; config = usual; calls = begun ∷ one_frame ∷ one_frame ∷ []; started = true; cut = false; heard = 2 } ∷
    -- M4: the total is cut
    record { graph = A 0f; config = settings 0f 10 0; calls = begun ∷ one_frame ∷ []; started = true; cut = true; heard = 1 } ∷
    -- a start forgets it
    record { graph = A 0f; config = settings 0f 10 0; calls = begun ∷ one_frame ∷ begun ∷ []; started = true; cut = false; heard = 0 } ∷
    -- M9: an epsilon arc of weight 8 is cut, of 7.5 not
    record { graph = A-eps (fin false 1 (pos 3)); config = usual; calls = begun ∷ []; started = true; cut = true; heard = 0 } ∷
    record { graph = A-eps (fin false 15 (negsuc 0)); config = usual; calls = begun ∷ []; started = true; cut = false; heard = 0 } ∷
    -- a start that a store refused, a frame after it, and a start after that
    record { graph = A 0f; config = usual; calls = (start_call, 13) ∷ []; started = false; cut = false; heard = 0 } ∷
    record { graph = A 0f; config = usual; calls = (start_call, 13) ∷ one_frame ∷ []; started = false; cut = false; heard = 1 } ∷
    record { graph = A 0f; config = usual; calls = (start_call, 13) ∷ one_frame ∷ begun ∷ []; started = true; cut = false; heard = 0 } ∷
    -- a frame that is refused changes nothing: too short, or by a store
    record { graph = A 0f; config = usual; calls = begun ∷ (frame_call [], 0) ∷ []; started = true; cut = false; heard = 0 } ∷
    record { graph = A 0f; config = usual; calls = begun ∷ (frame_call (0f ∷ []), 13) ∷ []; started = true; cut = false; heard = 0 } ∷ []

abbrev pub remembered : Case → Bool × Bool × ℕ
remembered c = let pt = reached c.graph c.config c.calls in (pt.started, pt.cut, length pt.heard)

abbrev pub expected : Case → Bool × Bool × ℕ
expected c = (c.started, c.cut, c.heard)

abbrev pub M2 : List (Call × ℕ)
M2 = begun ∷ one_frame ∷ []

abbrev pub M3 : List (Call × ℕ)
M3 = begun ∷ one_frame ∷ one_frame ∷ []

-- so the best path of M2, which costs 1.5, and that of M3, which costs 1.25, cost the least of all paths of one frame and of two
abbrev pub best : Call
best = read_call (best_path_read false (record { words = 9; frames = 9; segments = 9; entries = 9 }))

abbrev pub heard : (cost : Float) → (end : ℕ) → Traced
heard x n = record { words = pos 7 ∷ []; word_frames = 0 ∷ []; phones = record { phone = pos 3; start = 0; end = n } ∷ []; cost = x }

-- ---- wrong claims

-- no best path, and yet a path of that many frames: so the claim needs that nothing was cut (M4)
abbrev pub cut_off : Point
cut_off = reached (A 0f) (settings 0f 10 0) (begun ∷ one_frame ∷ [])

abbrev pub first_arc : Arc
first_arc = record { source = 0; ilabel = pos 1; olabel = pos 7; weight = fin false 1 (negsuc 0); target = 1 }

-- where finals count, the best path's cost has its final weight, here 4, and its own path's sum is less: so the claim needs that they do not
abbrev pub ended : Point
ended = reached (A (fin false 1 (pos 2))) usual (begun ∷ one_frame ∷ [])

abbrev pub cost_or : Float → Option Traced → Float
cost_or x none = x
cost_or x (some t) = t.cost

-- two tokens without a word, at 0 and, by an epsilon arc of 7.5, at 1: a list of every token's words has them twice, so that the readings have to be grouped
abbrev pub silent : Point
silent = reached (A-eps (fin false 15 (negsuc 0))) usual (begun ∷ [])
