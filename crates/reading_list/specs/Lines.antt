-- The readings of the list one after another in the lent slices: what is written of each, and what writing them asks and leaves.
use Rattle.std.specs.Prelude.{◌≡◌, ℕ, zero, suc, ◌+◌, ◌*◌, ◌≤◌, ◌<◌, Bool, true, false, ◌||◌, cond, List, [], ◌∷◌, map, ℤ, ltb, length, get_or, take, Float, Result, Ok, Err}
use Rattle.std.proofs.lemmas.List.Edits.{sets}
use Rattle.model.specs.Reads.{Traced as Told}
use Rattle.model.specs.Calls.{short, words_of}
use Rattle.tokens.specs.declared.Token.{Token}
use Rattle.tokens.specs.Layout.{cell_at, token_of, place_in}
use Rattle.traceback.specs.declared.Size.{Size}
use Rattle.traceback.specs.Trail.{Trail}
use Rattle.traceback.specs.Write.{flat}
use Rattle.routes.specs.Entries.{joins_of}
use Rattle.readings.specs.Paths.{words_in, frames_in, phones_in, front, all_words, all_frames, all_segments}
use Rattle.reading_list.specs.declared.Reading.{Reading}
use Rattle.reading_list.specs.declared.Totals.{Totals}
use Rattle.reading_list.specs.Outputs.{Outputs, places_in}
use Rattle.reading_list.specs.Items.{item_reading, ItemAsks, trail_of, PathAsks}
use Rattle.refusals.specs.declared.Reason.{Reason}
use Rattle.refusals.specs.declared.Reason.TheVariants.{TooShort}

-- ---- what is written of a reading

-- its path, with no frames and segments where it is not traced; its rank, how many kept histories it takes, and its token
pub record Line : Type 0 where
  pub told : Told
  pub rank : Float
  pub kept : ℕ
  pub token : Token

abbrev pub told_if : (traced : Bool) → Trail → (cost : Float) → Told
told_if traced t c = record { words = t.words; word_frames = cond traced t.frames []; phones = cond traced t.segments []; cost = c }

abbrev pub line_of : (tk : List ℕ) → List Float → (rs : List ℕ) → List ℤ → (nexts : List ℕ) → (side n : ℕ) → Reading → (traced : Bool) → Line
line_of tk sm rs ls ns b n g traced = record { told = told_if traced (trail_of tk rs ls ns b n g) g.cost; rank = g.rank; kept = length (joins_of ns g.entry); token = token_of (cell_at tk sm (place_in b g.state)) }

-- the first `max` are traced
abbrev pub lines_by : (ℕ → (traced : Bool) → Line) → (max : ℕ) → List ℕ → List Line
lines_by f max [] = []
lines_by f zero (x ∷ xs) = f x false ∷ lines_by f zero xs
lines_by f (suc m) (x ∷ xs) = f x true ∷ lines_by f m xs

abbrev pub tolds_in : List Line → List Told
tolds_in xs = map (λ (x : Line). x.told) xs

-- ---- what is read

-- the stores, the entries and the kept readings; the table, the records in use, the frames decoded, and whether finals count
pub record View : Type 0 where
  pub tokens : List ℕ
  pub sums : List Float
  pub finals : List Float
  pub records : List ℕ
  pub labels : List ℤ
  pub nexts : List ℕ
  pub hashes : List ℕ
  pub links : List ℕ
  pub kept_sums : List Float
  pub side : ℕ
  pub used : ℕ
  pub decoded : ℕ
  pub counts : Bool

abbrev pub view : (tk : List ℕ) → (sm fs : List Float) → (rs : List ℕ) → List ℤ → (ns khs kns : List ℕ) → List Float → (side used n : ℕ) → (counts : Bool) → View
view tk sm fs rs ls ns khs kns kxs b used n counts =
    record { tokens = tk; sums = sm; finals = fs; records = rs; labels = ls; nexts = ns; hashes = khs; links = kns; kept_sums = kxs; side = b; used = used; decoded = n; counts = counts }

abbrev pub reading_in : View → ℕ → Reading
reading_in v i = item_reading v.tokens v.sums v.finals v.side v.counts v.hashes v.links v.kept_sums i

abbrev pub trail_in : View → ℕ → Trail
trail_in v i = trail_of v.tokens v.records v.labels v.nexts v.side v.decoded (reading_in v i)

abbrev pub line_in : View → ℕ → (traced : Bool) → Line
line_in v i traced = line_of v.tokens v.sums v.records v.labels v.nexts v.side v.decoded (reading_in v i) traced

-- the first k items of the list
abbrev pub lines_in : View → (max : ℕ) → (list : List ℕ) → (k : ℕ) → List Line
lines_in v max list k = lines_by (line_in v) max (take k list)

pub record ListAsks (v : View) (list : List ℕ) (k : ℕ) (route : List ℕ) : Type 0 where
  pub few : k < 4_294_967_296
  pub long : k ≤ length list
  pub items : (i : ℕ) → i < k → ItemAsks v.tokens v.sums v.finals v.side v.hashes v.links v.kept_sums (get_or list i 0)
  pub paths : (i : ℕ) → i < k → PathAsks v.tokens v.records v.labels v.nexts v.side v.used (reading_in v (get_or list i 0)) route
  pub sums : (i : ℕ) → i < k → (reading_in v (get_or list i 0)).state * 4 + 4 ≤ length v.sums
  pub even : (i : ℕ) → i < k → length (trail_in v (get_or list i 0)).frames ≡ length (trail_in v (get_or list i 0)).words

-- ---- sizes

abbrev pub totals_by : (words traced segments : ℕ) → Totals
totals_by w f s = record { words = w; traced = f; segments = s }

-- of a path; where it is not traced, of its words alone
pub record SizeFor (traced : Bool) (t : Trail) (used : ℕ) (r : Size) : Type 0 where
  pub words : r.words ≡ length t.words
  pub segments : r.segments ≡ length (cond traced t.segments [])
  pub few : (r.words ≤ used) × (r.segments ≤ used * 2)

-- the sums fit
pub record GrowAsks (t : Totals) (z : Size) : Type 0 where
  pub words : t.words + z.words ≤ 0x7fff_ffff_ffff_ffff
  pub segments : t.segments + z.segments ≤ 0x7fff_ffff_ffff_ffff

-- with one path more; all before it are traced where it is
abbrev pub grown_by : Totals → Size → (traced : Bool) → Totals
grown_by t z traced = totals_by (t.words + z.words) (cond traced (t.words + z.words) t.traced) (cond traced (t.segments + z.segments) t.segments)

pub record TotalsAre (v : View) (max : ℕ) (list : List ℕ) (k : ℕ) (r : Totals) : Type 0 where
  pub words : r.words ≡ words_in (tolds_in (lines_in v max list k))
  pub traced : r.traced ≡ frames_in (tolds_in (lines_in v max list k))
  pub segments : r.segments ≡ phones_in (tolds_in (lines_in v max list k))
  pub few : (r.words ≤ k * 1_048_576) × (r.segments ≤ k * 2_097_152)

abbrev pub too_short : Totals → (k words frames segments numbers costs : ℕ) → Bool
too_short t k w f s n c = ltb w t.words || (ltb f t.traced || (ltb s t.segments || (ltb n k || ltb c k)))

-- ---- one path written behind others

pub record BehindAsks (t : Trail) (used : ℕ) (z : Size) (traced : Bool) (w s : ℕ) (ws : List ℤ) (fs ss : List ℕ) : Type 0 where
  pub size : SizeFor traced t used z
  pub words : w + length t.words ≤ length ws
  pub frames : traced ≡ true → w + length t.words ≤ length fs
  pub segments : traced ≡ true → (s + length t.segments) * 3 ≤ length ss
  pub even : length t.frames ≡ length t.words

pub record WrittenBehind (traced : Bool) (t : Trail) (w s : ℕ) (ws : List ℤ) (fs ss : List ℕ) (ws' : List ℤ) (fs' ss' : List ℕ) : Type 0 where
  pub words : ws' ≡ sets ws w t.words
  pub frames : fs' ≡ sets fs w (cond traced t.frames [])
  pub segments : ss' ≡ sets ss (s * 3) (flat (cond traced t.segments []))

-- ---- one reading written

-- where its words and segments end, and three numbers more
abbrev pub five_of : (words segments : ℕ) → (kept : ℕ) → Token → List ℕ
five_of e f k t = e ∷ f ∷ k ∷ t.phone ∷ t.seq ∷ []

abbrev pub four_of : (rank cost : Float) → Token → List Float
four_of r c t = r ∷ c ∷ t.cost ∷ t.graph ∷ []

pub record LineAsks (tk : List ℕ) (sm : List Float) (rs : List ℕ) (ls : List ℤ) (ns : List ℕ) (b used n : ℕ) (g : Reading) (i : ℕ) (traced : Bool) (at : Totals) (route : List ℕ) (o : Outputs) : Type 0 where
  pub path : PathAsks tk rs ls ns b used g route
  pub sums : g.state * 4 + 4 ≤ length sm
  pub even : length (trail_of tk rs ls ns b n g).frames ≡ length (trail_of tk rs ls ns b n g).words
  pub few : (at.words ≤ 0x10_0000_0000_0000) × (at.segments ≤ 0x20_0000_0000_0000)
  pub words : at.words + length (trail_of tk rs ls ns b n g).words ≤ length o.words
  pub frames : traced ≡ true → at.words + length (trail_of tk rs ls ns b n g).words ≤ length o.frames
  pub segments : traced ≡ true → (at.segments + length (trail_of tk rs ls ns b n g).segments) * 3 ≤ length o.segments
  pub numbers : i * 5 + 5 ≤ length o.numbers
  pub costs : i * 4 + 4 ≤ length o.costs

pub record LinePut (x : Line) (i : ℕ) (at r : Totals) (o o' : Outputs) : Type 0 where
  pub words : o'.words ≡ sets o.words at.words x.told.words
  pub frames : o'.frames ≡ sets o.frames at.words x.told.word_frames
  pub segments : o'.segments ≡ sets o.segments (at.segments * 3) (flat x.told.phones)
  pub numbers : o'.numbers ≡ sets o.numbers (i * 5) (five_of r.words r.segments x.kept x.token)
  pub costs : o'.costs ≡ sets o.costs (i * 4) (four_of x.rank x.told.cost x.token)
  pub to_words : r.words ≡ at.words + length x.told.words
  pub to_segments : r.segments ≡ at.segments + length x.told.phones

-- ---- all of them

-- the first of them behind w words and s segments
abbrev pub numbers_from : (w s : ℕ) → List Line → List ℕ
numbers_from w s [] = []
numbers_from w s (x ∷ xs) =
    (w + length x.told.words) ∷ (s + length x.told.phones) ∷ x.kept ∷ x.token.phone ∷ x.token.seq ∷ numbers_from (w + length x.told.words) (s + length x.told.phones) xs

abbrev pub costs_of : List Line → List Float
costs_of [] = []
costs_of (x ∷ xs) = x.rank ∷ x.told.cost ∷ x.token.cost ∷ x.token.graph ∷ costs_of xs

-- these lines have their places
pub record RoomFor (xs : List Line) (o : Outputs) : Type 0 where
  pub words : words_in (tolds_in xs) ≤ length o.words
  pub frames : frames_in (tolds_in xs) ≤ length o.frames
  pub segments : phones_in (tolds_in xs) * 3 ≤ length o.segments
  pub numbers : length xs * 5 ≤ length o.numbers
  pub costs : length xs * 4 ≤ length o.costs

-- the slices begin with them, and are as they were behind
pub record Filled (xs : List Line) (o o' : Outputs) : Type 0 where
  pub words : o'.words ≡ front o.words (all_words (tolds_in xs))
  pub frames : o'.frames ≡ front o.frames (all_frames (tolds_in xs))
  pub segments : o'.segments ≡ front o.segments (all_segments (tolds_in xs))
  pub numbers : o'.numbers ≡ front o.numbers (numbers_from 0 0 xs)
  pub costs : o'.costs ≡ front o.costs (costs_of xs)

pub record WriteAsks (v : View) (max : ℕ) (list : List ℕ) (k : ℕ) (route : List ℕ) (o : Outputs) : Type 0 where
  pub asks : ListAsks v list k route
  pub few : (words_in (tolds_in (lines_in v max list k)) ≤ 0x10_0000_0000_0000) × (phones_in (tolds_in (lines_in v max list k)) ≤ 0x20_0000_0000_0000)
  pub room : RoomFor (lines_in v max list k) o

-- 11 and nothing written, or all of them
pub data ListWritten (v : View) (max : ℕ) (list : List ℕ) (k : ℕ) (o o' : Outputs) : Result ℕ Reason → Type 0 where
  no_room : short (places_in o) (words_of (tolds_in (lines_in v max list k))) (tolds_in (lines_in v max list k)) k ≡ true → o' ≡ o → ListWritten v max list k o o' (Err TooShort)
  are_written : short (places_in o) (words_of (tolds_in (lines_in v max list k))) (tolds_in (lines_in v max list k)) k ≡ false → Filled (lines_in v max list k) o o' → ListWritten v max list k o o' (Ok k)
