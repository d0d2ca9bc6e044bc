-- One path written behind others, along a route that was read. Assumes nothing.
use Rattle.std.specs.Prelude.{◌≡◌, refl, ℕ, ◌+◌, ◌-◌, ◌*◌, ◌≤◌, Bool, true, false, cond, List, [], ◌++◌, reverse, ℤ, length, take, drop, Float}
use Rattle.std.proofs.Common.{sym, ◌∙◌, ap₂, subst, arith, zero-add, take-append-drop, length-take-le}
use Rattle.std.proofs.Math.Path.{ap}
use Rattle.std.proofs.lemmas.List.Edits.{sets, sets-eq}
use Rattle.tokens.specs.declared.Token.{Token}
use Rattle.tokens.specs.Layout.{cell_at, token_of, place_in}
use Rattle.traceback.specs.declared.Size.{Size}
use Rattle.traceback.specs.Trail.{Trail, no_trail}
use Rattle.traceback.specs.Chain.{trail_from}
use Rattle.traceback.specs.Write.{flat, Wrote}
use Rattle.traceback.specs.Right.{Fits}
use Rattle.groups.specs.Firsts.{link_at}
use Rattle.routes.specs.Back.{WordsWritten}
use Rattle.routes.specs.Entries.{joins_of, RouteIs}
use Rattle.readings.specs.Fronts.{part_of, put_part, part_long, part_put, flat-length}
use Rattle.reading_list.specs.declared.Reading.{Reading}
use Rattle.reading_list.specs.declared.Totals.{Totals}
use Rattle.reading_list.specs.Outputs.{Outputs}
use Rattle.reading_list.specs.Items.{trail_of}
use Rattle.reading_list.specs.Lines.{SizeFor, grown_by, GrowAsks, BehindAsks, WrittenBehind, five_of, four_of, line_of, LineAsks, LinePut}
use Rattle.reading_list.specs.Sizes.{size_whole}

-- ---- the words alone

-- words written to the front
words_put : {back ws ws' : List ℤ} {n : ℕ} (vs : List ℤ) → WordsWritten back n ws ws' → reverse back ≡ vs → n ≡ length vs → n ≤ length ws → ws' ≡ sets ws 0 vs
words_put {back} {ws} {ws'} {n} vs w e m l =
    sym (take-append-drop n ws') ∙ ap₂ (λ (x y : List ℤ). x ++ y) (w.first ∙ e) (w.rest ∙ ap (λ (k : ℕ). drop k ws) (m ∙ sym (zero-add (length vs)))) ∙ sym (sets-eq vs ws 0 (omega arith))

-- ---- behind w words and s segments

module _ {t : Trail} {used : ℕ} {z : Size} {traced : Bool} {w s : ℕ} {W : List ℤ} {F S : List ℕ} (asks : BehindAsks t used z traced w s W F S) where
  words_put_part : {W' : List ℤ} → W' ≡ sets (part_of W w) 0 t.words → put_part W w W' ≡ sets W w t.words
  words_put_part e = ap (put_part W w) e ∙ part_put W t.words w (length W - w) refl asks.words

  module _ (e : traced ≡ true) where
    pub starts_low : s * 3 ≤ length S
    starts_low = let a = asks.segments e in omega arith

    pub part_fits : Fits z (part_of W w) (part_of F w) (part_of S (s * 3))
    part_fits =
        record {
          words = let a = part_long W w in let b = asks.words in let c = asks.size.words in omega arith;
          frames = let a = part_long F w in let b = asks.frames e in let c = asks.size.words in omega arith;
          segments = let a = part_long S (s * 3) in let b = asks.segments e in let c = (size_whole e asks.size).segments in omega arith;
        }

    pub behind_traced : {W' : List ℤ} {F' S' : List ℕ} → Wrote t (part_of W w) (part_of F w) (part_of S (s * 3)) W' F' S' → WrittenBehind traced t w s W F S (put_part W w W') (put_part F w F') (put_part S (s * 3) S')
    behind_traced o =
        record {
          words = words_put_part o.words;
          frames =
              ap (put_part F w) o.frames ∙ part_put F t.frames w (length F - w) refl (let a = asks.frames e in let b = asks.even in omega arith)
              ∙ ap (λ (b : Bool). sets F w (cond b t.frames [])) (sym e);
          segments =
              ap (put_part S (s * 3)) o.segments ∙ part_put S (flat t.segments) (s * 3) (length S - s * 3) refl (let a = asks.segments e in let b = flat-length t.segments in omega arith)
              ∙ ap (λ (b : Bool). sets S (s * 3) (flat (cond b t.segments []))) (sym e);
        }

  pub words_fit : z.words ≤ length (part_of W w)
  words_fit = let a = part_long W w in let b = asks.words in let c = asks.size.words in omega arith

  pub behind_words : {back W' : List ℤ} → reverse back ≡ t.words → WordsWritten back z.words (part_of W w) W' → traced ≡ false → WrittenBehind traced t w s W F S (put_part W w W') F S
  behind_words {back} b o e =
      record {
        words = words_put_part (words_put t.words o b asks.size.words words_fit);
        frames = ap (λ (b : Bool). sets F w (cond b t.frames [])) (sym e);
        segments = ap (λ (b : Bool). sets S (s * 3) (flat (cond b t.segments []))) (sym e);
      }

-- ---- a reading's own

module _ (tk rs : List ℕ) (ls : List ℤ) (ns : List ℕ) (b n : ℕ) (g : Reading) {route : List ℕ} {k link : ℕ} (is : RouteIs ns g.entry route k) (at : link ≡ link_at tk b g.state) where
  -- the route that was read is its own
  trail_same : trail_from rs ls (take k route) n link no_trail ≡ trail_of tk rs ls ns b n g
  trail_same = ap₂ (λ (js : List ℕ) (l : ℕ). trail_from rs ls js n l no_trail) is.joins at

  route_many : k ≡ length (joins_of ns g.entry)
  route_many = sym (length-take-le k route is.few) ∙ ap length is.joins

  pub size_of : {used : ℕ} {traced : Bool} {z : Size} → SizeFor traced (trail_from rs ls (take k route) n link no_trail) used z → SizeFor traced (trail_of tk rs ls ns b n g) used z
  size_of {used} {traced} {z} = subst (λ (t : Trail). SizeFor traced t used z) trail_same

module _ {tk : List ℕ} {sm : List Float} {rs : List ℕ} {ls : List ℤ} {ns : List ℕ} {b used n : ℕ} {g : Reading} {i : ℕ} {traced : Bool} {at : Totals} {route : List ℕ} {o : Outputs} (asks : LineAsks tk sm rs ls ns b used n g i traced at route o)
    {t : Token} (token : t ≡ token_of (cell_at tk sm (place_in b g.state))) where
  link_is : t.link ≡ link_at tk b g.state
  unfolding cell_at
  link_is = ap (λ (x : Token). x.link) token

  pub link_low : t.link ≤ used
  link_low = let e = link_is in let l = asks.path.low in omega arith

  module _ {route' : List ℕ} {k : ℕ} (is : RouteIs ns g.entry route' k) {z : Size} (size : SizeFor traced (trail_from rs ls (take k route') n t.link no_trail) used z) where
    same : trail_from rs ls (take k route') n t.link no_trail ≡ trail_of tk rs ls ns b n g
    same = trail_same tk rs ls ns b n g is link_is

    pub behind_asks : BehindAsks (trail_from rs ls (take k route') n t.link no_trail) used z traced at.words at.segments o.words o.frames o.segments
    behind_asks =
        subst (λ (x : Trail). BehindAsks x used z traced at.words at.segments o.words o.frames o.segments) (sym same)
        (record { size = size_of tk rs ls ns b n g is link_is size; words = asks.words; frames = asks.frames; segments = asks.segments; even = asks.even })

    pub grow_fits : GrowAsks at z
    grow_fits =
        let u = asks.path.walkable.few in
        record { words = let a = asks.few.0 in let c = size.few.0 in omega arith; segments = let a = asks.few.1 in let c = size.few.1 in omega arith }

    pub line_put : {r : Totals} {o' : Outputs} → WrittenBehind traced (trail_from rs ls (take k route') n t.link no_trail) at.words at.segments o.words o.frames o.segments o'.words o'.frames o'.segments → r ≡ grown_by at z traced
        → o'.numbers ≡ sets o.numbers (i * 5) (five_of r.words r.segments k t) → o'.costs ≡ sets o.costs (i * 4) (four_of g.rank g.cost t) → LinePut (line_of tk sm rs ls ns b n g traced) i at r o o'
    line_put {r} {o'} w grown nums cs =
        let own = size_of tk rs ls ns b n g is link_is size in
        let v = subst (λ (x : Trail). WrittenBehind traced x at.words at.segments o.words o.frames o.segments o'.words o'.frames o'.segments) same w in
        record {
          words = v.words;
          frames = v.frames;
          segments = v.segments;
          numbers = nums ∙ ap₂ (λ (j : ℕ) (x : Token). sets o.numbers (i * 5) (five_of r.words r.segments j x)) (route_many tk rs ls ns b n g is link_is) token;
          costs = cs ∙ ap (λ (x : Token). sets o.costs (i * 4) (four_of g.rank g.cost x)) token;
          to_words = ap (λ (x : Totals). x.words) grown ∙ ap (λ (x : ℕ). at.words + x) own.words;
          to_segments = ap (λ (x : Totals). x.segments) grown ∙ by traced own.segments;
        }
      where
        by : (c : Bool) → z.segments ≡ length (cond c (trail_of tk rs ls ns b n g).segments []) → cond c (at.segments + z.segments) at.segments ≡ at.segments + length (cond c (trail_of tk rs ls ns b n g).segments [])
        by true e = ap (λ (x : ℕ). at.segments + x) e
        by false e = omega arith
