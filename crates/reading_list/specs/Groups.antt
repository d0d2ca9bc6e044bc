-- The items of the list stand for the definition's groups: what is written of each is the definition's reading, and its trace. Assumes nothing.
use Rattle.std.specs.Prelude.{◌≡◌, ℕ, ◌-◌, ◌≤◌, ◌<◌, Bool, true, ℤ, pos, length, get_or, take, Float}
use Rattle.std.proofs.Math.Path.{refl, sym, ap, subst}
use Rattle.std.proofs.Common.{◌∙◌, arith, length-take-le, get_or-take, lt-ltb, le-ltb}
use Rattle.std.proofs.Math.Bool.{cond}
use mathlib.Core.List.{List, []}
use Rattle.std.proofs.Math.ListN.{length-map}
use Rattle.std.specs.Float.Ieee.Scale.{finite}
use Rattle.lists.specs.Tests.{case, lt_or_le, is_true}
use Rattle.lists.specs.Lists.{◌∈◌}
use Rattle.lists.specs.Members.{at_member, map_to}
use Rattle.model.specs.Basics.{0f}
use Rattle.model.specs.Path.{Token as Model}
use Rattle.model.specs.Reads.{Rec, Traced as Told, recs_on, word_recs, trace, rank_one, Group}
use Rattle.model.specs.Readings.{Below, kept_group, readings}
use Rattle.model.specs.Calls.{reading_of}
use Rattle.copy_laws.proofs.Routes.{trace_words, own_words_lem}
use Rattle.copy_laws.proofs.Ranks.{sure_finite}
use Rattle.copy_laws.proofs.Costs.{readings_sure}
use Rattle.tokens.specs.declared.Token.{Token}
use Rattle.tokens.specs.Layout.{cell_at, token_of, place_in}
use Rattle.stores.specs.Shown.{Is, TokenIs}
use Rattle.stores.specs.Tables.{active_at, stored_is}
use Rattle.traceback.specs.Ranks.{candidate_at}
use Rattle.traceback.specs.Traced.{numbers_of, Routed, trail_is}
use Rattle.traceback.specs.Answers.{told_by}
use Rattle.groups.specs.Firsts.{link_at}
use Rattle.ranking.specs.Ranked.{token_in}
use Rattle.below.specs.Stored.{stands_for, Decoded}
use Rattle.kept_readings.specs.Kept.{kept_read_in}
use Rattle.kept_readings.specs.Meaning.{as_kept, Head, stood}
use Rattle.routes.specs.Entries.{joins_of}
use Rattle.routes.specs.Joins.{numbers_are, joins_routed}
use Rattle.readings.specs.Paths.{Plain}
use Rattle.readings.specs.Answers.{plain_of}
use Rattle.listing_laws.specs.Situation.{Situation, Held}
use Rattle.listing_laws.specs.Owns.{rank_in, group_in, link_in}
use Rattle.listing_laws.specs.Whole.{item_group}
use Rattle.listing.specs.Listed.{ListIs}
use Rattle.reading_list.specs.declared.Reading.{Reading}
use Rattle.reading_list.specs.Items.{own_reading, kept_reading, item_reading, trail_of}
use Rattle.reading_list.specs.Lines.{line_of}
use Rattle.reading_list.specs.Sizes.{size_own}
use Rattle.reading_list.specs.Back.{reading_for}

module _ {tk : List ℕ} {sm fs : List Float} {rs : List ℕ} {ls : List ℤ} {gs : List Float} {n b used : ℕ} {keeps : Bool} {margin : Float} (S : Situation tk sm fs rs ls gs n b used keeps margin) (counts : Bool) {hs ns : List ℕ} {xs : List Float} {bs : List Below} (D : Decoded S.h used hs ns xs bs) where
  -- a reading of the code stands for a group
  pub record ReadingIs (g : Reading) (x : Group) : Type 0 where
    pub held : Held tk b n g.state
    pub low : g.entry ≤ length bs
    pub short : length (stands_for bs g.entry).route ≤ used
    pub token : x.token ≡ (rank_in S counts g.state).token
    pub route : x.route ≡ (stands_for bs g.entry).route
    pub rank : x.rank ≡ g.rank
    pub cost : x.cost ≡ g.cost
    pub words : x.words ≡ (trace 0 x.route x.token.path 0f).words

  module _ {g : Reading} {x : Group} (is : ReadingIs g x) where
    abbrev joins : List ℕ
    joins = joins_of ns g.entry

    routed : Routed used joins
    routed = joins_routed D g.entry is.low

    numbers : numbers_of S.h joins ≡ x.route
    numbers = numbers_are D g.entry is.low ∙ sym is.route

    pub link_is : Is S.h used (link_at tk b g.state) x.token.path
    link_is = subst (λ (t : Model). Is S.h used (link_at tk b g.state) t.path) (sym is.token) (link_in S counts g.state is.held)

    -- the walk along its joins is the definition's trace
    trace_is : (decoded : ℕ) (c : Float) → trace decoded x.route x.token.path c ≡ told_by (trail_of tk rs ls ns b decoded g) c
    trace_is decoded c =
        ap (λ (r : List ℕ). trace decoded r x.token.path c) (sym numbers) ∙ trail_is rs ls gs joins decoded used S.h S.stands routed (link_at tk b g.state) x.token.path c link_is

    words_are : (decoded : ℕ) → x.words ≡ (trail_of tk rs ls ns b decoded g).words
    words_are decoded =
        is.words ∙ trace_words 0 x.route x.token.path 0f ∙ sym (trace_words decoded x.route x.token.path 0f) ∙ ap (λ (t : Told). t.words) (trace_is decoded 0f)

    trace_even : (decoded : ℕ) → length (trace decoded x.route x.token.path 0f).word_frames ≡ length (trace decoded x.route x.token.path 0f).words
    unfolding trace
    trace_even decoded = let rs = word_recs (recs_on x.route decoded x.token.path []) in length-map rs (λ (r : Rec). r.frame) ∙ sym (length-map rs (λ (r : Rec). r.word))

    pub even_is : (decoded : ℕ) → length (trail_of tk rs ls ns b decoded g).frames ≡ length (trail_of tk rs ls ns b decoded g).words
    even_is decoded = sym (ap (λ (t : Told). length t.word_frames) (trace_is decoded 0f)) ∙ trace_even decoded ∙ ap (λ (t : Told). length t.words) (trace_is decoded 0f)

    pub plain_is : (decoded : ℕ) (c : Float) → Plain (told_by (trail_of tk rs ls ns b decoded g) c)
    plain_is decoded c = plain_of rs ls gs joins used decoded (link_at tk b g.state) _ (size_own rs ls joins decoded link_is.low) S.h S.stands routed x.token.path link_is c

    token_is : (t : Token) × (token_of (cell_at tk sm (place_in b g.state)) ≡ t) × TokenIs S.h used t x.token
    unfolding rank_one
    token_is =
        let d = is.held in
        let a = active_at S.shown g.state d.0 d.1 in
        (a.stored, stored_is S.shown a, subst (TokenIs S.h used a.stored) (sym (is.token ∙ ap token_in a.at)) a.is)

    -- what is written is the definition's reading
    pub reading_is : (decoded : ℕ) (traced : Bool) → reading_of x ≡ reading_for (line_of tk sm rs ls ns b decoded g traced)
    reading_is decoded traced =
        let t = token_is in
        let q = t.1 in
        let s = t.2 in
        let w = words_are decoded in
        let k : length x.route ≡ length joins = ap length (sym numbers) ∙ length-map joins _ in
        let tc = sym s.cost ∙ ap (λ (y : Token). y.cost) (sym q) in
        let tg = sym s.graph ∙ ap (λ (y : Token). y.graph) (sym q) in
        let tp = sym s.phone ∙ ap (λ (y : Token). pos y.phone) (sym q) in
        let ts = sym s.seq ∙ ap (λ (y : Token). y.seq) (sym q) in
        λ i. record { words = w i; rank = is.rank i; cost = is.cost i; kept = k i; token_cost = tc i; token_graph = tg i; token_phone = tp i; token_seq = ts i }

    -- and its trace
    pub told_is : (decoded : ℕ) → trace decoded x.route x.token.path x.cost ≡ (line_of tk sm rs ls ns b decoded g true).told
    told_is decoded = trace_is decoded x.cost ∙ ap (told_by (trail_of tk rs ls ns b decoded g)) is.cost

-- ---- the items of a list

module _ {tk : List ℕ} {sm fs : List Float} {rs : List ℕ} {ls : List ℤ} {gs : List Float} {n b used : ℕ} {keeps : Bool} {margin : Float} (S : Situation tk sm fs rs ls gs n b used keeps margin) {counts use_final : Bool} {listed : ℕ} {hs ns : List ℕ} {xs : List Float}
    {khs kns : List ℕ} {kxs : List Float} {list : List ℕ} {k : ℕ} (L : ListIs S counts use_final listed hs ns xs khs kns kxs list k) (long : k ≤ length list) where
  abbrev pub group : ℕ → Group
  group i = item_group S counts L.bs khs kns kxs i

  abbrev reads : ℕ → Reading
  reads i = item_reading tk sm fs b counts khs kns kxs i

  among : (i : ℕ) → i < k → group (get_or list i 0) ∈ (readings S.g S.st use_final listed).groups
  among i l =
      let m = length-take-le k list long in
      subst (λ (l : List Group). group (get_or list i 0) ∈ l) L.are
      (map_to group (take k list) (get_or list i 0) (subst (λ (s : ℕ). s ∈ take k list) (get_or-take k list i 0 l) (at_member (take k list) i 0 (omega arith))))

  -- the cost of a reading that is listed is finite
  finite_at : (i : ℕ) → i < k → finite (group (get_or list i 0)).cost ≡ true
  finite_at i l = is_true (sure_finite 102 (group (get_or list i 0)).cost (readings_sure S.g S.good S.floats S.heard S.st S.standing use_final listed (group (get_or list i 0)) (among i l)).cost)

  module _ (i : ℕ) (l : i < k) where
    abbrev item : ℕ
    item = get_or list i 0

    abbrev Stand : Reading → Group → Type 0
    Stand g x = ReadingIs S counts L.decoded g x

    own_is : item < 2_147_483_648 → Stand (reads item) (group item)
    unfolding item_reading
    own_is o =
        let held = (L.each i l).own o in
        let r = rank_in S counts item in
        let e : group item ≡ group_in S counts item = ap (λ (c : Bool). cond c (group_in S counts item) (kept_group (as_kept (rank_in S counts) L.bs (kept_read_in khs kns kxs (item - 2_147_483_648))))) (lt-ltb item 2_147_483_648 o) in
        let head : Head S.g tk b n counts S.st.table item = record { inside = held.0; held = held.1; counted = ap (λ (x : Group). finite x.cost) (sym e) ∙ finite_at i l } in
        let s = stood S.shown S.g S.finals S.long counts item head in
        let q : reads item ≡ record { state = item; entry = 0; rank = r.rank; cost = r.cost } =
        ap (λ (c : Bool). cond c (own_reading (candidate_at tk sm fs b item counts)) (kept_reading (kept_read_in khs kns kxs (item - 2_147_483_648)))) (lt-ltb item 2_147_483_648 o) ∙ ap own_reading s.is
        ∙ (λ t. record { state = s.head.state t; entry = 0; rank = s.head.rank t; cost = s.head.cost t }) in
        subst (λ (x : Group). Stand (reads item) x) (sym e)
        (subst (λ (g : Reading). Stand g (group_in S counts item)) (sym q)
        (record { held = held; low = omega arith; short = omega arith; token = refl; route = refl; rank = refl; cost = refl; words = own_words_lem r.token.path ∙ sym (trace_words 0 [] r.token.path 0f) }))

    kept_is : 2_147_483_648 ≤ item → Stand (reads item) (group item)
    unfolding item_reading
    kept_is o =
        let h = L.each i l in
        rw (le-ltb item 2_147_483_648 o) (record { held = h.kept o; low = h.entry o; short = h.route o; token = refl; route = refl; rank = refl; cost = refl; words = refl })

    pub item_is : ReadingIs S counts L.decoded (reads (get_or list i 0)) (group (get_or list i 0))
    item_is = case (lt_or_le item 2_147_483_648) own_is kept_is
