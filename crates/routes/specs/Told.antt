-- The words along a route are the definition's, of the path that a record stands for. Assumes nothing.
use Rattle.std.specs.Prelude.{◌≡◌, ℕ, ◌≤◌, List, reverse, ℤ, Float, length, take}
use Rattle.std.proofs.Common.{sym, ◌∙◌, ap}
use Rattle.model.specs.Path.{Path}
use Rattle.model.specs.Reads.{Traced, trace}
use Rattle.model.specs.Readings.{Below}
use Rattle.records.specs.History.{History}
use Rattle.records.specs.Layout.{store}
use Rattle.records.specs.Stands.{Stands}
use Rattle.stores.specs.Shown.{Is}
use Rattle.traceback.specs.Traced.{numbers_of, Routed, trail_is}
use Rattle.below.specs.Stored.{stands_for, Decoded}
use Rattle.routes.specs.Back.{back_along}
use Rattle.routes.specs.Words.{back_trail}
use Rattle.routes.specs.Entries.{RouteIs}

module _ {rs : List ℕ} {ls : List ℤ} {gs : List Float} {used : ℕ} {h : ℕ → History} (ok : Stands (store rs ls gs) used h) (n link : ℕ) (p : Path) (cost : Float) (shows : Is h used link p) where
  pub words_told : (route : List ℕ) → Routed used route → (trace n (numbers_of h route) p cost).words ≡ reverse (back_along rs ls route link)
  words_told route r = ap (λ (t : Traced). t.words) (trail_is rs ls gs route n used h ok r link p cost shows) ∙ sym (back_trail rs ls route n link)

  -- along an entry's route
  pub entry_words : {hs ns : List ℕ} {xs : List Float} {bs : List Below} {entry k : ℕ} (route : List ℕ) → RouteIs ns entry route k → Decoded h used hs ns xs bs → entry ≤ length bs → (trace n (stands_for bs entry).route p cost).words ≡ reverse (back_along rs ls (take k route) link)
  entry_words {k = k} route i d l = ap (λ (js : List ℕ). (trace n js p cost).words) (sym (i.is d l)) ∙ words_told (take k route) (i.routed d l)
