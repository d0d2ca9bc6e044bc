-- Records put on: what the older ones stand for stays. Assumes nothing.
use Rattle.std.specs.Prelude.{◌≡◌, refl, ℕ, suc, ◌≤◌, List, Float}
use Rattle.std.proofs.Common.{◌∙◌, arith}
use Rattle.std.proofs.Math.Option.{Option}
use Rattle.model.specs.Path.{Path, Token, Table}
use Rattle.tokens.specs.declared.Token.{Token as Stored}
use Rattle.tokens.specs.Layout.{Cell}
use Rattle.records.specs.History.{History}
use Rattle.records.specs.Stands.{put, put_other}
use Rattle.stores.specs.Shown.{Is, TokenIs, Shows, shows_none, shows_token, Shown}

pub record Grown (h : ℕ → History) (used : ℕ) (h' : ℕ → History) (used' : ℕ) : Type 0 where
  pub more : used ≤ used'
  pub same : (j : ℕ) → j ≤ used → h' j ≡ h j

pub grown_self : (h : ℕ → History) (used : ℕ) → Grown h used h used
grown_self h used = record { more = omega arith; same = λ j l. refl }

pub grown_put : (h : ℕ → History) (used : ℕ) (v : History) → Grown h used (put h (suc used) v) (suc used)
grown_put h used v = record { more = omega arith; same = λ j l. put_other h (suc used) v j (λ e. omega arith) }

pub grown_then : {h h' h'' : ℕ → History} {used used' used'' : ℕ} → Grown h used h' used' → Grown h' used' h'' used'' → Grown h used h'' used''
grown_then f g = record { more = let a = f.more in let b = g.more in omega arith; same = λ j l. g.same j (let a = f.more in omega arith) ∙ f.same j l }

module _ {h h' : ℕ → History} {used used' : ℕ} (g : Grown h used h' used') where
  pub is_grown : {l : ℕ} {p : Path} → Is h used l p → Is h' used' l p
  is_grown {l} i = record { low = let a = i.low in let b = g.more in omega arith; is = g.same l i.low ∙ i.is; own = i.own; frames = i.frames }

  pub token_grown : {s : Stored} {t : Token} → TokenIs h used s t → TokenIs h' used' s t
  token_grown i = record { cost = i.cost; graph = i.graph; link = is_grown i.link; phone = i.phone; seq = i.seq }

  pub shows_grown : {c : Cell} {o : Option Token} → Shows h used c o → Shows h' used' c o
  shows_grown (shows_none e) = shows_none e
  shows_grown (shows_token s e i) = shows_token s e (token_grown i)

  pub shown_grown : {tk : List ℕ} {sm : List Float} {b n : ℕ} {ts : Table} → Shown h used tk sm b n ts → Shown h' used' tk sm b n ts
  shown_grown w = record { size = w.size; place = λ s l. shows_grown (w.place s l) }
