-- No two readings of a list have the same words, nor two alternatives, nor two of the traces. Assumes nothing.
use Rattle.std.specs.Prelude.{◌≡◌, List, map, ℤ}
use Rattle.model.specs.Reads.{Traced, Group}
use Rattle.copy_laws.specs.Walks.{words_along}
use Rattle.copy_laws.specs.Routes.{along}

-- ---- the lists

abbrev pub group_words : List Group → List (List ℤ)
group_words = map (λ (x : Group). x.words)

-- ---- their traces

abbrev pub traced_words : List Traced → List (List ℤ)
traced_words = map (λ (t : Traced). t.words)

abbrev pub WordsRight : Group → Type 0
WordsRight x = x.words ≡ words_along (along x.route x.token.path)
