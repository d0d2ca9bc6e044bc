-- A key with one more word. Assumes nothing.
use Rattle.std.specs.Prelude.{◌≡◌, refl, ℕ, ◌+◌, ◌*◌, ◌%◌, ◌^◌, ◌<◌, cond, List, [], ℤ}
use Rattle.std.proofs.Common.{ap, ◌∙◌, mod-eq_of_lt, mul-one, add-zero}
use Rattle.lists.specs.Tests.{case, either}
use Rattle.model.specs.Basics.{nonzero, unsigned}
use Rattle.model.specs.Path.{with_word}
use Rattle.model.specs.Hash.{hash_base, hash_word, hash_words, shift_past, word_on}
use Rattle.histories.specs.Reading.{key_of}

-- newer than all of its words; 0 is none
unfoldable pub key_over : (key : ℕ) → (word : ℤ) → ℕ
key_over x w = cond (nonzero w) ((x * hash_base + unsigned w) % 2 ^ 64) x

-- it is the key of the words with it
pub key_over_lem : (e : ℕ) (w : ℤ) (ws : List ℤ) → key_over (key_of e ws) w ≡ key_of e (with_word w ws)
unfolding key_over hash_words hash_word shift_past
key_over_lem e w ws = case (either (nonzero w)) (λ d. rw d (word_on (2 ^ 64) hash_base e (shift_past ws) (hash_words ws) (unsigned w) (key_of e ws) refl)) (λ d. rw d refl)

-- of no words it is the end itself
pub key_end : (e : ℕ) → e < 2 ^ 64 → key_of e [] ≡ e
unfolding hash_words shift_past
key_end e l = ap (λ (z : ℕ). z % 2 ^ 64) (add-zero (e * 1) ∙ mul-one e) ∙ mod-eq_of_lt l
