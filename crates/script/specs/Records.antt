-- A record: its kind, how many words its payload has, and the payload. Assumes nothing.
use Rattle.std.specs.Prelude.{◌≡◌, refl, ℕ, ◌+◌, ◌%◌, ◌≤◌, Bool, true, false, cond, List, ◌++◌, Option, Some, None, Result, Ok, Err, leb, eqb, length}
use Rattle.std.proofs.Common.{arith, leb-true}
use Rattle.script.specs.Words.{word_count, word_at, bytes_of}
use Rattle.script.specs.declared.Record.{Record}
use Rattle.script.specs.declared.CutShort.{CutShort}

abbrev pub cut_short : Result (Option Record) CutShort
cut_short = Err (record {})

-- the record that starts at a place: none at the last whole word, and cut short where the bytes end within it
unfoldable pub record_at : List ℕ → ℕ → Result (Option Record) CutShort
record_at bs at =
    cond (leb (word_count bs) at) (cond (eqb (length bs % 4) 0) (Ok None) cut_short)
    (cond (leb (at + 2 + word_at bs (at + 1)) (word_count bs)) (Ok (Some (record { kind = word_at bs at; start = at + 2; count = word_at bs (at + 1) }))) cut_short)

-- a whole record lies within the words
pub whole_within : (bs : List ℕ) (at : ℕ) (r : Record) → Ok (Some r) ≡ record_at bs at → (r.start ≡ at + 2) × (r.start + r.count ≤ word_count bs)
unfolding record_at
whole_within bs at r e = go (leb (word_count bs) at) (leb (at + 2 + word_at bs (at + 1)) (word_count bs)) (eqb (length bs % 4) 0) refl e
  where
    x : Record
    x = record { kind = word_at bs at; start = at + 2; count = word_at bs (at + 1) }

    go : (p q s : Bool) → leb (at + 2 + word_at bs (at + 1)) (word_count bs) ≡ q → Ok (Some r) ≡ cond p (cond s (Ok None) cut_short) (cond q (Ok (Some x)) cut_short)
        → (r.start ≡ at + 2) × (r.start + r.count ≤ word_count bs)
    go true q true t e = let z : ◌≡◌ {A = ℕ} 0 1 = cc in omega arith
    go true q false t e = let z : ◌≡◌ {A = ℕ} 0 1 = cc in omega arith
    go false true s t e = let same : r ≡ x = cc in rw same (refl, leb-true _ _ t)
    go false false s t e = let z : ◌≡◌ {A = ℕ} 0 1 = cc in omega arith

-- the answer to a faulty script: a record of one word
abbrev pub fault_bytes : ℕ → List ℕ
fault_bytes kind = bytes_of kind ++ bytes_of 1 ++ bytes_of 4294967295
