-- The rows that a reader keeps, in the order of arrival, and the store that holds their data.
use Rattle.std.specs.Prelude.{Bool, false, cond, ◌&&◌, ◌||◌, List, [], ◌∷◌, ◌++◌, map, ℕ, zero, suc, ◌*◌, max, eqb, leb, length}
use Rattle.format.specs.Bytes.{part}
use Rattle.types.specs.declared.RowRecord.{RowRecord}

abbrev pub exponents : List RowRecord → List ℕ
exponents rows = map (λ r. r.exponent) rows

abbrev pub slots : List RowRecord → List ℕ
slots rows = map (λ r. r.slot) rows

-- x stands in the list
unfoldable pub has : ℕ → List ℕ → Bool
has x [] = false
has x (y ∷ ys) = eqb x y || has x ys

unfoldable pub highest : List ℕ → ℕ
highest [] = 0
highest (x ∷ xs) = max x (highest xs)

-- exponent not wanted: limit 0, already kept, or rows at the limit and it isn't below the highest
unfoldable pub unwanted : ℕ → List RowRecord → ℕ → Bool
unwanted limit rows e =
    eqb limit 0 || has e (exponents rows) || (leb limit (length rows) && leb (highest (exponents rows)) e)

-- the rows without the one of exponent e
unfoldable pub without : ℕ → List RowRecord → List RowRecord
without e [] = []
without e (r ∷ rs) = cond (eqb r.exponent e) rs (r ∷ without e rs)

-- with rows at the limit the highest exponent leaves first
unfoldable pub room : ℕ → List RowRecord → List RowRecord
room limit rows = cond (leb limit (length rows)) (without (highest (exponents rows)) rows) rows

-- the first number from s on that isn't in the list, among the next n; s + n if all are
unfoldable pub free_from : ℕ → ℕ → List ℕ → ℕ
free_from zero s xs = s
free_from (suc n) s xs = cond (has s xs) (free_from n (suc s) xs) s

-- a new row takes the lowest slot no kept row uses,
unfoldable pub free : List RowRecord → ℕ
free rows = free_from (length rows) 0 (slots rows)

-- after any eviction; rows stay in the order of arrival
unfoldable pub arrive : ℕ → List RowRecord → ℕ → List RowRecord
arrive limit rows e = room limit rows ++ (record { exponent = e; slot = free (room limit rows) } ∷ [])

-- the part of the store that holds a slot's data
abbrev pub slot_data : ℕ → List ℕ → ℕ → List ℕ
slot_data size store slot = part (slot * size) size store
