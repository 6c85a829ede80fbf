-- The reader: its state, what contradicts itself in one, the refusals of its calls, each with its number, and the calls that only make or set it.
use Rattle.std.specs.Prelude.{Bool, false, cond, ◌||◌, not, List, [], ◌∷◌, ℕ, ◌*◌, ◌^◌, ◌%◌, eqb, ltb, leb, length, replicate, Result, Ok, Err}
use Rattle.types.specs.declared.RowRecord.{RowRecord}
use Rattle.types.specs.declared.Refusal.{Refusal}
use Rattle.types.specs.declared.Refusal.TheVariants.{BadSliceSize, BadCapacity, BadState}
use Rattle.rules.specs.Rows.{exponents, slots, has}

pub record Reader : Type 0 where
  -- set id and slice size
  pub set : List ℕ
  pub size : ℕ
  -- how many rows the store has room for, and how many may be kept
  pub capacity : ℕ
  pub limit : ℕ
  -- how many bytes of a volume are read
  pub cap : ℕ
  -- the kept rows, in the order of arrival
  pub rows : List RowRecord
  -- total seen
  pub total : ℕ

-- ---- Refusals: each exactly when

-- 1 BadSliceSize, of a reader: 0, not a multiple of 4, or over 16,777,216
unfoldable pub bad_slice_size : ℕ → Bool
bad_slice_size size = eqb size 0 || not (eqb (size % 4) 0) || ltb 16777216 size

-- 2 BadCapacity: rows 0 or over 256
unfoldable pub bad_capacity : ℕ → Bool
bad_capacity c = eqb c 0 || ltb 256 c

-- 3 StoreShort: store shorter than capacity times slice size
unfoldable pub store_short : Reader → List ℕ → Bool
store_short r store = ltb (length store) (r.capacity * r.size)

-- some number stands twice in the list
unfoldable pub repeats : List ℕ → Bool
repeats [] = false
repeats (x ∷ xs) = has x xs || repeats xs

-- some number of the list is not below n
unfoldable pub reaches : ℕ → List ℕ → Bool
reaches n [] = false
reaches n (x ∷ xs) = leb n x || reaches n xs

-- 4 BadState: slice size or capacity bad by 1 or 2; limit above capacity; rows above limit; exponents or slots repeated; a slot not below capacity
abbrev pub faults : Reader → List Bool
faults r =
    bad_slice_size r.size
    ∷ bad_capacity r.capacity
    ∷ ltb r.capacity r.limit
    ∷ ltb r.limit (length r.rows)
    ∷ repeats (exponents r.rows)
    ∷ repeats (slots r.rows)
    ∷ reaches r.capacity (slots r.rows)
    ∷ []

-- some test of the list is true
unfoldable pub any : List Bool → Bool
any [] = false
any (b ∷ bs) = b || any bs

unfoldable pub bad_state : Reader → Bool
bad_state r = any (faults r)

-- 5 CounterFull: total seen above 2^62 before a volume
unfoldable pub counter_full : Reader → Bool
counter_full r = ltb (2 ^ 62) r.total

-- 11 ListShort: fewer places than kept rows
unfoldable pub list_short : Reader → List RowRecord → Bool
list_short r places = ltb (length places) (length r.rows)

-- ---- Refusals: their order

-- the first that applies
unfoldable pub first_of : List (Bool × Refusal) → Result (Unit {0}) Refusal
first_of [] = Ok tt
first_of (t ∷ ts) = cond t.0 (Err t.1) (first_of ts)

-- ---- The calls that make or set a reader

-- what such a call says, and the reader that it hands back
pub record Left : Type 0 where
  pub answer : Result (Unit {0}) Refusal
  pub reader : Reader

-- refused, the reader that it was given; else the new one
unfoldable pub leaves : Result (Unit {0}) Refusal → Reader → Reader → Left
leaves (Ok _) old new = record { answer = Ok tt; reader = new }
leaves (Err why) old new = record { answer = Err why; reader = old }

-- the default cap
abbrev pub default_cap : ℕ
default_cap = 536870912

-- what a refused constructor hands back; every later call refuses it
unfoldable pub empty_reader : Reader
empty_reader = record { set = replicate 16 0; size = 0; capacity = 0; limit = 0; cap = 0; rows = []; total = 0 }

-- a new reader's limit is its capacity
unfoldable pub fresh_reader : List ℕ → ℕ → ℕ → Reader
fresh_reader set size capacity =
    record { set = set; size = size; capacity = capacity; limit = capacity; cap = default_cap; rows = []; total = 0 }

-- new reader: 1, 2
unfoldable pub new_reader : List ℕ → ℕ → ℕ → Left
new_reader set size capacity =
    leaves (first_of ((bad_slice_size size, BadSliceSize) ∷ (bad_capacity capacity, BadCapacity) ∷ []))
    empty_reader (fresh_reader set size capacity)

-- the reader with another cap, and nothing else changed
abbrev pub with_cap : ℕ → Reader → Reader
with_cap cap r =
    record { set = r.set; size = r.size; capacity = r.capacity; limit = r.limit; cap = cap; rows = r.rows; total = r.total }

-- another cap: 4
unfoldable pub with_max_volume_bytes : Reader → ℕ → Left
with_max_volume_bytes r cap = leaves (first_of ((bad_state r, BadState) ∷ [])) r (with_cap cap r)
