-- The marked cases, small volumes at slice size 4, V1 to V13, as one list, with the window's own cases and the budgets behind it.
use Rattle.std.specs.Prelude.{List, [], ◌∷◌, ◌++◌, ℕ, replicate, take, Option, Some, None, Ok}
use Rattle.format.specs.Packet.{magic, recovery_type}
use Rattle.types.specs.declared.RecoveryBudget.{RecoveryBudget}
use Rattle.types.specs.declared.VolumeEnd.{VolumeEnd}
use Rattle.types.specs.declared.VolumeEnd.TheVariants.{Complete, Truncated, CapReached}
use Rattle.types.specs.declared.VolumeScan.{VolumeScan}
use Rattle.rules.specs.Reader.{default_cap}
use Rattle.rules.specs.Volume.{VolumeRead, read_volume}
use Rattle.rules.specs.Budget.{row_limit}

pub record Case : Type 0 where
  pub limit : ℕ
  pub cap : ℕ
  pub volume : List ℕ
  pub result : VolumeScan

-- ---- The volumes

-- the set that the cases are of
unfoldable pub our_set : List ℕ
our_set = 1 ∷ 2 ∷ 3 ∷ 4 ∷ 5 ∷ 6 ∷ 7 ∷ 8 ∷ 9 ∷ 10 ∷ 11 ∷ 12 ∷ 13 ∷ 14 ∷ 15 ∷ 16 ∷ []

-- so many `x`
abbrev pub xs : ℕ → List ℕ
xs n = replicate n 0x78

-- `P`
abbrev pub P : List ℕ
P = 0x50 ∷ []

-- n below 256 as a u64
abbrev pub long : ℕ → List ℕ
long n = n ∷ replicate 7 0

-- magic, length n, 48 zeros
unfoldable pub lone : ℕ → List ℕ
lone n = magic ++ long n ++ replicate 48 0

-- a recovery packet of our set: length n, a digest of zeros, and a body of n - 64 zeros, given as b
unfoldable pub recovery : ℕ → ℕ → List ℕ
recovery n b = magic ++ long n ++ replicate 16 0 ++ our_set ++ recovery_type ++ replicate b 0

-- ---- The cases: capacity 1, counts 0 and cap ample unless named

abbrev pub scan : ℕ → ℕ → ℕ → VolumeEnd → VolumeScan
scan seen corrupt bytes e = record { seen = seen; kept = 0; corrupt = corrupt; bytes_read = bytes; end = e }

abbrev pub case : ℕ → ℕ → List ℕ → VolumeScan → Case
case limit cap volume result = record { limit = limit; cap = cap; volume = volume; result = result }

unfoldable pub marked : List Case
marked =
    -- V1 empty: Complete, 0 bytes
    case 1 default_cap [] (scan 0 0 0 Complete)
    -- V2 `P`: Truncated
    ∷ case 1 default_cap P (scan 0 0 1 Truncated)
    -- V3 four x, then P: Complete
    ∷ case 1 default_cap (xs 4 ++ P) (scan 0 0 5 Complete)
    -- V4 63 `x`, `P`: Truncated, 64 bytes
    ∷ case 1 default_cap (xs 63 ++ P) (scan 0 0 64 Truncated)
    -- V5 magic, length 60, 48 zeros: Complete
    ∷ case 1 default_cap (lone 60) (scan 0 0 64 Complete)
    -- V6 same, length 68: Truncated
    ∷ case 1 default_cap (lone 68) (scan 0 0 64 Truncated)
    -- V7 same, length 64: Complete
    ∷ case 1 default_cap (lone 64) (scan 0 0 64 Complete)
    -- V8 V7, cap 64: Complete
    ∷ case 1 64 (lone 64) (scan 0 0 64 Complete)
    -- V9 V7, cap 63: CapReached, 63 bytes
    ∷ case 1 63 (lone 64) (scan 0 0 63 CapReached)
    -- V10 recovery, length 68, whole: corrupt 1, Complete
    ∷ case 1 default_cap (recovery 68 4) (scan 0 1 68 Complete)
    -- V11 recovery, length 72, limit 0: seen 1, Complete
    ∷ case 0 default_cap (recovery 72 8) (scan 1 0 72 Complete)
    -- V12 V11 cut to 68 bytes: seen 1, Truncated
    ∷ case 0 default_cap (take 68 (recovery 72 8)) (scan 1 0 68 Truncated)
    -- V13 V12, limit 1: no counts, Truncated
    ∷ case 1 default_cap (take 68 (recovery 72 8)) (scan 0 0 68 Truncated)
    ∷ []

-- The window of 64 bytes, which V1 to V13 leave open.
unfoldable pub windows : List Case
windows =
    -- its last byte is p + 63, and nothing in it is like the magic: p + 64 is next, and what is left there is
    case 1 default_cap (xs 64 ++ P) (scan 0 0 65 Truncated)
    -- the byte at p + 63 alone is: p + 63 is next, and what is left there is not
    ∷ case 1 default_cap (xs 63 ++ P ++ xs 1) (scan 0 0 65 Complete)
    -- a packet whose magic lies in both windows, one byte or seven of it in the first, is found
    ∷ case 0 default_cap (xs 63 ++ recovery 72 8) (scan 1 0 135 Complete)
    ∷ case 0 default_cap (xs 57 ++ recovery 72 8) (scan 1 0 129 Complete)
    -- behind an unusable length too
    ∷ case 0 default_cap (magic ++ long 60 ++ xs 47 ++ recovery 72 8) (scan 1 0 135 Complete)
    ∷ []

-- what reading a case's volume answers, with a store of one slot
unfoldable pub answered : Case → VolumeRead
answered c =
    read_volume (record { set = our_set; size = 4; capacity = 1; limit = c.limit; cap = c.cap; rows = []; total = 0 })
    (replicate 4 0) c.volume

-- what it should: the result, the reader with what was seen added, and the store as it was
unfoldable pub expected : Case → VolumeRead
expected c =
    record {
      answer = Ok c.result;
      reader =
          record {
            set = our_set;
            size = 4;
            capacity = 1;
            limit = c.limit;
            cap = c.cap;
            rows = [];
            total = c.result.seen;
          };
      store = replicate 4 0;
    }

-- ---- More: budgets

pub record BudgetCase : Type 0 where
  pub budget : RecoveryBudget
  pub size : ℕ
  pub rows : ℕ

abbrev pub budget : Option ℕ → Option ℕ → ℕ → ℕ → BudgetCase
budget rows bytes size limit = record { budget = record { max_rows = rows; max_bytes = bytes }; size = size; rows = limit }

unfoldable pub budgets : List BudgetCase
budgets =
    -- max bytes 1000, slice 300 gives 3 rows;
    budget None (Some 1000) 300 3
    -- with max rows 2, 2;
    ∷ budget (Some 2) (Some 1000) 300 2
    -- max bytes 299 gives 0
    ∷ budget None (Some 299) 300 0
    -- an absent one or a slice size of 0 sets no bound (2^64 - 1)
    ∷ budget None None 300 18446744073709551615
    ∷ budget None (Some 1000) 0 18446744073709551615
    ∷ budget (Some 2) (Some 1000) 0 2
    ∷ []

abbrev pub rows_of : BudgetCase → ℕ
rows_of c = row_limit c.budget c.size
