-- Budgets: how many rows a reader may hold, by a bound on rows and one on bytes, and what setting one does.
use Rattle.std.specs.Prelude.{cond, List, [], ◌∷◌, ℕ, zero, suc, ◌-◌, ◌/◌, ◌^◌, min, eqb, length, Option, Some, None}
use Rattle.types.specs.declared.RowRecord.{RowRecord}
use Rattle.types.specs.declared.RecoveryBudget.{RecoveryBudget}
use Rattle.types.specs.declared.Refusal.TheVariants.{BadState}
use Rattle.rules.specs.Rows.{exponents, highest, without}
use Rattle.rules.specs.Reader.{Reader, Left, leaves, first_of, bad_state}

abbrev pub no_bound : ℕ
no_bound = 2 ^ 64 - 1

-- max rows; an absent one sets no bound
unfoldable pub rows_bound : Option ℕ → ℕ
rows_bound None = no_bound
rows_bound (Some n) = n

-- max bytes divided by slice size rounded down; an absent one or a slice size of 0 sets no bound
unfoldable pub bytes_bound : ℕ → Option ℕ → ℕ
bytes_bound size None = no_bound
bytes_bound size (Some n) = cond (eqb size 0) no_bound (n / size)

-- the smaller of the two
unfoldable pub row_limit : RecoveryBudget → ℕ → ℕ
row_limit b size = min (rows_bound b.max_rows) (bytes_bound size b.max_bytes)

-- the reader's limit is the smaller of that and its capacity
unfoldable pub limit_of : Reader → RecoveryBudget → ℕ
limit_of r b = min (row_limit b r.size) r.capacity

-- the highest leaves, n times
unfoldable pub evict : ℕ → List RowRecord → List RowRecord
evict zero rows = rows
evict (suc n) rows = evict n (without (highest (exponents rows)) rows)

-- setting a budget evicts the highest until the rows fit
unfoldable pub lower : ℕ → List RowRecord → List RowRecord
lower limit rows = evict (length rows - limit) rows

abbrev pub with_limit : ℕ → Reader → Reader
with_limit limit r =
    record {
      set = r.set;
      size = r.size;
      capacity = r.capacity;
      limit = limit;
      cap = r.cap;
      rows = lower limit r.rows;
      total = r.total;
    }

-- budget: 4
unfoldable pub set_budget : Reader → RecoveryBudget → Left
set_budget r b = leaves (first_of ((bad_state r, BadState) ∷ [])) r (with_limit (limit_of r b) r)
