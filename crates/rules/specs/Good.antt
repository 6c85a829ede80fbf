-- Packets: whole ones, good ones, and what these bring.
use Rattle.std.specs.Prelude.{Bool, cond, ◌&&◌, List, [], ◌∷◌, map, ◌≡◌, ℕ, ◌+◌, ◌-◌, ◌%◌, ◌≤◌, eqb, leb, length}
use Rattle.format.specs.Packet.{magic, magic_of, length_of}
use Rattle.rules.specs.Scan.{ours, exponent_of, row_of, digest_right}

-- a whole packet: its length is usable (at least 64, a multiple of 4) and all its bytes are there
pub record Whole (p : List ℕ) : Type 0 where
  pub starts : magic_of p ≡ magic
  pub all : length_of p ≡ length p
  pub long : 64 ≤ length p
  pub fours : length p % 4 ≡ 0

-- a good one: of our set and of recovery type, its body 4 + slice size bytes at least, its digest right
unfoldable pub good : List ℕ → ℕ → List ℕ → Bool
good set size p = ours set p && leb (4 + size) (length p - 64) && digest_right p

-- it brings an exponent, and the data of that row
pub record Found : Type 0 where
  pub exponent : ℕ
  pub bytes : List ℕ

abbrev pub found_in : ℕ → List ℕ → Found
found_in size p = record { exponent = exponent_of p; bytes = row_of size p }

abbrev pub found_exponents : List Found → List ℕ
found_exponents fs = map (λ f. f.exponent) fs

-- the data of the first that has the exponent
unfoldable pub first_data : ℕ → List Found → List ℕ
first_data e [] = []
first_data e (f ∷ fs) = cond (eqb e f.exponent) f.bytes (first_data e fs)
