-- What the table of src/table.rt holds, and the words that it is asked for.
use Rattle.std.specs.Prelude.{◌≡◌, List, [], ℕ, ◌+◌, ◌*◌, ◌^◌, ◌<◌, get_or}
use Rattle.crc32.specs.Crc.{steps}

-- row k of a table over w bits: at x, the register x after k + 1 times w zeros
pub record Row (w k : ℕ) (row : List ℕ) : Type 0 where
  pub entry : (x : ℕ) → x < 2 ^ w → get_or row x 0 ≡ steps (w * (k + 1)) x

-- rows 0 to n - 1
pub record Sliced (w n : ℕ) (t : List (List ℕ)) : Type 0 where
  pub row : (k : ℕ) → k < n → Row w k (get_or t k [])

-- the word whose lowest byte is the byte i of s
abbrev pub word_at : List ℕ → ℕ → ℕ
word_at s i = get_or s i 0 + get_or s (i + 1) 0 * 0x100 + get_or s (i + 2) 0 * 0x1_0000 + get_or s (i + 3) 0 * 0x100_0000
