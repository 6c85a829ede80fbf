-- Runs of bytes: a part of one, two compared, and the number that one holds.
use Rattle.std.specs.Prelude.{Bool, true, false, ◌&&◌, List, [], ◌∷◌, ℕ, ◌+◌, ◌*◌, eqb, take, drop}

-- n bytes from position p, or as many of them as there are
abbrev pub part : ℕ → ℕ → List ℕ → List ℕ
part p n bs = take n (drop p bs)

-- the two runs are equal, byte for byte
unfoldable pub same : List ℕ → List ℕ → Bool
same [] [] = true
same [] (y ∷ ys) = false
same (x ∷ xs) [] = false
same (x ∷ xs) (y ∷ ys) = eqb x y && same xs ys

-- a number, little-endian
unfoldable pub little : List ℕ → ℕ
little [] = 0
little (b ∷ bs) = b + 256 * little bs
