-- The rows of src/table.rt, over w bits, by their rule: by linearity the entries at 1, 2, 4, .. give a row, and w bit steps take them to
-- the next. That a table of numbers is these rows is computed where it is claimed. Assumes nothing.
use mathlib.Core.Path.{◌≡◌, refl, sym, ap, ap₂, ◌∙◌}
use mathlib.Core.List.{List, [], ◌∷◌, ◌++◌, map}
use Prim.Native.Nat.{ℕ, zero, suc, ◌+◌, ◌*◌, ◌^◌, ◌<◌}
use native.Mathlib.Nat.{add-zero, mul-zero, mul-suc, mul-add}
use native.Mathlib.Omega.{arith}
use lib.Bits.{bit_xor, xor_self}
use lib.ListN.{get_or, get_or-map}
use Rattle.crc32.specs.Crc.{steps}
use Rattle.crc32.specs.Table.{Sliced}
use Rattle.crc32.proofs.Linear.{steps-xor, steps-add}
use Rattle.crc32.proofs.Lists.{firsts, get_or-firsts}

-- 2 ^ (w - 1), .. 2, 1
unfoldable pub powers : ℕ → List ℕ
powers zero = []
powers (suc w) = 2 ^ w ∷ powers w

-- the sums of some of bs, in the order of the numbers whose bits choose them
unfoldable pub sums : List ℕ → List ℕ
sums [] = 0 ∷ []
sums (b ∷ bs) = let rest : List ℕ = sums bs in rest ++ map (bit_xor b) rest

-- n rows, the first of them the sums of bs, each w steps after the one before it
unfoldable pub rows : ℕ → ℕ → List ℕ → List (List ℕ)
rows w zero bs = []
rows w (suc n) bs = sums bs ∷ rows w n (map (steps w) bs)

module _ (n : ℕ) where
  steps-zero : steps n 0 ≡ 0
  steps-zero = steps-xor n 0 0 ∙ xor_self (steps n 0)

  map-sums : (b : ℕ) (l m : List ℕ)
      → map (steps n) l ++ map (bit_xor (steps n b)) (map (steps n) m) ≡ map (steps n) (l ++ map (bit_xor b) m)
  map-sums b [] [] = refl
  map-sums b [] (x ∷ m) = ap₂ {A = ℕ} {B = List ℕ} ◌∷◌ (sym (steps-xor n b x)) (map-sums b [] m)
  map-sums b (x ∷ l) m = ap {B = List ℕ} (λ r. steps n x ∷ r) (map-sums b l m)

  sums-steps : (bs : List ℕ) → sums (map (steps n) bs) ≡ map (steps n) (sums bs)
  unfolding sums
  sums-steps [] = ap {B = List ℕ} (λ x. x ∷ []) (sym steps-zero)
  sums-steps (b ∷ bs) = ap (λ (l : List ℕ). l ++ map (bit_xor (steps n b)) l) (sums-steps bs) ∙ map-sums b (sums bs) (sums bs)

  get_or-sums : (w x : ℕ) → sums (powers w) ≡ firsts (λ x. x) (2 ^ w) → x < 2 ^ w → get_or (sums (map (steps n) (powers w))) x 0 ≡ steps n x
  get_or-sums w x all h =
      ap₂ (λ (l : List ℕ) (d : ℕ). get_or l x d) (sums-steps (powers w) ∙ ap (map (steps n)) all) (sym steps-zero)
      ∙ get_or-map (steps n) (firsts (λ x. x) (2 ^ w)) x 0
      ∙ ap (steps n) (get_or-firsts (λ x. x) (2 ^ w) x h)

map-steps : (m n : ℕ) (bs : List ℕ) → map (steps n) (map (steps m) bs) ≡ map (steps (m + n)) bs
map-steps m n [] = refl
map-steps m n (b ∷ bs) = ap₂ {A = ℕ} {B = List ℕ} ◌∷◌ (sym (steps-add m n b)) (map-steps m n bs)

get_or-rows : (w n m k : ℕ) (bs : List ℕ) → k < n → get_or (rows w n (map (steps m) bs)) k [] ≡ sums (map (steps (m + w * k)) bs)
unfolding rows
get_or-rows w zero m k bs h = absurd (omega arith)
get_or-rows w (suc n) m zero bs h = rw (mul-zero w, add-zero m)
get_or-rows w (suc n) m (suc k) bs h =
    let e : m + w + w * k ≡ m + w * suc k = omega (arith, mul-suc w k) in
    ap (λ (l : List ℕ). get_or (rows w n l) k []) (map-steps m w bs)
    ∙ get_or-rows w n (m + w) k bs (omega arith)
    ∙ ap (λ (i : ℕ). sums (map (steps i) bs)) e

pub sliced : (w n : ℕ) → sums (powers w) ≡ firsts (λ x. x) (2 ^ w) → Sliced w n (rows w n (map (steps w) (powers w)))
sliced w n all = record {
  row = λ k h. record {
    entry = λ x hx.
        let e : w + w * k ≡ w * (k + 1) = omega (arith, mul-add w k 1) in
        ap (λ (l : List ℕ). get_or l x 0) (get_or-rows w n w k (powers w) h) ∙ get_or-sums (w + w * k) w x all hx ∙ ap (λ (i : ℕ). steps i x) e;
  };
}
