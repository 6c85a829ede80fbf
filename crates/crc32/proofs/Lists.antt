-- A list from a function on its indices. Assumes nothing.
use mathlib.Core.Path.{◌≡◌, refl, ap}
use mathlib.Core.List.{List, [], ◌∷◌}
use Prim.Native.Nat.{ℕ, zero, suc, ◌≤◌, ◌<◌}
use native.Mathlib.Omega.{arith}
use lib.ListN.{length, get_or, take}

-- f 0, f 1, .. f (n - 1)
unfoldable pub firsts : (ℕ → ℕ) → ℕ → List ℕ
firsts f zero = []
firsts f (suc n) = f zero ∷ firsts (λ i. f (suc i)) n

pub get_or-firsts : (f : ℕ → ℕ) (n x : ℕ) → x < n → get_or (firsts f n) x 0 ≡ f x
unfolding firsts
get_or-firsts f zero x h = absurd (omega arith)
get_or-firsts f (suc n) zero h = refl
get_or-firsts f (suc n) (suc x) h = get_or-firsts (λ i. f (suc i)) n x (omega arith)

pub take-firsts : (n : ℕ) (s : List ℕ) → n ≤ length s → take n s ≡ firsts (λ i. get_or s i 0) n
unfolding firsts
take-firsts zero s h = refl
take-firsts (suc n) [] h = absurd (omega arith)
take-firsts (suc n) (x ∷ s) h = ap {B = List ℕ} (λ l. x ∷ l) (take-firsts n s (omega arith))
