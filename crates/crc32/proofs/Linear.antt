-- The register's bit steps are linear over xor: so a register's bytes can be looked up apart. Assumes nothing.
use mathlib.Core.Path.{◌≡◌, refl, ap, ap₂, ◌∙◌}
use Prim.Native.Nat.{ℕ, zero, suc, ◌+◌, ◌*◌, ◌/◌, ◌%◌, ◌^◌, ◌<◌}
use native.Mathlib.Nat.{mul-one, mul-add, mod-lt, suc-add, zero-add}
use native.Mathlib.Omega.{arith}
use lib.Bits.{bit_xor, xor_assoc, xor_shr, xor_mod, xor_comm, xor_zero_r, xor_shifted, shifted_half, shifted_even}
use lib.Pow.{pow_pos, split}
use Rattle.crc32.specs.Crc.{polynomial, bit_step, steps}

-- ---- xor

xor-swap : (p q r s : ℕ) → bit_xor (bit_xor p q) (bit_xor r s) ≡ bit_xor (bit_xor p r) (bit_xor q s)
xor-swap p q r s = cc (xor_assoc p q (bit_xor r s), xor_assoc q r s, xor_comm q r, xor_assoc r q s, xor_assoc p r (bit_xor q s))

-- ---- a step is linear

digit : (P : ℕ → Type 0) → P 0 → P 1 → (n : ℕ) → n < 2 → P n
digit P p q zero h = p
digit P p q (suc zero) h = q
digit P p q (suc (suc n)) h = absurd (omega arith)

taps : (x y : ℕ) → bit_xor x y % 2 * polynomial ≡ bit_xor (x % 2 * polynomial) (y % 2 * polynomial)
taps x y =
    ap (λ (u : ℕ). u * polynomial) (xor_mod x y 1)
    ∙ digit
    (λ (u : ℕ). bit_xor u (y % 2) * polynomial ≡ bit_xor (u * polynomial) (y % 2 * polynomial))
    refl
    (digit (λ (v : ℕ). bit_xor 1 v * polynomial ≡ bit_xor polynomial (v * polynomial)) refl refl (y % 2) (omega arith))
    (x % 2)
    (omega arith)

step-xor : (x y : ℕ) → bit_step (bit_xor x y) ≡ bit_xor (bit_step x) (bit_step y)
unfolding bit_step
step-xor x y = ap₂ bit_xor (xor_shr x y 1) (taps x y) ∙ xor-swap (x / 2) (y / 2) (x % 2 * polynomial) (y % 2 * polynomial)

pub steps-xor : (n x y : ℕ) → steps n (bit_xor x y) ≡ bit_xor (steps n x) (steps n y)
unfolding steps
steps-xor zero x y = refl
steps-xor (suc n) x y = ap (steps n) (step-xor x y) ∙ steps-xor n (bit_step x) (bit_step y)

pub steps-add : (m n x : ℕ) → steps (m + n) x ≡ steps n (steps m x)
unfolding steps
steps-add zero n x = ap (λ (k : ℕ). steps k x) (zero-add n)
steps-add (suc m) n x = ap (λ (k : ℕ). steps k x) (suc-add m n) ∙ steps-add m n (bit_step x)

-- ---- the low w bits and the rest

step-even : (h n : ℕ) → bit_step (h * 2 ^ suc n) ≡ h * 2 ^ n
unfolding bit_step
step-even h n =
    ap₂ (λ (u v : ℕ). bit_xor u (v * polynomial)) (shifted_half h n) (shifted_even h n) ∙ xor_zero_r (h * 2 ^ n)

-- zeros go out
pub steps-out : (n h : ℕ) → steps n (h * 2 ^ n) ≡ h
unfolding steps
steps-out zero h = mul-one h
steps-out (suc n) h = ap (steps n) (step-even h n) ∙ steps-out n h

pub steps_low : (w k x : ℕ) → steps (w * (k + 1)) x ≡ bit_xor (steps (w * k) (x / 2 ^ w)) (steps (w * (k + 1)) (x % 2 ^ w))
steps_low w k x =
    let more : w * (k + 1) ≡ w + w * k = omega (arith, mul-add w k 1) in
    cc (
      xor_shifted (x / 2 ^ w) w (x % 2 ^ w) (mod-lt x (pow_pos w)),
      split x w,
      steps-xor (w * (k + 1)) (x / 2 ^ w * 2 ^ w) (x % 2 ^ w),
      steps-add w (w * k) (x / 2 ^ w * 2 ^ w),
      steps-out w (x / 2 ^ w),
    )
