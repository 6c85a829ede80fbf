-- The laws of the block function: the words and shift amounts of an operation, G as a sum, an operation as it is computed, a line of a round.
-- Assumes nothing.
use Rattle.std.proofs.Common.{◌≡◌, ℕ, zero, suc, ◌+◌, ◌-◌, ◌*◌, ◌/◌, ◌%◌, ◌^◌, ◌<◌, min, Bool, true, false, T, eqb, ltb, List, [], ◌∷◌, get_or, sym, ap, ◌∙◌, subst, ap₂, ⊎_elim, le_of_suc-le-suc, not-suc-le-zero, eq-zero-or-pos, eq-or-lt_of_le, pow-suc, add-one, arith, eqb→eq, ltb→lt, le-ltb, lt-ltb}
use Rattle.std.specs.Int.{w32, rotate_left}
use lib.Bits.{bit_and, and_step, and_shr, and_zero_r, and_zero_l, or_disjoint}
use Rattle.md5_digest.specs.Rfc1321.{not32, mix_f, mix_g, mix_h, mix_i, mix_of, words, shifts, sines, word_at, step_with, step_of, steps_of}

-- ---- a test that antt computes, at each number below n

abbrev both : Bool → Bool → Bool
both true b = b
both false b = false

both_left : (a b : Bool) → T (both a b) → T a
both_left true b t = tt
both_left false b t = t

both_right : (a b : Bool) → T (both a b) → T b
both_right true b t = t
both_right false b t = absurd t

abbrev pub all_below : (ℕ → Bool) → ℕ → Bool
all_below p zero = true
all_below p (suc n) = both (p n) (all_below p n)

pub all-at : (p : ℕ → Bool) (n : ℕ) → T (all_below p n) → (i : ℕ) → i < n → T (p i)
all-at p zero t i h = absurd (not-suc-le-zero h)
all-at p (suc n) t i h =
    ⊎_elim (λ q. subst (λ (k : ℕ). T (p k)) (sym q) (both_left (p n) (all_below p n) t))
    (λ l. all-at p n (both_right (p n) (all_below p n) t) i l)
    (eq-or-lt_of_le (le_of_suc-le-suc h))

-- the words of the 16 operations of a round are those that k gives
pub get_or-words : (base : ℕ) (k : ℕ → ℕ) → T (all_below (λ n. eqb (get_or words (base + n) 0) (k n)) 16) → (n : ℕ) → n < 16 → get_or words (base + n) 0 ≡ k n
get_or-words base k t n h = eqb→eq (get_or words (base + n) 0) (k n) (all-at (λ n. eqb (get_or words (base + n) 0) (k n)) 16 t n h)

-- a shift amount is neither 0 nor a word's width
in_range : ℕ → Bool
in_range i = both (ltb 0 (get_or shifts i 0)) (ltb (get_or shifts i 0) 32)

all-in-range : T (all_below in_range 64)
unfolding in_range shifts
all-in-range = tt

pub shift-range : (i : ℕ) → i < 64 → (0 < get_or shifts i 0) × (get_or shifts i 0 < 32)
unfolding in_range
shift-range i h =
    let t : T (in_range i) = all-at in_range 64 all-in-range i h in (
      ltb→lt 0 (get_or shifts i 0) (both_left (ltb 0 (get_or shifts i 0)) (ltb (get_or shifts i 0) 32) t),
      ltb→lt (get_or shifts i 0) 32 (both_right (ltb 0 (get_or shifts i 0)) (ltb (get_or shifts i 0) 32) t),
    )

-- ---- G as a sum: its two parts have no bit in common

and-odd : (a b : ℕ) → bit_and a b % 2 ≡ min (a % 2) (b % 2)
and-odd a b = omega (arith, and_step a b)

bit-apart : (x y z : ℕ) → min (min x (z % 2)) (min y (1 - z % 2)) ≡ 0
bit-apart x y z = omega arith

apart : (k b c d : ℕ) → d < 2 ^ k → bit_and (bit_and b d) (bit_and c (2 ^ k - 1 - d)) ≡ 0
apart zero b c d h =
    let e : d ≡ 0 = omega arith in
    ap (λ (x : ℕ). bit_and (bit_and b x) (bit_and c (2 ^ zero - 1 - x))) e
    ∙ ap (λ (x : ℕ). bit_and x (bit_and c (2 ^ zero - 1 - 0))) (and_zero_r b)
    ∙ and_zero_l (bit_and c (2 ^ zero - 1 - 0))
apart (suc k) b c d h =
    let m : ℕ = 2 ^ suc k - 1 - d in
    let two : 2 ^ suc k ≡ 2 ^ k * 2 = pow-suc 2 k in
    let half : m / 2 ≡ 2 ^ k - 1 - d / 2 = omega arith in
    let odd : m % 2 ≡ 1 - d % 2 = omega arith in
    let low : min (bit_and b d % 2) (bit_and c m % 2) ≡ 0 = ap₂ min (and-odd b d) (and-odd c m ∙ ap (min (c % 2)) odd) ∙ bit-apart (b % 2) (c % 2) d in
    and_step (bit_and b d) (bit_and c m)
    ∙ ap₂ (λ (x y : ℕ). x * 2 + y)
    (ap₂ bit_and (and_shr b d 1) (and_shr c m 1 ∙ ap (bit_and (c / 2)) half) ∙ apart k (b / 2) (c / 2) (d / 2) (omega arith)) low

-- also where d is no word: its complement is then 0
apart-any : (b c d : ℕ) → bit_and (bit_and b d) (bit_and c (not32 d)) ≡ 0
apart-any b c d =
    ⊎_elim
    (λ (e : not32 d ≡ 0).
    ap (λ (m : ℕ). bit_and (bit_and b d) (bit_and c m)) e ∙ ap (bit_and (bit_and b d)) (and_zero_r c) ∙ and_zero_r (bit_and b d))
    (λ (h : 0 < not32 d). apart 32 b c d (omega arith))
    (eq-zero-or-pos (not32 d))

pub sum-g : (a b c d x t : ℕ) → (a + bit_and b d + (x + bit_and c (not32 d)) % 2 ^ 32 + t) % 2 ^ 32 ≡ (a + mix_g b c d + x + t) % 2 ^ 32
sum-g a b c d x t = omega (arith, or_disjoint (bit_and b d) (bit_and c (not32 d)) (apart-any b c d))

-- ---- an operation, by its round

-- the code's sum and rotation make an operation
pub step-made : (q : List ℕ) (f x t s : ℕ) {v r : ℕ}
    → v ≡ (get_or q 0 0 + f + (x + t) % 2 ^ 32) % 2 ^ 32
    → r ≡ rotate_left w32 v s
    → 0 < s
    → s < 32
    → get_or q 3 0 ∷ (get_or q 1 0 + r) % 2 ^ 32 ∷ get_or q 1 0 ∷ get_or q 2 0 ∷ [] ≡ step_with f x t s q
unfolding step_with
step-made q f x t s ev er h h' =
    let sums : (get_or q 0 0 + f + (x + t) % 2 ^ 32) % 2 ^ 32 ≡ (get_or q 0 0 + f + x + t) % 2 ^ 32 = omega arith in
    let by : s % 32 ≡ s = omega arith in
    let rest : (32 - s % 32) % 32 ≡ 32 - s = omega arith in
    rw (er, ev, sums, rest, by)

module _ (p q : List ℕ) (base n : ℕ) (k : ℕ) {r : List ℕ} {f x t s : ℕ} where
  pub operation : r ≡ step_with f x t s q
      → f ≡ mix_of (base + n) (get_or q 1 0) (get_or q 2 0) (get_or q 3 0)
      → x ≡ word_at p (4 * k)
      → get_or words (base + n) 0 ≡ k
      → t ≡ get_or sines (base + n) 0
      → s ≡ get_or shifts (base + n) 0
      → r ≡ step_of p (base + n) q
  unfolding step_of
  operation e ef ex ek et es = rw (e, ef, ex, ek, et, es)

module _ (n x y z : ℕ) (h : n < 16) where
  pub mix_f_lem : mix_f x y z ≡ mix_of (0 + n) x y z
  unfolding mix_of
  mix_f_lem = rw (lt-ltb (0 + n) 16 (omega arith))

  pub mix_g_lem : mix_g x y z ≡ mix_of (16 + n) x y z
  unfolding mix_of
  mix_g_lem = rw (le-ltb (16 + n) 16 (omega arith), lt-ltb (16 + n) 32 (omega arith))

  pub mix_h_lem : mix_h x y z ≡ mix_of (32 + n) x y z
  unfolding mix_of
  mix_h_lem = rw (le-ltb (32 + n) 16 (omega arith), le-ltb (32 + n) 32 (omega arith), lt-ltb (32 + n) 48 (omega arith))

  pub mix_i_lem : mix_i x y z ≡ mix_of (48 + n) x y z
  unfolding mix_of
  mix_i_lem = rw (le-ltb (48 + n) 16 (omega arith), le-ltb (48 + n) 32 (omega arith), le-ltb (48 + n) 48 (omega arith))

-- the sum of a round whose function of b, c and d is m
pub sum-made : (base : ℕ) (q : List ℕ) (x : ℕ) {m r : ℕ}
    → ((n : ℕ) → n < 16 → m ≡ mix_of (base + n) (get_or q 1 0) (get_or q 2 0) (get_or q 3 0))
    → r ≡ (get_or q 0 0 + m + x) % 2 ^ 32
    → (n : ℕ) → n < 16 → r ≡ (get_or q 0 0 + mix_of (base + n) (get_or q 1 0) (get_or q 2 0) (get_or q 3 0) + x) % 2 ^ 32
sum-made base q x em er n h = rw (← em n h, er)

-- ---- a round, by its operations

module _ (p : List ℕ) (i : ℕ) (st : List ℕ) where
  step-more : (n m : ℕ) {q r : List ℕ} → m ≡ n + 1 → q ≡ steps_of p i n st → r ≡ step_of p (i + n) q → r ≡ steps_of p i m st
  unfolding steps_of
  step-more n m e eq er = er ∙ rw (e, add-one, eq)

  pub line-more : (j : ℕ) {q a b c d : List ℕ}
      → q ≡ steps_of p i (4 * j) st
      → a ≡ step_of p (i + (4 * j + 0)) q
      → d ≡ step_of p (i + (4 * j + 1)) a
      → c ≡ step_of p (i + (4 * j + 2)) d
      → b ≡ step_of p (i + (4 * j + 3)) c
      → b ≡ steps_of p i (4 * (j + 1)) st
  line-more j eq ea ed ec eb =
      let first : 4 * j ≡ 4 * j + 0 = omega arith in
      step-more (4 * j + 3) (4 * (j + 1)) (omega arith)
      (step-more (4 * j + 2) (4 * j + 3) (omega arith)
      (step-more (4 * j + 1) (4 * j + 2) (omega arith) (step-more (4 * j + 0) (4 * j + 1) (omega arith) (eq ∙ ap (λ (n : ℕ). steps_of p i n st) first) ea) ed) ec) eb
