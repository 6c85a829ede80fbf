-- How the bytes of a message go into the register: one, or a word, by the rows of a table, sixteen as four words apart, and chunk by chunk.
-- Assumes nothing.
use mathlib.Core.Path.{◌≡◌, refl, sym, ap, ◌∙◌}
use mathlib.Core.List.{List, [], ◌∷◌}
use Prim.Native.Nat.{ℕ, zero, suc, ◌+◌, ◌*◌, ◌/◌, ◌%◌, ◌^◌, ◌≤◌, ◌<◌}
use native.Mathlib.Nat.{zero-mul, suc-mul}
use native.Mathlib.Numerals.{add-one}
use native.Mathlib.Omega.{arith}
use lib.Bits.{bit_xor, xor_assoc, xor_comm, xor_shifted}
use lib.ListN.{length, get_or, take, drop, take-append-drop, drop_of_length-le}
use lib.Pow.{shr-shr}
use lib.Seq.{drop-cons, drop-drop}
use Rattle.crc32.specs.Crc.{steps, crc_of}
use Rattle.crc32.specs.Table.{word_at}
use Rattle.crc32.proofs.Linear.{steps-xor, steps-add, steps-out, steps_low}
use Rattle.crc32.proofs.Lists.{firsts, take-firsts}
use Rattle.std.proofs.Common.{fold}
use Rattle.std.specs.Int.{w32, to_be_bytes}
use Rattle.std.specs.Simd.{first_chunks}
use Rattle.crc32.specs.Laws.{crc-append}

-- ---- parts of a message

crc-nil : (r : ℕ) → crc_of r [] ≡ r
unfolding crc_of
crc-nil r = refl

pub crc-end : (s : List ℕ) (i q : ℕ) → length s ≤ i → crc_of q (drop i s) ≡ q
crc-end s i q h = rw drop_of_length-le (crc-nil q)

-- byte by byte
pub crc-bytes : (r : ℕ) (s : List ℕ) {u : ℕ} → u ≡ fold (λ q b. steps 8 (bit_xor q b)) r s → u ≡ crc_of r s
unfolding crc_of
crc-bytes r [] e = e
crc-bytes r (b ∷ s) e = crc-bytes (steps 8 (bit_xor r b)) s e

-- the first k chunks of n bytes, and then the rest
crc-front : (n k r : ℕ) (s : List ℕ) → crc_of (fold crc_of r (first_chunks n k s)) (drop (k * n) s) ≡ crc_of r s
crc-front n zero r s = rw zero-mul
crc-front n (suc k) r s =
    let more : suc k * n ≡ n + k * n = omega (arith, suc-mul k n) in
    rw (more, ← drop-drop, crc-front n k (crc_of r (take n s)) (drop n s), ← crc-append, take-append-drop)

pub crc-chunks : (n k r : ℕ) (s : List ℕ) {front : List (List ℕ)} {back : List ℕ} {q u : ℕ}
    → front ≡ first_chunks n k s → back ≡ drop (k * n) s → u ≡ crc_of q back → q ≡ fold crc_of r front → u ≡ crc_of r s
crc-chunks n k r s ef eb eu eq = rw (eu, eq, ef, eb) (crc-front n k r s)

-- ---- by the table

pub byte-law : (x : ℕ) {p : ℕ} → p ≡ steps 8 (x % 2 ^ 8) → bit_xor (x / 2 ^ 8) p ≡ steps 8 x
unfolding steps
byte-law x h = cc (steps_low 8 0 x)

-- each w bits of x by the row for the bits after them
pub four-law : (w k x : ℕ) {p q r s : ℕ}
    → p ≡ steps (w * (k + 1)) (x / 2 ^ (w + w + w))
    → q ≡ steps (w * (k + 1 + 1)) (x / 2 ^ (w + w) % 2 ^ w)
    → r ≡ steps (w * (k + 2 + 1)) (x / 2 ^ w % 2 ^ w)
    → s ≡ steps (w * (k + 3 + 1)) (x % 2 ^ w)
    → bit_xor (bit_xor (bit_xor p q) r) s ≡ steps (w * (k + 4)) x
four-law w k x hp hq hr hs =
    let n₂ : k + 1 + 1 ≡ k + 2 = omega arith in
    let n₃ : k + 2 + 1 ≡ k + 3 = omega arith in
    let n₄ : k + 3 + 1 ≡ k + 4 = omega arith in
    cc (
      steps_low w (k + 3) x,
      steps_low w (k + 2) (x / 2 ^ w),
      steps_low w (k + 1) (x / 2 ^ (w + w)),
      shr-shr x w w,
      shr-shr x (w + w) w,
    )

-- the bytes of a word, the highest first
pub bytes-law : (k x : ℕ) (bs : List ℕ) {p q r s : ℕ} → x < 2 ^ 32 → bs ≡ to_be_bytes w32 x
    → p ≡ steps (8 * (k + 1)) (get_or bs 0 0)
    → q ≡ steps (8 * (k + 1 + 1)) (get_or bs 1 0)
    → r ≡ steps (8 * (k + 2 + 1)) (get_or bs 2 0)
    → s ≡ steps (8 * (k + 3 + 1)) (get_or bs 3 0)
    → bit_xor (bit_xor (bit_xor p q) r) s ≡ steps (8 * (k + 4)) x
bytes-law k x bs small eb hp hq hr hs =
    let at : (i v : ℕ) → get_or (to_be_bytes w32 x) i 0 ≡ v → get_or bs i 0 ≡ v = λ i v e. ap (λ (l : List ℕ). get_or l i 0) eb ∙ e in
    four-law 8 k x
    (hp ∙ ap (steps (8 * (k + 1))) (at 0 _ (omega arith)))
    (hq ∙ ap (steps (8 * (k + 1 + 1))) (at 1 _ (omega arith)))
    (hr ∙ ap (steps (8 * (k + 2 + 1))) (at 2 _ (omega arith)))
    (hs ∙ ap (steps (8 * (k + 3 + 1))) (at 3 _ (omega arith)))

-- ---- words

-- what comes in after k bits goes its own way
apart : (n k x w : ℕ) → steps n (bit_xor (steps k x) w) ≡ bit_xor (steps n w) (steps (k + n) x)
apart n k x w = cc (xor_comm (steps k x) w, steps-xor n w (steps k x), steps-add k n x)

-- a byte b, and m after it, at once
join : (n r b m : ℕ) → b < 256 → steps n (bit_xor (steps 8 (bit_xor r b)) m) ≡ steps (8 + n) (bit_xor r (m * 2 ^ 8 + b))
join n r b m h =
    cc (
      apart n 8 (bit_xor r b) m,
      steps-out 8 m,
      steps-add 8 n (m * 2 ^ 8),
      steps-xor (8 + n) (m * 2 ^ 8) (bit_xor r b),
      xor_comm (m * 2 ^ 8) (bit_xor r b),
      xor_assoc r b (m * 2 ^ 8),
      xor_comm b (m * 2 ^ 8),
      xor_shifted m 8 b h,
    )

-- four bytes as a word
word-law : (r d : ℕ) (bs : List ℕ) {a b c : ℕ} → a < 256 → b < 256 → c < 256
    → crc_of r (a ∷ b ∷ c ∷ d ∷ bs) ≡ crc_of (steps 32 (bit_xor r (a + b * 0x100 + c * 0x1_0000 + d * 0x100_0000))) bs
unfolding crc_of
word-law r d bs {a} {b} {c} ha hb hc =
    let q : ℕ = steps 8 (bit_xor r a) in
    let m : ℕ = d * 2 ^ 8 + c in
    let sum : (m * 2 ^ 8 + b) * 2 ^ 8 + a ≡ a + b * 0x100 + c * 0x1_0000 + d * 0x100_0000 = omega arith in
    ap (λ (p : ℕ). crc_of p bs)
    (join 8 (steps 8 (bit_xor q b)) c d hc ∙ join 16 q b m hb ∙ join 24 r a (m * 2 ^ 8 + b) ha
    ∙ ap (λ (w : ℕ). steps 32 (bit_xor r w)) sum)

-- the word at i, and then the rest
pub crc-word : (s : List ℕ) (i q : ℕ) {w u : ℕ} → i + 4 ≤ length s → ((j : ℕ) → get_or s j 0 < 256)
    → w ≡ word_at s i → u ≡ steps 32 (bit_xor q w) → crc_of u (drop (i + 4) s) ≡ crc_of q (drop i s)
crc-word s i q h bytes ew eu =
    let n₂ : i + 2 ≡ suc (i + 1) = omega arith in
    let n₃ : i + 3 ≡ suc (i + 2) = omega arith in
    let n₄ : i + 4 ≡ suc (i + 3) = omega arith in
    rw (
      eu,
      ew,
      drop-cons s i 0 (omega arith),
      ← add-one i,
      drop-cons s (i + 1) 0 (omega arith),
      ← n₂,
      drop-cons s (i + 2) 0 (omega arith),
      ← n₃,
      drop-cons s (i + 3) 0 (omega arith),
      ← n₄,
    )
    (sym (word-law q _ _ (bytes i) (bytes (i + 1)) (bytes (i + 2))))

words-law : (x a b c : ℕ)
    → steps 32 (bit_xor (steps 32 (bit_xor (steps 32 (bit_xor (steps 32 x) a)) b)) c)
    ≡ bit_xor (bit_xor (bit_xor (steps 32 c) (steps 64 b)) (steps 96 a)) (steps 128 x)
words-law x a b c =
    apart 32 32 (bit_xor (steps 32 (bit_xor (steps 32 x) a)) b) c
    ∙ ap (bit_xor (steps 32 c)) (apart 64 32 (bit_xor (steps 32 x) a) b ∙ ap (bit_xor (steps 64 b)) (apart 96 32 x a))
    ∙ sym (xor_assoc (bit_xor (steps 32 c) (steps 64 b)) (steps 96 a) (steps 128 x)
    ∙ xor_assoc (steps 32 c) (steps 64 b) (bit_xor (steps 96 a) (steps 128 x)))

-- sixteen bytes as four words
pub sixteen-law : (s : List ℕ) (r : ℕ) {a b c d w x y z : ℕ} → 16 ≤ length s → ((i : ℕ) → get_or s i 0 < 256)
    → a ≡ word_at s 12 → w ≡ steps 32 a
    → b ≡ word_at s 8 → x ≡ steps 64 b
    → c ≡ word_at s 4 → y ≡ steps 96 c
    → d ≡ word_at s 0 → z ≡ steps 128 (bit_xor r d)
    → bit_xor (bit_xor (bit_xor w x) y) z ≡ crc_of r (take 16 s)
unfolding firsts
sixteen-law s r h bytes ha hw hb hx hc hy hd hz =
    rw (hw, ha, hx, hb, hy, hc, hz, hd)
    (sym (ap (crc_of r) (take-firsts 16 s h)
    ∙ word-law _ _ _ (bytes 0) (bytes 1) (bytes 2)
    ∙ word-law _ _ _ (bytes 4) (bytes 5) (bytes 6)
    ∙ word-law _ _ _ (bytes 8) (bytes 9) (bytes 10)
    ∙ word-law _ _ _ (bytes 12) (bytes 13) (bytes 14)
    ∙ crc-nil _
    ∙ words-law (bit_xor r (word_at s 0)) (word_at s 4) (word_at s 8) (word_at s 12)))
