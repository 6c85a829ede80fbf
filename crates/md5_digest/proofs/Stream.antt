-- What `update` and `finish` do to a digest under way, case by case, over the laws of specs/Laws.antt. Assumes nothing.
use Rattle.std.proofs.lemmas.List.{take-replicate}
use Rattle.std.proofs.Common.{◌≡◌, ℕ, zero, suc, ◌+◌, ◌-◌, ◌*◌, ◌/◌, ◌%◌, ◌^◌, ◌<◌, ◌≤◌, List, [], ◌∷◌, ◌++◌, length, take, drop, replicate, sym, refl, ap, ◌∙◌, ap₂, append_assoc, append-nil, arith, length-append, take-append-drop, drop_of_length-le, length-take-le, take_all, fold}
use Rattle.std.specs.Simd.{first_chunks}
use lib.ListN.{replicate-append-replicate}
use lib.Seq.{take-append-add}
use Rattle.md5_digest.specs.declared.Md5.{Md5}
use Rattle.md5_digest.proofs.Bytes.{length-fill}
use Rattle.md5_digest.specs.Rfc1321.{block_of, blocks, run, padding_bits, length_bytes, padding, output}
use Rattle.md5_digest.specs.Pieces.{rest, fill, held, feed, finish_of}
pub use Rattle.md5_digest.specs.Laws.{same, feed-feed, fresh-fed}
use Rattle.md5_digest.specs.Laws.{run-append, rest-append, length-held, length-fed}

-- ---- whole blocks

run_block : (u : List ℕ) → length u ≡ 64 → (st : List ℕ) → run u st ≡ block_of u st
unfolding run blocks
run_block u size st =
    let one : length u / 64 ≡ 1 = omega arith in
    rw one (ap (λ (r : List ℕ). block_of r st) (take_all 64 u (omega arith)))

-- a whole block at the front
module _ (u v : List ℕ) (size : length u ≡ 64) where
  none_left : rest u ≡ []
  unfolding rest
  none_left = drop_of_length-le u {i = length u / 64 * 64} (omega arith)

  run-front : (st : List ℕ) → run (u ++ v) st ≡ run v (block_of u st)
  run-front st = run-append u v st ∙ ap₂ (λ (r q : List ℕ). run (r ++ v) q) none_left (run_block u size st)

  rest-front : rest (u ++ v) ≡ rest v
  rest-front = rest-append u v ∙ ap (λ (r : List ℕ). rest (r ++ v)) none_left

-- less than a block
module _ (u : List ℕ) (size : length u < 64) where
  run_short : (st : List ℕ) → run u st ≡ st
  unfolding run blocks
  run_short st =
      let none : length u / 64 ≡ 0 = omega arith in
      rw none

  rest-short : rest u ≡ u
  unfolding rest
  rest-short =
      let none : length u / 64 * 64 ≡ 0 = omega arith in
      rw none

-- ---- `absorb` over the blocks that `as_chunks` gives

chunks-run : (k : ℕ) (w st : List ℕ) → fold (λ (q b : List ℕ). block_of b q) st (first_chunks 64 k w) ≡ blocks k w st
unfolding blocks
chunks-run zero w st = refl
chunks-run (suc k) w st = chunks-run k (drop 64 w) (block_of (take 64 w) st)

pub absorbed : (w st : List ℕ) {bs : List (List ℕ)} → bs ≡ first_chunks 64 (length w / 64) w → fold (λ (q b : List ℕ). block_of b q) st bs ≡ run w st
unfolding run
absorbed w st e = rw e (chunks-run (length w / 64) w st)

-- ---- a digest under way. Its tail has 64 places, by the type of `Md5`

module _ (m : Md5) (whole : length m.tail ≡ 64) where
  module _ (a : List ℕ) where
    -- `update`, where nothing is held back
    pub feed-even : m.fed % 64 ≡ 0 → {r : Md5} {f : ℕ}
        → r ≡ record { state = run a m.state; tail = fill (rest a); fed = f }
        → f ≡ (m.fed + length a) % 2 ^ 64
        → r ≡ feed m a
    unfolding feed held
    feed-even h e ef = e ∙ rw (h, ef)

    -- where no block is completed
    pub feed-short : m.fed % 64 + length a < 64 → {t : List ℕ} {f : ℕ}
        → t ≡ fill (take (m.fed % 64) m.tail ++ a)
        → f ≡ (m.fed + length a) % 2 ^ 64
        → record { state = m.state; tail = t; fed = f } ≡ feed m a
    unfolding feed held
    feed-short h et ef =
        let short : length (held m ++ a) < 64 = omega (arith, length-fed m whole a) in
        same (sym (run_short (held m ++ a) short m.state)) (et ∙ ap fill (sym (rest-short (held m ++ a) short))) ef

    -- and where the first k bytes of a complete one
    module _ (k : ℕ) (room : k + m.fed % 64 ≡ 64) (long : k ≤ length a) where
      first : List ℕ
      first = take (m.fed % 64) m.tail ++ take k a

      first-whole : length first ≡ 64
      unfolding first
      first-whole =
          length-append (take (m.fed % 64) m.tail) (take k a)
          ∙ ap₂ (λ (x y : ℕ). x + y) (length-take-le (m.fed % 64) m.tail (omega arith)) (length-take-le k a long)
          ∙ omega arith

      filled : fill first ≡ first
      filled = rw first-whole (append-nil first)

      split : held m ++ a ≡ first ++ drop k a
      unfolding first held
      split =
          let h : List ℕ = take (m.fed % 64) m.tail in
          sym (append_assoc h (take k a) (drop k a) ∙ ap (λ (r : List ℕ). h ++ r) (take-append-drop k a))

      pub feed-long : {r : Md5} {u q : List ℕ} {f : ℕ}
          → u ≡ fill (take (m.fed % 64) m.tail ++ take k a)
          → q ≡ block_of u m.state
          → r ≡ record { state = run (drop k a) q; tail = fill (rest (drop k a)); fed = f }
          → f ≡ (m.fed + length a) % 2 ^ 64
          → r ≡ feed m a
      unfolding feed first
      feed-long eu eq e ef =
          e
          ∙ same
          (ap (run (drop k a)) (eq ∙ ap (λ (r : List ℕ). block_of r m.state) (eu ∙ filled))
          ∙ sym (ap (λ (r : List ℕ). run r m.state) split ∙ run-front first (drop k a) first-whole m.state))
          (ap fill (sym (ap rest split ∙ rest-front first (drop k a) first-whole)))
          ef

  -- ---- `finish`

  -- the bytes held back and the bit 1
  bit : List ℕ
  bit = held m ++ 0x80 ∷ []

  length-bit : length bit ≡ m.fed % 64 + 1
  unfolding bit
  length-bit = length-append (held m) (0x80 ∷ []) ∙ ap (λ (k : ℕ). k + 1) (length-held m whole)

  -- the padding, with z zeros
  padded : (z : ℕ) → z ≡ (119 - m.fed % 64) % 64 → held m ++ padding m.fed ≡ bit ++ replicate z 0 ++ length_bytes m.fed
  unfolding padding padding_bits bit
  padded z e =
      ap (λ (k : ℕ). held m ++ (0x80 ∷ replicate k 0 ++ length_bytes m.fed)) (sym e)
      ∙ sym (append_assoc (held m) (0x80 ∷ replicate z 0) (length_bytes m.fed))
      ∙ ap (λ (r : List ℕ). r ++ length_bytes m.fed) (sym (append_assoc (held m) (0x80 ∷ []) (replicate z 0)))

  take-fill : (n z : ℕ) → length bit + z ≡ n → n ≤ 64 → take n (fill bit) ≡ bit ++ replicate z 0
  take-fill n z e h =
      ap (λ (k : ℕ). take k (fill bit)) (sym e) ∙ take-append-add bit (replicate (64 - length bit) 0) z
      ∙ ap (λ (r : List ℕ). bit ++ r) (take-replicate z (64 - length bit) 0 (omega arith))

  -- the length's bytes are eight, and what `lay` gives is a whole block
  length-length_bytes : length (length_bytes m.fed) ≡ 8
  unfolding length_bytes
  length-length_bytes = refl

  length-last : length (fill bit) ≡ 64
  length-last = length-fill bit (omega (arith, length-bit))

  -- where the length fits the block
  pub finish-short : m.fed % 64 < 56 → {u v : List ℕ}
      → u ≡ fill (take (m.fed % 64) m.tail ++ 0x80 ∷ [])
      → v ≡ take 56 u ++ length_bytes m.fed
      → output (block_of v m.state) ≡ finish_of m
  unfolding finish_of bit held
  finish-short h {u} {v} eu ev =
      let z : ℕ = 55 - m.fed % 64 in
      let front : take 56 (fill bit) ≡ bit ++ replicate z 0 = take-fill 56 z (omega (arith, length-bit)) (omega (arith, length-bit)) in
      let fits : length (take 56 u) ≡ 56 = length-take-le 56 u (omega (arith, ap length eu ∙ length-last)) in
      let size : length v ≡ 64 = ap length ev ∙ length-append (take 56 u) (length_bytes m.fed) ∙ ap₂ (λ (x y : ℕ). x + y) fits length-length_bytes in
      ap output (sym (run_block v size m.state))
      ∙ ap (λ (r : List ℕ). output (run r m.state))
      (ev ∙ ap (λ (r : List ℕ). r ++ length_bytes m.fed) (ap (take 56) eu ∙ front) ∙ sym (padded z (omega arith)))

  -- and where it does not
  pub finish-long : 56 ≤ m.fed % 64 → {u v : List ℕ}
      → u ≡ fill (take (m.fed % 64) m.tail ++ 0x80 ∷ [])
      → v ≡ replicate 56 0 ++ length_bytes m.fed
      → output (block_of v (block_of u m.state)) ≡ finish_of m
  unfolding finish_of bit held
  finish-long h {u} {v} eu ev =
      let l : List ℕ = length_bytes m.fed in
      let y : ℕ = 64 - length bit in
      let joined : bit ++ replicate (y + 56) 0 ++ l ≡ u ++ v =
      ap (λ (r : List ℕ). bit ++ r ++ l) (sym (replicate-append-replicate y 56 0))
      ∙ ap (λ (r : List ℕ). r ++ l) (sym (append_assoc bit (replicate y 0) (replicate 56 0)))
      ∙ append_assoc (bit ++ replicate y 0) (replicate 56 0) l
      ∙ sym (ap₂ (λ (r s : List ℕ). r ++ s) eu ev) in
      let size : length v ≡ 64 = ap length ev ∙ length-append (replicate 56 0) l ∙ ap (λ (k : ℕ). 56 + k) length-length_bytes in
      ap output
      (sym (run_block v size (block_of u m.state))
      ∙ sym (run-front u v (ap length eu ∙ length-last) m.state)
      ∙ ap (λ (r : List ℕ). run r m.state) (sym (padded (y + 56) (omega (arith, length-bit)) ∙ joined)))
