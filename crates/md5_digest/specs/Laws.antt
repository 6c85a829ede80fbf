-- The laws of a digest under way, and no definition: `feed` twice is `feed` of both, and a digest under way ends in `md5` of all that
-- was fed. They stand here since an `impl` may cite the specs/ of its crate, and not the proofs/. All rest on `run-append`: after w, the
-- whole blocks of w ++ v are those of w and then those of what w left over with v. Assumes nothing.
use Rattle.std.proofs.Common.{◌≡◌, ℕ, zero, suc, ◌+◌, ◌-◌, ◌*◌, ◌/◌, ◌%◌, ◌^◌, ◌≤◌, List, [], ◌∷◌, ◌++◌, length, take, drop, replicate, sym, refl, ap, ◌∙◌, ap₂, append_assoc, suc-mul, add_comm, suc-add, zero-add, arith, length-append, length-drop, length-take-le, drop-drop, take_at}
use lib.Seq.{take-append-le, drop-append-le}
use Rattle.md5_digest.specs.declared.Md5.{Md5}
use Rattle.md5_digest.specs.Rfc1321.{block_of, blocks, run, word_bytes, padding_bits, length_bytes, padding, output, md5, start}
use Rattle.md5_digest.specs.Pieces.{rest, fill, held, fresh, feed, finish_of}

-- ---- whole blocks

pub blocks-add : (j k : ℕ) (w st : List ℕ) → blocks (j + k) w st ≡ blocks k (drop (j * 64) w) (blocks j w st)
unfolding blocks
blocks-add zero k w st = rw zero-add
blocks-add (suc j) k w st =
    rw (suc-add, suc-mul, add_comm (j * 64) 64)
    (blocks-add j k (drop 64 w) (block_of (take 64 w) st) ∙ rw drop-drop)

blocks-append : (k : ℕ) (w v st : List ℕ) → k * 64 ≤ length w → blocks k (w ++ v) st ≡ blocks k w st
unfolding blocks
blocks-append zero w v st h = refl
blocks-append (suc k) w v st h =
    let big : 64 ≤ length w = omega (arith, suc-mul k 64) in
    let less : k * 64 ≤ length (drop 64 w) = simp length-drop (omega (arith, suc-mul k 64)) in
    rw (take-append-le 64 w v big, drop-append-le 64 w v big) (blocks-append k (drop 64 w) v (block_of (take 64 w) st) less)

module _ (w v : List ℕ) where
  whole-blocks : length (w ++ v) / 64 ≡ length w / 64 + length (rest w ++ v) / 64
  unfolding rest
  whole-blocks = simp (length-append, length-drop) (omega arith)

  past-blocks : drop (length w / 64 * 64) (w ++ v) ≡ rest w ++ v
  unfolding rest
  past-blocks = drop-append-le (length w / 64 * 64) w v (omega arith)

  pub run-append : (st : List ℕ) → run (w ++ v) st ≡ run (rest w ++ v) (run w st)
  unfolding run
  run-append st =
      rw whole-blocks
      (blocks-add (length w / 64) (length (rest w ++ v) / 64) (w ++ v) st
      ∙ ap₂ (blocks (length (rest w ++ v) / 64)) past-blocks (blocks-append (length w / 64) w v st (omega arith)))

  rests : rest (w ++ v) ≡ drop (length (rest w ++ v) / 64 * 64) (drop (length w / 64 * 64) (w ++ v))
  unfolding rest
  rests =
      let n : length (w ++ v) / 64 * 64 ≡ length w / 64 * 64 + length (rest w ++ v) / 64 * 64 = omega (arith, whole-blocks) in
      rw (drop-drop, n)

  pub rest-append : rest (w ++ v) ≡ rest (rest w ++ v)
  unfolding rest
  rest-append = rests ∙ ap (drop (length (rest w ++ v) / 64 * 64)) past-blocks

pub length-rest : (w : List ℕ) → length (rest w) ≡ length w % 64
unfolding rest
length-rest w = simp length-drop (omega arith)

-- ---- a digest under way. Its tail has 64 places, by the type of `Md5`

pub same : {s s' t t' : List ℕ} {f f' : ℕ} → s ≡ s' → t ≡ t' → f ≡ f'
    → ◌≡◌ {A = Md5} (record { state = s; tail = t; fed = f }) (record { state = s'; tail = t'; fed = f' })
same es et ef = cc

module _ (m : Md5) (whole : length m.tail ≡ 64) where
  pub length-held : length (held m) ≡ m.fed % 64
  unfolding held
  length-held = length-take-le (m.fed % 64) m.tail (omega arith)

  module _ (a : List ℕ) where
    pub length-fed : length (held m ++ a) ≡ m.fed % 64 + length a
    length-fed = length-append (held m) a ∙ ap (λ (k : ℕ). k + length a) length-held

    held-feed : held (feed m a) ≡ rest (held m ++ a)
    unfolding held feed
    held-feed =
        take_at (rest (held m ++ a)) (replicate (64 - length (rest (held m ++ a))) 0) ((m.fed + length a) % 2 ^ 64 % 64)
        (length-rest (held m ++ a) ∙ ap (λ (k : ℕ). k % 64) length-fed ∙ omega arith)

    -- THEOREM: to feed a and then b is to feed a ++ b
    pub feed-feed : (b : List ℕ) → feed (feed m a) b ≡ feed m (a ++ b)
    unfolding feed
    feed-feed b =
        let w : List ℕ = held m ++ a in
        let e : held (feed m a) ++ b ≡ rest w ++ b = ap (λ (r : List ℕ). r ++ b) held-feed in
        let e' : w ++ b ≡ held m ++ (a ++ b) = append_assoc (held m) a b in
        same
        (ap (λ (r : List ℕ). run r (run w m.state)) e ∙ sym (run-append w b m.state) ∙ ap (λ (r : List ℕ). run r m.state) e')
        (ap fill (ap rest e ∙ sym (rest-append w b) ∙ ap rest e'))
        (omega (arith, length-append a b))

    finish-feed : finish_of (feed m a) ≡ output (run (held m ++ a ++ padding ((m.fed + length a) % 2 ^ 64)) m.state)
    unfolding finish_of feed
    finish-feed =
        let p : List ℕ = padding ((m.fed + length a) % 2 ^ 64) in
        ap (λ (r : List ℕ). output (run (r ++ p) (run (held m ++ a) m.state))) held-feed
        ∙ ap output (sym (run-append (held m ++ a) p m.state))

-- ---- a whole message

fresh-run : (a : List ℕ) → run (held fresh ++ a ++ padding ((fresh.fed + length a) % 2 ^ 64)) fresh.state ≡ run (a ++ padding (length a)) start
unfolding fresh held padding padding_bits length_bytes
fresh-run a =
    let n : (0 + length a) % 2 ^ 64 % 64 ≡ length a % 64 = omega arith in
    let b : (0 + length a) % 2 ^ 64 * 8 % 2 ^ 64 ≡ length a * 8 % 2 ^ 64 = omega arith in
    ap₂ (λ (x y : ℕ). run (a ++ (0x80 ∷ replicate ((119 - x) % 64) 0 ++ (word_bytes (y % 2 ^ 32) ++ word_bytes (y / 2 ^ 32)))) start) n b

pub fresh-whole : length fresh.tail ≡ 64
unfolding fresh
fresh-whole = refl

-- THEOREM: a new digest, fed a and finished, is `md5` of a
pub fresh-fed : (a : List ℕ) → finish_of (feed fresh a) ≡ md5 a
unfolding md5
fresh-fed a = finish-feed fresh fresh-whole a ∙ ap output (fresh-run a)

-- to feed nothing changes nothing
pub feed-none : feed fresh [] ≡ fresh
unfolding fresh feed held rest run blocks
feed-none = refl
