-- Slots of the store: what a new row's data writes, and what it leaves.
use Rattle.std.proofs.Common.{◌≡◌, ℕ, suc, ◌+◌, ◌-◌, ◌*◌, ◌<◌, ◌≤◌, ltb, List, ◌++◌, length, take, drop, ap, append_assoc, arith, drop-drop, drop_at, length-take-le, ltb-false, ltb-true, mul-le-mul_right, sym, take-append-drop, take_all, take_at, ◌∙◌}
use Rattle.std.proofs.Math.Seq.{paste}
use Rattle.std.proofs.lemmas.List.Edits.{drop-paste, length-paste}
use Rattle.format.specs.Bytes.{part}
use Rattle.rules.specs.Rows.{slot_data}
use Rattle.rules.proofs.Tests.{by-test}
use Rattle.rules.proofs.Runs.{part-append}

-- n bytes of d, pasted into the store from position p on
module _ (p n : ℕ) (d store : List ℕ) (fits : p + n ≤ length store) (long : n ≤ length d) where
  front : length (take p store) ≡ p
  front = length-take-le p store (omega arith)

  parted : paste store p d n ≡ take p store ++ (take n d ++ drop (p + n) store)
  parted = append_assoc (take p store) (take n d) (drop (p + n) store)

  here : part p n (paste store p d n) ≡ take n d
  here =
      ap (part p n) parted ∙ ap (take n) (drop_at (take p store) (take n d ++ drop (p + n) store) p front)
      ∙ take_at (take n d) (drop (p + n) store) n (length-take-le n d long)

  before : (q m : ℕ) → q + m ≤ p → part q m (paste store p d n) ≡ part q m store
  before q m h =
      ap (part q m) parted ∙ part-append q m (take p store) (take n d ++ drop (p + n) store) (rw front h)
      ∙ sym (part-append q m (take p store) (drop p store) (rw front h))
      ∙ ap (part q m) (take-append-drop p store)

  behind : (q m : ℕ) → p + n ≤ q → part q m (paste store p d n) ≡ part q m store
  behind q m h =
      let e : p + n + (q - (p + n)) ≡ q = omega arith in
      let on : drop (p + n + (q - (p + n))) (paste store p d n) ≡ drop (p + n + (q - (p + n))) store =
      sym (drop-drop (q - (p + n)) (p + n) (paste store p d n))
      ∙ ap (drop (q - (p + n))) (drop-paste store p d n (omega arith) long)
      ∙ drop-drop (q - (p + n)) (p + n) store
      in
      ap (take m) (rw e at on)

-- the slots of a store, each of size bytes; d goes to slot t
module _ (size capacity t : ℕ) (d store : List ℕ) (sized : length d ≡ size) (low : t < capacity) (long : capacity * size ≤ length store) where
  fits : t * size + size ≤ length store
  fits = omega (arith, mul-le-mul_right size low)

  pub slot-length : length (paste store (t * size) d size) ≡ length store
  slot-length = length-paste store (t * size) d size fits (omega arith)

  pub slot-here : slot_data size (paste store (t * size) d size) t ≡ d
  slot-here = here (t * size) size d store fits (omega arith) ∙ take_all size d (omega arith)

  pub slot-other : (s : ℕ) → (s ≡ t → ⊥) → slot_data size (paste store (t * size) d size) s ≡ slot_data size store s
  slot-other s n =
      by-test (ltb s t)
      (λ l. before (t * size) size d store fits (omega arith) (s * size) size (omega (arith, mul-le-mul_right size (ltb-true s t l))))
      (λ l. behind (t * size) size d store fits (omega arith) (s * size) size
      (omega (arith, mul-le-mul_right {m = suc t} {n = s} size (omega (arith, n, ltb-false s t l)))))
