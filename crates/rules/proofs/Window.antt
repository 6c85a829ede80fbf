-- Where the scan goes on in junk: to the first place of the window of 64 bytes from which on it equals the start of the magic, else past the window.
use Rattle.std.proofs.Common.{◌≡◌, ℕ, zero, suc, ◌+◌, ◌-◌, ◌<◌, ◌≤◌, true, false, List, [], ◌∷◌, ◌++◌, length, take, drop, ap, arith, drop-drop, length-drop, length-take, sym, ◌∙◌}
use Rattle.std.proofs.lemmas.Bool.{cond_both}
use Rattle.std.proofs.lemmas.Slice.{between_is}
use Rattle.format.specs.Bytes.{part}
use Rattle.format.specs.Packet.{magic}
use Rattle.rules.specs.Scan.{agree, stray, resync}
use Rattle.rules.proofs.Tests.{by-test}
use Rattle.rules.proofs.Runs.{agree-take}

-- ---- The place that is found is the first

stray-no : (xs : List ℕ) (i : ℕ) → i < stray xs → agree (drop i xs) magic ≡ false
unfolding stray
stray-no [] i l = absurd (omega arith)
stray-no (x ∷ xs) zero l = by-test (agree (x ∷ xs) magic) (λ t. absurd (omega (arith, rw t at l))) (λ t. t)
stray-no (x ∷ xs) (suc i) l =
    by-test (agree (x ∷ xs) magic) (λ t. absurd (omega (arith, rw t at l))) (λ t. stray-no xs i (omega (arith, rw t at l)))

stray-yes : (xs : List ℕ) → stray xs < length xs → agree (drop (stray xs) xs) magic ≡ true
unfolding stray
stray-yes [] l = absurd (omega arith)
stray-yes (x ∷ xs) l =
    by-test (agree (x ∷ xs) magic) (λ t. rw t t) (λ t. rw t (stray-yes xs (omega (arith, rw t at l))))

-- the bytes from q to p + 63
abbrev pub window : ℕ → List ℕ → List ℕ
window q bs = part q (64 - q) bs

window-is : (i : ℕ) (bs : List ℕ) → drop i (part 1 63 bs) ≡ window (1 + i) bs
window-is i bs =
    sym (between_is (drop 1 bs) i 63)
    ∙ ap (λ (k : ℕ). take k (drop i (drop 1 bs))) {x = 63 - i} {y = 64 - (1 + i)} (omega arith)
    ∙ ap (take (64 - (1 + i))) (drop-drop i 1 bs)

pub resync-no : (bs : List ℕ) (q : ℕ) → 0 < q → q < resync bs → agree (window q bs) magic ≡ false
unfolding resync
resync-no bs zero p l = absurd (omega arith)
resync-no bs (suc i) p l =
    ap (λ (w : List ℕ). agree w magic) (ap (λ (k : ℕ). window k bs) {x = suc i} {y = 1 + i} (omega arith) ∙ sym (window-is i bs))
    ∙ stray-no (part 1 63 bs) i (omega arith)

pub resync-yes : (bs : List ℕ) → 64 ≤ length bs → resync bs < 64 → agree (window (resync bs) bs) magic ≡ true
unfolding resync
resync-yes bs l h =
    ap (λ (w : List ℕ). agree w magic) (sym (window-is (stray (part 1 63 bs)) bs))
    ∙ stray-yes (part 1 63 bs) (omega (arith, length-take 63 (drop 1 bs), length-drop 1 bs))

-- ---- Where what follows junk j is like the magic, no step leads past its start

pub stray-le : (j rest : List ℕ) (n : ℕ) → agree rest magic ≡ true → stray (take n (j ++ rest)) ≤ length j
unfolding stray
stray-le [] rest zero h = omega arith
stray-le [] [] (suc n) h = omega arith
stray-le [] (x ∷ rest) (suc n) h = rw (agree-take (suc n) (x ∷ rest) magic h) (omega arith)
stray-le (x ∷ j) rest zero h = omega arith
stray-le (x ∷ j) rest (suc n) h =
    cond_both (agree (x ∷ take n (j ++ rest)) magic) _ _ (λ k. k ≤ length (x ∷ j)) (λ _. omega arith) (λ _. omega (arith, stray-le j rest n h))

pub resync-at : (x : ℕ) (xs : List ℕ) → resync (x ∷ xs) - 1 ≡ stray (take 63 xs)
unfolding resync
resync-at x xs = omega arith
