-- Parts of runs of bytes, and runs that are like the magic.
use Rattle.std.proofs.Common.{◌≡◌, ℕ, zero, suc, ◌+◌, ◌≤◌, true, eqb, List, [], ◌∷◌, ◌++◌, length, take, drop, ap, arith, eq-eqb, eqb-true, le_of_suc-le-suc, length-drop, refl, ◌∙◌}
use Rattle.std.proofs.lemmas.Bool.{and_from, and_parts, false≢true}
use Rattle.std.proofs.lemmas.List.{drop-append-le, take-append-le}
use Rattle.format.specs.Bytes.{part, same}
use Rattle.rules.specs.Scan.{agree}

-- bytes of a list's front, where something follows
pub part-append : (i n : ℕ) (p q : List ℕ) → i + n ≤ length p → part i n (p ++ q) ≡ part i n p
part-append i n p q h =
    ap (take n) (drop-append-le i p q (omega arith))
    ∙ take-append-le n (drop i p) q (simp length-drop (omega arith))

pub same-eq : (xs ys : List ℕ) → same xs ys ≡ true → xs ≡ ys
unfolding same
same-eq [] [] h = refl
same-eq [] (y ∷ ys) h = absurd (false≢true h)
same-eq (x ∷ xs) [] h = absurd (false≢true h)
same-eq (x ∷ xs) (y ∷ ys) h =
    let e : x ≡ y = eqb-true x y (and_parts (eqb x y) (same xs ys) h).0 in
    let t : xs ≡ ys = same-eq xs ys (and_parts (eqb x y) (same xs ys) h).1 in
    cc

pub eq-same : (xs : List ℕ) → same xs xs ≡ true
unfolding same
eq-same [] = refl
eq-same (x ∷ xs) = and_from (eqb x x) (same xs xs) (eq-eqb x x refl) (eq-same xs)

pub agree-front : (ms q : List ℕ) → agree (ms ++ q) ms ≡ true
unfolding agree
agree-front [] [] = refl
agree-front [] (x ∷ q) = refl
agree-front (m ∷ ms) q = and_from (eqb m m) (agree (ms ++ q) ms) (eq-eqb m m refl) (agree-front ms q)

pub agree-take : (n : ℕ) (xs ms : List ℕ) → agree xs ms ≡ true → agree (take n xs) ms ≡ true
unfolding agree
agree-take zero xs ms h = refl
agree-take (suc n) [] ms h = refl
agree-take (suc n) (x ∷ xs) [] h = refl
agree-take (suc n) (x ∷ xs) (m ∷ ms) h =
    and_from (eqb x m) (agree (take n xs) ms) (and_parts (eqb x m) (agree xs ms) h).0
    (agree-take n xs ms (and_parts (eqb x m) (agree xs ms) h).1)

-- what is like the magic behind xs is like the rest of it
pub agree-drop : (xs ys ms : List ℕ) → agree (xs ++ ys) ms ≡ true → agree ys (drop (length xs) ms) ≡ true
unfolding agree
agree-drop [] ys ms h = h
agree-drop (x ∷ xs) [] [] h = refl
agree-drop (x ∷ xs) (y ∷ ys) [] h = refl
agree-drop (x ∷ xs) ys (m ∷ ms) h = agree-drop xs ys ms (and_parts (eqb x m) (agree (xs ++ ys) ms) h).1

-- a list that is like a shorter one starts with it
pub agree-split : (xs ms : List ℕ) → length ms ≤ length xs → agree xs ms ≡ true → xs ≡ ms ++ drop (length ms) xs
unfolding agree
agree-split xs [] l h = refl
agree-split [] (m ∷ ms) l h = absurd (omega arith)
agree-split (x ∷ xs) (m ∷ ms) l h =
    let e : x ≡ m = eqb-true x m (and_parts (eqb x m) (agree xs ms) h).0 in
    let t : xs ≡ ms ++ drop (length ms) xs = agree-split xs ms (le_of_suc-le-suc l) (and_parts (eqb x m) (agree xs ms) h).1 in
    ap (λ (y : ℕ). y ∷ xs) e ∙ ap (λ (ys : List ℕ). m ∷ ys) t
