-- Lists of numbers as sets: membership, repeats, the highest, one taken out, and the first free number.
use Rattle.std.proofs.Common.{◌≡◌, ℕ, zero, suc, ◌+◌, ◌≤◌, true, false, cond, eqb, leb, List, [], ◌∷◌, ◌++◌, length, add-one, ap, arith, eq-eqb, eqb-true, leb-false, leb-true, refl, subst, sym, ◌∙◌}
use Rattle.std.proofs.Math.Nat.{max-zero}
use Rattle.std.proofs.lemmas.Bool.{both_ways, eqb-false, false_from_ne_true, false≢true, or_from, or_left, or_parts, or_right}
use Rattle.std.proofs.lemmas.List.FromFn.{length-range_with_len}
use Rattle.std.specs.List.{range_with_len}
use Rattle.rules.specs.Rows.{has, highest, free_from}
use Rattle.rules.specs.Reader.{repeats}
use Rattle.rules.proofs.Tests.{by-test, or_elim}

-- x stands in the list, and x doesn't
abbrev pub In : ℕ → List ℕ → Type 0
In x xs = has x xs ≡ true

abbrev pub Out : ℕ → List ℕ → Type 0
Out x xs = has x xs ≡ false

pub in_head : (x : ℕ) (xs : List ℕ) → In x (x ∷ xs)
unfolding has
in_head x xs = or_left (eqb x x) (has x xs) (eq-eqb x x refl)

pub in_tail : (x y : ℕ) (xs : List ℕ) → In x xs → In x (y ∷ xs)
unfolding has
in_tail x y xs h = or_right (eqb x y) (has x xs) h

pub in-cons : {P : Type 0} (x y : ℕ) (xs : List ℕ) → In x (y ∷ xs) → (x ≡ y → P) → (In x xs → P) → P
unfolding has
in-cons x y xs h f g = or_elim (eqb x y) (has x xs) h (λ e. f (eqb-true x y e)) g

pub in-nil : {P : Type 0} (x : ℕ) → In x [] → P
unfolding has
in-nil x h = absurd (false≢true h)

pub in_append_left : (x : ℕ) (xs ys : List ℕ) → In x xs → In x (xs ++ ys)
in_append_left x [] ys h = in-nil x h
in_append_left x (y ∷ xs) ys h =
    in-cons x y xs h (λ e. rw e (in_head y (xs ++ ys))) (λ t. in_tail x y (xs ++ ys) (in_append_left x xs ys t))

pub in_append_right : (x : ℕ) (xs ys : List ℕ) → In x ys → In x (xs ++ ys)
in_append_right x [] ys h = h
in_append_right x (y ∷ xs) ys h = in_tail x y (xs ++ ys) (in_append_right x xs ys h)

pub in-append : {P : Type 0} (x : ℕ) (xs ys : List ℕ) → In x (xs ++ ys) → (In x xs → P) → (In x ys → P) → P
in-append x [] ys h f g = g h
in-append x (y ∷ xs) ys h f g =
    in-cons x y (xs ++ ys) h (λ e. f (rw e (in_head y xs))) (λ t. in-append x xs ys t (λ u. f (in_tail x y xs u)) g)

-- at the end of a list
pub in-last : {P : Type 0} (x : ℕ) (xs : List ℕ) (y : ℕ) → In x (xs ++ (y ∷ [])) → (In x xs → P) → (x ≡ y → P) → P
in-last x xs y h f g = in-append x xs (y ∷ []) h f (λ t. in-cons x y [] t g (λ u. in-nil x u))

pub different : (x y : ℕ) (xs : List ℕ) → In x xs → Out y xs → x ≡ y → ⊥
different x y xs h o e = both_ways (has y xs) o (rw (← e) h)

-- what ys has not, xs has not, if xs has it only where ys does
pub out_of : (x : ℕ) (xs ys : List ℕ) → (In x xs → In x ys) → Out x ys → Out x xs
out_of x xs ys f o = false_from_ne_true (has x xs) (λ t. both_ways (has x ys) o (f t))

-- repeats
pub repeats-nil : repeats [] ≡ false
unfolding repeats
repeats-nil = refl

pub repeats-cons : (x : ℕ) (xs : List ℕ) → Out x xs → repeats xs ≡ false → repeats (x ∷ xs) ≡ false
unfolding repeats
repeats-cons x xs o r = or_from (has x xs) (repeats xs) o r

pub repeats-head : (x : ℕ) (xs : List ℕ) → repeats (x ∷ xs) ≡ false → Out x xs
unfolding repeats
repeats-head x xs r = (or_parts (has x xs) (repeats xs) r).0

pub repeats-tail : (x : ℕ) (xs : List ℕ) → repeats (x ∷ xs) ≡ false → repeats xs ≡ false
unfolding repeats
repeats-tail x xs r = (or_parts (has x xs) (repeats xs) r).1

pub repeats-last : (xs : List ℕ) (y : ℕ) → repeats xs ≡ false → Out y xs → repeats (xs ++ (y ∷ [])) ≡ false
repeats-last [] y r o = repeats-cons y [] o repeats-nil
repeats-last (x ∷ xs) y r o =
    repeats-cons x (xs ++ (y ∷ []))
    (false_from_ne_true (has x (xs ++ (y ∷ [])))
    (λ h. in-last x xs y h
    (λ t. both_ways (has x xs) (repeats-head x xs r) t)
    (λ e. both_ways (has y (x ∷ xs)) o (rw (← e) (in_head x xs)))))
    (repeats-last xs y (repeats-tail x xs r) (out_of y xs (x ∷ xs) (in_tail y x xs) o))

-- the highest
pub le-highest : (x : ℕ) (xs : List ℕ) → In x xs → x ≤ highest xs
unfolding highest
le-highest x [] h = in-nil x h
le-highest x (y ∷ xs) h = in-cons x y xs h (λ e. omega arith) (λ t. omega (arith, le-highest x xs t))

pub highest-in : (x : ℕ) (xs : List ℕ) → In (highest (x ∷ xs)) (x ∷ xs)
unfolding highest
highest-in x [] = rw (max-zero x) (in_head x [])
highest-in x (y ∷ xs) =
    by-test (leb (highest (y ∷ xs)) x)
    (λ t. subst (λ (m : ℕ). In m (x ∷ y ∷ xs)) (omega (arith, leb-true (highest (y ∷ xs)) x t)) (in_head x (y ∷ xs)))
    (λ t. subst (λ (m : ℕ). In m (x ∷ y ∷ xs)) (omega (arith, leb-false (highest (y ∷ xs)) x t)) (in_tail (highest (y ∷ xs)) x (y ∷ xs) (highest-in y xs)))

-- the list without x, where it stands first
unfoldable pub del : ℕ → List ℕ → List ℕ
del x [] = []
del x (y ∷ ys) = cond (eqb y x) ys (y ∷ del x ys)

pub del-length : (x : ℕ) (ys : List ℕ) → In x ys → length ys ≡ suc (length (del x ys))
unfolding del
del-length x [] h = in-nil x h
del-length x (y ∷ ys) h =
    by-test (eqb y x)
    (λ t. rw t)
    (λ t. rw t (in-cons x y ys h (λ e. absurd (eqb-false y x t (sym e))) (λ u. ap suc (del-length x ys u))))

pub del-in : (z x : ℕ) (ys : List ℕ) → In z (del x ys) → In z ys
unfolding del
del-in z x [] h = in-nil z h
del-in z x (y ∷ ys) h =
    by-test (eqb y x)
    (λ t. in_tail z y ys (rw t at h))
    (λ t. in-cons z y (del x ys) (rw t at h) (λ e. rw e (in_head y ys)) (λ u. in_tail z y ys (del-in z x ys u)))

pub del-keep : (z x : ℕ) (ys : List ℕ) → (z ≡ x → ⊥) → In z ys → In z (del x ys)
unfolding del
del-keep z x [] d h = in-nil z h
del-keep z x (y ∷ ys) d h =
    by-test (eqb y x)
    (λ t. rw t (in-cons z y ys h (λ e. absurd (d (e ∙ eqb-true y x t))) (λ u. u)))
    (λ t. rw t (in-cons z y ys h (λ e. rw e (in_head y (del x ys))) (λ u. in_tail z y (del x ys) (del-keep z x ys d u))))

pub del-repeats : (x : ℕ) (ys : List ℕ) → repeats ys ≡ false → repeats (del x ys) ≡ false
unfolding del
del-repeats x [] r = r
del-repeats x (y ∷ ys) r =
    by-test (eqb y x)
    (λ t. rw t (repeats-tail y ys r))
    (λ t. rw t
    (repeats-cons y (del x ys)
    (out_of y (del x ys) ys (del-in y x ys) (repeats-head y ys r))
    (del-repeats x ys (repeats-tail y ys r))))

pub del-gone : (x : ℕ) (ys : List ℕ) → repeats ys ≡ false → Out x (del x ys)
unfolding del
del-gone x [] r = false_from_ne_true (has x []) (λ t. in-nil x t)
del-gone x (y ∷ ys) r =
    by-test (eqb y x)
    (λ t. rw t (rw (eqb-true y x t) at (repeats-head y ys r)))
    (λ t. rw t
    (false_from_ne_true (has x (y ∷ del x ys))
    (λ h. in-cons x y (del x ys) h (λ e. eqb-false y x t (sym e)) (both_ways (has x (del x ys)) (del-gone x ys (repeats-tail y ys r))))))

-- numbers without repeats, all of which stand in a second list, are no more than that has
pub no_more : (xs ys : List ℕ) → repeats xs ≡ false → ((x : ℕ) → In x xs → In x ys) → length xs ≤ length ys
no_more [] ys r h = omega arith
no_more (x ∷ xs) ys r h =
    let less : length xs ≤ length (del x ys) =
    no_more xs (del x ys) (repeats-tail x xs r)
    (λ z t. del-keep z x ys (different z x xs t (repeats-head x xs r)) (h z (in_tail z x xs t)))
    in
    omega (arith, del-length x ys (h x (in_head x xs)))

-- the first free number
range-from : (x s n : ℕ) → In x (range_with_len s n) → s ≤ x
range-from x s zero h = in-nil x h
range-from x s (suc n) h =
    in-cons x s (range_with_len (s + 1) n) h (λ e. omega arith) (λ t. omega (arith, range-from x (s + 1) n t))

range-repeats : (s n : ℕ) → repeats (range_with_len s n) ≡ false
range-repeats s zero = repeats-nil
range-repeats s (suc n) =
    repeats-cons s (range_with_len (s + 1) n)
    (false_from_ne_true (has s (range_with_len (s + 1) n)) (λ t. omega (arith, range-from s (s + 1) n t))) (range-repeats (s + 1) n)

pub free-le : (n s : ℕ) (xs : List ℕ) → free_from n s xs ≤ s + n
unfolding free_from
free-le zero s xs = omega arith
free-le (suc n) s xs =
    by-test (has s xs) (λ t. rw t (omega (arith, free-le n (suc s) xs))) (λ t. rw t (omega arith))

free-full : (n s : ℕ) (xs : List ℕ) → In (free_from n s xs) xs → (x : ℕ) → In x (range_with_len s (suc n)) → In x xs
unfolding free_from
free-full zero s xs h x i = in-cons x s [] i (λ e. rw e h) (λ t. in-nil x t)
free-full (suc n) s xs h x i =
    by-test (has s xs)
    (λ t. in-cons x s (range_with_len (s + 1) (suc n)) i (λ e. rw e t) (λ u. free-full n (suc s) xs (rw t at h) x (rw (add-one s) at u)))
    (λ t. absurd (both_ways (has s xs) t (rw t at h)))

pub free-out : (xs : List ℕ) → Out (free_from (length xs) 0 xs) xs
free-out xs =
    false_from_ne_true (has (free_from (length xs) 0 xs) xs)
    (λ t. omega (
      arith,
      length-range_with_len 0 (suc (length xs)),
      no_more (range_with_len 0 (suc (length xs))) xs (range-repeats 0 (suc (length xs))) (free-full (length xs) 0 xs t),
    ))
