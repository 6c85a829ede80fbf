-- One copy more of a piece. Assumes nothing.
use Rattle.std.proofs.Common.{◌≡◌, ℕ, zero, suc, ◌+◌, List, ◌++◌, sym, ap, ◌∙◌, append-nil, append_assoc}
use Rattle.std.proofs.Math.Numerals.{add-one}
use Rattle.std.specs.List.{repeat}

repeat-suc : {A : Type 0} (n : ℕ) (xs : List A) → repeat n xs ++ xs ≡ repeat (suc n) xs
repeat-suc zero xs = sym (append-nil xs)
repeat-suc (suc n) xs = append_assoc xs (repeat n xs) xs ∙ ap (λ r. xs ++ r) (repeat-suc n xs)

pub repeat_more : {A : Type 0} (n : ℕ) (xs : List A) → repeat n xs ++ xs ≡ repeat (n + 1) xs
repeat_more n xs = rw add-one (repeat-suc n xs)
