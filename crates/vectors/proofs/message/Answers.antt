use Rattle.std.proofs.Common.{rules, ◌≡◌, ◌+◌, ◌*◌, ◌%◌, ◌<◌, ◌≤◌, ℕ, zero, suc, List, slice_index_or, subst, arith, ◌∙◌, ⊎_elim, eq-or-lt_of_le}
use Rattle.std.specs.Array.{IsFromFnResultFrom}
use Rattle.std.proofs.lemmas.List.FromFn.{fill_by_all}
use denote.Param.Members.{Mut, Called}
use Rattle.vectors.proofs.message.Goals as goal

-- a closure that answers v of each place, and is the same after each call
from_each : {F : Type 0} (g : Mut F (ℕ × Unit {0}) ℕ) (f : F) (v : ℕ → ℕ)
    → ((i y : ℕ) (q : F) → Called g f (i, tt) y q → (y ≡ v i) × (q ≡ f))
    → (ys : List ℕ) (i n : ℕ) → IsFromFnResultFrom g f ys i n → (j : ℕ) → i ≤ j → j < i + n → slice_index_or ys j 0 ≡ v j
from_each g f v one ys i zero h j low high = absurd (omega arith)
from_each g f v one ys i (suc n) h j low high =
    let said : (h.1 ≡ v i) × (h.0 ≡ f) = one i h.1 h.0 h.3 in
    ⊎_elim
    (λ e. subst (λ (k : ℕ). slice_index_or ys k 0 ≡ v k) e (h.2.1 0 ∙ said.0))
    (λ l. from_each g f v one ys (i + 1) n (subst (λ p. IsFromFnResultFrom g p ys (i + 1) n) said.1 h.4) j (omega arith) (omega arith))
    (eq-or-lt_of_le low)

pub returns : goal.returns
returns g c =
    fill_by_all (λ i. (i * 7 + c.args.n) % 256) _ _ 0 c.from_fn.ensures.items.long
    (λ k l. from_each _ _ (λ i. (i * 7 + c.args.n) % 256) (λ i y q h. search rules) c.from_fn.result 0 _ c.from_fn.ensures.items.each k (omega arith) (omega arith))
