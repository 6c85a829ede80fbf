use Rattle.std.proofs.Common.{rules, ◌≡◌, ◌+◌, cond, length, ℕ, suc, arith, Bool, true, false, List, [], ◌∷◌, refl, ◌∙◌, ap}
use Rattle.std.specs.List.{range_with_len, filter}
use Rattle.std.proofs.lemmas.Iterator.{YieldsList-from_range}
use Rattle.std.proofs.lemmas.Iterator.Consumers.{YieldsList-from_filter, YieldsList-at, count_from_yields_List}
use Rattle.std.proofs.lemmas.List.FromFn.{length-range_with_len}
use Rattle.std.proofs.Common.{tests}
use Rattle.vectors.proofs.agreeing.Goals as goal

all-or-none : (b : Bool) (xs : List ℕ) → length (filter (λ _. b) xs) ≡ cond b (length xs) 0
all-or-none true [] = refl
all-or-none false [] = refl
all-or-none true (x ∷ xs) = ap suc (all-or-none true xs)
all-or-none false (x ∷ xs) = all-or-none false xs

pub returns : goal.returns
returns g c =
    let b : Bool = g.S.Sum.PartialEq.eq (g.S.InPieces.whole c.args.s.now) c.args.sum.now in
    count_from_yields_List c.filter.result c.count.result c.count.ensures.ran
    (YieldsList-from_filter _ (λ _. b) (YieldsList-at c.filter.ensures.source (YieldsList-from_range 0 (length c.args.s.now + 1) (length c.args.s.now + 1) refl (omega arith))) c.filter.ensures.closure (λ x r q k. search (rules, tests)))
    ∙ all-or-none b (range_with_len 0 (length c.args.s.now + 1)) ∙ ap (λ (n : ℕ). cond b n 0) (length-range_with_len _ _)
