-- Refusals and their numbers: each stands for the other.
use Rattle.std.proofs.Common.{◌≡◌, ℕ, Ok, refl, arith}
use Rattle.std.proofs.lemmas.Grind.{common_steps}
use Rattle.types.specs.declared.Refusal.{Refusal}
use Rattle.types.specs.declared.Refusal.TheVariants.{BadSliceSize, BadCapacity, StoreShort, BadState, CounterFull, NoPackets, NoMain, CutHeader, TableFull, HashTooLong, ListShort}
use Rattle.types.specs.Answers.{number, refusal_of}

-- the refusal of a refusal's number is that refusal
pub refusal-number : (why : Refusal) → refusal_of (number why) ≡ Ok why
unfolding number refusal_of
refusal-number BadSliceSize = refl
refusal-number BadCapacity = refl
refusal-number StoreShort = refl
refusal-number BadState = refl
refusal-number CounterFull = refl
refusal-number NoPackets = refl
refusal-number NoMain = refl
refusal-number CutHeader = refl
refusal-number TableFull = refl
refusal-number HashTooLong = refl
refusal-number ListShort = refl

-- the number of a number's refusal is that number
pub number-refusal : (n : ℕ) (why : Refusal) → refusal_of n ≡ Ok why → number why ≡ n
unfolding number refusal_of
number-refusal n why h = grind (arith, common_steps)
