-- What it is for a contract to determine its call's answer: of two answers of which it holds at the same arguments, each is the other.
-- A crate says it of `Learnt` in a call's `Reads`, which Rattle makes of the call's `ensures` clauses in src/, so that the theorem is about
-- the contract itself. `told` is such a `Learnt`, of a call with n lifetimes, the parameters ps and the result r.
use Rattle.std.specs.Prelude.{◌≡◌, List, ℕ}
use borrow.Fn.Kinds.{ParamKind, ResultKind, Dens, Out, res_t, ended_of}
use contract.Lifetimes.{Lfts}
use denote.Triple.Clauses.{AtExit}

-- what `see` sees of the result and of the parameters as the call ends
abbrev pub Sees : (n : ℕ) (ps : List (ParamKind n)) (r : ResultKind n) → Out n ps r → (Seen : Lfts n → Type 0)
    → ((κs : Lfts n) → (res_t r κs).Denot → AtExit (ended_of n ps r) κs → Seen κs) → Type 0
Sees n ps r told Seen see =
    (κs : Lfts n) (a : Dens κs ps) (x y : (res_t r κs).Denot) (e f : AtExit (ended_of n ps r) κs)
    → told κs a x e → told κs a y f → ◌≡◌ {A = Seen κs} (see κs x e) (see κs y f)

-- the result
abbrev pub Determined : (n : ℕ) (ps : List (ParamKind n)) (r : ResultKind n) → Out n ps r → Type 0
Determined n ps r told = Sees n ps r told (λ κs. (res_t r κs).Denot) (λ κs x e. x)
