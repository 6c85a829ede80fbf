use Rattle.std.proofs.lemmas.Bool.Decides.{nat_tests}
use Rattle.std.proofs.Common.{◌≡◌, ℕ, ◌+◌, ◌^◌, ◌++◌, refl, ◌-◌, ◌%◌, List, length, take, drop, ap, ◌∙◌, arith, length-drop, take_all}
use Rattle.md5_digest.specs.Rfc1321.{run}
use Rattle.md5_digest.specs.Pieces.{held, rest, fill}
use Rattle.md5_digest.specs.declared.Md5.{Md5}
use Rattle.md5_digest.proofs.Stream.{feed-even, feed-short, feed-long}
use Rattle.md5_digest.proofs.Md5.update.Goals as goal

pub returns-then-is_empty : goal.returns-then-is_empty
returns-then-is_empty c = feed-even c.args.self (omega arith) c.args.«data».now (grind (arith, nat_tests)) c.taken.ensures refl

pub returns-then-data-room : goal.returns-then-data-room
unfolding held
returns-then-data-room c =
    let a : List ℕ = c.args.«data».now in
    feed-short c.args.self (omega arith) a (omega arith) (c.lay-tail.ensures ∙ ap (λ (l : List ℕ). fill (l ++ a)) c.held-held.ensures.bytes) refl

pub returns : goal.returns
unfolding held
returns c =
    let self : Md5 = c.args.self in
    let a : List ℕ = c.args.«data».now in
    let room : ℕ = 64 - length c.held-held.result.now in
    let q : List ℕ = c.absorb-state.result in
    let f : ℕ = (self.fed + length a) % 2 ^ 64 in
    let all : take (length a - room) (drop room a) ≡ drop room a = take_all (length a - room) (drop room a) (omega (arith, length-drop room a)) in
    feed-long self (omega arith) a room (omega arith) (omega arith)
    (c.lay-first.ensures ∙ ap (λ (l : List ℕ). fill (l ++ take room a)) c.held-held.ensures.bytes) c.absorb-state.ensures
    (c.taken-2.ensures ∙ ap (λ (l : List ℕ). record { state = run l q; tail = fill (rest l); fed = f }) all)
    refl
