use Rattle.std.proofs.Common.{◌≡◌, ℕ, ◌+◌, ◌*◌, List, get_or, refl, sym, ap, ◌∙◌, arith}
use Rattle.in_pieces.proofs.Chunks.{word-of}
use Rattle.md5_digest.specs.Rfc1321.{sines, shifts, mix_of, word_at}
use Rattle.md5_digest.proofs.Operations.{step-made, operation}
use Rattle.md5_digest.proofs.block.operation.Goals as goal

pub returns : goal.returns
returns g c =
    let q : List ℕ = c.args.q in
    let first : ℕ = g.R.Round.FIRST in
    let n : ℕ = c.args.n in
    let i : ℕ = c.FIRST.result + n in
    let at : i ≡ first + n = ap (λ (k : ℕ). k + n) c.FIRST.ensures in
    let f : ℕ = mix_of (first + n) (get_or q 1 0) (get_or q 2 0) (get_or q 3 0) in
    let word : c.from_le_bytes-x.result ≡ word_at c.args.p.now (4 * c.word_of.result) =
    word-of c.args.p.now _ c.word_of.result c.as_chunks.ensures.front (omega (arith, c.word_of.ensures.below)) (omega (arith, c.from_le_bytes-x.ensures)) in
    operation c.args.p.now q first n c.word_of.result
    (step-made q f c.from_le_bytes-x.result c.at.result c.shift.result (c.sum-sum.ensures n c.requires) c.rotate_left.ensures c.shift.ensures.within.0 c.shift.ensures.within.1)
    refl word (sym c.word_of.ensures.is)
    (c.at.ensures ∙ ap (λ (k : ℕ). get_or sines k 0) at)
    (c.shift.ensures.is ∙ ap (λ (k : ℕ). get_or shifts k 0) at)
