use Rattle.std.proofs.Common.{List, ℕ, ◌++◌, [], ◌∷◌, ap, ◌∙◌, arith}
use Rattle.md5_digest.specs.Rfc1321.{block_of, output}
use Rattle.md5_digest.specs.Pieces.{held, fill}
use Rattle.md5_digest.proofs.Stream.{finish-short, finish-long}
use Rattle.md5_digest.proofs.Md5.finish.Goals as goal

pub returns-then-fits : goal.returns-then-fits
unfolding held
returns-then-fits c =
    c.output_of.ensures ∙ ap output c.absorb.ensures
    ∙ finish-short c.args.self (omega arith) (omega arith)
    (c.lay-last.ensures ∙ ap (λ (l : List ℕ). fill (l ++ 0x80 ∷ [])) c.held-held.ensures.bytes) c.with_length-block.ensures

pub returns : goal.returns
unfolding held
returns c =
    let block : List ℕ = c.with_length-block-2.result in
    c.output_of-2.ensures ∙ ap output (c.absorb-2.ensures ∙ ap (block_of block) c.absorb-state.ensures)
    ∙ finish-long c.args.self (omega arith) (omega arith)
    (c.lay-last.ensures ∙ ap (λ (l : List ℕ). fill (l ++ 0x80 ∷ [])) c.held-held.ensures.bytes) c.with_length-block-2.ensures
