use Rattle.std.proofs.Common.{◌≡◌, ◌++◌, ap, ◌∙◌, take-append-drop}
use Rattle.vectors.proofs.in_two.Goals as goal

pub returns : goal.returns
returns g c =
    let s = c.args.s.now in
    let parts = c.split_at in
    let joined : parts.result.0.now ++ parts.result.1.now ≡ s = rw (parts.ensures.front, parts.ensures.back) (take-append-drop c.min.result s) in
    c.of_two.ensures ∙ ap g.S.InPieces.whole joined
