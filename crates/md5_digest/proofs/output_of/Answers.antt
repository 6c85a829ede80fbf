use Rattle.std.proofs.Common.{rules, ◌≡◌, List, [], ◌∷◌, ℕ, ◌<◌, length, get_or, ◌∙◌, arith}
use Rattle.std.specs.List.{flat_map, slice_index_or}
use Rattle.md5_digest.specs.Rfc1321.{word_bytes, output}
use Rattle.md5_digest.proofs.output_of.Goals as goal

four : (st : List ℕ) (ys : List (List ℕ)) → length ys ≡ 4 → ((i : ℕ) → i < 4 → slice_index_or ys i [] ≡ word_bytes (get_or st i 0)) → flat_map (λ x. x) ys ≡ output st
unfolding output
four st [] e h = absurd (omega arith)
four st (a ∷ []) e h = absurd (omega arith)
four st (a ∷ b ∷ []) e h = absurd (omega arith)
four st (a ∷ b ∷ c ∷ []) e h = absurd (omega arith)
four st (a ∷ b ∷ c ∷ d ∷ []) e h = rw (h 0 (omega arith), h 1 (omega arith), h 2 (omega arith), h 3 (omega arith))
four st (a ∷ b ∷ c ∷ d ∷ x ∷ ys) e h = absurd (omega arith)

pub returns : goal.returns
returns c =
    let items = c.map-bytes.ensures.items in
    c.copy_from_slice.ensures.after ∙ c.as_flattened.ensures.value ∙ four c.args.st c.map-bytes.result items.long (λ i l. search rules)
