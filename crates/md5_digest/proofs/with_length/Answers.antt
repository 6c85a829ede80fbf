use Rattle.std.proofs.Common.{◌≡◌, ℕ, List, [], ◌∷◌, ◌++◌, take, drop, ap, ◌∙◌, arith, append-nil, drop-drop, drop_of_length-le}
use Rattle.std.specs.Int.{w64, to_le_bytes}
use Rattle.md5_digest.specs.Rfc1321.{bits, length_bytes}
use Rattle.md5_digest.proofs.with_length.Goals as goal

-- byte by byte, so that an edit is refused at the byte that it changes
eight : {a b c d e f g h p q r s t u v w : ℕ} → a ≡ p → b ≡ q → c ≡ r → d ≡ s → e ≡ t → f ≡ u → g ≡ v → h ≡ w
    → a ∷ b ∷ c ∷ d ∷ e ∷ f ∷ g ∷ h ∷ [] ≡ p ∷ q ∷ r ∷ s ∷ t ∷ u ∷ v ∷ w ∷ []
eight ea eb ec ed ee ef eg eh = rw (ea, eb, ec, ed, ee, ef, eg, eh)

pub returns : goal.returns
unfolding length_bytes
returns c =
    let past : drop 8 (drop 56 c.args.t) ≡ [] = drop-drop 8 56 c.args.t ∙ drop_of_length-le c.args.t {i = 64} (omega arith) in
    let bytes : c.to_le_bytes.result ≡ to_le_bytes w64 (bits c.args.n) = c.to_le_bytes.ensures in
    rw (past, append-nil, c.copy_from_slice.ensures.after, bytes)
    (ap (λ (l : List ℕ). take 56 c.args.t ++ l)
    (eight (omega arith) (omega arith) (omega arith) (omega arith) (omega arith) (omega arith) (omega arith) (omega arith)))
