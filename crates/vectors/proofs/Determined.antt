-- The contract of each public call that returns a value determines it, whatever digest or checksum it is of: `s` has its ghost members.
-- Assumes nothing.
use mathlib.Core.Path.{sym, ◌∙◌}
use denote.RattleType.{RattleType}
use denote.Param.Laws.{Laws}
use mir.Syntax.{Dict, w64}
use mir.Val.{Fits}
use Prim.Native.Nat.{ℕ}
use Rattle.determined.specs.Determined.{Determined}
use Rattle.std.specs.declared.cmp.PartialEq as PartialEq
use Rattle.in_pieces.specs.declared.InPieces.{Ghosts}
use Rattle.vectors.proofs.message as bytes
use Rattle.vectors.proofs.in_two as two
use Rattle.vectors.proofs.agreeing as cuts

module _ (S Sum : RattleType) (kept : Laws S) (kept-sum : Laws Sum) (s : Ghosts S.Denot Sum.Denot) (code : Dict) where
  pub in_two : Determined 3 (two.Kinds.ps S Sum kept kept-sum) (two.Kinds.r S Sum kept kept-sum) (two.Reads.Learnt S Sum kept kept-sum s code)
  in_two κs a x y e f p q = p ∙ sym q

  pub agreeing : (equal : PartialEq.Ghosts Sum.Denot) (code-equal code-drop : Dict)
      → Determined 4 (cuts.Kinds.ps S Sum kept kept-sum) (cuts.Kinds.r S Sum kept kept-sum) (cuts.Reads.Learnt S Sum kept kept-sum s code equal code-equal code-drop)
  agreeing equal code-equal code-drop κs a x y e f p q = p ∙ sym q

module _ (n : ℕ) (fits : Fits w64 n) where
  pub message : Determined 1 (bytes.Kinds.ps n fits) (bytes.Kinds.r n fits) (bytes.Reads.Learnt n fits)
  message κs a x y e f p q = p ∙ sym q
