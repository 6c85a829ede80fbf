-- Each public call's contract determines its result, whatever digest or checksum it is of: `s` has its ghost members. Assumes nothing.
use mathlib.Core.Path.{sym, ◌∙◌}
use denote.RattleType.{RattleType}
use denote.Param.Laws.{Laws}
use mir.Syntax.{Dict}
use Rattle.determined.specs.Determined.{Determined}
use Rattle.in_pieces.specs.declared.InPieces.{Ghosts}
use Rattle.in_pieces.proofs.InPieces.at_once as once
use Rattle.in_pieces.proofs.of as whole
use Rattle.in_pieces.proofs.of_two as two
use Rattle.in_pieces.proofs.repeated as copies

module _ (S Sum : RattleType) (kept : Laws S) (kept-sum : Laws Sum) (s : Ghosts S.Denot Sum.Denot) (code : Dict) where
  pub of : Determined 3 (whole.Kinds.ps S Sum kept kept-sum) (whole.Kinds.r S Sum kept kept-sum) (whole.Reads.Learnt S Sum kept kept-sum s code)
  of κs a x y e f p q = p ∙ sym q

  pub of_two : Determined 4 (two.Kinds.ps S Sum kept kept-sum) (two.Kinds.r S Sum kept kept-sum) (two.Reads.Learnt S Sum kept kept-sum s code)
  of_two κs a x y e f p q = p ∙ sym q

  pub repeated : Determined 3 (copies.Kinds.ps S Sum kept kept-sum) (copies.Kinds.r S Sum kept kept-sum) (copies.Reads.Learnt S Sum kept kept-sum s code)
  repeated κs a x y e f p q = p ∙ sym q

  pub at_once : Determined 3 (once.Kinds.ps S Sum kept kept-sum) (once.Kinds.r S Sum kept kept-sum) (once.Reads.Learnt S Sum kept kept-sum s code)
  at_once κs a x y e f p q = p ∙ sym q
