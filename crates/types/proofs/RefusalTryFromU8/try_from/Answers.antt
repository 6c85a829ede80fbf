-- The arms that edits change, so that an edit is refused where its value differs.
use Rattle.std.proofs.Common.{refl}
use Rattle.types.specs.Answers.{refusal_of}
use Rattle.types.proofs.RefusalTryFromU8.try_from.Goals as goal

pub returns-in-4 : goal.returns-in-4
unfolding refusal_of
returns-in-4 c = rw c.in-4.is refl

pub returns-in-5 : goal.returns-in-5
unfolding refusal_of
returns-in-5 c = rw c.in-5.is refl
