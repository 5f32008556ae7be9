use Rattle.raw_whole.proofs.Kept.{AreTurnsNoted}
use Rattle.raw_whole.proofs.turns.note_turns.Given as goal

abbrev pub invariant-all : goal.invariant-all
invariant-all l = AreTurnsNoted l.fn.set l.fn.cycles l.p l.all
