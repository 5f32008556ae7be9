use Rattle.raw_whole.proofs.Kept.{AreSendsNoted}
use Rattle.raw_whole.proofs.sends.note_sends.Given as goal

abbrev pub invariant-all : goal.invariant-all
invariant-all l = AreSendsNoted l.fn.set l.fn.cycles l.w l.all
