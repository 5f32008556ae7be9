use Rattle.raw_fabric.proofs.InRow.{HasGone}
use Rattle.raw_fabric.proofs.rows.take_turns.Given as goal

abbrev pub invariant-loop-turn : goal.invariant-loop-turn
invariant-loop-turn g l = HasGone l.words.key l.post l.room l.initial.seat l.initial.processor l.initial.log l.status l._turn l.seat l.processor l.log
