use Rattle.raw_live_text.specs.Heads.{StandsAt}
use Rattle.raw_live_text.proofs.head.look_on.Given as goal

abbrev pub invariant-loop-at : goal.invariant-loop-at
invariant-loop-at l = record {
  stands : StandsAt l.word l.bytes l.at l.place;
}
