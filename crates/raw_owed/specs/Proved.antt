-- How `prove` and `steady` end.
use Rattle.raw_refute.specs.declared.said.Answer.{Answer}
use Rattle.raw_refute.specs.declared.said.Answer.TheVariants as said
use Rattle.raw_steadiness.specs.declared.steadying.Steadiness.{Steadiness}
use Rattle.raw_steadiness.specs.declared.steadying.Steadiness.TheVariants.{Steady}
use Rattle.raw_shell.specs.declared.ending.CommandEnding.{CommandEnding}
use Rattle.raw_shell.specs.declared.ending.CommandEnding.TheVariants as ending

-- it is done where the claim is proved; words that refute it have a status of their own
abbrev pub prove_ending : Answer → CommandEnding
prove_ending (said.Proved outs) = ending.Done
prove_ending (said.ProvedByRows outs) = ending.Done
prove_ending (said.Refuted words fault) = ending.Refuted
prove_ending (said.Unproved verdict) = ending.Unproved

-- how `steady` ends: done where the set is steady
abbrev pub steady_ending : Steadiness → CommandEnding
steady_ending (Steady cycles) = ending.Done
steady_ending _ = ending.Unproved
