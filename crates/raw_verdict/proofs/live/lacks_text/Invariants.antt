use Rattle.std.proofs.Common.{◌≡◌, take}
use Rattle.raw_verdict.specs.LiveText.{lacks_text}
use Rattle.raw_verdict.proofs.live.lacks_text.Given as goal

abbrev pub invariant-loop-lack : goal.invariant-loop-lack
invariant-loop-lack l = l.text.items ≡ lacks_text (take l.lack-index l.lacks)
