use Rattle.std.proofs.Common.{◌≡◌, length}
use Rattle.raw_term.specs.Classes.{AreClasses}
use Rattle.raw_term.proofs.classes.term_classes.Given as goal

abbrev pub invariant-loop-number : goal.invariant-loop-number
invariant-loop-number l = AreClasses l.initial.table l.table l.classes.items × (length l.classes.items ≡ l.number)
