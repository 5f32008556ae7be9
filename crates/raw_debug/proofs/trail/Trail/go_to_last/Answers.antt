use Rattle.std.proofs.Common.{◌≤◌, length, sym, subst, ◌∙◌, arith}
use Rattle.raw_model.specs.Serial.{serial}
use Rattle.raw_debug.proofs.Stopping.{found_latest}
use Rattle.raw_debug.proofs.trail.Trail.go_to_last.Goals as goal

pub return_to-requires : goal.return_to-requires
return_to-requires c =
    let old = c.args.self.now in
    let found = c.in-Some.found in
    let is = found_latest old.set old.moment c.args.proc.0 c.args.aim found (c.latest.ensures.there ∙ c.in-Some.is) in
    subst (λ set. found ≤ length (serial set)) (sym c.latest.ensures.set)
    (omega (arith, is.within, c.moment-moment.ensures.within, c.moment-moment.ensures.value))
