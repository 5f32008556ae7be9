use Rattle.std.proofs.Common.{length, sym, ap, ◌∙◌, subst, arith, take_all}
use Rattle.raw_model.specs.Rest.{end, IsQuiet}
use Rattle.raw_model.specs.Serial.{serial}
use Rattle.raw_debug.specs.Walking.{state_after}
use Rattle.raw_debug.proofs.answers.put_rest.Goals as goal

pub outcome-requires : goal.outcome-requires
unfolding state_after
outcome-requires g c =
    let set = c.args.m.now.set in
    let steps = serial set in
    let at_end = c.requires ∙ ap (end set) (take_all (length steps) steps (omega arith)) in
    subst (IsQuiet set) (sym at_end) (c.law_serial.ensures.run set c.set-set.ensures.valid).quiet
