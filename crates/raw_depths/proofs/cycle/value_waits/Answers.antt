use Rattle.std.proofs.Common.{◌≡◌, true, false, sym, ap, ◌∙◌, arith}
use Rattle.raw_model.specs.Waits.{waits_for}
use Rattle.raw_outcome.specs.Told.{told}
use Rattle.raw_depths.proofs.Waits.{no_values, cycle_there, values_are, lines_are}
use Rattle.raw_depths.proofs.cycle.value_waits.Goals as goal

pub returns-in_default : goal.returns-in_default
returns-in_default c = no_values c.args.m.now.set c.args.m.now.state c.args.o c.in_default.not-Deadlock c.requires

pub all_for_values-requires : goal.all_for_values-requires
all_for_values-requires c =
    let m = c.args.m.now in
    cycle_there m.set m.state c.set-set.ensures.valid c.in-Deadlock.least c.in-Deadlock.length (ap (told (waits_for m.set m.state)) (sym c.in-Deadlock.is) ∙ c.requires)

pub returns-then-not-all_for_values : goal.returns-then-not-all_for_values
returns-then-not-all_for_values c =
    let m = c.args.m.now in
    let off : c.all_for_values.result ≡ false = grind arith in
    values_are m.set m.state c.set-set.ensures.valid c.in-Deadlock.least c.in-Deadlock.length (ap (told (waits_for m.set m.state)) (sym c.in-Deadlock.is) ∙ c.requires)
    ∙ sym c.all_for_values.ensures
    ∙ off

pub wait_lines-requires : goal.wait_lines-requires
wait_lines-requires c =
    let m = c.args.m.now in
    cycle_there m.set m.state c.set-set.ensures.valid c.in-Deadlock.least c.in-Deadlock.length (ap (told (waits_for m.set m.state)) (sym c.in-Deadlock.is) ∙ c.requires)

pub returns : goal.returns
returns c =
    let m = c.args.m.now in
    let is = ap (told (waits_for m.set m.state)) (sym c.in-Deadlock.is) ∙ c.requires in
    let on : c.all_for_values.result ≡ true = grind arith in (
      values_are m.set m.state c.set-set.ensures.valid c.in-Deadlock.least c.in-Deadlock.length is ∙ sym c.all_for_values.ensures ∙ on,
      c.in_ok-lines.ensures ∙ lines_are m.set m.state c.set-set.ensures.valid c.in-Deadlock.least c.in-Deadlock.length is,
    )
