use Rattle.std.proofs.Common.{◌-◌, refl, sym, subst, arith}
use Rattle.raw_serial.proofs.Seating.{fit_here}
use Rattle.raw_serial.proofs.Several.{Leaves, unfired_leaves, runs_none, now_of, runs_more}
use Rattle.raw_serial.proofs.turns.take_turns.Goals as goal

pub turns-init : goal.turns-init
turns-init c = runs_none c.args.set.now c.args.p.0 c.args.processor.now c.args.wires.now c.args.most

pub turn_processor-requires-clause-kept : goal.turn_processor-requires-clause-kept
turn_processor-requires-clause-kept c =
    let now = now_of c.args.set.now c.args.p.0 c.args.processor.now c.turns.processor c.args.wires.now c.turns.wires c.args.most c.turns.left c.requires.of c.turns.invariant in
    now.parts.kept c.args.p.0 c.turns.processor now.here

pub turn_processor-requires-clause-few : goal.turn_processor-requires-clause-few
turn_processor-requires-clause-few c =
    let now = now_of c.args.set.now c.args.p.0 c.args.processor.now c.turns.processor c.args.wires.now c.turns.wires c.args.most c.turns.left c.requires.of c.turns.invariant in
    now.parts.few c.args.p.0 c.turns.processor now.here

pub turn_processor-requires-clause-fits : goal.turn_processor-requires-clause-fits
turn_processor-requires-clause-fits c =
    let now = now_of c.args.set.now c.args.p.0 c.args.processor.now c.turns.processor c.args.wires.now c.turns.wires c.args.most c.turns.left c.requires.of c.turns.invariant in
    fit_here c.args.set.now now.ends now.processors c.turns.wires now.parts c.args.p.0 c.turns.processor now.here

pub turn_processor-requires-clause-ends : goal.turn_processor-requires-clause-ends
turn_processor-requires-clause-ends c =
    let now = now_of c.args.set.now c.args.p.0 c.args.processor.now c.turns.processor c.args.wires.now c.turns.wires c.args.most c.turns.left c.requires.of c.turns.invariant in
    record { valid = now.parts.valid; ends_are = c.requires.ends; each = now.parts.fits.wires }

pub turns-preserved : goal.turns-preserved
turns-preserved c =
    runs_more c.args.set.now c.args.p.0 c.args.processor.now c.turns.processor c.turn_processor.new.processor
    c.args.wires.now c.turns.wires c.turn_processor.new.wires c.args.most c.turns.left (c.turns.left - 1) c.turn_processor.result c.requires.proc c.turns.invariant c.turn_processor.ensures.turn
    (subst (λ turn. Leaves turn c.turns.left (c.turns.left - 1)) (sym c.in-Fired.is) (omega (arith, c.turns-test.true)))

pub returns-in-Stalled : goal.returns-in-Stalled
returns-in-Stalled c =
    runs_more c.args.set.now c.args.p.0 c.args.processor.now c.turns.processor c.turn_processor.new.processor
    c.args.wires.now c.turns.wires c.turn_processor.new.wires c.args.most c.turns.left c.turns.left c.turn_processor.result c.requires.proc c.turns.invariant c.turn_processor.ensures.turn
    (subst (λ turn. Leaves turn c.turns.left c.turns.left) (sym c.in-Stalled.is) refl)

pub returns-in_default : goal.returns-in_default
returns-in_default c =
    runs_more c.args.set.now c.args.p.0 c.args.processor.now c.turns.processor c.turn_processor.new.processor
    c.args.wires.now c.turns.wires c.turn_processor.new.wires c.args.most c.turns.left c.turns.left c.turn_processor.result c.requires.proc c.turns.invariant c.turn_processor.ensures.turn
    (unfired_leaves c.turn_processor.result c.turns.left c.in_default.not-Fired)
