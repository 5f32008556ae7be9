use Rattle.std.proofs.Common.{◌≡◌, Some, sym, ap, ◌∙◌}
use Rattle.raw_model.specs.Waits.{first_wait, waits_for}
use Rattle.raw_model.specs.StateTexts.{wait_line, wait_line_of}
use Rattle.raw_state_text.proofs.Waiting.{waits_over}
use Rattle.raw_state_text.proofs.lines.wait_line.Goals as goal

pub returns-in-None : goal.returns-in-None
unfolding wait_line
returns-in-None c =
    c.new.ensures ∙ ap (wait_line_of c.args.m.now.set c.args.p.0) c.in-None.ensures.wire

pub returns-in-Some : goal.returns-in-Some
unfolding wait_line
returns-in-Some c =
    let m = c.args.m.now in
    let p = c.args.p.0 in
    let wait = c.in-Some.wait in
    let awaited : waits_for m.set m.state p ≡ Some wait.on.0 = sym c.in-Some.ensures.on in
    let first : first_wait m.set m.state p ≡ Some wait.wire.0 = sym c.in-Some.ensures.wire in
    c.line_of_wait.ensures m.set (waits_over m.set m.state p wait.on.0 wait.wire.0 first awaited) ∙ ap (wait_line_of m.set p) (sym first)
