use Rattle.std.proofs.Common.{◌≡◌, ◌<◌, length, ap, ◌∙◌, arith}
use Rattle.raw_grid.specs.Wires.{wires_of}
use Rattle.raw_model.specs.Program.{ProgramSet}
use Rattle.raw_trace.specs.Whole.{sent_line, distances_line}
use Rattle.raw_whole.proofs.Lists.{stands}
use Rattle.raw_state_text.proofs.Sections.{same_text, failed_numbered, more_numbered, all_numbered}
use Rattle.raw_whole.proofs.writing.put_wires.Given.{Over}
use Rattle.raw_whole.proofs.writing.put_wires.Goals as goal
use Rattle.raw_whole.proofs.writing.put_wires.Goals.{After-deref, After-wires-wires}

many : (g : Over) (c : After-wires-wires g) → c.wires-wires.result ≡ length (wires_of c.args.run.now.machine.now.set.topo)
many g c = c.wires-wires.ensures.value ∙ ap (λ (s : ProgramSet). length (wires_of s.topo)) (c.set.view_is ∙ c.set-set.ensures.value)

-- the line of the next wire
line : (g : Over) (c : After-deref g) → distances_line c.all.w c.deref.result.now ≡ sent_line c.args.run.now.machine.now.set c.args.run.now.cycles c.all.w
line g c =
    let run = c.args.run.now in
    let many : c.wires-wires.result ≡ length (wires_of run.machine.now.set.topo) = c.wires-wires.ensures.value ∙ ap (λ (s : ProgramSet). length (wires_of s.topo)) (c.set.view_is ∙ c.set-set.ensures.value) in
    let lt : c.all.w < length (wires_of run.machine.now.set.topo) = omega (arith, c.all-test.true, many) in
    let here = stands run.whole.now.sends.items c.all.w c.index-kept.result.now (omega (arith, lt, run.keeps.each_wire)) c.index-kept.ensures in
    ap (distances_line c.all.w) (c.deref.ensures.value ∙ run.keeps.sends c.all.w c.index-kept.result.now here)

pub returns-in_err-put_wire : goal.returns-in_err-put_wire
returns-in_err-put_wire g c =
    let at = goal.at.returns-in_err-put_wire g c in
    failed_numbered _ (length (wires_of c.args.run.now.machine.now.set.topo)) _ c.all.invariant (omega (arith, c.all-test.true, many g at.After-wires-wires))
    (same_text _ _ _ _ _ (line g at.After-deref) c.in_err-put_wire.ensures) c.from_residual.ensures.0

pub all-preserved : goal.all-preserved
all-preserved g c =
    let at = goal.at.all-preserved g c in
    more_numbered _ (length (wires_of c.args.run.now.machine.now.set.topo)) _ c.all.invariant (omega (arith, c.all-test.true, many g at.After-wires-wires))
    (same_text _ _ _ _ _ (line g at.After-deref) c.in_ok-put_wire.ensures)

pub returns : goal.returns
returns g c =
    all_numbered _ (length (wires_of c.args.run.now.machine.now.set.topo)) _ c.all.invariant (omega (arith, c.all-test.false, many g (goal.at.returns g c).After-wires-wires))
