use Rattle.std.proofs.Common.{◌≡◌, [], ap, sym, refl, not}
use Rattle.std.specs.Prelude.{if◌then◌else◌}
use Rattle.raw_state_text.proofs.Sections.{nothing_yet, all_written, same_text}
use Rattle.raw_debug.specs.Commands.Meaning.{Says}
use Rattle.raw_debug.specs.Script.{script_text_of, line_text}
use Rattle.raw_debug.proofs.Leading.{at_none}
use Rattle.raw_debug.proofs.debugger.put_none.Goals as goal

pub returns-in-At-clause-answer : goal.returns-in-At-clause-answer
returns-in-At-clause-answer g c = λ set spot none. ap not (sym (at_none set spot c.args.command c.in-At.proc c.in-At.steps c.in-At.is none))

pub returns-in-At-clause-writes : goal.returns-in-At-clause-writes
returns-in-At-clause-writes g c = λ set spot none.
    let sight = g.K.Sink.sight c.args.out.now in
    let past = at_none set spot c.args.command c.in-At.proc c.in-At.steps c.in-At.is none in
    let empty : line_text set spot (Says c.args.command) ≡ [] = ap (λ b. if b then [] else script_text_of set spot (Says c.args.command)) past in
    same_text _ _ _ _ _ (sym empty) (all_written sight sight [] [] _ (nothing_yet sight []) refl)
