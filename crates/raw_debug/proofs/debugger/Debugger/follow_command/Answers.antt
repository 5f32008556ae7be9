use Rattle.std.proofs.Common.{◌≡◌, ◌<◌, ◌≤◌, [], Some, None, not, length, sym, ap, ◌∙◌, subst, append-nil}
use Rattle.std.specs.Prelude.{IfOk}
use Rattle.raw_grid.specs.declared.parts.ProcId.{ProcId}
use Rattle.raw_grid.specs.Topology.{proc_count}
use Rattle.raw_model.specs.Program.{ProgramSet}
use Rattle.raw_model.specs.Serial.{serial}
use Rattle.raw_io.specs.Writing.{Writes}
use Rattle.raw_state_text.proofs.Sections.{nothing_yet, failed, same_text}
use Rattle.raw_debug.specs.Commands.{led_to}
use Rattle.raw_debug.specs.Commands.Meaning.{Says}
use Rattle.raw_debug.specs.Walking.{Instant, led}
use Rattle.raw_debug.specs.Script.{Spot, leads_to, moved_by, goes_past, line_text}
use Rattle.raw_debug.specs.Live.{Session}
use Rattle.raw_debug.specs.Debugging.{IsPossible}
use Rattle.raw_debug.proofs.Leading.{goes_somewhere, said_text, is_led, led_there, still_possible, stands_behind}
use Rattle.raw_debug.proofs.debugger.Debugger.follow_command.Goals as goal

pub go-done-requires-clause-possible : goal.go-done-requires-clause-possible
go-done-requires-clause-possible g c = subst (λ (s : Session). IsPossible s.set s.spot.current.0 c.args.command) (sym c.self.view_is) c.requires

pub return_to-requires : goal.return_to-requires
return_to-requires g c = subst (λ set. c.moment-moment.result ≤ length (serial set)) (sym c.go-done.ensures.set) c.moment-moment.ensures.within

pub returns-then-not-done-clause-moved : goal.returns-then-not-done-clause-moved
returns-then-not-done-clause-moved g c =
    let set = c.self.inside.trail.set in
    let spot : Spot = record { moment = c.self.inside.trail.moment; current = c.self.inside.current } in
    let command = c.args.command in
    let nowhere : leads_to set spot command ≡ None = c.go-done.ensures.there ∙ ap (λ b. led b c.go-done.new.self.moment) c.if-not-done.true in
    let back = c.return_to.ensures in
    stands_behind set c.return_to.new.self.set spot command None c.return_to.new.self.moment c.led_to-self-inside.result
    (ap (λ (i : Instant). i.set) back ∙ c.go-done.ensures.set) c.led_to-self-inside.ensures nowhere
    (sym (ap (λ (i : Instant). i.moment) back ∙ c.moment-moment.ensures.value))
    ∙ ap (λ (s : Session). record { set = s.set; spot = moved_by s.set s.spot (Says command) }) c.self.view_is

pub returns-then-not-done-clause-answer : goal.returns-then-not-done-clause-answer
returns-then-not-done-clause-answer g c =
    let set = c.self.inside.trail.set in
    let spot : Spot = record { moment = c.self.inside.trail.moment; current = c.self.inside.current } in
    let command = c.args.command in
    let nowhere : leads_to set spot command ≡ None = c.go-done.ensures.there ∙ ap (λ b. led b c.go-done.new.self.moment) c.if-not-done.true in
    subst (λ (s : Session). IfOk c.put_none.result (λ done. done ≡ not (goes_past s.set command))) c.self.view_is (c.put_none.ensures.answer set spot nowhere)

pub returns-then-not-done-clause-writes : goal.returns-then-not-done-clause-writes
returns-then-not-done-clause-writes g c =
    let set = c.self.inside.trail.set in
    let spot : Spot = record { moment = c.self.inside.trail.moment; current = c.self.inside.current } in
    let command = c.args.command in
    let nowhere : leads_to set spot command ≡ None = c.go-done.ensures.there ∙ ap (λ b. led b c.go-done.new.self.moment) c.if-not-done.true in
    subst (λ (s : Session). Writes (g.K.Sink.sight c.args.out.now) (g.K.Sink.sight c.put_none.new.out) (line_text s.set s.spot (Says command)) c.put_none.result) c.self.view_is
    (c.put_none.ensures.writes set spot nowhere)

pub put_answer-requires-clause-there : goal.put_answer-requires-clause-there
put_answer-requires-clause-there g c =
    let set = c.self.inside.trail.set in
    let spot : Spot = record { moment = c.self.inside.trail.moment; current = c.self.inside.current } in
    let command = c.args.command in
    let possible = subst (λ (s : Session). IsPossible s.set s.spot.current.0 command) (sym c.self.view_is) c.requires in
    subst (λ (p : ProcId). p.0 < proc_count c.go-done.new.self.set.topo) (sym c.led_to-self-inside.ensures)
    (subst (λ (own : ProgramSet). (led_to spot.current command).0 < proc_count own.topo) (sym c.go-done.ensures.set)
    (led_there set spot.current command c.self.invariant possible))

pub put_answer-requires-clause-possible : goal.put_answer-requires-clause-possible
put_answer-requires-clause-possible g c =
    let set = c.self.inside.trail.set in
    let spot : Spot = record { moment = c.self.inside.trail.moment; current = c.self.inside.current } in
    let command = c.args.command in
    let possible = subst (λ (s : Session). IsPossible s.set s.spot.current.0 command) (sym c.self.view_is) c.requires in
    subst (λ (p : ProcId). IsPossible c.go-done.new.self.set p.0 command) (sym c.led_to-self-inside.ensures)
    (subst (λ own. IsPossible own (led_to spot.current command).0 command) (sym c.go-done.ensures.set) (still_possible set spot.current command possible))

pub put_answer-requires-clause-led : goal.put_answer-requires-clause-led
put_answer-requires-clause-led g c =
    let set = c.self.inside.trail.set in
    let spot : Spot = record { moment = c.self.inside.trail.moment; current = c.self.inside.current } in
    let command = c.args.command in
    let leads : leads_to set spot command ≡ Some c.go-done.new.self.moment = c.go-done.ensures.there ∙ ap (λ b. led b c.go-done.new.self.moment) c.if-not-done.false in
    is_led set c.go-done.new.self.set spot command c.go-done.new.self.moment c.go-done.ensures.set leads

pub returns-in_err-put_answer-clause-writes : goal.returns-in_err-put_answer-clause-writes
returns-in_err-put_answer-clause-writes g c =
    let set = c.self.inside.trail.set in
    let spot : Spot = record { moment = c.self.inside.trail.moment; current = c.self.inside.current } in
    let command = c.args.command in
    let leads : leads_to set spot command ≡ Some c.go-done.new.self.moment = c.go-done.ensures.there ∙ ap (λ b. led b c.go-done.new.self.moment) c.if-not-done.false in
    let is = said_text set c.go-done.new.self.set spot command c.go-done.new.self.moment c.led_to-self-inside.result c.go-done.ensures.set c.led_to-self-inside.ensures leads in
    let sight = g.K.Sink.sight c.args.out.now in
    let whole = line_text set spot (Says command) in
    subst (λ (s : Session). Writes sight (g.K.Sink.sight c.put_answer.new.out) (line_text s.set s.spot (Says command)) c.from_residual.result) c.self.view_is
    (failed sight sight _ whole whole [] whole (nothing_yet sight whole) (sym (append-nil whole)) _ c.from_residual.result c.from_residual.ensures.0
    (same_text _ _ _ _ _ is c.in_err-put_answer.ensures.writes))

pub returns-clause-moved : goal.returns-clause-moved
returns-clause-moved g c =
    let set = c.self.inside.trail.set in
    let spot : Spot = record { moment = c.self.inside.trail.moment; current = c.self.inside.current } in
    let command = c.args.command in
    let leads : leads_to set spot command ≡ Some c.go-done.new.self.moment = c.go-done.ensures.there ∙ ap (λ b. led b c.go-done.new.self.moment) c.if-not-done.false in
    let stays = c.put_answer.ensures.stays in
    stands_behind set c.put_answer.new.trail.set spot command (Some c.go-done.new.self.moment) c.put_answer.new.trail.moment c.led_to-self-inside.result
    (ap (λ (i : Instant). i.set) stays ∙ c.go-done.ensures.set) c.led_to-self-inside.ensures leads (sym (ap (λ (i : Instant). i.moment) stays))
    ∙ ap (λ (s : Session). record { set = s.set; spot = moved_by s.set s.spot (Says command) }) c.self.view_is

pub returns-clause-answer : goal.returns-clause-answer
returns-clause-answer g c =
    let set = c.self.inside.trail.set in
    let spot : Spot = record { moment = c.self.inside.trail.moment; current = c.self.inside.current } in
    let command = c.args.command in
    let leads : leads_to set spot command ≡ Some c.go-done.new.self.moment = c.go-done.ensures.there ∙ ap (λ b. led b c.go-done.new.self.moment) c.if-not-done.false in
    let going = ap not (sym (goes_somewhere set spot command c.go-done.new.self.moment leads)) in
    going ∙ ap (λ (s : Session). not (goes_past s.set command)) c.self.view_is

pub returns-clause-writes : goal.returns-clause-writes
returns-clause-writes g c =
    let set = c.self.inside.trail.set in
    let spot : Spot = record { moment = c.self.inside.trail.moment; current = c.self.inside.current } in
    let command = c.args.command in
    let leads : leads_to set spot command ≡ Some c.go-done.new.self.moment = c.go-done.ensures.there ∙ ap (λ b. led b c.go-done.new.self.moment) c.if-not-done.false in
    let is = said_text set c.go-done.new.self.set spot command c.go-done.new.self.moment c.led_to-self-inside.result c.go-done.ensures.set c.led_to-self-inside.ensures leads in
    let written = same_text _ _ _ _ _ (is ∙ ap (λ (s : Session). line_text s.set s.spot (Says command)) c.self.view_is) c.in_ok-put_answer.ensures.writes in
    record { ok = written.ok; front = tt; fault = tt; count = written.count }
