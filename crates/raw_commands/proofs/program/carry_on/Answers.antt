use Rattle.std.proofs.Common.{Option, [], ap, subst, ◌∙◌, sym}
use Rattle.std.specs.Prelude.{map, string_bytes}
use Rattle.raw_io.specs.Sights.{Sight}
use Rattle.raw_shell.specs.Answers.{status_of, Said}
use Rattle.raw_shell.specs.Seen.{SourceSeen, source_seen, sink_seen}
use Rattle.raw_shell.specs.Gathering.{gathering}
use Rattle.raw_shell.specs.Gathered.{behind, told}
use Rattle.raw_command_line.specs.declared.arguments.Command.{Command}
use Rattle.raw_command_line.specs.Arguments.{command_of}
use Rattle.raw_owed.specs.Answers.{Answer}
use Rattle.raw_inputs.specs.Flaws.{flaw_line}
use Rattle.raw_commands.specs.Ended.{Answered}
use Rattle.raw_commands.proofs.Causing.{is_write_fault}
use Rattle.raw_commands.proofs.program.carry_on.Goals as goal

pub returns-clause-ended : goal.returns-clause-ended
returns-clause-ended g c = λ tells.
    let sight = g.K.Sink.sight in
    let start : Sight = behind sight c.args.out.now in
    let mid : Sight = told sight c.dispatch-answer.new.out in
    let source : SourceSeen = source_seen g.S.Source.sight c.args.source.now c.dispatch-answer.new.source in
    let command : Option Command = command_of (map string_bytes c.args.words.now) in
    let first : Answered command source (record { old = told sight c.args.out.now; new = mid }) c.dispatch-answer.result =
    subst (λ w. Answered w source (record { old = told sight c.args.out.now; new = mid }) c.dispatch-answer.result) c.command_in.ensures c.dispatch-answer.ensures in
    let is : Answered command source (record { old = gathering start []; new = mid }) c.dispatch-answer.result =
    subst (λ gs. Answered command source (record { old = gathering start gs; new = mid }) c.dispatch-answer.result) c.requires.out.none first in
    let hands = c.hand_on-answer.ensures command source start c.requires.out.empty is in
    record {
      answer = c.hand_on-answer.result;
      status_is = c.conclude_gathered.ensures.status;
      answered = hands.answered (λ e. tells (c.conclude_gathered.ensures.status ∙ ap status_of e));
      said = c.conclude_gathered.ensures.said;
    }

pub returns-clause-fault : goal.returns-clause-fault
returns-clause-fault g c = λ eight.
    let sight = g.K.Sink.sight in
    let start : Sight = behind sight c.args.out.now in
    let mid : Sight = told sight c.dispatch-answer.new.out in
    let source : SourceSeen = source_seen g.S.Source.sight c.args.source.now c.dispatch-answer.new.source in
    let command : Option Command = command_of (map string_bytes c.args.words.now) in
    let first : Answered command source (record { old = told sight c.args.out.now; new = mid }) c.dispatch-answer.result =
    subst (λ w. Answered w source (record { old = told sight c.args.out.now; new = mid }) c.dispatch-answer.result) c.command_in.ensures c.dispatch-answer.ensures in
    let is : Answered command source (record { old = gathering start []; new = mid }) c.dispatch-answer.result =
    subst (λ gs. Answered command source (record { old = gathering start gs; new = mid }) c.dispatch-answer.result) c.requires.out.none first in
    let hands = c.hand_on-answer.ensures command source start c.requires.out.empty is in
    let fault = is_write_fault c.hand_on-answer.result (sym c.conclude_gathered.ensures.status ∙ eight) in
    record {
      failed = hands.failed fault;
      said = subst (λ (answer : Answer). Said flaw_line (sink_seen (behind g.E.Sink.sight) c.args.err.now c.conclude_gathered.new.err) answer) fault c.conclude_gathered.ensures.said;
    }
