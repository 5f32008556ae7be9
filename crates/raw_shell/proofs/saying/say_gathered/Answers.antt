use Rattle.std.proofs.Common.{ℕ, List, [], subst}
use Rattle.raw_io.specs.Sights.{Sight}
use Rattle.raw_shell.specs.Answers.{err_line}
use Rattle.raw_shell.specs.Seen.{Says}
use Rattle.raw_shell.specs.Gathering.{gathering}
use Rattle.raw_shell.specs.Gathered.{gathered, behind, told}
use Rattle.raw_shell.proofs.Fronts.{says}
use Rattle.raw_shell.proofs.Gathering.{says_behind, handed_or_failed}
use Rattle.raw_shell.proofs.saying.say_gathered.Goals as goal

pub returns-in-Err : goal.returns-in-Err
returns-in-Err g c =
    let sight = g.E.Sink.sight in
    let start : Sight = behind sight c.args.err.now in
    let mid : Sight = told sight c.put_line.new.err in
    let new : Sight = behind sight c.flush.new.self in
    let gs : List ℕ = gathered c.flush.new.self in
    let line : List ℕ = err_line g.F.Flaw.line c.in-Err.failure in
    let first : Says (record { old = told sight c.args.err.now; new = mid }) line =
    says (record { old = told sight c.args.err.now; new = mid }) line c.put_line.result c.put_line.ensures in
    let said : Says (record { old = gathering start []; new = mid }) line =
    subst (λ hs. Says (record { old = gathering start hs; new = mid }) line) c.requires.none first in
    rw c.in-Err.is (says_behind start mid new gs line c.requires.empty said c.flush.ensures.keeps c.flush.ensures.cause.later
    (handed_or_failed c.flush.result gs mid.faults new.faults c.flush.ensures.all c.flush.ensures.cause.failed))
