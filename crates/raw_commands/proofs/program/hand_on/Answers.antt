use Rattle.std.proofs.Common.{◌≡◌, ℕ, true, false, List, refl, sym}
use Rattle.raw_io.specs.Sights.{Sight}
use Rattle.raw_shell.specs.Gathered.{gathered, behind, told}
use Rattle.raw_commands.specs.Program.{has_put}
use Rattle.raw_commands.proofs.Handing.{rest_failed, rest_handed, none_handed, none_failed}
use Rattle.raw_commands.proofs.program.hand_on.Goals as goal

pub returns-then-not-has_put : goal.returns-then-not-has_put
returns-then-not-has_put g c = λ command source start empty is.
    let sight = g.K.Sink.sight in
    let off : has_put c.args.answer ≡ false = sym (c.if-not-has_put.ensures {u = tt}) in
    let new : Sight = behind sight c.args.out.now in
    let gs : List ℕ = gathered c.args.out.now in
    record {
      answered = λ tells. none_handed command source start new empty gs c.args.answer off tells is;
      failed = λ e. none_failed command source start new empty gs c.args.answer e is;
    }

pub returns-in-Err : goal.returns-in-Err
returns-in-Err g c = λ command source start empty is.
    let sight = g.K.Sink.sight in
    let on : has_put c.args.answer ≡ true = sym (c.if-not-has_put.ensures {u = tt}) in
    let mid : Sight = told sight c.args.out.now in
    let new : Sight = behind sight c.flush.new.self in
    let gs : List ℕ = gathered c.flush.new.self in
    let end = c.in-Err.ensures in
    record {
      answered = λ tells. rest_handed command source start new empty mid gs end.keeps end.rest end.cause.failed c.args.answer on (tells refl) is;
      failed = λ e. rest_failed command source start new empty mid gs end.keeps end.rest end.cause.failed c.args.answer on is;
    }
