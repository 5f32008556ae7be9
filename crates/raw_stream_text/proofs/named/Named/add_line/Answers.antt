use Rattle.std.proofs.Common.{◌++◌, Option, subst, append-nil, arith}
use Rattle.std.specs.Prelude.{OnOk}
use Rattle.std.specs.Option.{option_to_list}
use Rattle.raw_asm.specs.Tokens.{tokens_of}
use Rattle.raw_stream_text.specs.Statement.{Statement}
use Rattle.raw_stream_text.specs.Building.{IsNamed}
use Rattle.raw_stream_text.proofs.Next.{blank_says}
use Rattle.raw_stream_text.proofs.named.Named.add_line.Goals as goal

pub returns-then-len-eq0 : goal.returns-then-len-eq0
returns-then-len-eq0 c = λ all is.
    let none = blank_says (tokens_of c.args.line.now) (omega arith) in
    rw (none, append-nil) is

pub returns-in-Ok-Some : goal.returns-in-Ok-Some
returns-in-Ok-Some c = λ all is.
    let says = rw c.in-Ok-Some.field-0-is at c.in-Ok-Some.ensures in
    subst (λ (o : Option Statement). OnOk c.add.result (IsNamed c.add.new.self (all ++ option_to_list o))) says (c.add.ensures all is)

pub returns-in-Ok-None : goal.returns-in-Ok-None
returns-in-Ok-None c = λ all is.
    let says = rw c.in-Ok-None.field-0-is at c.in-Ok-None.ensures in
    subst (λ (o : Option Statement). IsNamed c.args.self.now (all ++ option_to_list o)) says (rw append-nil is)
