use Rattle.std.proofs.Common.{◌≡◌, true, false, refl, sym, ap, ◌∙◌}
use Rattle.std.specs.Option.{is_some}
use Rattle.raw_asm.specs.NameTable.{value_in}
use Rattle.raw_asm.proofs.FirstNames.{added}
use Rattle.raw_stream_text.proofs.Naming.{noted}
use Rattle.raw_stream_text.proofs.named.Named.note.Goals as goal

pub returns-then-is_some : goal.returns-then-is_some
returns-then-is_some c =
    let some : is_some (value_in c.args.self.now.numbers c.args.name.now) ≡ true = ap is_some (sym c.number.ensures) ∙ sym c.is_some.ensures ∙ c.if-is_some.true in
    record { numbers = λ other. noted c.args.self.now c.args.name.now other c.args.self.now.count some; count = refl; sources = refl; sinks = refl }

pub returns : goal.returns
returns c =
    let absent : is_some (value_in c.args.self.now.numbers c.args.name.now) ≡ false = ap is_some (sym c.number.ensures) ∙ sym c.is_some.ensures ∙ c.if-is_some.false in
    record {
      numbers = λ other. added c.args.self.now.numbers c.insert.new.self c.args.name.now c.args.self.now.count c.in_ok-insert.ensures.updates absent other;
      count = refl;
      sources = refl;
      sinks = refl;
    }
