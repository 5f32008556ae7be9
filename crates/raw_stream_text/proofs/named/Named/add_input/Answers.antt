use Rattle.std.proofs.Common.{refl}
use Rattle.raw_stream_text.proofs.Naming.{input_named}
use Rattle.raw_stream_text.proofs.named.Named.add_input.Goals as goal

pub returns : goal.returns
returns c = λ all is. input_named c.args.self.now all is c.define.result _ c.define.new.self c.args.name.now c.args.edge refl refl refl c.in_ok-add.ensures.added c.define.ensures
