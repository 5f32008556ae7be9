use Rattle.std.proofs.Common.{◌∙◌, sym}
use Rattle.raw_asm.proofs.FirstNames.{added}
use Rattle.raw_asm.proofs.name_table.add_first.Goals as goal

pub returns : goal.returns
returns g c = added c.args.map.now c.insert.new.self c.args.name.now c.args.value c.in_ok-insert.ensures.updates (sym c.contains_key.ensures ∙ c.if-contains_key.false)
