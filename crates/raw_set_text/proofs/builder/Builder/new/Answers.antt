use Rattle.std.proofs.Common.{refl, ◌∙◌}
use Rattle.raw_set_text.proofs.Building.Ends.{size_begins, builder_begins}
use Rattle.raw_set_text.proofs.builder.Builder.new.Goals as goal

pub returns : goal.returns
returns c columns rows stands =
    let ports = c.args.ports in
    let count = c.tiles-count.ensures.value ∙ size_begins ports columns rows stands in
    builder_begins _ columns rows stands (c.in_ok-new.ensures.stands columns rows count) refl c.new-2.ensures.items refl
