use Rattle.std.proofs.Common.{◌≡◌, ◌∙◌, Some, sym, ap}
use Rattle.std.specs.Option.{option_map}
use Rattle.raw_asm.specs.Tokens.{tokens_of}
use Rattle.raw_asm.specs.Names.{label_of}
use Rattle.raw_asm.proofs.LabelPlaces.{label_named}
use Rattle.raw_asm.proofs.label_table.add_label.Goals as goal

pub returns-in_ok-add_first : goal.returns-in_ok-add_first
returns-in_ok-add_first c = λ other.
    let own : label_of (tokens_of c.args.tokens.now) ≡ Some c.in-Some.name.now = sym c.label.ensures ∙ ap (option_map (λ name. name.now)) c.in-Some.is in
    rw (own, label_named c.in-Some.name.now other (sym c.is_name.ensures ∙ c.if-is_name.true)) (c.in_ok-add_first.ensures other)
