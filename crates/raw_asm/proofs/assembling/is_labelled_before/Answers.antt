use Rattle.std.proofs.Common.{◌∙◌, false, sym, ap}
use Rattle.std.specs.Prelude.{nat_lt}
use Rattle.std.specs.Option.{option_map_or}
use Rattle.raw_asm.specs.Tokens.{section_lines}
use Rattle.raw_asm.specs.Section.{has_label}
use Rattle.raw_asm.proofs.FirstPlaces.{position_before}
use Rattle.raw_asm.proofs.assembling.is_labelled_before.Goals as goal

pub returns : goal.returns
returns g c =
    c.is_before.ensures ∙ ap (λ o. option_map_or (λ first. nat_lt first c.args.line) o false) (c.requires.first_lines c.args.name.now)
    ∙ sym (position_before (has_label c.args.name.now) (section_lines c.args.section.now) c.args.line)
