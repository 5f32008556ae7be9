use Rattle.std.proofs.Common.{◌≡◌, Some, ap, sym, ◌∙◌, rules}
use Rattle.raw_switch_isa.specs.declared.instruction.SwitchSource.TheVariants.{Input}
use Rattle.raw_switch_isa.specs.Ends.{is_from_input}
use Rattle.raw_switch_isa.proofs.EndWords.{one_end}
use Rattle.raw_switch_isa.proofs.ends.input_end.Goals as goal

pub returns-in-Some-Input : goal.returns-in-Some-Input
returns-in-Some-Input c = λ end.
    let source : c.args.source ≡ Some (Input c.in-Some-Input.input) = search rules in
    one_end c.in-Some-Input.input end (search rules) ∙ ap (is_from_input end) (sym source)
