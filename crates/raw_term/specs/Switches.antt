-- What a switch with terms is left as by an instruction.
use Rattle.std.specs.Prelude.{◌≡◌, Bool, true, false, Option, Some, None, List}
use Rattle.raw_model.specs.Local.{SwitchLocal}
use Rattle.raw_flow.specs.declared.node.Node.{Node}
use Rattle.raw_term.specs.TermRows.{SwitchTerms}

-- whether it goes on, and the table and the switch, which are as before where it does not
abbrev pub IsControl : List Node → SwitchLocal → Option SwitchTerms → Bool → List Node → SwitchLocal → Type 0
IsControl before old None goes nodes next = (goes ≡ false) × (nodes ≡ before) × (next ≡ old)
IsControl before old (Some t) goes nodes next = (goes ≡ true) × (t.nodes ≡ nodes) × (t.next ≡ next)
