-- Who is waited for, by the wire.
use Rattle.std.proofs.Common.{◌≡◌, ℕ, Some, sym, ap, ◌∙◌}
use Rattle.std.specs.Prelude.{option_map}
use Rattle.std.proofs.lemmas.Option.{same_Some}
use Rattle.raw_model.specs.Program.{ProgramSet}
use Rattle.raw_model.specs.Start.{MachineState}
use Rattle.raw_model.specs.Waits.{first_wait, waits_for, other_end}

-- a processor that waits for a wire and for another is at one end of the wire, and the other at the other end
pub waits_over : (set : ProgramSet) (s : MachineState) (p q w : ℕ) → first_wait set s p ≡ Some w → waits_for set s p ≡ Some q → q ≡ other_end set.topo p w
waits_over set s p q w first on = same_Some q (other_end set.topo p w) (sym on ∙ ap (option_map (other_end set.topo p)) first)
