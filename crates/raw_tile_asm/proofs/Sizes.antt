-- The sizes of statements.
use Rattle.std.proofs.Common.{◌≡◌, ℕ, ◌≤◌, List, [], length, get_or, None, refl}
use Rattle.std.proofs.lemmas.List.{get_or_past}
use Rattle.raw_text.specs.Number.{number_of, digits_up_to}
use Rattle.raw_tile_asm.specs.Statement.{load_size}

no_number : number_of [] ≡ None
unfolding number_of digits_up_to
no_number = refl

-- a load without a number has the size 1
pub no_operand : (operands : List (List ℕ)) → length operands ≤ 1 → load_size (number_of (get_or operands 1 [])) ≡ 1
no_operand operands h = rw (get_or_past operands 1 [] h, no_number) refl
