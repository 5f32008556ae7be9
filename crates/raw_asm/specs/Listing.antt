-- What stands between operands in a listing.
use Rattle.std.specs.Prelude.{ℕ, ◌==◌, List, codes, if◌then◌else◌}

-- what stands before an operand by its place: a blank, or a comma and a blank
abbrev pub separator : ℕ → List ℕ
separator place = if place == 0 then codes " " else codes ", "
