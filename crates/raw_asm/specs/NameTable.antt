-- Values with names, and a map that finds them.
use Rattle.std.specs.Prelude.{◌≡◌, ℕ, List, Option}
use Rattle.std.specs.List.{find}
use Rattle.std.specs.Str.{bytes_eq}
use Rattle.std.specs.Borrow.{Bor}
use Rattle.std.specs.Ordering.{nat_cmp}
use Rattle.std.specs.Cmp.Lexicographic.{slice_cmp}
use Rattle.std.specs.BTreeMap.{BTreeMap, get_by}

-- the value that a map has for a name
abbrev pub value_in : {V : Type 0} → BTreeMap (Bor (List ℕ)) V → List ℕ → Option V
value_in map name = get_by (λ key. slice_cmp nat_cmp name key.now) map

-- the first of the values that has the name
abbrev pub named_in : {V : Type 0} → (V → List ℕ) → List V → List ℕ → Option V
named_in name_of values name = find (λ value. bytes_eq (name_of value) name) values

-- the map has for each name the first of the values that has it, and nothing else
abbrev pub HasNames : {V : Type 0} → (V → List ℕ) → List V → BTreeMap (Bor (List ℕ)) V → Type 0
HasNames name_of values map = (name : List ℕ) → value_in map name ≡ named_in name_of values name
