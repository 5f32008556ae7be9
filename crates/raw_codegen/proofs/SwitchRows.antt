-- What the instructions of scripts do to a switch: they pass a value between its tile and a side.
use Rattle.std.proofs.Common.{◌≡◌, ℕ, ◌<◌, Bool, true, false, List, [], ◌∷◌, ◌++◌, length, Some, refl, sym, ap, subst}
use Rattle.std.specs.Prelude.{nat_lt}
use Rattle.std.specs.List.{AllByRecursion, list_all}
use Rattle.std.specs.Option.{option_to_list}
use Rattle.std.proofs.lemmas.Bool.{and_parts, ltb-true}
use Rattle.std.proofs.lemmas.List.Elements.{All-from_recursion}
use Rattle.raw_switch_isa.specs.declared.table.SwitchOp.TheVariants.{Nop}
use Rattle.raw_switch_isa.specs.Ends.{ends}
use Rattle.raw_switch_isa.specs.Instruction.{IsField, IsSwitchIns, sends_register}
use Rattle.raw_grid.specs.declared.parts.Net.{Net}
use Rattle.raw_grid.specs.declared.parts.Net.TheVariants.{One, Two}
use Rattle.raw_grid.specs.declared.parts.Side.{Side}
use Rattle.raw_grid.specs.declared.parts.Side.TheVariants.{N, E, S, W}
use Rattle.raw_grid.specs.Ends.{side_end, tile_end}
use Rattle.raw_grid.specs.Topology.{Topology, switch_number}
use Rattle.raw_grid.specs.Wires.{input_wire, output_wire}
use Rattle.raw_model.specs.Program.{has_wires}
use Rattle.raw_model.proofs.Counts.{sent_none}
use Rattle.raw_codegen.specs.Lawful.{IsPart}
use Rattle.raw_codegen.specs.Rows.{from_side, to_side}
use Rattle.raw_codegen.specs.Parts.{ToSwitch}
use Rattle.raw_codegen.specs.Straight.{PassesOn}

-- each passes the value on
pub from_side_passes : (topo : Topology) (p : ℕ) (net : Net) (side : Side) (w v : ℕ) → input_wire topo p (side_end net side) ≡ Some w → output_wire topo p (tile_end net) ≡ Some v → PassesOn topo p (from_side net side) w v
unfolding ends
from_side_passes topo p One N w v ew ev = record { takes = ap (λ o. option_to_list o ++ []) ew; sends = ap (λ o. option_to_list o ++ []) ev; next = λ size l x. refl; sent = λ size l x. simp (ew, ev, sent_none) refl }
from_side_passes topo p One E w v ew ev = record { takes = ap (λ o. option_to_list o ++ []) ew; sends = ap (λ o. option_to_list o ++ []) ev; next = λ size l x. refl; sent = λ size l x. simp (ew, ev, sent_none) refl }
from_side_passes topo p One S w v ew ev = record { takes = ap (λ o. option_to_list o ++ []) ew; sends = ap (λ o. option_to_list o ++ []) ev; next = λ size l x. refl; sent = λ size l x. simp (ew, ev, sent_none) refl }
from_side_passes topo p One W w v ew ev = record { takes = ap (λ o. option_to_list o ++ []) ew; sends = ap (λ o. option_to_list o ++ []) ev; next = λ size l x. refl; sent = λ size l x. simp (ew, ev, sent_none) refl }
from_side_passes topo p Two N w v ew ev = record { takes = ap (λ o. option_to_list o ++ []) ew; sends = ap (λ o. option_to_list o ++ []) ev; next = λ size l x. refl; sent = λ size l x. simp (ew, ev, sent_none) refl }
from_side_passes topo p Two E w v ew ev = record { takes = ap (λ o. option_to_list o ++ []) ew; sends = ap (λ o. option_to_list o ++ []) ev; next = λ size l x. refl; sent = λ size l x. simp (ew, ev, sent_none) refl }
from_side_passes topo p Two S w v ew ev = record { takes = ap (λ o. option_to_list o ++ []) ew; sends = ap (λ o. option_to_list o ++ []) ev; next = λ size l x. refl; sent = λ size l x. simp (ew, ev, sent_none) refl }
from_side_passes topo p Two W w v ew ev = record { takes = ap (λ o. option_to_list o ++ []) ew; sends = ap (λ o. option_to_list o ++ []) ev; next = λ size l x. refl; sent = λ size l x. simp (ew, ev, sent_none) refl }

pub to_side_passes : (topo : Topology) (p : ℕ) (net : Net) (side : Side) (w v : ℕ) → input_wire topo p (tile_end net) ≡ Some w → output_wire topo p (side_end net side) ≡ Some v → PassesOn topo p (to_side net side) w v
unfolding ends
to_side_passes topo p One N w v ew ev = record { takes = ap (λ o. option_to_list o ++ []) ew; sends = ap (λ o. option_to_list o ++ []) ev; next = λ size l x. refl; sent = λ size l x. simp (ew, ev, sent_none) refl }
to_side_passes topo p One E w v ew ev = record { takes = ap (λ o. option_to_list o ++ []) ew; sends = ap (λ o. option_to_list o ++ []) ev; next = λ size l x. refl; sent = λ size l x. simp (ew, ev, sent_none) refl }
to_side_passes topo p One S w v ew ev = record { takes = ap (λ o. option_to_list o ++ []) ew; sends = ap (λ o. option_to_list o ++ []) ev; next = λ size l x. refl; sent = λ size l x. simp (ew, ev, sent_none) refl }
to_side_passes topo p One W w v ew ev = record { takes = ap (λ o. option_to_list o ++ []) ew; sends = ap (λ o. option_to_list o ++ []) ev; next = λ size l x. refl; sent = λ size l x. simp (ew, ev, sent_none) refl }
to_side_passes topo p Two N w v ew ev = record { takes = ap (λ o. option_to_list o ++ []) ew; sends = ap (λ o. option_to_list o ++ []) ev; next = λ size l x. refl; sent = λ size l x. simp (ew, ev, sent_none) refl }
to_side_passes topo p Two E w v ew ev = record { takes = ap (λ o. option_to_list o ++ []) ew; sends = ap (λ o. option_to_list o ++ []) ev; next = λ size l x. refl; sent = λ size l x. simp (ew, ev, sent_none) refl }
to_side_passes topo p Two S w v ew ev = record { takes = ap (λ o. option_to_list o ++ []) ew; sends = ap (λ o. option_to_list o ++ []) ev; next = λ size l x. refl; sent = λ size l x. simp (ew, ev, sent_none) refl }
to_side_passes topo p Two W w v ew ev = record { takes = ap (λ o. option_to_list o ++ []) ew; sends = ap (λ o. option_to_list o ++ []) ev; next = λ size l x. refl; sent = λ size l x. simp (ew, ev, sent_none) refl }

-- each is a lawful instruction
abbrev Few : ℕ → Type 0
Few code = code < 7

few_codes : (routes : List ℕ) → list_all (λ code. nat_lt code 7) routes ≡ true → AllByRecursion Few routes
few_codes [] e = tt
few_codes (code ∷ routes) e =
    let both = and_parts (nat_lt code 7) (list_all (λ c. nat_lt c 7) routes) e in
    (ltb-true code 7 both.0, few_codes routes both.1)

rules : (routes : List ℕ) → sends_register routes ≡ false → length routes ≡ 10 → list_all (λ code. nat_lt code 7) routes ≡ true
    → IsSwitchIns (record { op = Nop; rd = 0; src = 0; target = 0; rsel = 0; routes = routes })
rules routes none ten few = record {
  rd = refl;
  src = refl;
  target = refl;
  rsel = subst (λ (b : Bool). IsField b 4 0) (sym none) refl;
  ten = ten;
  codes = All-from_recursion Few routes (few_codes routes few);
}

from_side_rules : (net : Net) (side : Side) → IsSwitchIns (from_side net side)
from_side_rules One N = rules (from_side One N).routes refl refl refl
from_side_rules One E = rules (from_side One E).routes refl refl refl
from_side_rules One S = rules (from_side One S).routes refl refl refl
from_side_rules One W = rules (from_side One W).routes refl refl refl
from_side_rules Two N = rules (from_side Two N).routes refl refl refl
from_side_rules Two E = rules (from_side Two E).routes refl refl refl
from_side_rules Two S = rules (from_side Two S).routes refl refl refl
from_side_rules Two W = rules (from_side Two W).routes refl refl refl

to_side_rules : (net : Net) (side : Side) → IsSwitchIns (to_side net side)
to_side_rules One N = rules (to_side One N).routes refl refl refl
to_side_rules One E = rules (to_side One E).routes refl refl refl
to_side_rules One S = rules (to_side One S).routes refl refl refl
to_side_rules One W = rules (to_side One W).routes refl refl refl
to_side_rules Two N = rules (to_side Two N).routes refl refl refl
to_side_rules Two E = rules (to_side Two E).routes refl refl refl
to_side_rules Two S = rules (to_side Two S).routes refl refl refl
to_side_rules Two W = rules (to_side Two W).routes refl refl refl

-- whose ends have wires
from_side_wired : (topo : Topology) (p : ℕ) (net : Net) (side : Side) (w v : ℕ) → input_wire topo p (side_end net side) ≡ Some w → output_wire topo p (tile_end net) ≡ Some v → has_wires topo p (from_side net side) ≡ true
unfolding ends
from_side_wired topo p One N w v ew ev = rw (ew, ev) refl
from_side_wired topo p One E w v ew ev = rw (ew, ev) refl
from_side_wired topo p One S w v ew ev = rw (ew, ev) refl
from_side_wired topo p One W w v ew ev = rw (ew, ev) refl
from_side_wired topo p Two N w v ew ev = rw (ew, ev) refl
from_side_wired topo p Two E w v ew ev = rw (ew, ev) refl
from_side_wired topo p Two S w v ew ev = rw (ew, ev) refl
from_side_wired topo p Two W w v ew ev = rw (ew, ev) refl

to_side_wired : (topo : Topology) (p : ℕ) (net : Net) (side : Side) (w v : ℕ) → input_wire topo p (tile_end net) ≡ Some w → output_wire topo p (side_end net side) ≡ Some v → has_wires topo p (to_side net side) ≡ true
unfolding ends
to_side_wired topo p One N w v ew ev = rw (ew, ev) refl
to_side_wired topo p One E w v ew ev = rw (ew, ev) refl
to_side_wired topo p One S w v ew ev = rw (ew, ev) refl
to_side_wired topo p One W w v ew ev = rw (ew, ev) refl
to_side_wired topo p Two N w v ew ev = rw (ew, ev) refl
to_side_wired topo p Two E w v ew ev = rw (ew, ev) refl
to_side_wired topo p Two S w v ew ev = rw (ew, ev) refl
to_side_wired topo p Two W w v ew ev = rw (ew, ev) refl

pub from_side_part : (topo : Topology) (t : ℕ) (net : Net) (side : Side) (w v : ℕ) → input_wire topo (switch_number topo t) (side_end net side) ≡ Some w
    → output_wire topo (switch_number topo t) (tile_end net) ≡ Some v → IsPart topo (ToSwitch t (from_side net side))
from_side_part topo t net side w v ew ev = (from_side_rules net side, from_side_wired topo (switch_number topo t) net side w v ew ev)

pub to_side_part : (topo : Topology) (t : ℕ) (net : Net) (side : Side) (w v : ℕ) → input_wire topo (switch_number topo t) (tile_end net) ≡ Some w
    → output_wire topo (switch_number topo t) (side_end net side) ≡ Some v → IsPart topo (ToSwitch t (to_side net side))
to_side_part topo t net side w v ew ev = (to_side_rules net side, to_side_wired topo (switch_number topo t) net side w v ew ev)
