-- Where a value came out, no step before it had a fault; and how large the values of tokens are.
use Rattle.std.proofs.Common.{◌≡◌, ℕ, ◌<◌, ◌^◌, ◌%◌, Bool, true, false, cond, List, length, get_or, drop, Option, Some, None, Result, Ok, Err, refl, ap, arith, subst}
use Rattle.std.specs.Prelude.{codes, nat_lt, ◌==◌}
use Rattle.std.specs.Option.{option_map, option_or, option_and_then}
use Rattle.std.specs.List.{position}
use Rattle.std.proofs.lemmas.Bool.Decides.{nat_tests}
use Rattle.std.proofs.lemmas.List.Quantifiers.{position-Some}
use Rattle.raw_text.specs.Number.{begins_with}
use Rattle.raw_asm.specs.declared.kind.AsmKind.{AsmKind}
use Rattle.raw_asm.specs.declared.operand.Target.{Target}
use Rattle.raw_asm.specs.declared.operand.Target.TheVariants.{Label, Number}
use Rattle.raw_asm.specs.Faults.{◌>>=◌, or_fault, in_range}
use Rattle.raw_switch_isa.specs.declared.instruction.SwitchSource.{SwitchSource}
use Rattle.raw_switch_isa.specs.declared.instruction.SwitchSource.TheVariants.{Register, Input}
use Rattle.raw_switch_isa.specs.Ends.{IsSource}
use Rattle.raw_switch_asm.specs.declared.routes.Route.{Route}
use Rattle.raw_switch_asm.specs.Letters.{sides, registers, end_at, letter_in, register_of, on_network, end_of}
use Rattle.raw_switch_asm.specs.Operand.{source_field, move_source_of, instruction_number}
use Rattle.raw_switch_asm.specs.Route.{source_on, route_on, route_of, arrow_parts}

pub step_of : {A B : Type 0} (r : Result A AsmKind) (f : A → Result B AsmKind) (y : B) → (r >>= f) ≡ Ok y → (x : A) × (r ≡ Ok x) × (f x ≡ Ok y)
step_of (Ok x) f y e = (x, refl, e)
step_of (Err kind) f y e = absurd (cc)

pub some_of : {A : Type 0} (kind : AsmKind) (o : Option A) (x : A) → or_fault kind o ≡ Ok x → o ≡ Some x
some_of kind None x e = absurd (cc)
some_of kind (Some y) x e = let same : y ≡ x = cc in ap Some same

pub range_of : {A : Type 0} (fits : Bool) (x y : A) → in_range fits x ≡ Ok y → (fits ≡ true) × (x ≡ y)
range_of true x y e = (refl, cc)
range_of false x y e = absurd (cc)

-- the same of values without faults
pub mapped_of : {A B : Type 0} (f : A → B) (o : Option A) (y : B) → option_map f o ≡ Some y → (x : A) × (o ≡ Some x) × (f x ≡ y)
mapped_of f None y e = absurd (cc)
mapped_of f (Some x) y e = (x, refl, cc)

pub then_of : {A B : Type 0} (f : A → Option B) (o : Option A) (y : B) → option_and_then f o ≡ Some y → (x : A) × (o ≡ Some x) × (f x ≡ Some y)
then_of f None y e = absurd (cc)
then_of f (Some x) y e = (x, refl, e)

letter_by : (letters token : List ℕ) (r : ℕ) (one : Bool) → cond one (position (λ letter. letter == get_or token 0 0) letters) None ≡ Some r → r < length letters
letter_by letters token r true e = (position-Some (λ letter. letter == get_or token 0 0) letters r 0 e).0
letter_by letters token r false e = absurd (cc)

pub letter_small : (letters token : List ℕ) (r : ℕ) → letter_in letters token ≡ Some r → r < length letters
unfolding letter_in
letter_small letters token r e = letter_by letters token r (length token == 1) e

register_by : (rest : List ℕ) (r : ℕ) (begins : Bool) → cond begins (letter_in registers rest) None ≡ Some r → r < 4
register_by rest r true e = letter_small registers rest r e
register_by rest r false e = absurd (cc)

-- a register's number is below 4
pub register_small : (token : List ℕ) (r : ℕ) → register_of token ≡ Some r → r < 4
unfolding register_of
register_small token r e = register_by (drop 1 token) r (begins_with (codes "r") token) e

network_by : (token : List ℕ) (parts : ℕ × List ℕ) (first second : Bool) → cond first (Some (0, drop 2 token)) (cond second (Some (1, drop 2 token)) None) ≡ Some parts → parts.0 < 2
network_by token parts true second e = let same : (0, drop 2 token) ≡ parts = cc in subst (λ (p : ℕ × List ℕ). p.0 < 2) same (omega arith)
network_by token parts false true e = let same : (1, drop 2 token) ≡ parts = cc in subst (λ (p : ℕ × List ℕ). p.0 < 2) same (omega arith)
network_by token parts false false e = absurd (cc)

pub network_small : (token : List ℕ) (parts : ℕ × List ℕ) → on_network token ≡ Some parts → parts.0 < 2
unfolding on_network
network_small token parts e = network_by token parts (begins_with (codes "1:") token) (begins_with (codes "2:") token) e

-- an end's index is below 10
pub end_small : (token : List ℕ) (end : ℕ) → end_of token ≡ Some end → end < 10
unfolding end_of
end_small token end e =
    let parts = then_of (λ (parts : ℕ × List ℕ). option_map (end_at parts.0) (letter_in sides parts.1)) (on_network token) end e in
    let side = mapped_of (end_at parts.0.0) (letter_in sides parts.0.1) end parts.2 in
    let network = network_small token parts.0 parts.1 in
    let letter : side.0 < 5 = letter_small sides parts.0.1 side.0 side.1 in
    let same = side.2 in
    omega (arith, same)

source_by : (register end : Option ℕ) (source : SwitchSource) → ((r : ℕ) → register ≡ Some r → r < 4) → ((i : ℕ) → end ≡ Some i → i < 10)
    → option_or (option_map Register register) (option_map Input end) ≡ Some source → source_field source < 14
source_by (Some r) end source below within e = let same : Register r ≡ source = cc in let lt = below r refl in subst (λ s. source_field s < 14) same (omega arith)
source_by None (Some i) source below within e = let same : Input i ≡ source = cc in let lt = within i refl in subst (λ s. source_field s < 14) same (omega arith)
source_by None None source below within e = absurd (cc)

-- the field of what a move takes its value from is below 14
pub move_small : (token : List ℕ) (source : SwitchSource) → move_source_of token ≡ Some source → source_field source < 14
move_small token source e = source_by (register_of token) (end_of token) source (register_small token) (end_small token) e

-- an instruction number is below 2^16
pub target_small : (target : Target) (v : ℕ) → instruction_number target ≡ Ok v → v < 2 ^ 16
target_small (Label place) v e = let same : place % 2 ^ 16 ≡ v = cc in omega (arith, same)
target_small (Number n) v e =
    let fits = range_of (nat_lt n (2 ^ 16)) n v e in
    let test = fits.0 in
    let same = fits.1 in
    grind (arith, nat_tests)

routed_by : (network : ℕ) (side register : Option ℕ) (source : SwitchSource) → network < 2 → ((s : ℕ) → side ≡ Some s → s < 5) → ((r : ℕ) → register ≡ Some r → r < 4)
    → option_or (option_map (λ side. Input (end_at network side)) side) (option_map Register register) ≡ Some source → IsSource source
routed_by network (Some s) register source small within below e =
    let same : Input (end_at network s) ≡ source = cc in
    let lt = within s refl in
    let input : end_at network s < 10 = omega arith in
    subst IsSource same input
routed_by network None (Some r) source small within below e = let same : Register r ≡ source = cc in subst IsSource same (below r refl)
routed_by network None None source small within below e = absurd (cc)

source_lawful : (network : ℕ) (token : List ℕ) (source : SwitchSource) → network < 2 → source_on network token ≡ Some source → IsSource source
unfolding source_on
source_lawful network token source small e = routed_by network (letter_in sides token) (register_of token) source small (letter_small sides token) (register_small token) e

route_on_lawful : (network : ℕ) (from to : List ℕ) (route : Route) → network < 2 → route_on network from to ≡ Some route → IsSource route.source
unfolding route_on
route_on_lawful network from to route small e =
    let made = λ (side : ℕ). option_map (λ (source : SwitchSource). record { output = end_at network side; source = source }) (source_on network from) in
    let side = then_of made (letter_in sides to) route e in
    let source = mapped_of (λ (source : SwitchSource). record { output = end_at network side.0; source = source }) (source_on network from) route side.2 in
    let same : source.0 ≡ route.source = ap (λ (r : Route). r.source) source.2 in
    subst IsSource same (source_lawful network from source.0 small source.1)

-- a route takes its value from a source that a switch has
pub route_lawful : (token : List ℕ) (route : Route) → route_of token ≡ Some route → IsSource route.source
unfolding route_of
route_lawful token route e =
    let parts = then_of (λ (parts : ℕ × List ℕ). option_and_then (λ (cut : List ℕ × List ℕ). route_on parts.0 cut.0 cut.1) (arrow_parts parts.1)) (on_network token) route e in
    let cut = then_of (λ (cut : List ℕ × List ℕ). route_on parts.0.0 cut.0 cut.1) (arrow_parts parts.0.1) route parts.2 in
    route_on_lawful parts.0.0 cut.0.0 cut.0.1 route (network_small token parts.0 parts.1) cut.2
