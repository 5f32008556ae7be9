-- What the routes of a statement say.
use Rattle.std.specs.Prelude.{ℕ, zero, suc, ◌+◌, ◌<◌, ◌%◌, Bool, true, false, ◌==◌, nat_lt, List, [], length, map, take, Option, Some, None, Result, Ok, Err, slice_index_or, slice_set, if◌then◌else◌}
use Rattle.std.specs.Option.{option_map, option_and_then, option_or, is_some}
use Rattle.std.specs.List.{position_or_len, before_first, after_first, list_any, list_all, find, filter_map}
use Rattle.raw_asm.specs.declared.kind.AsmKind.{AsmKind}
use Rattle.raw_asm.specs.declared.kind.AsmKind.TheVariants.{BadRoute, TwoSources}
use Rattle.raw_asm.specs.Faults.{unless_fault}
use Rattle.raw_switch_isa.specs.declared.instruction.SwitchSource.{SwitchSource}
use Rattle.raw_switch_isa.specs.declared.instruction.SwitchSource.TheVariants.{Register, Input}
use Rattle.raw_switch_isa.specs.Ends.{ends, IsSource}
use Rattle.raw_switch_asm.specs.declared.routes.Route.{Route}
use Rattle.raw_switch_asm.specs.Letters.{sides, end_at, letter_in, register_of, on_network}

-- the byte that stands between the source and the output of a route
abbrev pub is_arrow : ℕ → Bool
is_arrow b = b == 62

-- a token is read as a route
abbrev pub is_route : List ℕ → Bool
is_route token = list_any is_arrow token

-- what stands before and behind the first '>', where there is one
abbrev pub arrow_parts : List ℕ → Option (List ℕ × List ℕ)
arrow_parts token = if nat_lt (position_or_len is_arrow token) (length token) then Some (before_first is_arrow token, after_first is_arrow token) else None

-- what a route on a network takes its value from: a side, or a register
unfoldable pub source_on : ℕ → List ℕ → Option SwitchSource
source_on network token = option_or (option_map (λ side. Input (end_at network side)) (letter_in sides token)) (option_map Register (register_of token))

-- the route on a network with this text of its source and this one of its output
unfoldable pub route_on : ℕ → List ℕ → List ℕ → Option Route
route_on network source output =
    option_and_then (λ side. option_map (λ from. record { output = end_at network side; source = from }) (source_on network source)) (letter_in sides output)

-- the route of a token: a network, ':', the source, '>' and the side of the output
unfoldable pub route_of : List ℕ → Option Route
route_of token = option_and_then (λ parts. option_and_then (λ route. route_on parts.0 route.0 route.1) (arrow_parts parts.1)) (on_network token)

-- a route that a switch has
pub record IsRoute (route : Route) : Type 0 where
  pub output : route.output < 10
  pub source : IsSource route.source

-- the source that routes give an output
abbrev pub source_to : List Route → ℕ → Option SwitchSource
source_to routes output = option_map (λ route. route.source) (find (λ route. route.output == output) routes)

-- the routes of tokens
abbrev pub routes_in : List (List ℕ) → List Route
routes_in tokens = filter_map route_of tokens

-- what is wrong with a route behind these: it is of another form, or one of them has its output
abbrev pub fault_behind : List Route → Option Route → Option AsmKind
fault_behind earlier None = Some BadRoute
fault_behind earlier (Some route) = if is_some (source_to earlier route.output) then Some TwoSources else None

-- what is wrong with the route at a place
unfoldable pub route_fault : List (List ℕ) → ℕ → Option AsmKind
route_fault tokens k = fault_behind (routes_in (take k tokens)) (route_of (slice_index_or tokens k []))

-- the first fault of the first n routes
abbrev pub fault_upto : List (List ℕ) → ℕ → Option AsmKind
fault_upto tokens zero = None
fault_upto tokens (suc n) = option_or (fault_upto tokens n) (route_fault tokens n)

-- what each output sends by the routes, in the order of the end indices, or the first fault
unfoldable pub sources_of : List (List ℕ) → Result (List (Option SwitchSource)) AsmKind
sources_of tokens = unless_fault (fault_upto tokens (length tokens)) (Ok (map (source_to (routes_in tokens)) ends))

-- one route more in a table of what each output sends
unfoldable pub placed : Option Route → List (Option SwitchSource) → Result (List (Option SwitchSource)) AsmKind
placed None sources = Err BadRoute
placed (Some route) sources = if is_some (slice_index_or sources route.output None) then Err TwoSources else Ok (slice_set sources route.output (Some route.source))

-- the code of a route: 0 for none, 1 to 5 for a side, 6 for a register
abbrev pub route_code : Option SwitchSource → ℕ
route_code None = 0
route_code (Some (Register register)) = 6
route_code (Some (Input input)) = input % 5 + 1

-- whether an output sends a register
abbrev pub sends : Option SwitchSource → Bool
sends (Some (Register register)) = true
sends _ = false

-- whether an output sends this register, if it sends one
abbrev pub sends_only : ℕ → Option SwitchSource → Bool
sends_only register (Some (Register sent)) = sent == register
sends_only register _ = true

-- the register that is sent, and 0 where none is
abbrev pub register_number : Option (Option SwitchSource) → ℕ
register_number (Some (Some (Register register))) = register
register_number _ = 0

-- the register that the outputs send: that of the first which sends one
abbrev pub sent_register : List (Option SwitchSource) → ℕ
sent_register sources = register_number (find sends sources)

-- each output that sends a register sends this one
abbrev pub are_one : List (Option SwitchSource) → Bool
are_one sources = list_all (sends_only (sent_register sources)) sources
