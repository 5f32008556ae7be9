-- Each statement of a switch gives at most one instruction, which keeps the rules and names only ends with wires.
use Rattle.std.proofs.Common.{◌≡◌, ℕ, ◌<◌, ◌^◌, Bool, true, false, cond, List, [], ◌∷◌, length, get_or, drop, map, Option, Some, None, Result, Ok, Err, IfSome, refl, subst, arith}
use Rattle.std.specs.Prelude.{◌==◌}
use Rattle.std.specs.Option.{option_map}
use Rattle.std.specs.List.{cons_option, find, AllByRecursion}
use Rattle.std.proofs.lemmas.List.{length-map}
use Rattle.std.proofs.lemmas.List.Elements.{All-from_recursion, All-contains, All-weaker}
use Rattle.raw_asm.specs.declared.kind.AsmKind.{AsmKind}
use Rattle.raw_asm.specs.declared.kind.AsmKind.TheVariants.{BadOperand, UnknownName, TwoRegisters, UndeclaredEdge}
use Rattle.raw_asm.specs.Faults.{◌>>=◌, or_fault, unless_fault}
use Rattle.raw_asm.specs.Language.{target_of}
use Rattle.raw_asm.specs.Section.{code_upto}
use Rattle.raw_asm.specs.FirstLines.{IsGiven, KeepsSizes, EachIsGiven, AreFew}
use Rattle.raw_switch_isa.specs.declared.table.SwitchOp.{SwitchOp}
use Rattle.raw_switch_isa.specs.declared.table.SwitchOp.TheVariants.{Nop, Jump, Beqz, Bnez, Bnezd, Move, Halt}
use Rattle.raw_switch_isa.specs.declared.instruction.SwitchSource.{SwitchSource}
use Rattle.raw_switch_isa.specs.Table.{row_of, uses, is_rd, is_src, is_target}
use Rattle.raw_switch_isa.specs.Instruction.{SwitchInstruction, IsSwitchIns, IsField}
use Rattle.raw_switch_isa.specs.Ends.{ends, IsSource}
use Rattle.raw_grid.specs.declared.parts.Ends.{Ends}
use Rattle.raw_switch_asm.specs.declared.routes.Route.{Route}
use Rattle.raw_switch_asm.specs.Letters.{register_of}
use Rattle.raw_switch_asm.specs.Operand.{source_field, move_source_of, instruction_number, rd_of, src_of, target_field}
use Rattle.raw_switch_asm.specs.Route.{route_of, source_to, routes_in, fault_upto, sources_of, route_code, sent_register, are_one}
use Rattle.raw_switch_asm.specs.Statement.{op_of, behind_name, has_shape, no_routes, control_of, shaped_control, with_sources, are_wired, declared_in, instruction_of}
use Rattle.raw_switch_asm.specs.Language.{statement_size, statement_code, switch_language}
use Rattle.raw_switch_asm.specs.Lawful.{EachFrontIsLawful}
use Rattle.raw_switch_isa.proofs.Passing.{ten_ends}
use Rattle.raw_switch_asm.proofs.Sources.{register_field, codes_small}
use Rattle.raw_switch_asm.proofs.Values.{step_of, some_of, mapped_of, register_small, move_small, target_small, route_lawful}

-- the operands of an instruction are as its row wants them
pub record HasOperands (op : SwitchOp) (ins : SwitchInstruction) : Type 0 where
  pub same : ins.op ≡ op
  pub rd : IsField (uses is_rd op) 4 ins.rd
  pub src : IsField (uses is_src op) 14 ins.src
  pub target : IsField (uses is_target op) (2 ^ 16) ins.target

register_read : (token : List ℕ) (v : ℕ) → or_fault BadOperand (register_of token) ≡ Ok v → v < 4
register_read token v e = register_small token v (some_of BadOperand (register_of token) v e)

source_read : (token : List ℕ) (v : ℕ) → or_fault BadOperand (option_map source_field (move_source_of token)) ≡ Ok v → v < 14
source_read token v e =
    let source = mapped_of source_field (move_source_of token) v (some_of BadOperand (option_map source_field (move_source_of token)) v e) in
    subst (λ n. n < 14) source.2 (move_small token source.0 source.1)

target_read : (labels : List ℕ → Option ℕ) (token : List ℕ) (v : ℕ) → (target_of labels token >>= instruction_number) ≡ Ok v → v < 2 ^ 16
target_read labels token v e = let target = step_of (target_of labels token) instruction_number v e in target_small target.0 v target.2

none_read : (v : ℕ) → ◌≡◌ {A = Result ℕ AsmKind} (Ok 0) (Ok v) → v ≡ 0
none_read v e = cc

rd_field : (op : SwitchOp) (tokens : List (List ℕ)) (v : ℕ) → rd_of op tokens ≡ Ok v → IsField (uses is_rd op) 4 v
unfolding rd_of
rd_field Nop tokens v e = none_read v e
rd_field Jump tokens v e = none_read v e
rd_field Halt tokens v e = none_read v e
rd_field _ tokens v e = register_read (get_or tokens 0 []) v e

src_field : (op : SwitchOp) (tokens : List (List ℕ)) (v : ℕ) → src_of op tokens ≡ Ok v → IsField (uses is_src op) 14 v
unfolding src_of
src_field Move tokens v e = source_read (get_or tokens 1 []) v e
src_field _ tokens v e = none_read v e

target_is_field : (labels : List ℕ → Option ℕ) (op : SwitchOp) (tokens : List (List ℕ)) (v : ℕ) → target_field labels op tokens ≡ Ok v → IsField (uses is_target op) (2 ^ 16) v
unfolding target_field
target_is_field labels Jump tokens v e = target_read labels (get_or tokens 0 []) v e
target_is_field labels Beqz tokens v e = target_read labels (get_or tokens 1 []) v e
target_is_field labels Bnez tokens v e = target_read labels (get_or tokens 1 []) v e
target_is_field labels Bnezd tokens v e = target_read labels (get_or tokens 1 []) v e
target_is_field labels _ tokens v e = none_read v e

abbrev control : SwitchOp → ℕ → ℕ → ℕ → SwitchInstruction
control op register source place = record { op = op; rd = register; src = source; target = place; rsel = 0; routes = no_routes }

control_lawful : (labels : List ℕ → Option ℕ) (op : SwitchOp) (tokens : List (List ℕ)) (ins : SwitchInstruction) → control_of labels op tokens ≡ Ok ins → HasOperands op ins
unfolding control_of
control_lawful labels op tokens ins e =
    let register = step_of (rd_of op tokens) (λ register. src_of op tokens >>= λ source. target_field labels op tokens >>= λ place. Ok (control op register source place)) ins e in
    let source = step_of (src_of op tokens) (λ source. target_field labels op tokens >>= λ place. Ok (control op register.0 source place)) ins register.2 in
    let place = step_of (target_field labels op tokens) (λ place. Ok (control op register.0 source.0 place)) ins source.2 in
    let made = place.2 in
    let same : control op register.0 source.0 place.0 ≡ ins = cc in
    subst (HasOperands op) same
    (record { same = refl; rd = rd_field op tokens register.0 register.1; src = src_field op tokens source.0 source.1; target = target_is_field labels op tokens place.0 place.1 })

control_by : (labels : List ℕ → Option ℕ) (op : SwitchOp) (tokens : List (List ℕ)) (ins : SwitchInstruction) (shape : Bool) → cond shape (control_of labels op tokens) (Err BadOperand) ≡ Ok ins → HasOperands op ins
control_by labels op tokens ins true e = control_lawful labels op tokens ins e
control_by labels op tokens ins false e = absurd (cc)

shaped_lawful : (labels : List ℕ → Option ℕ) (op : SwitchOp) (tokens : List (List ℕ)) (ins : SwitchInstruction) → shaped_control labels op tokens ≡ Ok ins → HasOperands op ins
unfolding shaped_control
shaped_lawful labels op tokens ins e = control_by labels op tokens ins (has_shape (length (row_of op).operands) tokens) e

-- each source that routes give is one that a switch has
source_lawful : (tokens : List (List ℕ)) (output : ℕ) → IfSome (source_to (routes_in tokens) output) IsSource
source_lawful [] output = tt
source_lawful (token ∷ tokens) output = by_route (route_of token) (route_lawful token) (source_lawful tokens output)
  where
    by_output : (route : Route) (same : Bool) → IsSource route.source → IfSome (source_to (routes_in tokens) output) IsSource
        → IfSome (option_map (λ (r : Route). r.source) (cond same (Some route) (find (λ r. r.output == output) (routes_in tokens)))) IsSource
    by_output route true here rest = here
    by_output route false here rest = rest

    by_route : (o : Option Route) → ((route : Route) → o ≡ Some route → IsSource route.source) → IfSome (source_to (routes_in tokens) output) IsSource
        → IfSome (source_to (cons_option o (routes_in tokens)) output) IsSource
    by_route None lawful rest = rest
    by_route (Some route) lawful rest = by_output route (route.output == output) (lawful route refl) rest

all_sources : (tokens : List (List ℕ)) (outputs : List ℕ) → AllByRecursion (λ source. IfSome source IsSource) (map (source_to (routes_in tokens)) outputs)
all_sources tokens [] = tt
all_sources tokens (output ∷ outputs) = (source_lawful tokens output, all_sources tokens outputs)

-- a table of what each output sends
pub record AreSources (sources : List (Option SwitchSource)) : Type 0 where
  pub ten : length sources ≡ 10
  pub each : AllByRecursion (λ source. IfSome source IsSource) sources

sources_by : (fault : Option AsmKind) (made sources : List (Option SwitchSource)) → unless_fault fault (Ok made) ≡ Ok sources → AreSources made → AreSources sources
sources_by None made sources e are = let same : made ≡ sources = cc in subst AreSources same are
sources_by (Some kind) made sources e are = absurd (cc)

sources_lawful : (tokens : List (List ℕ)) (sources : List (Option SwitchSource)) → sources_of tokens ≡ Ok sources → AreSources sources
unfolding sources_of
sources_lawful tokens sources e =
    let count = ten_ends in
    let long = length-map ends (source_to (routes_in tokens)) in
    sources_by (fault_upto tokens (length tokens)) (map (source_to (routes_in tokens)) ends) sources e
    (record { ten = omega (arith, count, long); each = all_sources tokens ends })

abbrev routed : SwitchInstruction → List (Option SwitchSource) → SwitchInstruction
routed ins sources = record ins { rsel = sent_register sources; routes = map route_code sources }

routed_lawful : (op : SwitchOp) (ins : SwitchInstruction) (sources : List (Option SwitchSource)) → HasOperands op ins → AreSources sources → IsSwitchIns (routed ins sources)
routed_lawful op ins sources has are =
    let long = length-map sources route_code in
    let ten = are.ten in
    record {
      rd = rw has.same has.rd;
      src = rw has.same has.src;
      target = rw has.same has.target;
      rsel = register_field sources are.each;
      ten = omega (arith, long, ten);
      codes = All-from_recursion (λ code. code < 7) (map route_code sources) (codes_small sources);
    }

routed_by : (op : SwitchOp) (ins made : SwitchInstruction) (sources : List (Option SwitchSource)) (one : Bool) → cond one (Ok (routed ins sources)) (Err TwoRegisters) ≡ Ok made → HasOperands op ins → AreSources sources
    → IsSwitchIns made
routed_by op ins made sources true e has are = let same : routed ins sources ≡ made = cc in subst IsSwitchIns same (routed_lawful op ins sources has are)
routed_by op ins made sources false e has are = absurd (cc)

with_lawful : (op : SwitchOp) (ins made : SwitchInstruction) (sources : List (Option SwitchSource)) → with_sources ins sources ≡ Ok made → HasOperands op ins → AreSources sources → IsSwitchIns made
unfolding with_sources
with_lawful op ins made sources e has are = routed_by op ins made sources (are_one sources) e has are

-- an instruction that keeps the rules and names only ends with wires
abbrev pub Rule : Ends → SwitchInstruction → Type 0
Rule wired ins = IsSwitchIns ins × (are_wired wired ins ≡ true)

declared_by : (wired : Ends) (made ins : SwitchInstruction) (all : Bool) → are_wired wired made ≡ all → cond all (Ok made) (Err UndeclaredEdge) ≡ Ok ins → IsSwitchIns made → Rule wired ins
declared_by wired made ins true is e lawful = let same : made ≡ ins = cc in subst (Rule wired) same (lawful, is)
declared_by wired made ins false is e lawful = absurd (cc)

declared_lawful : (wired : Ends) (made ins : SwitchInstruction) → declared_in wired made ≡ Ok ins → IsSwitchIns made → Rule wired ins
unfolding declared_in
declared_lawful wired made ins e lawful = declared_by wired made ins (are_wired wired made) refl e lawful

module _ (wired : Ends) (labels : List ℕ → Option ℕ) (tokens : List (List ℕ)) where
  instruction_lawful : (ins : SwitchInstruction) → instruction_of wired labels tokens ≡ Ok ins → Rule wired ins
  unfolding instruction_of
  instruction_lawful ins e =
      let routes = λ (op : SwitchOp). sources_of (drop (length (row_of op).operands) (behind_name tokens)) in
      let op = step_of (or_fault UnknownName (op_of tokens)) (λ op. shaped_control labels op (behind_name tokens) >>= λ control. routes op >>= λ sources. with_sources control sources >>= λ ins. declared_in wired ins) ins e in
      let control = step_of (shaped_control labels op.0 (behind_name tokens)) (λ control. routes op.0 >>= λ sources. with_sources control sources >>= λ ins. declared_in wired ins) ins op.2 in
      let sources = step_of (routes op.0) (λ sources. with_sources control.0 sources >>= λ ins. declared_in wired ins) ins control.2 in
      let made = step_of (with_sources control.0 sources.0) (λ ins. declared_in wired ins) ins sources.2 in
      let has = shaped_lawful labels op.0 (behind_name tokens) control.0 control.1 in
      let are = sources_lawful (drop (length (row_of op.0).operands) (behind_name tokens)) sources.0 sources.1 in
      declared_lawful wired made.0 ins made.2 (with_lawful op.0 control.0 made.0 sources.0 made.1 has are)

-- the instructions of a statement, and how many they are
pub record AreLawful (wired : Ends) (size : ℕ) (code : List SwitchInstruction) : Type 0 where
  pub each : AllByRecursion (Rule wired) code
  pub count : length code ≡ size

code_by : (wired : Ends) (labels : List ℕ → Option ℕ) (tokens : List (List ℕ)) (code : List SwitchInstruction) (none : Bool)
    → cond none (Ok []) (instruction_of wired labels tokens >>= λ ins. Ok (ins ∷ [])) ≡ Ok code → AreLawful wired (cond none 0 1) code
code_by wired labels tokens code true e = let same : [] ≡ code = cc in subst (AreLawful wired 0) same (record { each = tt; count = refl })
code_by wired labels tokens code false e =
    let ins = step_of (instruction_of wired labels tokens) (λ ins. Ok (ins ∷ [])) code e in
    let made = ins.2 in
    let same : ins.0 ∷ [] ≡ code = cc in
    subst (AreLawful wired 1) same (record { each = (instruction_lawful wired labels tokens ins.0 ins.1, tt); count = refl })

statement_lawful : (wired : Ends) (labels : List ℕ → Option ℕ) (tokens : List (List ℕ)) (code : List SwitchInstruction) → statement_code wired labels tokens ≡ Ok code → AreLawful wired (statement_size tokens) code
unfolding statement_code
statement_lawful wired labels tokens code e = code_by wired labels tokens code (length tokens == 0) e

given_lawful : (wired : Ends) (ins : SwitchInstruction) → IsGiven (switch_language wired) ins → Rule wired ins
given_lawful wired ins given =
    let lawful = statement_lawful wired given.labels given.statement given.code given.gives in
    All-contains (Rule wired) given.code ins (All-from_recursion (Rule wired) given.code lawful.each) given.among

sizes_kept : (wired : Ends) → KeepsSizes (switch_language wired)
sizes_kept wired = record {
  nothing = refl;
  sizes = λ labels place statement code e. (statement_lawful wired labels statement code e).count;
}

-- what the first lines give is lawful
pub fronts_lawful : ((wired : Ends) → EachIsGiven (switch_language wired)) → ((wired : Ends) → KeepsSizes (switch_language wired) → AreFew (switch_language wired)) → EachFrontIsLawful
fronts_lawful given few wired lines n faultless =
    let language = switch_language wired in
    let code = code_upto language lines n in
    let all = given wired lines n faultless in
    record {
      each = All-weaker (IsGiven language) IsSwitchIns (λ ins is. (given_lawful wired ins is).0) code all;
      wired = All-weaker (IsGiven language) (λ ins. are_wired wired ins ≡ true) (λ ins is. (given_lawful wired ins is).1) code all;
      few = few wired (sizes_kept wired) lines n faultless;
    }
