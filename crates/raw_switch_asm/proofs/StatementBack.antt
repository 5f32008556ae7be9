-- The statement of a listed line gives its instruction.
use Rattle.std.proofs.Common.{◌≡◌, ℕ, suc, ◌+◌, ◌-◌, ◌*◌, ◌/◌, ◌^◌, ◌<◌, ◌≤◌, Bool, true, false, not, ◌&&◌, cond, List, [], ◌∷◌, ◌++◌, length, get_or, map, drop, Option, Some, None, Ok, refl, sym, ap, ◌∙◌, arith}
use Rattle.std.specs.Prelude.{codes, slice_index, ◌==◌}
use Rattle.std.specs.List.{list_all, list_any, find, position_or_len}
use Rattle.std.specs.Fmt.{decimal}
use Rattle.std.proofs.lemmas.Bool.{lt-ltb}
use Rattle.std.proofs.lemmas.Bool.Decides.{nat_tests}
use Rattle.std.proofs.lemmas.List.{length-map, get_or-map, drop_at, ext_get_or}
use Rattle.raw_asm.specs.Faults.{◌>>=◌}
use Rattle.raw_asm.specs.Names.{ends_with, is_decimal}
use Rattle.raw_asm.specs.Language.{target_of}
use Rattle.raw_switch_isa.specs.declared.table.SwitchOp.{SwitchOp}
use Rattle.raw_switch_isa.specs.declared.table.SwitchOp.TheVariants.{Nop, Jump, Move, Halt}
use Rattle.raw_switch_isa.specs.declared.table.SwitchOperand.{SwitchOperand}
use Rattle.raw_switch_isa.specs.declared.instruction.SwitchSource.TheVariants.{Register, Input}
use Rattle.raw_switch_isa.specs.Table.{row_of, op_named, uses, is_rd, is_src, is_target}
use Rattle.raw_switch_isa.specs.Instruction.{SwitchInstruction, IsSwitchIns, IsField, sends_register}
use Rattle.raw_switch_isa.specs.Ends.{ends, coded_source, route_source}
use Rattle.raw_grid.specs.declared.parts.Ends.{Ends}
use Rattle.raw_switch_asm.specs.Letters.{sides}
use Rattle.raw_switch_asm.specs.Operand.{field_place, instruction_number, rd_of, src_of, target_field}
use Rattle.raw_switch_asm.specs.Route.{is_arrow, is_route, route_code, sends, sends_only, sent_register, register_number}
use Rattle.raw_switch_asm.specs.Statement.{op_of, has_shape, no_routes, control_of, shaped_control, with_sources, are_wired, declared_in, instruction_of}
use Rattle.raw_switch_asm.specs.Listing.{operand_text}
use Rattle.raw_switch_asm.proofs.TextLaws.{TextLaws}
use Rattle.raw_switch_isa.proofs.Passing.{mapped_ends, ten_ends}
use Rattle.raw_switch_asm.proofs.LetterTexts.{register_read, move_read}
use Rattle.raw_switch_asm.proofs.Printed.{AreSmall, operand_passes, none_pass}
use Rattle.raw_switch_asm.proofs.CutLine.{route_texts}
use Rattle.raw_switch_asm.proofs.RoutesBack.{sources_back, texts_are_routes}

-- the name of a row is no label and no route, and it names the row
pub record IsNamed (op : SwitchOp) : Type 0 where
  pub names : op_named (row_of op).name ≡ Some op
  pub no_route : is_route (row_of op).name ≡ false
  pub no_label : ends_with (codes ":") (row_of op).name ≡ false

pub is_named : (op : SwitchOp) → IsNamed op
unfolding op_named
is_named Nop = record { names = refl; no_route = refl; no_label = refl }
is_named _ = record { names = refl; no_route = refl; no_label = refl }

field_small : (used : Bool) (limit value : ℕ) → 0 < limit → IsField used limit value → value < limit
field_small true limit value some h = h
field_small false limit value some h = omega arith

pub small_fields : (ins : SwitchInstruction) → IsSwitchIns ins → AreSmall ins
small_fields ins kept = record {
  rd = field_small (uses is_rd ins.op) 4 ins.rd (omega arith) kept.rd;
  src = field_small (uses is_src ins.op) 14 ins.src (omega arith) kept.src;
  target = field_small (uses is_target ins.op) (2 ^ 16) ins.target (omega arith) kept.target;
  rsel = field_small (sends_register ins.routes) 4 ins.rsel (omega arith) kept.rsel;
}

letter_no_arrow : (s : ℕ) → s < 5 → not (is_arrow (slice_index sides s)) ≡ true
letter_no_arrow (suc (suc (suc (suc (suc s))))) h = absurd (omega arith)
letter_no_arrow _ h = refl

digit_no_arrow : (b : ℕ) → 48 ≤ b → b ≤ 57 → not (is_arrow b) ≡ true
digit_no_arrow b low high = grind (arith, nat_tests)

decimal_byte : (b : ℕ) → 48 ≤ b → b ≤ 57 → is_decimal b ≡ true
decimal_byte b low high = grind (arith, nat_tests)

no_lead : (routes : List (List ℕ)) → list_all is_route routes ≡ true → position_or_len is_route routes ≡ 0
no_lead [] all = refl
no_lead (route ∷ routes) all = by_test (is_route route) all
  where
    by_test : (b : Bool) → (b && list_all is_route routes) ≡ true → cond (not b) (1 + position_or_len is_route routes) 0 ≡ 0
    by_test true e = refl
    by_test false e = absurd (cc)

-- the codes of an instruction, output by output
coded : (code : ℕ) (a b : Bool) (rsel output : ℕ) → (code == 0) ≡ a → (code == 6) ≡ b → code < 7 → route_code (cond a None (cond b (Some (Register rsel)) (Some (Input (5 * (output / 5) + (code - 1)))))) ≡ code
coded code true b rsel output ea eb small = grind (arith, nat_tests)
coded code false true rsel output ea eb small = grind (arith, nat_tests)
coded code false false rsel output ea eb small =
    let some : 0 < code = grind (arith, nat_tests) in
    let short : code < 6 = grind (arith, nat_tests) in
    omega arith

coded_sends : (code : ℕ) (a b : Bool) (rsel input : ℕ) → (code == 0) ≡ a → (code == 6) ≡ b → sends (cond a None (cond b (Some (Register rsel)) (Some (Input input)))) ≡ b
coded_sends code true true rsel input ea eb = absurd (grind (arith, nat_tests))
coded_sends code true false rsel input ea eb = refl
coded_sends code false true rsel input ea eb = refl
coded_sends code false false rsel input ea eb = refl

-- the register that the outputs send
register_sent : (rsel : ℕ) (codes outputs : List ℕ) → register_number (find sends (map (λ output. coded_source rsel output (slice_index codes output)) outputs)) ≡ cond (list_any sends (map (λ output. coded_source rsel output (slice_index codes output)) outputs)) rsel 0
register_sent rsel codes [] = refl
register_sent rsel codes (output ∷ outputs) = by_code (slice_index codes output == 0) (slice_index codes output == 6) (5 * (output / 5) + (slice_index codes output - 1)) (register_sent rsel codes outputs)
  where
    by_code : (a b : Bool) (input : ℕ) → register_number (find sends (map (λ o. coded_source rsel o (slice_index codes o)) outputs)) ≡ cond (list_any sends (map (λ o. coded_source rsel o (slice_index codes o)) outputs)) rsel 0
        → register_number (find sends (cond a None (cond b (Some (Register rsel)) (Some (Input input))) ∷ map (λ o. coded_source rsel o (slice_index codes o)) outputs))
        ≡ cond (list_any sends (cond a None (cond b (Some (Register rsel)) (Some (Input input))) ∷ map (λ o. coded_source rsel o (slice_index codes o)) outputs)) rsel 0
    by_code true b input rest = rest
    by_code false true input rest = refl
    by_code false false input rest = rest

one_register : (rsel : ℕ) (codes outputs : List ℕ) → list_all (sends_only rsel) (map (λ output. coded_source rsel output (slice_index codes output)) outputs) ≡ true
one_register rsel codes [] = refl
one_register rsel codes (output ∷ outputs) = by_code (slice_index codes output == 0) (slice_index codes output == 6) (5 * (output / 5) + (slice_index codes output - 1)) (one_register rsel codes outputs)
  where
    by_code : (a b : Bool) (input : ℕ) → list_all (sends_only rsel) (map (λ o. coded_source rsel o (slice_index codes o)) outputs) ≡ true
        → list_all (sends_only rsel) (cond a None (cond b (Some (Register rsel)) (Some (Input input))) ∷ map (λ o. coded_source rsel o (slice_index codes o)) outputs) ≡ true
    by_code true b input rest = rest
    by_code false true input rest = let same : (rsel == rsel) ≡ true = grind (arith, nat_tests) in rw (same, rest) refl
    by_code false false input rest = rest

sends_as_coded : (rsel : ℕ) (codes outputs : List ℕ) → list_any sends (map (λ output. coded_source rsel output (slice_index codes output)) outputs) ≡ list_any (λ code. code == 6) (map (λ output. slice_index codes output) outputs)
sends_as_coded rsel codes [] = refl
sends_as_coded rsel codes (output ∷ outputs) =
    let here = coded_sends (slice_index codes output) (slice_index codes output == 0) (slice_index codes output == 6) rsel (5 * (output / 5) + (slice_index codes output - 1)) refl refl in
    rw (here, sends_as_coded rsel codes outputs) refl

kept_field : (used : Bool) (value : ℕ) → IsField used 4 value → cond used value 0 ≡ value
kept_field true value h = refl
kept_field false value h = sym h

-- an instruction with its operands alone
abbrev pub bare : SwitchInstruction → SwitchInstruction
bare ins = record { op = ins.op; rd = ins.rd; src = ins.src; target = ins.target; rsel = 0; routes = no_routes }

module _ (ins : SwitchInstruction) (kept : IsSwitchIns ins) where
  routes_listed : map (λ output. slice_index ins.routes output) ends ≡ ins.routes
  routes_listed =
      let count = ten_ends in
      let ten = kept.ten in
      let long = length-map ends (λ output. slice_index ins.routes output) in
      ext_get_or 0 (map (λ output. slice_index ins.routes output) ends) ins.routes (omega arith) (λ o lt. mapped_ends (λ output. slice_index ins.routes output) o 0 (omega arith))

  codes_back : map route_code (map (route_source ins) ends) ≡ ins.routes
  codes_back =
      let count = ten_ends in
      let ten = kept.ten in
      let inner = length-map ends (route_source ins) in
      let outer = length-map (map (route_source ins) ends) route_code in
      let each : (o : ℕ) → o < 10 → route_code (route_source ins o) ≡ get_or ins.routes o 0 =
      λ o lt. coded (slice_index ins.routes o) (slice_index ins.routes o == 0) (slice_index ins.routes o == 6) ins.rsel o refl refl (kept.codes o 0 (omega arith)) in
      ext_get_or 0 (map route_code (map (route_source ins) ends)) ins.routes (omega arith)
      (λ o lt. get_or-map route_code (map (route_source ins) ends) o None 0 (omega arith) ∙ ap route_code (mapped_ends (route_source ins) o None (omega arith)) ∙ each o (omega arith))

  sent_back : sent_register (map (route_source ins) ends) ≡ ins.rsel
  sent_back =
      register_sent ins.rsel ins.routes ends
      ∙ ap (λ used. cond used ins.rsel 0) (sends_as_coded ins.rsel ins.routes ends ∙ ap sends_register routes_listed)
      ∙ kept_field (sends_register ins.routes) ins.rsel kept.rsel

  pub with_back : with_sources (bare ins) (map (route_source ins) ends) ≡ Ok ins
  unfolding with_sources
  with_back = rw (sent_back, codes_back, one_register ins.rsel ins.routes ends) refl

module _ (l : TextLaws) (ins : SwitchInstruction) (small : AreSmall ins) where
  no_route : (operand : SwitchOperand) → is_route (operand_text ins operand) ≡ false
  no_route operand = none_pass is_arrow (operand_text ins operand) (operand_passes l (λ b. not (is_arrow b)) digit_no_arrow refl refl letter_no_arrow ins small operand)

  lead : (operands : List SwitchOperand) (routes : List (List ℕ)) → list_all is_route routes ≡ true → position_or_len is_route (map (operand_text ins) operands ++ routes) ≡ length operands
  lead [] routes all = no_lead routes all
  lead (operand ∷ operands) routes all = rw (no_route operand, lead operands routes all) (omega arith)

  pub routes_behind : (operands : List SwitchOperand) (routes : List (List ℕ)) → drop (length operands) (map (operand_text ins) operands ++ routes) ≡ routes
  routes_behind operands routes = drop_at (map (operand_text ins) operands) routes (length operands) (length-map operands (operand_text ins))

  pub shape_back : (operands : List SwitchOperand) (routes : List (List ℕ)) → list_all is_route routes ≡ true → has_shape (length operands) (map (operand_text ins) operands ++ routes) ≡ true
  unfolding has_shape
  shape_back operands routes all =
      let same : (length operands == length operands) ≡ true = grind (arith, nat_tests) in
      rw (lead operands routes all, routes_behind operands routes, same, all) refl

  target_back : (labels : List ℕ → Option ℕ) (target : ℕ) → target < 2 ^ 16 → (target_of labels (decimal target) >>= instruction_number) ≡ Ok target
  unfolding target_of
  target_back labels target lt =
      let first = decimal_byte (slice_index (decimal target) 0) (l.low target (omega arith)) (l.high target (omega arith)) in
      rw (first, l.number target (omega arith), lt-ltb target 65536 lt) refl

  pub control_back : (labels : List ℕ → Option ℕ) (routes : List (List ℕ)) (op : SwitchOp) → IsField (uses is_rd op) 4 ins.rd → IsField (uses is_src op) 14 ins.src → IsField (uses is_target op) (2 ^ 16) ins.target
      → control_of labels op (map (operand_text ins) (row_of op).operands ++ routes) ≡ Ok (record { op = op; rd = ins.rd; src = ins.src; target = ins.target; rsel = 0; routes = no_routes })
  unfolding control_of rd_of src_of target_field
  control_back labels routes Nop rd src target = rw (rd, src, target) refl
  control_back labels routes Jump rd src target = rw (target_back labels ins.target small.target, rd, src) refl
  control_back labels routes Move rd src target = let source = move_read ins.src src in rw (register_read ins.rd rd, source.1, source.2, target) refl
  control_back labels routes Halt rd src target = rw (rd, src, target) refl
  control_back labels routes _ rd src target = rw (register_read ins.rd rd, target_back labels ins.target small.target, src) refl

-- the statement of a listed line gives its instruction
pub instruction_back : (l : TextLaws) (ins : SwitchInstruction) → IsSwitchIns ins → (wired : Ends) → are_wired wired ins ≡ true → (labels : List ℕ → Option ℕ)
    → instruction_of wired labels ((row_of ins.op).name ∷ (map (operand_text ins) (row_of ins.op).operands ++ route_texts ins ends)) ≡ Ok ins
unfolding instruction_of op_of shaped_control declared_in
instruction_back l ins kept wired is_wired labels =
    let small = small_fields ins kept in
    let named = is_named ins.op in
    let operands = (row_of ins.op).operands in
    let routes = route_texts ins ends in
    let all = texts_are_routes ins kept small.rsel ends in
    rw (
      named.no_route,
      named.names,
      shape_back l ins small operands routes all,
      control_back l ins small labels routes ins.op kept.rd kept.src kept.target,
      routes_behind l ins small operands routes,
      sources_back ins kept small.rsel,
      with_back ins kept,
      is_wired,
    ) refl

-- the register is the first operand
pub register_first : (op : SwitchOp) → uses is_rd op ≡ true → field_place is_rd op ≡ Some 0
register_first Nop h = absurd (cc)
register_first Jump h = absurd (cc)
register_first Halt h = absurd (cc)
register_first _ h = refl
