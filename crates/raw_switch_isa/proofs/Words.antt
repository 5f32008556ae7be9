-- Instructions to words and back.
use Rattle.std.proofs.Common.{◌≡◌, ◌≢◌, ℕ, suc, ◌+◌, ◌*◌, ◌/◌, ◌%◌, ◌^◌, ◌<◌, ◌≤◌, ⊎_elim, Bool, true, false, List, length, Some, refl, sym, ap, ◌∙◌, arith}
use Rattle.std.specs.Prelude.{slice_index, map, ◌==◌, All}
use Rattle.std.specs.List.{range_with_len, list_any}
use Rattle.std.specs.Int.Digits.{number_from_digits}
use Rattle.std.proofs.lemmas.Bool.{cases_lt, eq-eqb}
use Rattle.std.proofs.lemmas.Bool.Decides.{nat_tests}
use Rattle.std.proofs.lemmas.List.Elements.{All-from_get_or}
use Rattle.std.proofs.lemmas.List.Folds.{list_any_none, list_any_at}
use Rattle.std.proofs.lemmas.List.{get_or_past, ext_get_or}
use Rattle.std.proofs.lemmas.List.FromFn.{fill_by_all}
use Rattle.raw_switch_isa.specs.declared.table.SwitchOp.{SwitchOp}
use Rattle.raw_switch_isa.specs.declared.table.SwitchOp.TheVariants.{Nop}
use Rattle.raw_switch_isa.specs.Table.{row_of, op_with, uses, is_rd, is_src, is_target}
use Rattle.raw_switch_isa.specs.Instruction.{SwitchInstruction, IsSwitchIns, IsField, sends_register}
use Rattle.raw_switch_isa.specs.Ends.{ends}
use Rattle.raw_switch_isa.specs.Code.{SwitchCode, code_of, routes_word, route_at, bits_where}

-- ten codes, written out
ten_codes : (routes : List ℕ) → length routes ≡ 10 → routes ≡ map (slice_index routes) (range_with_len 0 10)
ten_codes routes ten = fill_by_all (slice_index routes) routes 10 0 ten (λ k h. refl)

-- the digits of a number to base 8 stand in the codes' places once the number is moved left by 6
pub digits_word : (routes : List ℕ) → length routes ≡ 10 → number_from_digits 8 routes * 64 ≡ routes_word routes
unfolding routes_word ends
digits_word routes ten =
    let digits : number_from_digits 8 routes ≡ number_from_digits 8 (map (slice_index routes) (range_with_len 0 10)) =
    ap (number_from_digits 8) (ten_codes routes ten) in
    omega arith

-- the codes of small routes leave the higher bits alone
routes_small : (routes : List ℕ) → ((k : ℕ) → slice_index routes k < 8) → routes_word routes < 2 ^ 36
unfolding routes_word ends
routes_small routes small = omega arith

-- each code stands in its place, whatever stands above
route_shown : (routes : List ℕ) (head word : ℕ) → ((k : ℕ) → slice_index routes k < 8)
    → word ≡ head * 2 ^ 36 + routes_word routes → (output : ℕ) → output < 10 → route_at word output ≡ slice_index routes output
unfolding routes_word ends
route_shown routes head word small e (suc (suc (suc (suc (suc (suc (suc (suc (suc (suc output)))))))))) h = absurd (omega arith)
route_shown routes head word small e _ h = omega arith

-- the number of a row is below 7
number_small : (op : SwitchOp) → (row_of op).number < 7
number_small Nop = omega arith
number_small _ = omega arith

-- a field is below its limit, also where it is not used
field_lt : (used : Bool) (limit value : ℕ) → 0 < limit → IsField used limit value → value < limit
field_lt true limit value some kept = kept
field_lt false limit value some kept = omega arith

-- the fields of an instruction below their limits
pub record Limits (ins : SwitchInstruction) : Type 0 where
  pub number : (row_of ins.op).number < 7
  pub rd : ins.rd < 4
  pub src : ins.src < 14
  pub target : ins.target < 65536
  pub rsel : ins.rsel < 4
  pub codes : (k : ℕ) → slice_index ins.routes k < 8

-- the rules keep each field below its limit
pub limits : (ins : SwitchInstruction) → IsSwitchIns ins → Limits ins
limits ins rules = record {
  number = number_small ins.op;
  rd = field_lt (uses is_rd ins.op) 4 ins.rd (omega arith) rules.rd;
  src = field_lt (uses is_src ins.op) 14 ins.src (omega arith) rules.src;
  target = field_lt (uses is_target ins.op) 65536 ins.target (omega arith) rules.target;
  rsel = field_lt (sends_register ins.routes) 4 ins.rsel (omega arith) rules.rsel;
  codes = λ k. ⊎_elim {C = slice_index ins.routes k < 8}
      (λ (inside : k < length ins.routes). omega (arith, rules.codes k 0 inside))
      (λ (past : length ins.routes ≤ k). omega (arith, get_or_past ins.routes k 0 past))
      (cases_lt k (length ins.routes));
}

-- the sum of the fields, each moved to its place
pub encoded : (ins : SwitchInstruction) (number rd src target rsel routes : ℕ) → IsSwitchIns ins
    → number ≡ (row_of ins.op).number → rd ≡ ins.rd → src ≡ ins.src → target ≡ ins.target → rsel ≡ ins.rsel
    → routes ≡ routes_word ins.routes
    → SwitchCode ins
    (number * 2 ^ 60 % 2 ^ 64 + rd * 2 ^ 58 % 2 ^ 64 + src * 2 ^ 54 % 2 ^ 64 + target * 2 ^ 38 % 2 ^ 64
    + rsel * 2 ^ 36 % 2 ^ 64 + routes)
unfolding code_of
encoded ins number rd src target rsel routes rules is_number is_rd is_src is_target is_rsel are_routes =
    let below = limits ins rules in record { rules = rules; code = omega arith }

-- what a word of an instruction shows in its places
record Shows (ins : SwitchInstruction) (word : ℕ) : Type 0 where
  pub number : word / 2 ^ 60 ≡ (row_of ins.op).number
  pub rd : word / 2 ^ 58 % 4 ≡ ins.rd
  pub src : word / 2 ^ 54 % 16 ≡ ins.src
  pub target : word / 2 ^ 38 % 65536 ≡ ins.target
  pub rsel : word / 2 ^ 36 % 4 ≡ ins.rsel
  pub routes : (output : ℕ) → output < 10 → route_at word output ≡ slice_index ins.routes output

-- a word shows the fields of its instruction
code_shows : (ins : SwitchInstruction) (word : ℕ) → SwitchCode ins word → Shows ins word
unfolding code_of
code_shows ins word code =
    let below = limits ins code.rules in
    let is_word = code.code in
    let small = routes_small ins.routes below.codes in
    let head = (row_of ins.op).number * 2 ^ 24 + ins.rd * 2 ^ 22 + ins.src * 2 ^ 18 + ins.target * 2 ^ 2 + ins.rsel in
    record {
      number = omega arith;
      rd = omega arith;
      src = omega arith;
      target = omega arith;
      rsel = omega arith;
      routes = route_shown ins.routes head word below.codes (omega arith);
    }

-- the operation with the number of a row is that row's
op_back : (op : SwitchOp) → op_with (row_of op).number ≡ Some op
unfolding op_with
op_back Nop = refl
op_back _ = refl

-- a word shows the operation of its instruction
pub op_shown : (ins : SwitchInstruction) (word : ℕ) → SwitchCode ins word → op_with (word / 2 ^ 60) ≡ Some ins.op
op_shown ins word code = ap op_with (code_shows ins word code).number ∙ op_back ins.op

-- a field that is read where it is used
field_read : (used : Bool) (limit value word place most : ℕ) → IsField used limit value
    → word / 2 ^ place % most ≡ value → value ≡ bits_where used word place most
field_read true limit value word place most kept shown = sym shown
field_read false limit value word place most kept shown = kept

-- what stands in a word of an instruction, in the places of the fields that an operation uses
pub record IsRead (word : ℕ) (ins : SwitchInstruction) : Type 0 where
  pub rd : ins.rd ≡ bits_where (uses is_rd ins.op) word 58 4
  pub src : ins.src ≡ bits_where (uses is_src ins.op) word 54 16
  pub target : ins.target ≡ bits_where (uses is_target ins.op) word 38 65536
  pub rsel : ins.rsel ≡ bits_where (sends_register ins.routes) word 36 4
  pub ten : length ins.routes ≡ 10
  pub routes : (output : ℕ) → output < 10 → slice_index ins.routes output ≡ route_at word output

-- an instruction is what stands in its word
pub is_read : (ins : SwitchInstruction) (word : ℕ) → SwitchCode ins word → IsRead word ins
is_read ins word code =
    let shown = code_shows ins word code in
    let rules = code.rules in
    record {
      rd = field_read (uses is_rd ins.op) 4 ins.rd word 58 4 rules.rd shown.rd;
      src = field_read (uses is_src ins.op) 14 ins.src word 54 16 rules.src shown.src;
      target = field_read (uses is_target ins.op) 65536 ins.target word 38 65536 rules.target shown.target;
      rsel = field_read (sends_register ins.routes) 4 ins.rsel word 36 4 rules.rsel shown.rsel;
      ten = rules.ten;
      routes = λ output below. sym (shown.routes output below);
    }

-- codes that stand in a word of an instruction are its routes
pub same_routes : (word : ℕ) (codes routes : List ℕ)
    → length codes ≡ 10 → ((output : ℕ) → output < 10 → slice_index codes output ≡ route_at word output)
    → length routes ≡ 10 → ((output : ℕ) → output < 10 → slice_index routes output ≡ route_at word output)
    → codes ≡ routes
same_routes word codes routes many stand ten read =
    ext_get_or 0 codes routes (many ∙ sym ten) (λ k inside. stand k (omega arith) ∙ sym (read k (omega arith)))

-- two instructions with one operation that stand in one word are equal
pub same_read : (word : ℕ) (ins other : SwitchInstruction) → ins.op ≡ other.op
    → IsRead word ins → IsRead word other → ins ≡ other
same_read word ins other op a b =
    let routes : ins.routes ≡ other.routes = same_routes word ins.routes other.routes a.ten a.routes b.ten b.routes in
    let rd : ins.rd ≡ other.rd = a.rd ∙ ap (λ op. bits_where (uses is_rd op) word 58 4) op ∙ sym b.rd in
    let src : ins.src ≡ other.src = a.src ∙ ap (λ op. bits_where (uses is_src op) word 54 16) op ∙ sym b.src in
    let target : ins.target ≡ other.target = a.target ∙ ap (λ op. bits_where (uses is_target op) word 38 65536) op ∙ sym b.target in
    let rsel : ins.rsel ≡ other.rsel = a.rsel ∙ ap (λ codes. bits_where (sends_register codes) word 36 4) routes ∙ sym b.rsel in
    λ x. record { op = op x; rd = rd x; src = src x; target = target x; rsel = rsel x; routes = routes x }

-- lawful codes have no 7 among them
pub no_seven : (routes : List ℕ) → All (λ code. code < 7) routes → list_any (λ code. code == 7) routes ≡ false
no_seven routes codes =
    list_any_none (λ code. code == 7) routes (λ k d inside. let below = codes k d inside in grind (arith, nat_tests))

-- a field that is read where it is used keeps its rule
field_kept : (used : Bool) (limit value word place most : ℕ) → 0 < most
    → value ≡ bits_where used word place most → (value < most → value < limit) → IsField used limit value
field_kept true limit value word place most some read below = below (omega arith)
field_kept false limit value word place most some read below = read

-- codes of three bits with no 7 among them are lawful
codes_kept : (routes : List ℕ) → ((k : ℕ) → k < length routes → slice_index routes k < 8)
    → list_any (λ code. code == 7) routes ≡ false → All (λ code. code < 7) routes
codes_kept routes small none = All-from_get_or (λ code. code < 7) routes 0 (λ k inside.
    let below = small k inside in
    let other : slice_index routes k ≢ 7 = λ seven.
    let found = list_any_at (λ code. code == 7) routes k 0 inside (eq-eqb (slice_index routes k) 7 seven) in cc in
    omega arith)

-- what stands in a word keeps the rules, where src and the codes are in range
pub is_kept : (word : ℕ) (ins : SwitchInstruction) → IsRead word ins → ins.src < 14
    → list_any (λ code. code == 7) ins.routes ≡ false → IsSwitchIns ins
is_kept word ins read small none = record {
  rd = field_kept (uses is_rd ins.op) 4 ins.rd word 58 4 (omega arith) read.rd (λ below. below);
  src = field_kept (uses is_src ins.op) 14 ins.src word 54 16 (omega arith) read.src (λ _. small);
  target = field_kept (uses is_target ins.op) 65536 ins.target word 38 65536 (omega arith) read.target (λ below. below);
  rsel = field_kept (sends_register ins.routes) 4 ins.rsel word 36 4 (omega arith) read.rsel (λ below. below);
  ten = read.ten;
  codes = codes_kept ins.routes (λ k inside. omega (arith, read.routes k (omega arith))) none;
}
