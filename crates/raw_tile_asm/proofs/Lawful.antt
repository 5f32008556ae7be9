-- Each statement of tile text gives instructions that keep their rows' rules, as many as its size tells.
use Rattle.std.proofs.Common.{◌≡◌, ℕ, suc, Bool, true, false, ◌&&◌, not, cond, List, [], ◌∷◌, length, get_or, Option, Some, None, Result, Ok, Err, IfSome, refl, subst, arith}
use Rattle.std.specs.Prelude.{codes, ◌==◌, All}
use Rattle.std.specs.Option.{option_map}
use Rattle.std.specs.Str.{bytes_eq}
use Rattle.std.specs.List.{AllByRecursion}
use Rattle.std.proofs.lemmas.List.Elements.{All-from_recursion, All-contains, All-weaker}
use Rattle.raw_text.specs.Number.{number_of}
use Rattle.raw_tile_isa.specs.declared.table.TileOp.{TileOp}
use Rattle.raw_tile_isa.specs.declared.table.TileOp.TheVariants.{Sll, Addu, Beq}
use Rattle.raw_tile_isa.specs.declared.table.Operand.TheVariants.{Rd, Rs, Branch}
use Rattle.raw_tile_isa.specs.Table.{op_named}
use Rattle.raw_tile_isa.specs.Instruction.{Instruction, IsTileIns, TileCode, decode_of, is_network}
use Rattle.raw_tile_isa.specs.Load.{is_one, load, WritesAlone, IsLoad, EachLoads}
use Rattle.raw_asm.specs.declared.kind.AsmKind.{AsmKind}
use Rattle.raw_asm.specs.declared.kind.AsmKind.TheVariants.{BadOperand, BadWord}
use Rattle.raw_asm.specs.Faults.{◌>>=◌, or_fault}
use Rattle.raw_asm.specs.Section.{code_upto}
use Rattle.raw_asm.specs.FirstLines.{IsGiven, KeepsSizes, EachIsGiven, AreFew}
use Rattle.raw_tile_asm.specs.Operand.{register_of}
use Rattle.raw_tile_asm.specs.Form.{Form, form, full_form, form_named, FillsOwn}
use Rattle.raw_tile_asm.specs.Statement.{load_code, load_statement, load_size, word_statement, named_code, operands_of, instruction_of}
use Rattle.raw_tile_asm.specs.Language.{statement_code, statement_size, tile_language}
use Rattle.raw_tile_asm.specs.Lawful.{EachFrontIsLawful}
use Rattle.raw_text.proofs.NumberBounds.{number_small}
use Rattle.raw_tile_asm.proofs.Values.{step_of, some_of, register_small}
use Rattle.raw_tile_asm.proofs.Filled.{filled_fit}

-- instructions that keep their rows' rules, and how many they are
pub record AreLawful (size : ℕ) (code : List Instruction) : Type 0 where
  pub each : AllByRecursion IsTileIns code
  pub count : length code ≡ size

comes_out : (count : ℕ) (a b : List Instruction) → ◌≡◌ {A = Result (List Instruction) AsmKind} (Ok a) (Ok b) → AreLawful count a → AreLawful count b
comes_out count a b e lawful = let same : a ≡ b = cc in subst (AreLawful count) same lawful

one_written : (register : ℕ) (code : List Instruction) → All (WritesAlone register) code → AllByRecursion IsTileIns code
one_written register [] all = tt
one_written register (ins ∷ code) all = ((all 0 ins (omega arith)).rules, one_written register code (λ k d lt. all (suc k) d (omega arith)))

load_by : (d w : ℕ) (code : List Instruction) (refused : Bool) → IsLoad d w (load d w) → cond refused (Err BadOperand) (Ok (load d w)) ≡ Ok code → AreLawful (load_size (Some w)) code
load_by d w code true is e = absurd (cc)
load_by d w code false is e = comes_out (load_size (Some w)) (load d w) code e (record { each = one_written d (load d w) is.each; count = is.few })

-- by the law of loads
module _ (loads : EachLoads) where
  load_counted : (operands : List (List ℕ)) (code : List Instruction) (count : Bool)
      → cond count (or_fault BadOperand (register_of (get_or operands 0 [])) >>= λ d. or_fault BadOperand (number_of (get_or operands 1 [])) >>= λ w. load_code d w) (Err BadOperand) ≡ Ok code
      → AreLawful (load_size (number_of (get_or operands 1 []))) code
  load_counted operands code false e = absurd (cc)
  load_counted operands code true e =
      let register = register_of (get_or operands 0 []) in
      let number = number_of (get_or operands 1 []) in
      let d = step_of (or_fault BadOperand register) (λ d. or_fault BadOperand number >>= λ w. load_code d w) code e in
      let w = step_of (or_fault BadOperand number) (λ w. load_code d.0 w) code d.2 in
      let is : number ≡ Some w.0 = some_of BadOperand number w.0 w.1 in
      let below = register_small (get_or operands 0 []) d.0 (some_of BadOperand register d.0 d.1) in
      let small = number_small (get_or operands 1 []) w.0 is in
      rw is (load_by d.0 w.0 code (is_network d.0 && not (is_one w.0)) (loads d.0 w.0 below small) w.2)

  load_statement_lawful : (operands : List (List ℕ)) (code : List Instruction) → load_statement operands ≡ Ok code → AreLawful (load_size (number_of (get_or operands 1 []))) code
  unfolding load_statement
  load_statement_lawful operands code e = load_counted operands code (length operands == 2) e

-- what a word decodes to keeps its row's rules
abbrev Decodes : Type 0
Decodes = (word : ℕ) → IfSome (decode_of word) (λ ins. TileCode ins word)

decoded : (word : ℕ) (o : Option Instruction) (ins : Instruction) → IfSome o (λ ins. TileCode ins word) → o ≡ Some ins → IsTileIns ins
decoded word None ins known e = absurd (cc)
decoded word (Some found) ins known e = let same : found ≡ ins = cc in subst IsTileIns same known.rules

module _ (decodes : Decodes) where
  word_counted : (operands : List (List ℕ)) (code : List Instruction) (count : Bool)
      → cond count (or_fault BadOperand (number_of (get_or operands 0 [])) >>= λ w. or_fault BadWord (decode_of w) >>= λ i. Ok (i ∷ [])) (Err BadOperand) ≡ Ok code
      → AreLawful 1 code
  word_counted operands code false e = absurd (cc)
  word_counted operands code true e =
      let w = step_of (or_fault BadOperand (number_of (get_or operands 0 []))) (λ w. or_fault BadWord (decode_of w) >>= λ i. Ok (i ∷ [])) code e in
      let ins = step_of (or_fault BadWord (decode_of w.0)) (λ i. Ok (i ∷ [])) code w.2 in
      comes_out 1 (ins.0 ∷ []) code ins.2
      (record { each = (decoded w.0 (decode_of w.0) ins.0 (decodes w.0) (some_of BadWord (decode_of w.0) ins.0 ins.1), tt); count = refl })

  word_statement_lawful : (operands : List (List ℕ)) (code : List Instruction) → word_statement operands ≡ Ok code → AreLawful 1 code
  unfolding word_statement
  word_statement_lawful operands code e = word_counted operands code (length operands == 1) e

full_own : (op : TileOp) → FillsOwn (full_form op)
full_own op = record { rs = λ e. e; rt = λ e. e; rd = λ e. e; sh = λ e. e; imm = λ e. e; target = λ e. e }

found_own : (o : Option TileOp) (f : Form) → option_map full_form o ≡ Some f → FillsOwn f
found_own None f e = absurd (cc)
found_own (Some op) f e = let same : full_form op ≡ f = cc in subst FillsOwn same (full_own op)

short_own : (f g : Form) → FillsOwn f → Some f ≡ Some g → FillsOwn g
short_own f g own e = let same : f ≡ g = cc in subst FillsOwn same own

form_by : (name : List ℕ) (f : Form) (nop move b : Bool)
    → cond nop (Some (form Sll [])) (cond move (Some (form Addu (Rd ∷ Rs ∷ []))) (cond b (Some (form Beq (Branch ∷ []))) (option_map full_form (op_named name)))) ≡ Some f
    → FillsOwn f
form_by name f true move b e = short_own (form Sll []) f (record { rs = λ e. refl; rt = λ e. refl; rd = λ e. refl; sh = λ e. refl; imm = λ e. refl; target = λ e. refl }) e
form_by name f false true b e = short_own (form Addu (Rd ∷ Rs ∷ [])) f (record { rs = λ e. e; rt = λ e. refl; rd = λ e. e; sh = λ e. refl; imm = λ e. refl; target = λ e. refl }) e
form_by name f false false true e = short_own (form Beq (Branch ∷ [])) f (record { rs = λ e. refl; rt = λ e. refl; rd = λ e. refl; sh = λ e. refl; imm = λ e. e; target = λ e. refl }) e
form_by name f false false false e = found_own (op_named name) f e

-- the operands of a name's form stand in fields that its instruction uses
pub named_own : (name : List ℕ) (f : Form) → form_named name ≡ Some f → FillsOwn f
unfolding form_named
named_own name f e = form_by name f (bytes_eq name (codes "nop")) (bytes_eq name (codes "move")) (bytes_eq name (codes "b")) e

named_lawful : (labels : List ℕ → Option ℕ) (place : ℕ) (named : Option Form) (operands : List (List ℕ)) (code : List Instruction) → ((f : Form) → named ≡ Some f → FillsOwn f)
    → named_code labels place named operands ≡ Ok code → AreLawful 1 code
unfolding named_code
named_lawful labels place None operands code own e = absurd (cc)
named_lawful labels place (Some f) operands code own e =
    let fields = step_of (operands_of labels place f operands) (λ fields. Ok (instruction_of f.op fields ∷ [])) code e in
    comes_out 1 (instruction_of f.op fields.0 ∷ []) code fields.2
    (record { each = (filled_fit labels place f operands fields.0 (own f refl) fields.1, tt); count = refl })

module _ (decodes : Decodes) (loads : EachLoads) (labels : List ℕ → Option ℕ) (place : ℕ) where
  by_name : (name : List ℕ) (operands : List (List ℕ)) (code : List Instruction) (load word : Bool)
      → cond load (load_statement operands) (cond word (word_statement operands) (named_code labels place (form_named name) operands)) ≡ Ok code
      → AreLawful (cond load (load_size (number_of (get_or operands 1 []))) 1) code
  by_name name operands code true word e = load_statement_lawful loads operands code e
  by_name name operands code false true e = word_statement_lawful decodes operands code e
  by_name name operands code false false e = named_lawful labels place (form_named name) operands code (named_own name) e

  statement_lawful : (tokens : List (List ℕ)) (code : List Instruction) → statement_code labels place tokens ≡ Ok code → AreLawful (statement_size tokens) code
  statement_lawful [] code e = comes_out 0 [] code e (record { each = tt; count = refl })
  statement_lawful (name ∷ operands) code e = by_name name operands code (bytes_eq name (codes "li")) (bytes_eq name (codes ".word")) e

given_lawful : Decodes → EachLoads → (ins : Instruction) → IsGiven tile_language ins → IsTileIns ins
given_lawful decodes loads ins given =
    let lawful = statement_lawful decodes loads given.labels given.place given.statement given.code given.gives in
    All-contains IsTileIns given.code ins (All-from_recursion IsTileIns given.code lawful.each) given.among

sizes_kept : Decodes → EachLoads → KeepsSizes tile_language
sizes_kept decodes loads = record {
  nothing = refl;
  sizes = λ labels place statement code e. (statement_lawful decodes loads labels place statement code e).count;
}

-- what the first lines give is lawful
pub fronts_lawful : Decodes → EachLoads → EachIsGiven tile_language → (KeepsSizes tile_language → AreFew tile_language) → EachFrontIsLawful
fronts_lawful decodes loads given few lines n faultless = record {
  each = All-weaker (IsGiven tile_language) IsTileIns (given_lawful decodes loads) (code_upto tile_language lines n) (given lines n faultless);
  few = few (sizes_kept decodes loads) lines n faultless;
}
