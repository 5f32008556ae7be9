-- A listed line is cut into its name, its operands and its routes.
use Rattle.std.proofs.Common.{◌≡◌, ℕ, zero, suc, ◌+◌, ◌-◌, ◌*◌, ◌/◌, ◌<◌, ◌≤◌, Bool, true, false, cond, List, [], ◌∷◌, ◌++◌, length, map, Option, Some, None, refl, ap, ◌∙◌, arith, length-append, append_assoc}
use Rattle.std.specs.Prelude.{codes, slice_index, ◌==◌}
use Rattle.std.specs.Option.{option_map}
use Rattle.std.specs.List.{flat_map, filter_map, cons_option}
use Rattle.std.proofs.lemmas.Bool.Decides.{nat_tests}
use Rattle.std.proofs.lemmas.List.{append-nil}
use Rattle.raw_text.specs.Lines.{is_plain, is_solid, tokens_of, IsPlain, IsLine, IsToken}
use Rattle.raw_switch_isa.specs.declared.table.SwitchOp.{SwitchOp}
use Rattle.raw_switch_isa.specs.declared.table.SwitchOp.TheVariants.{Nop}
use Rattle.raw_switch_isa.specs.declared.table.SwitchOperand.{SwitchOperand}
use Rattle.raw_switch_isa.specs.declared.instruction.SwitchSource.{SwitchSource}
use Rattle.raw_switch_isa.specs.declared.instruction.SwitchSource.TheVariants.{Register, Input}
use Rattle.raw_switch_isa.specs.Table.{row_of}
use Rattle.raw_switch_isa.specs.Instruction.{SwitchInstruction}
use Rattle.raw_switch_isa.specs.Ends.{ends, route_source}
use Rattle.raw_switch_asm.specs.Letters.{sides}
use Rattle.raw_switch_asm.specs.Listing.{operand_text, more_operands, operands_text, route_text, routed_text, routes_text, line_text}
use Rattle.raw_switch_asm.proofs.TextLaws.{TextLaws}
use Rattle.raw_switch_isa.proofs.Passing.{ten_ends}
use Rattle.raw_switch_asm.proofs.Printed.{AreSmall, IsShort, append_passes, operand_passes, route_passes, operand_length, route_length}

-- the texts of the routes to some outputs
abbrev pub route_texts : SwitchInstruction → List ℕ → List (List ℕ)
route_texts ins outputs = filter_map (λ output. option_map (route_text output) (route_source ins output)) outputs

side_passes : (p : ℕ → Bool) → p 78 ≡ true → p 69 ≡ true → p 83 ≡ true → p 87 ≡ true → p 80 ≡ true → (s : ℕ) → s < 5 → p (slice_index sides s) ≡ true
side_passes p n e s w t zero h = n
side_passes p n e s w t (suc zero) h = e
side_passes p n e s w t (suc (suc zero)) h = s
side_passes p n e s w t (suc (suc (suc zero))) h = w
side_passes p n e s w t (suc (suc (suc (suc zero)))) h = t
side_passes p n e s w t (suc (suc (suc (suc (suc side))))) h = absurd (omega arith)

pub side_solid : (s : ℕ) → s < 5 → is_solid (slice_index sides s) ≡ true
side_solid = side_passes is_solid refl refl refl refl refl

solid_digit : (b : ℕ) → 48 ≤ b → b ≤ 57 → is_solid b ≡ true
solid_digit b low high = grind (arith, nat_tests)

plain_digit : (b : ℕ) → 48 ≤ b → b ≤ 57 → is_plain b ≡ true
plain_digit b low high = grind (arith, nat_tests)

-- the name of a row is a token
pub record IsName (op : SwitchOp) : Type 0 where
  pub token : IsToken (row_of op).name
  pub plain : IsPlain (row_of op).name
  pub short : length (row_of op).name ≤ 5
  pub few : length (row_of op).operands ≤ 2

pub is_name : (op : SwitchOp) → IsName op
is_name Nop = record { token = record { some = omega arith; solid = refl }; plain = refl; short = omega arith; few = omega arith }
is_name _ = record { token = record { some = omega arith; solid = refl }; plain = refl; short = omega arith; few = omega arith }

-- what an output of a lawful instruction sends is short
short_by : (a b : Bool) (rsel input : ℕ) (source : SwitchSource) → rsel < 4 → cond a None (cond b (Some (Register rsel)) (Some (Input input))) ≡ Some source → IsShort source
short_by true b rsel input source small e = absurd (cc)
short_by false true rsel input (Register r) small e = let same : rsel ≡ r = cc in omega arith
short_by false true rsel input (Input i) small e = absurd (cc)
short_by false false rsel input (Register r) small e = absurd (cc)
short_by false false rsel input (Input i) small e = tt

module _ (l : TextLaws) (ins : SwitchInstruction) (small : AreSmall ins) where
  source_short : (output : ℕ) (source : SwitchSource) → route_source ins output ≡ Some source → IsShort source
  source_short output source is = short_by (slice_index ins.routes output == 0) (slice_index ins.routes output == 6) ins.rsel (5 * (output / 5) + (slice_index ins.routes output - 1)) source small.rsel is

  route_token : (output : ℕ) (source : SwitchSource) → IsShort source → IsToken (route_text output source)
  route_token output source short = record {
    some = (route_length l output source short).0;
    solid = route_passes l is_solid solid_digit refl refl side_solid output source short refl;
  }

  operand_token : (operand : SwitchOperand) → IsToken (operand_text ins operand)
  operand_token operand = record {
    some = (operand_length l ins small operand).0;
    solid = operand_passes l is_solid solid_digit refl refl side_solid ins small operand;
  }

  route_tokens : (token : List ℕ) → IsToken token → (outputs : List ℕ) → tokens_of (token ++ flat_map (λ output. routed_text output (route_source ins output)) outputs) ≡ token ∷ route_texts ins outputs
  route_tokens token is [] = ap tokens_of (append-nil token) ∙ l.last token is
  route_tokens token is (output ∷ outputs) = by_source (route_source ins output) refl (route_tokens token is outputs) (λ next good. route_tokens next good outputs)
    where
      by_source : (source : Option SwitchSource) → route_source ins output ≡ source → tokens_of (token ++ flat_map (λ o. routed_text o (route_source ins o)) outputs) ≡ token ∷ route_texts ins outputs
          → ((next : List ℕ) → IsToken next → tokens_of (next ++ flat_map (λ o. routed_text o (route_source ins o)) outputs) ≡ next ∷ route_texts ins outputs)
          → tokens_of (token ++ (routed_text output source ++ flat_map (λ o. routed_text o (route_source ins o)) outputs)) ≡ token ∷ cons_option (option_map (route_text output) source) (route_texts ins outputs)
      by_source None e here rest = here
      by_source (Some source) e here rest =
          l.first token (route_text output source ++ flat_map (λ o. routed_text o (route_source ins o)) outputs) 32 is refl
          ∙ ap (λ tokens. token ∷ tokens) (rest (route_text output source) (route_token output source (source_short output source e)))

  more_tokens : (token : List ℕ) → IsToken token → (operands : List SwitchOperand) → tokens_of (token ++ (more_operands ins operands ++ routes_text ins)) ≡ token ∷ (map (operand_text ins) operands ++ route_texts ins ends)
  more_tokens token is [] = route_tokens token is ends
  more_tokens token is (operand ∷ operands) =
      let text = operand_text ins operand in
      l.first token (32 ∷ ((text ++ more_operands ins operands) ++ routes_text ins)) 44 is refl
      ∙ ap (λ tokens. token ∷ tokens)
      (l.behind 32 ((text ++ more_operands ins operands) ++ routes_text ins) refl
      ∙ ap tokens_of (append_assoc text (more_operands ins operands) (routes_text ins))
      ∙ more_tokens text (operand_token operand) operands)

  all_tokens : (name : List ℕ) → IsToken name → (operands : List SwitchOperand) → tokens_of ((name ++ operands_text ins operands) ++ routes_text ins) ≡ name ∷ (map (operand_text ins) operands ++ route_texts ins ends)
  all_tokens name is [] = ap (λ front. tokens_of (front ++ routes_text ins)) (append-nil name) ∙ route_tokens name is ends
  all_tokens name is (operand ∷ operands) =
      let text = operand_text ins operand in
      ap tokens_of (append_assoc name (32 ∷ (text ++ more_operands ins operands)) (routes_text ins))
      ∙ l.first name ((text ++ more_operands ins operands) ++ routes_text ins) 32 is refl
      ∙ ap (λ tokens. name ∷ tokens)
      (ap tokens_of (append_assoc text (more_operands ins operands) (routes_text ins)) ∙ more_tokens text (operand_token operand) operands)

  -- the tokens of a listed line
  pub line_tokens : tokens_of (line_text ins) ≡ (row_of ins.op).name ∷ (map (operand_text ins) (row_of ins.op).operands ++ route_texts ins ends)
  unfolding line_text
  line_tokens = all_tokens (row_of ins.op).name (is_name ins.op).token (row_of ins.op).operands

  operand_plain : (operand : SwitchOperand) → IsPlain (operand_text ins operand)
  operand_plain operand = operand_passes l is_plain plain_digit refl refl (side_passes is_plain refl refl refl refl refl) ins small operand

  more_plain : (operands : List SwitchOperand) → IsPlain (more_operands ins operands) × (length (more_operands ins operands) ≤ 13 * length operands)
  more_plain [] = (refl, omega arith)
  more_plain (operand ∷ operands) =
      let text = operand_text ins operand in
      let rest = more_plain operands in
      let long = (operand_length l ins small operand).1 in
      let most = rest.1 in
      (append_passes is_plain (codes ", " ++ text) (more_operands ins operands) (operand_plain operand) rest.0, omega (arith, length-append text (more_operands ins operands)))

  operands_plain : (operands : List SwitchOperand) → IsPlain (operands_text ins operands) × (length (operands_text ins operands) ≤ 13 * length operands)
  operands_plain [] = (refl, omega arith)
  operands_plain (operand ∷ operands) =
      let text = operand_text ins operand in
      let rest = more_plain operands in
      let long = (operand_length l ins small operand).1 in
      let most = rest.1 in
      (append_passes is_plain (codes " " ++ text) (more_operands ins operands) (operand_plain operand) rest.0, omega (arith, length-append text (more_operands ins operands)))

  routed_plain : (output : ℕ) (source : Option SwitchSource) → route_source ins output ≡ source → IsPlain (routed_text output source) × (length (routed_text output source) ≤ 7)
  routed_plain output None e = (refl, omega arith)
  routed_plain output (Some source) e =
      let short = source_short output source e in
      let long = (route_length l output source short).1 in
      (route_passes l is_plain plain_digit refl refl (side_passes is_plain refl refl refl refl refl) output source short refl, omega arith)

  routes_plain : (outputs : List ℕ) → IsPlain (flat_map (λ output. routed_text output (route_source ins output)) outputs)
      × (length (flat_map (λ output. routed_text output (route_source ins output)) outputs) ≤ 7 * length outputs)
  routes_plain [] = (refl, omega arith)
  routes_plain (output ∷ outputs) =
      let here = routed_plain output (route_source ins output) refl in
      let rest = routes_plain outputs in
      let long = here.1 in
      let most = rest.1 in
      let text = routed_text output (route_source ins output) in
      let back = flat_map (λ o. routed_text o (route_source ins o)) outputs in
      (append_passes is_plain text back here.0 rest.0, omega (arith, length-append text back))

  -- a listed line is short: a name of at most 5 bytes, at most two operands, and ten routes
  pub line_short : length (line_text ins) ≤ 111
  unfolding line_text
  line_short =
      let name = (row_of ins.op).name in
      let named = is_name ins.op in
      let operands = operands_text ins (row_of ins.op).operands in
      omega (arith, length-append (name ++ operands) (routes_text ins), length-append name operands, (operands_plain (row_of ins.op).operands).1, (routes_plain ends).1, named.short, named.few, ten_ends)

  -- a listed line has no fault
  pub line_whole : IsLine (line_text ins)
  unfolding line_text
  line_whole =
      let name = (row_of ins.op).name in
      let operands = operands_text ins (row_of ins.op).operands in
      record {
        plain = append_passes is_plain (name ++ operands) (routes_text ins) (append_passes is_plain name operands (is_name ins.op).plain (operands_plain (row_of ins.op).operands).0) (routes_plain ends).0;
        short = omega (arith, line_short);
      }
