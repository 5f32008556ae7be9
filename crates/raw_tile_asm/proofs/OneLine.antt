-- A listed line is cut into its name and its operands.
use Rattle.std.proofs.Common.{◌≡◌, ℕ, true, ◌+◌, ◌*◌, ◌≤◌, List, [], ◌∷◌, ◌++◌, length, map, refl, arith, length-append}
use Rattle.std.specs.Prelude.{codes}
use Rattle.std.specs.List.{list_all, AllByRecursion}
use Rattle.std.proofs.lemmas.List.{length-map}
use Rattle.raw_tile_isa.specs.declared.limits.TheConstants.{MAX_TILE_CODE}
use Rattle.raw_text.specs.Lines.{tokens_of, is_solid, IsPlain, IsLine, IsToken, joined}
use Rattle.raw_text.proofs.WrittenLines.{all_append}
use Rattle.raw_text.proofs.WrittenTokens.{token_plain, token_append, token_last, tokens_named, named_plain, joined_length}
use Rattle.raw_tile_isa.specs.declared.table.Operand.{Operand}
use Rattle.raw_tile_isa.specs.declared.table.Operand.TheVariants.{Rd, Rs, Rt, Shift, Signed, Unsigned, Branch, Jump, Memory}
use Rattle.raw_tile_isa.specs.Table.{row_of}
use Rattle.raw_tile_isa.specs.Instruction.{Instruction}
use Rattle.raw_tile_asm.specs.Listing.{operand_text, operand_texts, named_text, line_text, register_text, signed_text}
use Rattle.raw_tile_asm.proofs.Limits.{Limits}
use Rattle.raw_tile_asm.proofs.Rows.{row_name}
use Rattle.raw_tile_asm.proofs.OperandTexts.{IsShortToken, number_short, register_short, signed_short, branch_short, hex_short}

-- the tokens of a name with operands
pub tokens_of_named : (name : List ℕ) (texts : List (List ℕ)) → IsToken name → AllByRecursion IsToken texts → tokens_of (named_text name texts) ≡ name ∷ texts
tokens_of_named name [] is all = token_last name is
tokens_of_named name (text ∷ texts) is all = tokens_named name (text ∷ texts) is all

pub named_text_plain : (name : List ℕ) (texts : List (List ℕ)) → IsToken name → AllByRecursion IsToken texts → IsPlain (named_text name texts)
named_text_plain name [] is all = token_plain name is
named_text_plain name (text ∷ texts) is all = named_plain name (text ∷ texts) is all

named_length : (name : List ℕ) (texts : List (List ℕ)) (most : ℕ) → AllByRecursion (λ text. length text ≤ most) texts → length (named_text name texts) ≤ length name + 1 + length texts * (2 + most)
named_length name [] most all = omega arith
named_length name (text ∷ texts) most all =
    let long = joined_length (codes ", ") (text ∷ texts) most all in
    omega (arith, long, length-append name (32 ∷ joined (codes ", ") (text ∷ texts)))

module _ (i : Instruction) (place : ℕ) (l : Limits i) (near : place ≤ MAX_TILE_CODE) where
  memory_short : IsShortToken (operand_text i place Memory)
  memory_short =
      let s = signed_short i.imm l.imm in
      let r = register_short i.rs l.rs in
      let inner = register_text i.rs ++ codes ")" in
      let closed : list_all is_solid inner ≡ true = all_append is_solid (register_text i.rs) (codes ")") r.0.solid refl in
      let long = length-append (signed_text i.imm) (codes "(" ++ inner) in
      let rest = length-append (register_text i.rs) (codes ")") in
      record {
        token = token_append (signed_text i.imm) (codes "(" ++ inner) s.0 (rw closed refl);
        short = omega (arith, long, rest, s.1, r.1);
      }

  short_token : (form : Operand) → IsShortToken (operand_text i place form)
  short_token Rd = let r = register_short i.rd l.rd in record { token = r.0; short = omega (arith, r.1) }
  short_token Rs = let r = register_short i.rs l.rs in record { token = r.0; short = omega (arith, r.1) }
  short_token Rt = let r = register_short i.rt l.rt in record { token = r.0; short = omega (arith, r.1) }
  short_token Shift = number_short i.sh (let h = l.sh in omega arith)
  short_token Signed = let s = signed_short i.imm l.imm in record { token = s.0; short = omega (arith, s.1) }
  short_token Unsigned = hex_short i.imm l.imm
  short_token Branch = branch_short place i.imm near l.imm
  short_token Jump = number_short i.target (let h = l.target in omega arith)
  short_token Memory = memory_short

  all_tokens : (forms : List Operand) → AllByRecursion IsToken (map (operand_text i place) forms)
  all_tokens [] = tt
  all_tokens (form ∷ forms) = ((short_token form).token, all_tokens forms)

  all_short : (forms : List Operand) → AllByRecursion (λ text. length text ≤ 24) (map (operand_text i place) forms)
  all_short [] = tt
  all_short (form ∷ forms) = ((short_token form).short, all_short forms)

  -- the tokens of a listed line
  pub line_tokens : tokens_of (line_text i place) ≡ (row_of i.op).name ∷ operand_texts i place
  line_tokens = tokens_of_named (row_of i.op).name (operand_texts i place) (row_name i.op).token (all_tokens (row_of i.op).operands)

  -- a listed line is short: a name of at most 6 bytes and at most three operands
  pub line_short : length (line_text i place) ≤ 87
  line_short =
      let forms = (row_of i.op).operands in
      let n = row_name i.op in
      let count = length-map forms (operand_text i place) in
      let long = named_length (row_of i.op).name (operand_texts i place) 24 (all_short forms) in
      omega (arith, long, count, n.short, n.few)

  -- a listed line has no fault
  pub line_is_line : IsLine (line_text i place)
  line_is_line = record {
    plain = named_text_plain (row_of i.op).name (operand_texts i place) (row_name i.op).token (all_tokens (row_of i.op).operands);
    short = omega (arith, line_short);
  }
