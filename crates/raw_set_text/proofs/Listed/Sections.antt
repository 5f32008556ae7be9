-- The lines of a section are lines without a fault, none of them ends it, and they mean its program.
use Rattle.std.proofs.Common.{◌≡◌, ℕ, suc, ◌+◌, ◌≤◌, Bool, true, false, ◌&&◌, List, [], ◌∷◌, ◌++◌, length, map, All, None, refl, ap, ◌∙◌, arith, subst}
use Rattle.std.specs.Prelude.{codes, ◌==◌, IsTrue}
use Rattle.std.specs.List.{AllByRecursion}
use Rattle.std.specs.Str.{bytes_eq}
use Rattle.std.proofs.lemmas.Slice.Eq.{bytes_eq-Decides}
use Rattle.raw_text.specs.Lines.{lines_of, tokens_of, IsLine, written_lines}
use Rattle.raw_text.proofs.WrittenLines.{lines_back, plain_lines, no_fault}
use Rattle.raw_text.proofs.WrittenTokens.{token_blank, token_first, token_last}
use Rattle.raw_text.proofs.NumberTexts.{decimal_read, decimal_token, decimal_passes, first_low, first_high, decimal_length}
use Rattle.raw_asm.specs.Section.{IsMeaning}
use Rattle.raw_tile_isa.specs.declared.limits.TheConstants.{MAX_TILE_CODE}
use Rattle.raw_tile_isa.specs.Table.{row_of, op_named}
use Rattle.raw_tile_isa.specs.declared.table.TileOp.{TileOp}
use Rattle.raw_tile_isa.specs.Instruction.{Instruction, IsTileIns}
use Rattle.raw_tile_asm.specs.Form.{form_named}
use Rattle.raw_tile_asm.specs.Listing.{operand_texts, line_text, listed_lines, listing}
use Rattle.raw_tile_asm.specs.ReadBack.{EachIsReadBack}
use Rattle.raw_tile_asm.specs.Language.{tile_language}
use Rattle.raw_tile_asm.proofs.Limits.{limits}
use Rattle.raw_tile_asm.proofs.Rows.{row_name}
use Rattle.raw_tile_asm.proofs.OneLine.{line_tokens, line_is_line}
use Rattle.raw_switch_asm.proofs.TextLaws.{TextLaws as switch_TextLaws}
use Rattle.raw_switch_isa.specs.declared.limits.TheConstants.{MAX_SWITCH_CODE}
use Rattle.raw_switch_isa.specs.Table.{op_named as switch_op_named, row_of as switch_row_of}
use Rattle.raw_switch_asm.proofs.StatementBack.{is_named as switch_is_named, small_fields as switch_small_fields}
use Rattle.raw_switch_asm.specs.Listing.{line_text as switch_line_text, operand_text as switch_operand_text, listing as switch_listing}
use Rattle.raw_switch_asm.proofs.CutLine.{route_texts as switch_route_texts, line_tokens as switch_line_tokens, line_whole as switch_line_whole}
use Rattle.raw_switch_isa.specs.declared.table.SwitchOp.{SwitchOp}
use Rattle.raw_switch_isa.specs.Instruction.{SwitchInstruction, IsSwitchIns}
use Rattle.raw_switch_isa.specs.Ends.{ends}
use Rattle.raw_grid.specs.declared.parts.Ends.{Ends}
use Rattle.raw_switch_asm.specs.Statement.{are_wired}
use Rattle.raw_switch_asm.specs.Language.{switch_language}
use Rattle.raw_switch_asm.specs.ReadBack.{EachListingIsReadBack}
use Rattle.raw_set_text.specs.Sections.{is_end}

-- the listings of programs are read back
pub record ListingLaws : Type 0 where
  pub tile : EachIsReadBack
  pub switch : EachListingIsReadBack

and_false : (a : Bool) → (a && false) ≡ false
and_false true = refl
and_false false = refl

-- the line of another name does not end a section
not_end : (name : List ℕ) (operands : List (List ℕ)) (is : Bool) → bytes_eq name (codes "end") ≡ is → (name ≡ codes "end" → ⊥) → is_end (name ∷ operands) ≡ false
not_end name operands true e differs = absurd (differs ((bytes_eq-Decides name (codes "end")).0 e))
not_end name operands false e differs = rw e (and_false (length (name ∷ operands) == 1))

no_form : form_named (codes "end") ≡ None
unfolding form_named op_named
no_form = refl

tile_name : (op : TileOp) → (row_of op).name ≡ codes "end" → ⊥
tile_name op e =
    let named = (row_name op).named in
    let none : form_named (row_of op).name ≡ None = ap form_named e ∙ no_form in
    cc

pub tile_lines : (place : ℕ) (program : List Instruction) → place + length program ≤ MAX_TILE_CODE → AllByRecursion IsTileIns program
    → (AllByRecursion IsLine (listed_lines place program)) × (AllByRecursion (λ line. is_end line ≡ false) (map tokens_of (listed_lines place program)))
tile_lines place [] near all = (tt, tt)
tile_lines place (i ∷ more) near all =
    let within = limits i all.0 in
    let rest = tile_lines (place + 1) more (omega arith) all.1 in
    let other : is_end (tokens_of (line_text i place)) ≡ false =
    rw (line_tokens i place within (omega arith)) (not_end (row_of i.op).name (operand_texts i place) (bytes_eq (row_of i.op).name (codes "end")) refl (tile_name i.op)) in
    ((line_is_line i place within (omega arith), rest.0), (other, rest.1))

pub tile_means : ListingLaws → (program : List Instruction) → length program ≤ MAX_TILE_CODE → AllByRecursion IsTileIns program → IsMeaning tile_language (map tokens_of (listed_lines 0 program)) program
unfolding listing
tile_means laws program short all =
    let whole = (tile_lines 0 program (omega arith) all).0 in
    let e : lines_of (written_lines (listed_lines 0 program)) ≡ listed_lines 0 program = lines_back (listed_lines 0 program) (plain_lines (listed_lines 0 program) whole) in
    subst (λ lines. IsMeaning tile_language (map tokens_of lines) program) e (laws.tile program short all).meaning

switch_laws : switch_TextLaws
switch_laws = record {
  many = lines_back;
  faultless = no_fault;
  each_plain = plain_lines;
  first = token_first;
  behind = token_blank;
  last = token_last;
  number = decimal_read;
  token = decimal_token;
  passes = decimal_passes;
  low = first_low;
  high = first_high;
  short = decimal_length;
}

no_switch_op : switch_op_named (codes "end") ≡ None
unfolding switch_op_named
no_switch_op = refl

switch_name : (op : SwitchOp) → (switch_row_of op).name ≡ codes "end" → ⊥
switch_name op e =
    let named = (switch_is_named op).names in
    let none : switch_op_named (switch_row_of op).name ≡ None = ap switch_op_named e ∙ no_switch_op in
    cc

pub switch_lines : (program : List SwitchInstruction) → All IsSwitchIns program
    → (AllByRecursion IsLine (map switch_line_text program)) × (AllByRecursion (λ line. is_end line ≡ false) (map tokens_of (map switch_line_text program)))
switch_lines [] all = (tt, tt)
switch_lines (ins ∷ program) all =
    let small = switch_small_fields ins (all 0 ins (omega arith)) in
    let rest = switch_lines program (λ k d lt. all (suc k) d (omega arith)) in
    let name = (switch_row_of ins.op).name in
    let operands = map (switch_operand_text ins) (switch_row_of ins.op).operands ++ switch_route_texts ins ends in
    let other : is_end (tokens_of (switch_line_text ins)) ≡ false = rw (switch_line_tokens switch_laws ins small) (not_end name operands (bytes_eq name (codes "end")) refl (switch_name ins.op)) in
    ((switch_line_whole switch_laws ins small, rest.0), (other, rest.1))

pub switch_means : ListingLaws → (wired : Ends) (program : List SwitchInstruction) → length program ≤ MAX_SWITCH_CODE → All IsSwitchIns program → All (λ ins. IsTrue (are_wired wired ins)) program
    → IsMeaning (switch_language wired) (map tokens_of (map switch_line_text program)) program
unfolding switch_listing
switch_means laws wired program short all all_wired =
    let whole = (switch_lines program all).0 in
    let e : lines_of (written_lines (map switch_line_text program)) ≡ map switch_line_text program = lines_back (map switch_line_text program) (plain_lines (map switch_line_text program) whole) in
    subst (λ lines. IsMeaning (switch_language wired) (map tokens_of lines) program) e (laws.switch wired program short all all_wired).meaning
