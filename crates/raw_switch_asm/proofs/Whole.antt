-- The listing of a program means the program.
use Rattle.std.proofs.Common.{◌≡◌, ℕ, suc, ◌<◌, ◌≤◌, false, List, [], ◌∷◌, ◌++◌, length, get_or, map, Option, Ok, All, refl, ap, ◌∙◌, arith}
use Rattle.std.specs.Prelude.{◌==◌, IsTrue}
use Rattle.std.specs.List.{AllByRecursion}
use Rattle.std.proofs.lemmas.Bool.Decides.{nat_tests}
use Rattle.std.proofs.lemmas.List.{length-map, get_or-map}
use Rattle.raw_text.specs.Lines.{tokens_of, IsLine}
use Rattle.raw_asm.specs.OneEach.{AreOneEach, OneEachMeans}
use Rattle.raw_switch_isa.specs.declared.limits.TheConstants.{MAX_SWITCH_CODE}
use Rattle.raw_switch_isa.specs.Table.{row_of}
use Rattle.raw_switch_isa.specs.declared.table.SwitchOp.TheVariants.{Nop}
use Rattle.raw_switch_isa.specs.Instruction.{SwitchInstruction, IsSwitchIns}
use Rattle.raw_switch_isa.specs.Ends.{ends}
use Rattle.raw_grid.specs.declared.parts.Ends.{Ends}
use Rattle.raw_switch_asm.specs.Statement.{are_wired, no_routes}
use Rattle.raw_switch_asm.specs.Language.{statement_code, switch_language}
use Rattle.raw_switch_asm.specs.Listing.{operand_text, line_text, listing}
use Rattle.raw_switch_asm.specs.ReadBack.{EachListingIsReadBack}
use Rattle.raw_switch_asm.proofs.TextLaws.{TextLaws}
use Rattle.raw_switch_asm.proofs.CutLine.{route_texts, line_tokens, line_whole}
use Rattle.raw_switch_asm.proofs.StatementBack.{is_named, small_fields, instruction_back}

lines_whole : (l : TextLaws) (program : List SwitchInstruction) → All IsSwitchIns program → AllByRecursion IsLine (map line_text program)
lines_whole l [] all = tt
lines_whole l (ins ∷ program) all =
    (line_whole l ins (small_fields ins (all 0 ins (omega arith))), lines_whole l program (λ k d lt. all (suc k) d (omega arith)))

-- the tokens of an instruction's line
abbrev line_of : SwitchInstruction → List (List ℕ)
line_of ins = (row_of ins.op).name ∷ (map (operand_text ins) (row_of ins.op).operands ++ route_texts ins ends)

not_empty : (ins : SwitchInstruction) → (length (line_of ins) == 0) ≡ false
not_empty ins = grind (arith, nat_tests)

module _ (l : TextLaws) (wired : Ends) (program : List SwitchInstruction) (few : length program ≤ MAX_SWITCH_CODE) (kept : All IsSwitchIns program) (all_wired : All (λ ins. IsTrue (are_wired wired ins)) program) where
  lines : List (List (List ℕ))
  lines = map tokens_of (map line_text program)

  length_lines : length lines ≡ length program
  unfolding lines
  length_lines = length-map (map line_text program) tokens_of ∙ length-map program line_text

  tokens_at : (k : ℕ) (d : SwitchInstruction) → k < length program → get_or lines k [] ≡ line_of (get_or program k d)
  unfolding lines
  tokens_at k d lt =
      let ins = get_or program k d in
      let long = length-map program line_text in
      get_or-map tokens_of (map line_text program) k [] [] (omega arith)
      ∙ ap tokens_of (get_or-map line_text program k d [] lt)
      ∙ line_tokens l ins (small_fields ins (kept k d lt))

  code_at : (labels : List ℕ → Option ℕ) (k : ℕ) (d : SwitchInstruction) → k < length program → statement_code wired labels (get_or lines k []) ≡ Ok (get_or program k d ∷ [])
  unfolding statement_code
  code_at labels k d lt =
      let ins = get_or program k d in
      rw (tokens_at k d lt, not_empty ins, instruction_back l ins (kept k d lt) wired (all_wired k d lt) labels) refl

  one_each : AreOneEach (switch_language wired) lines program
  one_each =
      let d : SwitchInstruction = record { op = Nop; rd = 0; src = 0; target = 0; rsel = 0; routes = no_routes } in
      record {
        count = length_lines;
        few = few;
        no_label = λ k lt. rw (tokens_at k d lt, (is_named (get_or program k d).op).no_label) refl;
        size = λ k lt. rw (tokens_at k d lt, not_empty (get_or program k d)) refl;
        code = code_at;
      }

-- a listing is read back as its program
pub read_back : TextLaws → ((wired : Ends) → OneEachMeans (switch_language wired)) → EachListingIsReadBack
unfolding listing
read_back l means wired program few kept all_wired =
    let whole = lines_whole l program kept in
    let e = l.many (map line_text program) (l.each_plain (map line_text program) whole) in
    record {
      faultless = rw e (l.faultless 1 (map line_text program) whole);
      meaning = rw e (means wired (map tokens_of (map line_text program)) program (unfold lines in one_each l wired program few kept all_wired));
    }
