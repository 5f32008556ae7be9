-- The listing of a program means the program.
use Rattle.std.proofs.Common.{◌≡◌, ℕ, zero, suc, ◌+◌, ◌<◌, ◌≤◌, true, List, [], ◌∷◌, length, get_or, map, Option, Ok, refl, sym, ap, ◌∙◌, arith, add-zero}
use Rattle.std.specs.Prelude.{◌==◌}
use Rattle.std.specs.List.{AllByRecursion}
use Rattle.std.proofs.lemmas.Bool.Decides.{nat_tests}
use Rattle.std.proofs.lemmas.List.{length-map}
use Rattle.raw_tile_isa.specs.declared.limits.TheConstants.{MAX_TILE_CODE}
use Rattle.raw_text.specs.Lines.{tokens_of, IsLine}
use Rattle.raw_text.proofs.WrittenLines.{lines_back, no_fault, plain_lines}
use Rattle.raw_tile_isa.specs.declared.table.TileOp.TheVariants.{Halt}
use Rattle.raw_tile_isa.specs.Table.{row_of}
use Rattle.raw_tile_isa.specs.Instruction.{Instruction, IsTileIns}
use Rattle.raw_asm.specs.OneEach.{AreOneEach, OneEachMeans}
use Rattle.raw_tile_asm.specs.Statement.{operands_of, named_code, instruction_of, no_fields}
use Rattle.raw_tile_asm.specs.Language.{statement_code, tile_language}
use Rattle.raw_tile_asm.specs.Listing.{operand_text, operand_texts, line_text, listed_lines, listing}
use Rattle.raw_tile_asm.specs.ReadBack.{EachIsReadBack}
use Rattle.raw_tile_asm.proofs.Limits.{limits}
use Rattle.raw_tile_asm.proofs.Rows.{row_name}
use Rattle.raw_tile_asm.proofs.OperandsBack.{operands_read, filled_back}
use Rattle.raw_tile_asm.proofs.OneLine.{line_tokens, line_is_line}

all_lines : (place : ℕ) (program : List Instruction) → place + length program ≤ MAX_TILE_CODE → AllByRecursion IsTileIns program → AllByRecursion IsLine (listed_lines place program)
all_lines place [] near all = tt
all_lines place (i ∷ more) near all = (line_is_line i place (limits i all.0) (omega arith), all_lines (place + 1) more (omega arith) all.1)

line_at : (place : ℕ) (program : List Instruction) (k : ℕ) (d : Instruction) → k < length program → get_or (map tokens_of (listed_lines place program)) k [] ≡ tokens_of (line_text (get_or program k d) (place + k))
line_at place [] k d lt = absurd (omega arith)
line_at place (i ∷ more) zero d lt = ap (λ p. tokens_of (line_text i p)) (sym (add-zero place))
line_at place (i ∷ more) (suc k) d lt =
    let e : place + 1 + k ≡ place + suc k = omega arith in
    line_at (place + 1) more k d (omega arith) ∙ ap (λ p. tokens_of (line_text (get_or more k d) p)) e

listed_length : (place : ℕ) (program : List Instruction) → length (listed_lines place program) ≡ length program
listed_length place [] = refl
listed_length place (i ∷ more) = ap suc (listed_length (place + 1) more)

lawful_at : (program : List Instruction) (k : ℕ) (d : Instruction) → AllByRecursion IsTileIns program → k < length program → IsTileIns (get_or program k d)
lawful_at [] k d all lt = absurd (omega arith)
lawful_at (i ∷ more) zero d all lt = all.0
lawful_at (i ∷ more) (suc k) d all lt = lawful_at more k d all.1 (omega arith)

-- the statement of a listed line gives its instruction
statement_back : (labels : List ℕ → Option ℕ) (place : ℕ) (i : Instruction) → place ≤ MAX_TILE_CODE → IsTileIns i
    → statement_code labels place ((row_of i.op).name ∷ operand_texts i place) ≡ Ok (i ∷ [])
unfolding named_code operands_of
statement_back labels place i near lawful =
    let n = row_name i.op in
    let forms = (row_of i.op).operands in
    let count : (length (operand_texts i place) == length forms) ≡ true = (let e = length-map forms (operand_text i place) in grind (arith, nat_tests)) in
    rw (n.no_load, n.no_word, n.named, count, operands_read labels place i near (limits i lawful) forms no_fields, filled_back i lawful) refl

module _ (program : List Instruction) (short : length program ≤ MAX_TILE_CODE) (all : AllByRecursion IsTileIns program) where
  lines : List (List (List ℕ))
  lines = map tokens_of (listed_lines 0 program)

  tokens_at : (k : ℕ) (d : Instruction) → k < length program → get_or lines k [] ≡ (row_of (get_or program k d).op).name ∷ operand_texts (get_or program k d) k
  unfolding lines
  tokens_at k d lt =
      let i = get_or program k d in
      let lawful = lawful_at program k d all lt in
      let e : 0 + k ≡ k = omega arith in
      line_at 0 program k d lt ∙ ap (λ p. tokens_of (line_text i p)) e ∙ line_tokens i k (limits i lawful) (omega arith)

  length_lines : length lines ≡ length program
  unfolding lines
  length_lines = length-map (listed_lines 0 program) tokens_of ∙ listed_length 0 program

  code_at : (labels : List ℕ → Option ℕ) (k : ℕ) (d : Instruction) → k < length program → statement_code labels k (get_or lines k []) ≡ Ok (get_or program k d ∷ [])
  code_at labels k d lt = rw (tokens_at k d lt) (statement_back labels k (get_or program k d) (omega arith) (lawful_at program k d all lt))

  one_each : AreOneEach tile_language lines program
  one_each =
      let d = instruction_of Halt no_fields in
      record {
        count = length_lines;
        few = short;
        no_label = λ k lt. rw (tokens_at k d lt, (row_name (get_or program k d).op).no_label) refl;
        size = λ k lt. rw (tokens_at k d lt, (row_name (get_or program k d).op).no_load) refl;
        code = code_at;
      }

-- a listing is read as its program
pub read_back : OneEachMeans tile_language → EachIsReadBack
unfolding listing
read_back means program short all =
    let whole = all_lines 0 program (omega arith) all in
    let e = lines_back (listed_lines 0 program) (plain_lines (listed_lines 0 program) whole) in
    record {
      faultless = rw e (no_fault 1 (listed_lines 0 program) whole);
      meaning = rw e (means (map tokens_of (listed_lines 0 program)) program (unfold lines in one_each program short all));
    }
