-- The text of a line, operand after operand, and of a listing, line after line.
use Rattle.std.proofs.Common.{◌≡◌, ℕ, false, ◌+◌, ◌<◌, ◌≤◌, List, [], ◌∷◌, ◌++◌, length, get_or, drop, map, refl, sym, ap, ◌∙◌, append_assoc, arith}
use Rattle.std.specs.Prelude.{codes, ◌==◌}
use Rattle.std.specs.List.{flat_map}
use Rattle.std.proofs.lemmas.Bool.Decides.{nat_tests}
use Rattle.std.proofs.lemmas.List.{drop_more, drop_all}
use Rattle.raw_text.specs.Lines.{written_lines}
use Rattle.raw_tile_isa.specs.declared.table.Operand.{Operand}
use Rattle.raw_tile_isa.specs.Instruction.{Instruction}
use Rattle.raw_asm.specs.Listing.{separator}
use Rattle.raw_tile_asm.specs.Listing.{operand_text, line_text, listed_lines}

-- operands with a comma and a blank before each
abbrev pub more_operands : Instruction → ℕ → List Operand → List ℕ
more_operands i place forms = flat_map (λ text. codes ", " ++ text) (map (operand_text i place) forms)

-- what is left of a line before the operand with this number
abbrev pub rest_text : Instruction → ℕ → ℕ → List Operand → List ℕ
rest_text i place k [] = []
rest_text i place k (form ∷ forms) = separator k ++ (operand_text i place form ++ more_operands i place forms)

-- one operand on
pub rest_next : (i : Instruction) (place k : ℕ) (forms : List Operand) (form d : Operand) (text : List ℕ) → k < length forms → form ≡ get_or forms k d
    → ((text ++ separator k) ++ operand_text i place form) ++ rest_text i place (k + 1) (drop (k + 1) forms) ≡ text ++ rest_text i place k (drop k forms)
rest_next i place k forms form d text lt is_form =
    let here : drop k forms ≡ form ∷ drop (k + 1) forms = drop_more forms k d lt ∙ ap (λ x. x ∷ drop (k + 1) forms) (sym is_form) in
    rw (here, after (drop (k + 1) forms)) (append_assoc (text ++ separator k) (operand_text i place form) (more_operands i place (drop (k + 1) forms)) ∙ append_assoc text (separator k) (operand_text i place form ++ more_operands i place (drop (k + 1) forms)))
  where
    after : (more : List Operand) → rest_text i place (k + 1) more ≡ more_operands i place more
    after [] = refl
    after (next ∷ more) =
        let later : (k + 1 == 0) ≡ false = grind (arith, nat_tests) in
        rw later (sym (append_assoc (codes ", ") (operand_text i place next) (more_operands i place more)))

-- one line on
pub listing_next : (program : List Instruction) (k : ℕ) (text : List ℕ) (i : Instruction) → k < length program → i ≡ get_or program k i
    → ((text ++ line_text i k) ++ 10 ∷ []) ++ written_lines (listed_lines (k + 1) (drop (k + 1) program)) ≡ text ++ written_lines (listed_lines k (drop k program))
unfolding written_lines
listing_next program k text i lt is_i =
    let here : drop k program ≡ i ∷ drop (k + 1) program = drop_more program k i lt ∙ ap (λ x. x ∷ drop (k + 1) program) (sym is_i) in
    let rest = written_lines (listed_lines (k + 1) (drop (k + 1) program)) in
    rw here (ap (λ front. front ++ rest) (append_assoc text (line_text i k) (10 ∷ [])) ∙ append_assoc text (line_text i k ++ 10 ∷ []) rest)

-- nothing is left behind the last line
pub listing_done : (place : ℕ) (program : List Instruction) (k : ℕ) → length program ≤ k → written_lines (listed_lines place (drop k program)) ≡ []
unfolding written_lines
listing_done place program k le = rw (drop_all k program le) refl
