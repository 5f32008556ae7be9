-- The text of a program, piece by piece.
use Rattle.std.proofs.Common.{◌≡◌, ℕ, zero, suc, ◌+◌, ◌%◌, ◌<◌, ◌≤◌, List, [], ◌∷◌, ◌++◌, length, get_or, drop, map, sym, ap, ◌∙◌, append_assoc, arith}
use Rattle.std.specs.Prelude.{slice_index}
use Rattle.std.specs.List.{flat_map}
use Rattle.std.proofs.lemmas.List.{drop_more, drop_all, append-nil}
use Rattle.raw_text.specs.Lines.{written_lines}
use Rattle.raw_switch_isa.specs.declared.table.SwitchOperand.{SwitchOperand}
use Rattle.raw_switch_isa.specs.Instruction.{SwitchInstruction}
use Rattle.raw_switch_isa.specs.Ends.{ends, route_source}
use Rattle.raw_switch_asm.specs.Letters.{sides}
use Rattle.raw_switch_asm.specs.Listing.{side_letter, more_operands, operands_text, routed_text, line_text, listing}
use Rattle.raw_switch_isa.proofs.Passing.{end_is, ten_ends}

letter_below : (side : ℕ) → side < 5 → slice_index sides side < 128
letter_below (suc (suc (suc (suc (suc side))))) h = absurd (omega arith)
letter_below _ h = omega arith

pub letter_ascii : (end : ℕ) → side_letter end < 128
letter_ascii end = letter_below (end % 5) (omega arith)

-- what is left of the operands before the one at a place
abbrev pub operands_from : SwitchInstruction → ℕ → List SwitchOperand → List ℕ
operands_from ins zero operands = operands_text ins operands
operands_from ins (suc place) operands = more_operands ins operands

-- what is left of the routes before the one of an output
abbrev pub routes_from : SwitchInstruction → ℕ → List ℕ
routes_from ins output = flat_map (λ o. routed_text o (route_source ins o)) (drop output ends)

pub routes_next : (ins : SwitchInstruction) (output : ℕ) (text : List ℕ) → output < 10
    → (text ++ routed_text output (route_source ins output)) ++ routes_from ins (output + 1) ≡ text ++ routes_from ins output
routes_next ins output text lt =
    let count = ten_ends in
    let here : drop output ends ≡ output ∷ drop (output + 1) ends = drop_more ends output 0 (omega arith) ∙ ap (λ end. end ∷ drop (output + 1) ends) (end_is output lt) in
    append_assoc text (routed_text output (route_source ins output)) (routes_from ins (output + 1))
    ∙ ap (λ rest. text ++ flat_map (λ o. routed_text o (route_source ins o)) rest) (sym here)

pub routes_done : (ins : SwitchInstruction) (output : ℕ) (text : List ℕ) → output ≡ 10 → text ++ routes_from ins output ≡ text
routes_done ins output text done =
    let count = ten_ends in
    ap (λ rest. text ++ flat_map (λ o. routed_text o (route_source ins o)) rest) (drop_all output ends (omega arith)) ∙ append-nil text

-- what is left of a listing before an instruction
pub listing_next : (code : List SwitchInstruction) (k : ℕ) (text : List ℕ) (ins : SwitchInstruction) → k < length code → ins ≡ get_or code k ins
    → (text ++ (line_text ins ++ 10 ∷ [])) ++ listing (drop (k + 1) code) ≡ text ++ listing (drop k code)
unfolding listing written_lines
listing_next code k text ins lt is =
    let here : drop k code ≡ ins ∷ drop (k + 1) code = drop_more code k ins lt ∙ ap (λ x. x ∷ drop (k + 1) code) (sym is) in
    append_assoc text (line_text ins ++ 10 ∷ []) (written_lines (map line_text (drop (k + 1) code)))
    ∙ ap (λ rest. text ++ written_lines (map line_text rest)) (sym here)

pub listing_done : (code : List SwitchInstruction) (k : ℕ) (text : List ℕ) → length code ≤ k → text ++ listing (drop k code) ≡ text
unfolding listing written_lines
listing_done code k text le = ap (λ rest. text ++ written_lines (map line_text rest)) (drop_all k code le) ∙ append-nil text
