-- No line of a set's text is the word `history` alone.
use Rattle.std.proofs.Common.{◌≡◌, ℕ, zero, suc, ◌+◌, ◌-◌, ◌<◌, ◌≤◌, Bool, true, false, List, [], ◌∷◌, length, get_or, drop, codes, Option, None, Some, refl, sym, ap, ◌∙◌, subst, ⊎_elim, arith, length-drop, get_or-drop}
use Rattle.std.specs.Prelude.{Err, ◌==◌, if◌then◌else◌}
use Rattle.std.specs.Str.{bytes_eq}
use Rattle.std.specs.List.{position_or_len}
use Rattle.std.specs.Option.{option_map}
use Rattle.std.specs.Result.{result_err}
use Rattle.std.proofs.lemmas.Bool.{cases_lt}
use Rattle.std.proofs.lemmas.Bool.Decides.{Decides-eqb}
use Rattle.std.proofs.lemmas.List.{get_or-take}
use Rattle.std.proofs.lemmas.List.Sums.{passes_at_first}
use Rattle.std.proofs.lemmas.Slice.Eq.{bytes_eq-Decides}
use Rattle.raw_text.specs.Text.{is_word}
use Rattle.raw_text.proofs.Numbers.{both}
use Rattle.raw_asm.specs.declared.kind.AsmKind.TheVariants.{UnknownName}
use Rattle.raw_asm.specs.Section.{line_code, label_fault}
use Rattle.raw_tile_isa.specs.Table.{op_named}
use Rattle.raw_switch_isa.specs.Table.{op_named as switch_op_named}
use Rattle.raw_tile_asm.specs.Form.{form_named}
use Rattle.raw_tile_asm.specs.Statement.{named_code}
use Rattle.raw_tile_asm.specs.Language.{tile_language}
use Rattle.raw_switch_asm.specs.Statement.{op_of, instruction_of}
use Rattle.raw_switch_asm.specs.Language.{switch_language, statement_code}
use Rattle.raw_grid.specs.declared.parts.Ends.{Ends}
use Rattle.raw_model.specs.Program.{ProgramSet}
use Rattle.raw_set_text.specs.declared.kind.SetKind.TheVariants.{Asm}
use Rattle.raw_set_text.specs.Entry.{Entry}
use Rattle.raw_set_text.specs.Entry.Entry.{Tile, Switch}
use Rattle.raw_set_text.specs.Entries.{topology_of}
use Rattle.raw_set_text.specs.Forms.{line_entry, word_named}
use Rattle.raw_set_text.specs.Faults.{line_fault}
use Rattle.raw_set_text.specs.Sections.{is_section, is_end, head_of, head_behind, head_entry, section_of, section_fault, wired_at, fault_in, fault_at, entries_before}
use Rattle.raw_set_text.specs.Meaning.{IsMeaning}

-- the line that is this word alone
abbrev pub marked : List (List ℕ)
marked = codes "history" ∷ []

-- ---- the section in which a line stands

-- the section with this head goes on up to line k
record IsOpen (lines : List (List (List ℕ))) (head k : ℕ) : Type 0 where
  below : head < k
  opens : is_section (head_entry lines head) ≡ true
  goes_on : (j : ℕ) → head < j → j < k → is_end (get_or lines j []) ≡ false

open_at : (lines : List (List (List ℕ))) (k head : ℕ) → head_of lines k ≡ Some head → IsOpen lines head k
open_at lines zero head is = absurd (cc is)
open_at lines (suc k) head is = by (head_of lines k) (λ h e. open_at lines k h e) is
  where
    begun : (b : Bool) → is_section (line_entry (get_or lines k [])) ≡ b → (if b then Some k else None) ≡ Some head → IsOpen lines head (suc k)
    begun true opens e =
        let same : k ≡ head = cc e in
        subst (λ h. IsOpen lines h (suc k)) same (record { below = omega arith; opens = opens; goes_on = λ j low high. absurd (omega (arith, low, high)) })
    begun false opens e = absurd (cc e)

    gone_on : (h : ℕ) → IsOpen lines h k → (b : Bool) → is_end (get_or lines k []) ≡ b → (if b then None else Some h) ≡ Some head → IsOpen lines head (suc k)
    gone_on h before true ends e = absurd (cc e)
    gone_on h before false ends e =
        let same : h ≡ head = cc e in
        subst (λ h. IsOpen lines h (suc k)) same
        (record {
          below = omega (arith, before.below);
          opens = before.opens;
          goes_on = λ j low high.
              ⊎_elim (λ (less : j < k). before.goes_on j low less)
              (λ (more : k ≤ j). let here : k ≡ j = omega (arith, high, more) in subst (λ i. is_end (get_or lines i []) ≡ false) here ends)
              (cases_lt j k);
        })

    by : (o : Option ℕ) → ((h : ℕ) → o ≡ Some h → IsOpen lines h k) → head_behind k (get_or lines k []) o ≡ Some head → IsOpen lines head (suc k)
    by None before e = begun (is_section (line_entry (get_or lines k []))) refl e
    by (Some h) before e = gone_on h (before h refl) (is_end (get_or lines k [])) refl e

-- a line of it that does not end it is the one at its place in the section
in_section : (lines : List (List (List ℕ))) (head k : ℕ) → IsOpen lines head k → k < length lines → is_end (get_or lines k []) ≡ false
    → get_or (section_of lines head) (k - (head + 1)) [] ≡ get_or lines k []
in_section lines head k inside lt goes_on =
    let behind = drop (head + 1) lines in
    let first = position_or_len is_end behind in
    let n = k - (head + 1) in
    let long : length behind ≡ length lines - (head + 1) = length-drop (head + 1) lines in
    let within : n < first =
    ⊎_elim (λ (less : n < first). less)
    (λ (more : first ≤ n).
    let ends : is_end (get_or lines (head + 1 + first) []) ≡ true =
    ap is_end (sym (get_or-drop (head + 1) lines first [])) ∙ passes_at_first is_end behind [] (omega (arith, long, more, lt, inside.below)) in
    let free : is_end (get_or lines (head + 1 + first) []) ≡ false =
    ⊎_elim (λ (before : head + 1 + first < k). inside.goes_on (head + 1 + first) (omega arith) before)
    (λ (last : k ≤ head + 1 + first). let here : k ≡ head + 1 + first = omega (arith, more, last, inside.below) in subst (λ i. is_end (get_or lines i []) ≡ false) here goes_on)
    (cases_lt (head + 1 + first) k) in
    absurd (cc (ends, free)))
    (cases_lt n first) in
    let place : head + 1 + n ≡ k = omega (arith, inside.below) in
    get_or-take first behind n [] within ∙ get_or-drop (head + 1) lines n [] ∙ ap (λ i. get_or lines i []) place

-- ---- its fault

-- outside sections no line begins with the word
outside : (entries : List Entry) → line_fault entries marked ≡ None → ⊥
unfolding line_fault line_entry word_named
outside [] none = cc none
outside (first ∷ []) none = cc none
outside (first ∷ second ∷ entries) none = cc none

-- no tile has an instruction of this name
no_tile : (section : List (List (List ℕ))) (j : ℕ) → get_or section j [] ≡ marked → line_code tile_language section j ≡ Err UnknownName
unfolding line_code label_fault named_code form_named op_named
no_tile section j is = rw is refl

-- and no switch has one
no_switch : (ends : Ends) (section : List (List (List ℕ))) (j : ℕ) → get_or section j [] ≡ marked → line_code (switch_language ends) section j ≡ Err UnknownName
unfolding line_code label_fault statement_code instruction_of op_of switch_op_named
no_switch ends section j is = rw is refl

-- so in no section the word is a line
in_no_section : (entries : List Entry) (section : List (List (List ℕ))) (j : ℕ) (entry : Option Entry) → is_section entry ≡ true → get_or section j [] ≡ marked
    → section_fault entries section j entry ≡ None → ⊥
in_no_section entries section j (Some (Tile tile code)) sections is none =
    let fault : section_fault entries section j (Some (Tile tile code)) ≡ Some (Asm UnknownName) = ap (λ r. option_map Asm (result_err r)) (no_tile section j is) in
    cc (fault, none)
in_no_section entries section j (Some (Switch tile code)) sections is none =
    let ends = wired_at (topology_of entries) tile in
    let fault : section_fault entries section j (Some (Switch tile code)) ≡ Some (Asm UnknownName) =
    ap (λ r. option_map Asm (result_err r)) (no_switch ends section j is) in
    cc (fault, none)
in_no_section entries section j _ sections is none = absurd (cc sections)

ends_not : is_end marked ≡ false
ends_not = refl

faulty : (lines : List (List (List ℕ))) (k : ℕ) → k < length lines → get_or lines k [] ≡ marked → fault_at lines k ≡ None → ⊥
unfolding fault_at
faulty lines k lt is none = by (head_of lines k) refl none
  where
    by : (head : Option ℕ) → head_of lines k ≡ head → fault_in lines k (entries_before lines k) head ≡ None → ⊥
    by None at fine = outside (entries_before lines k) (subst (λ line. line_fault (entries_before lines k) line ≡ None) is fine)
    by (Some head) at fine =
        let section = open_at lines k head at in
        let more : is_end (get_or lines k []) ≡ false = ap is_end is ∙ ends_not in
        let same : fault_in lines k (entries_before lines k) (Some head) ≡ section_fault (entries_before lines k) (section_of lines head) (k - (head + 1)) (head_entry lines head) =
        rw more refl in
        in_no_section (entries_before lines k) (section_of lines head) (k - (head + 1)) (head_entry lines head) section.opens (in_section lines head k section lt more ∙ is) (sym same ∙ fine)

-- ---- the mark

pub is_marked : is_word (codes "history") marked ≡ true
is_marked = refl

-- a line that is one token, the word
alone : (line : List (List ℕ)) → is_word (codes "history") line ≡ true → line ≡ marked
alone [] is = absurd (cc is)
alone (token ∷ []) is = ap (λ t. t ∷ []) ((bytes_eq-Decides token (codes "history")).0 is)
alone (token ∷ next ∷ more) is =
    let parts = both (length (token ∷ next ∷ more) == 1) (bytes_eq token (codes "history")) is in
    let one : length (token ∷ next ∷ more) ≡ 1 = (Decides-eqb (length (token ∷ next ∷ more)) 1).0 parts.0 in
    absurd (omega (arith, one))

-- no line of a set's text is the word alone
pub unmarked : (lines : List (List (List ℕ))) (set : ProgramSet) → IsMeaning lines set → (k : ℕ) → k < length lines → is_word (codes "history") (get_or lines k []) ≡ false
unmarked lines set meaning k lt = by (is_word (codes "history") (get_or lines k [])) refl
  where
    by : (b : Bool) → is_word (codes "history") (get_or lines k []) ≡ b → b ≡ false
    by true is = absurd (faulty lines k lt (alone (get_or lines k []) is) (meaning.faultless k lt))
    by false is = refl
