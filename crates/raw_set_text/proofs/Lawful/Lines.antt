-- Lines without a fault, with nothing missing at the end, declare a lawful set.
use Rattle.std.proofs.Common.{◌≡◌, ◌⊎◌, ℕ, zero, suc, ◌+◌, ◌-◌, ◌<◌, ◌≤◌, Bool, true, false, cond, ltb, List, [], ◌∷◌, ◌++◌, length, get_or, take, drop, Option, Some, None, refl, sym, ap, ◌∙◌, subst, arith, ⊎_elim, append-nil}
use Rattle.std.specs.Option.{option_map, is_some}
use Rattle.std.specs.List.{position_or_len}
use Rattle.std.proofs.lemmas.Bool.{cases_Bool, cases_lt, ltb-false, false≢true}
use Rattle.std.proofs.lemmas.Option.{none-some, same_Some}
use Rattle.std.proofs.lemmas.List.{length-drop, get_or-drop, length-take-le}
use Rattle.std.proofs.lemmas.List.Sums.{position_or_len_is}
use Rattle.raw_asm.specs.declared.kind.AsmKind.{AsmKind}
use Rattle.raw_asm.specs.Section.{code_upto}
use Rattle.raw_tile_asm.specs.Language.{tile_language}
use Rattle.raw_tile_asm.specs.Lawful.{EachFrontIsLawful as TileLaw}
use Rattle.raw_switch_asm.specs.Language.{switch_language}
use Rattle.raw_switch_asm.specs.Lawful.{EachFrontIsLawful as SwitchLaw}
use Rattle.raw_model.specs.Program.{IsSet}
use Rattle.raw_set_text.specs.declared.kind.SetKind.TheVariants.{Missing, Asm}
use Rattle.raw_set_text.specs.Entry.{Entry}
use Rattle.raw_set_text.specs.Entry.Entry.{Tile, Switch}
use Rattle.raw_set_text.specs.Forms.{line_entry}
use Rattle.raw_set_text.specs.Entries.{topology_of, set_of}
use Rattle.raw_set_text.specs.Sections.{wired_at, is_section, is_end, head_behind, head_of, section_of, section_entry, section_fault, listed, declared_outside, head_entry, declared_at, entries_before, fault_of, fault_in, fault_at, end_fault}
use Rattle.raw_set_text.specs.Meaning.{AreFaultless}
use Rattle.raw_set_text.proofs.Lawful.Entries.{Formed, passes, Follows}
use Rattle.raw_set_text.proofs.Lawful.Forms.{empty_line}
use Rattle.raw_set_text.proofs.Lawful.Stages.{Stage, nothing, Taken, line_cases, stage_next, section_late, stage_more, stage_lawful}

no_fault : (o : Option AsmKind) → option_map Asm o ≡ None → o ≡ None
no_fault None e = refl
no_fault (Some kind) e = absurd (none-some (Asm kind) (sym e))

-- a section whose lines have no fault declares an entry that is formed
section_formed : TileLaw → SwitchLaw → (entries : List Entry) (section : List (List (List ℕ))) (o : Option Entry) → is_section o ≡ true → ((i : ℕ) → i < length section → section_fault entries section i o ≡ None)
    → (entry : Entry) × (section_entry entries section o ≡ Some entry) × Formed entries entry
section_formed tiles switches entries section (Some (Tile tile code)) is free = (
  Tile tile (code_upto tile_language section (length section)),
  refl,
  tiles section (length section) (λ i l. no_fault _ (free i l)),
)
section_formed tiles switches entries section (Some (Switch tile code)) is free = (
  Switch tile (code_upto (switch_language (wired_at (topology_of entries) tile)) section (length section)),
  refl,
  switches (wired_at (topology_of entries) tile) section (length section) (λ i l. no_fault _ (free i l)),
)
section_formed tiles switches entries section _ is free = absurd (false≢true is)

-- line k stands in the section with this head
pub record Open (lines : List (List (List ℕ))) (k head : ℕ) : Type 0 where
  pub below : head < k
  pub section : is_section (head_entry lines head) ≡ true
  pub late : 2 ≤ length (entries_before lines k)
  pub unended : (i : ℕ) → head + 1 + i < k → is_end (get_or lines (head + 1 + i) []) ≡ false
  pub free : (i : ℕ) → head + 1 + i < k → section_fault (entries_before lines k) (section_of lines head) i (head_entry lines head) ≡ None

-- what is known before line k
pub record State (lines : List (List (List ℕ))) (k : ℕ) : Type 0 where
  pub stage : Stage (entries_before lines k)
  pub open_section : (head : ℕ) → head_of lines k ≡ Some head → Open lines k head

module _ (tiles : TileLaw) (switches : SwitchLaw) (lines : List (List (List ℕ))) (k : ℕ) (within : k < length lines) (state : State lines k) (faultless : fault_at lines k ≡ None) where
  abbrev line : List (List ℕ)
  line = get_or lines k []

  abbrev entries : List Entry
  entries = entries_before lines k

  -- a line outside sections
  entries_outside : head_of lines k ≡ None → entries_before lines (suc k) ≡ entries ++ declared_outside (line_entry line)
  entries_outside e = ap (λ h. entries ++ declared_at lines k entries h) e

  head_outside : head_of lines k ≡ None → head_of lines (suc k) ≡ cond (is_section (line_entry line)) (Some k) None
  head_outside e = ap (head_behind k line) e

  closed : head_of lines (suc k) ≡ None → (head : ℕ) → head_of lines (suc k) ≡ Some head → Open lines (suc k) head
  closed e head f = absurd (none-some head (sym e ∙ f))

  -- the line declares nothing and opens nothing
  passed_over : head_of lines k ≡ None → line_entry line ≡ None → State lines (suc k)
  passed_over e is = record {
    stage = subst Stage (sym (entries_outside e ∙ ap (λ o. entries ++ declared_outside o) is ∙ append-nil entries)) state.stage;
    open_section = closed (head_outside e ∙ ap (λ o. cond (is_section o) (Some k) None) is);
  }

  -- the line declares an entry at once
  declared : head_of lines k ≡ None → (entry : Entry) → Taken entries line entry → is_section (Some entry) ≡ false → State lines (suc k)
  declared e entry taken is_not =
      let is : is_section (line_entry line) ≡ false = ap is_section taken.is ∙ is_not in
      let more : declared_outside (line_entry line) ≡ entry ∷ [] = rw is (ap listed taken.is) in
      record {
        stage = subst Stage (sym (entries_outside e ∙ ap (λ es. entries ++ es) more)) (stage_next entries state.stage line entry taken);
        open_section = closed (head_outside e ∙ ap (λ b. cond b (Some k) None) is);
      }

  -- the line is the head of a section
  opened : head_of lines k ≡ None → (entry : Entry) → Taken entries line entry → is_section (Some entry) ≡ true → State lines (suc k)
  opened e entry taken is_so =
      let is : is_section (line_entry line) ≡ true = ap is_section taken.is ∙ is_so in
      let none : declared_outside (line_entry line) ≡ [] = rw is refl in
      let same : entries_before lines (suc k) ≡ entries = entries_outside e ∙ ap (λ es. entries ++ es) none ∙ append-nil entries in
      record {
        stage = subst Stage (sym same) state.stage;
        open_section = λ head f.
            let at : k ≡ head = same_Some k head (sym (head_outside e ∙ ap (λ b. cond b (Some k) None) is) ∙ f) in
            subst (Open lines (suc k)) at
            (record {
              below = omega arith;
              section = is;
              late = subst (λ es. 2 ≤ length es) (sym same) (section_late entries state.stage line entry taken is_so);
              unended = λ i l. absurd (omega (arith, l));
              free = λ i l. absurd (omega (arith, l));
            });
      }

  outside : head_of lines k ≡ None → (line ≡ []) ⊎ ((entry : Entry) × Taken entries line entry) → State lines (suc k)
  outside e cases =
      ⊎_elim
      (λ (empty : line ≡ []). passed_over e (ap line_entry empty ∙ empty_line))
      (λ (found : (entry : Entry) × Taken entries line entry).
      ⊎_elim
      (λ (is_so : is_section (Some found.0) ≡ true). opened e found.0 found.1 is_so)
      (λ (is_not : is_section (Some found.0) ≡ false). declared e found.0 found.1 is_not)
      (cases_Bool (is_section (Some found.0))))
      cases

  -- a line in a section that does not end it
  inside : (head : ℕ) → head_of lines k ≡ Some head → is_end line ≡ false → fault_in lines k entries (Some head) ≡ None → State lines (suc k)
  inside head e is_not fault =
      let before = state.open_section head e in
      let below : head < k = before.below in
      let none : declared_at lines k entries (head_of lines k) ≡ [] = ap (declared_at lines k entries) e ∙ rw is_not refl in
      let same : entries_before lines (suc k) ≡ entries = ap (λ es. entries ++ es) none ∙ append-nil entries in
      let kept : head_of lines (suc k) ≡ Some head = ap (head_behind k line) e ∙ rw is_not refl in
      let own : section_fault entries (section_of lines head) (k - (head + 1)) (head_entry lines head) ≡ None = rw is_not at fault in
      record {
        stage = subst Stage (sym same) state.stage;
        open_section = λ other f.
            subst (Open lines (suc k)) (same_Some head other (sym kept ∙ f))
            (record {
              below = omega (arith, below);
              section = before.section;
              late = subst (λ es. 2 ≤ length es) (sym same) before.late;
              unended = λ i l.
                  ⊎_elim
                  (λ (less : head + 1 + i < k). before.unended i less)
                  (λ (last : k ≤ head + 1 + i). let at : k ≡ head + 1 + i = omega (arith, l, last) in subst (λ j. is_end (get_or lines j []) ≡ false) at is_not)
                  (cases_lt (head + 1 + i) k);
              free = λ i l.
                  subst (λ es. section_fault es (section_of lines head) i (head_entry lines head) ≡ None) (sym same)
                  (⊎_elim
                  (λ (less : head + 1 + i < k). before.free i less)
                  (λ (last : k ≤ head + 1 + i). let at : k - (head + 1) ≡ i = omega (arith, l, last) in subst (λ j. section_fault entries (section_of lines head) j (head_entry lines head) ≡ None) at own)
                  (cases_lt (head + 1 + i) k));
            });
      }

  -- how many lines the section has that this line ends
  section_length : (head : ℕ) → Open lines k head → is_end line ≡ true → length (section_of lines head) ≡ k - (head + 1)
  section_length head before is_so =
      let below : head < k = before.below in
      let rest = drop (head + 1) lines in
      let left : length rest ≡ length lines - (head + 1) = length-drop (head + 1) lines in
      let spot : head + 1 + (k - (head + 1)) ≡ k = omega (arith, below) in
      let at : position_or_len is_end rest ≡ k - (head + 1) =
      position_or_len_is is_end rest (k - (head + 1)) [] (omega (arith, left, within))
      (λ i l. ap is_end (get_or-drop (head + 1) lines i []) ∙ before.unended i (omega (arith, l, below)))
      (λ _. ap is_end (get_or-drop (head + 1) lines (k - (head + 1)) []) ∙ ap (λ j. is_end (get_or lines j [])) spot ∙ is_so) in
      ap (λ n. length (take n rest)) at ∙ length-take-le (k - (head + 1)) rest (omega (arith, left, within))

  -- a line that ends a section
  ended : (head : ℕ) → head_of lines k ≡ Some head → is_end line ≡ true → fault_in lines k entries (Some head) ≡ None → State lines (suc k)
  ended head e is_so fault =
      let before = state.open_section head e in
      let section = section_of lines head in
      let long = section_length head before is_so in
      let found = section_formed tiles switches entries section (head_entry lines head) before.section (λ i l. before.free i (omega (arith, l, long))) in
      let more : declared_at lines k entries (head_of lines k) ≡ found.0 ∷ [] = ap (declared_at lines k entries) e ∙ rw is_so (ap listed found.1) in
      let whole_fault : fault_of entries (section_entry entries section (head_entry lines head)) ≡ None = rw is_so at fault in
      let follows : Follows entries found.0 = record { formed = found.2; passes = passes entries found.0 (sym (ap (fault_of entries) found.1) ∙ whole_fault) } in
      record {
        stage = subst Stage (sym (ap (λ es. entries ++ es) more)) (stage_more entries state.stage found.0 before.late follows);
        open_section = closed (ap (head_behind k line) e ∙ rw is_so refl);
      }

  next_from : (h : Option ℕ) → head_of lines k ≡ h → fault_in lines k entries h ≡ None → State lines (suc k)
  next_from None e fault = outside e (line_cases entries line fault)
  next_from (Some head) e fault =
      ⊎_elim
      (λ (is_so : is_end line ≡ true). ended head e is_so fault)
      (λ (is_not : is_end line ≡ false). inside head e is_not fault)
      (cases_Bool (is_end line))

  state_next : State lines (suc k)
  unfolding fault_at
  state_next = next_from (head_of lines k) refl faultless

-- before each line, where none of the lines before it has a fault
pub states : TileLaw → SwitchLaw → (lines : List (List (List ℕ))) (k : ℕ) → k ≤ length lines → AreFaultless lines k → State lines k
states tiles switches lines zero l faultless = record { stage = nothing; open_section = λ head e. absurd (none-some head e) }
states tiles switches lines (suc k) l faultless =
    state_next tiles switches lines k (omega (arith, l)) (states tiles switches lines k (omega (arith, l)) (λ j below. faultless j (omega (arith, below)))) (faultless k (omega arith))

not_missing : (open_head few : Bool) → cond open_head (Some Missing) (cond few (Some Missing) None) ≡ None → few ≡ false
not_missing true few e = absurd (none-some Missing (sym e))
not_missing false true e = absurd (none-some Missing (sym e))
not_missing false false e = refl

-- the set that they declare is lawful
pub lawful_set : TileLaw → SwitchLaw → (lines : List (List (List ℕ))) → AreFaultless lines (length lines) → end_fault lines ≡ None → IsSet (set_of (entries_before lines (length lines)))
unfolding end_fault
lawful_set tiles switches lines faultless ended =
    let state = states tiles switches lines (length lines) (omega arith) faultless in
    let late = not_missing (is_some (head_of lines (length lines))) (ltb (length (entries_before lines (length lines))) 2) ended in
    stage_lawful (entries_before lines (length lines)) state.stage (ltb-false _ 2 late)
