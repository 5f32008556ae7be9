-- What `history` writes says its set and its steps, and `check` finds them lawful.
use Rattle.std.proofs.Common.{◌≡◌, ◌∙◌, ℕ, ◌+◌, ◌<◌, ◌≤◌, ◌^◌, false, List, [], ◌∷◌, ◌++◌, length, get_or, map, take, drop, codes, Option, Some, None, refl, sym, ap, subst, arith, length-append}
use Rattle.std.specs.Prelude.{IsTrue}
use Rattle.std.specs.List.{position, AllByRecursion}
use Rattle.std.proofs.Math.Seq.{take-append_seam, drop-append-add, get_or-append_seam}
use Rattle.std.proofs.lemmas.List.{map-append, get_or_append_left}
use Rattle.raw_text.specs.Lines.{lines_of, tokens_of, first_fault}
use Rattle.raw_text.specs.Text.{is_word}
use Rattle.raw_text.proofs.Places.{position_found}
use Rattle.raw_grid.specs.declared.limits.TheConstants.{MAX_PROCS}
use Rattle.raw_grid.specs.Topology.{Topology, IsTopology, proc_count}
use Rattle.raw_model.specs.Program.{ProgramSet, IsSet}
use Rattle.raw_model.specs.Start.{MachineState, Fits, start}
use Rattle.raw_model.specs.Rest.{enabled, step, IsLawful}
use Rattle.raw_set_text.specs.Listing.{set_lines, listing}
use Rattle.raw_set_text.specs.Meaning.{IsMeaning}
use Rattle.raw_set_text.specs.Texts.{Meaning, token_lines}
use Rattle.raw_report.specs.History.{history_text, entries_of}
use Rattle.raw_steps.specs.declared.checking.CheckAnswer.TheVariants.{Lawful}
use Rattle.raw_inputs.specs.declared.form.InputForm.{InputForm}
use Rattle.raw_inputs.specs.declared.form.InputForm.TheVariants as form
use Rattle.raw_command_line.specs.declared.arguments.SetForm.{SetForm}
use Rattle.raw_command_line.specs.declared.arguments.RunOutput.TheVariants.{History}
use Rattle.raw_shell.specs.declared.ending.CommandEnding.{CommandEnding}
use Rattle.raw_shell.specs.declared.ending.CommandEnding.TheVariants.{Done}
use Rattle.raw_shell.specs.Seen.{limit}
use Rattle.raw_inputs.specs.Inputs.{whole, lines_behind, SaysSteps, IsOneInput}
use Rattle.raw_owed.specs.Owed.{IsRunOutput, IsCheckOutput}
use Rattle.raw_owed.specs.Checked.{check_line, check_ending}
use Rattle.raw_command_law.specs.CheckedHistory.{HistoryIsLawful}
use Rattle.raw_command_law.proofs.LinesBehind.{lines_join, faultless_join}
use Rattle.raw_command_law.proofs.Marks.{marked, is_marked, unmarked}
use Rattle.raw_command_law.proofs.There.{all_there}

same_place : (o : Option ℕ) (i j : ℕ) → o ≡ Some i → o ≡ Some j → i ≡ j
same_place o i j a b = cc (a, b)

-- ---- a set's text, and a text behind it

lines_behind_listing : (set : ProgramSet) (back : List ℕ) → lines_of (listing set ++ back) ≡ lines_of (listing set) ++ lines_of back
unfolding listing
lines_behind_listing set back = lines_join (set_lines set) back

tokens_behind_listing : (set : ProgramSet) (back : List ℕ) → token_lines (listing set ++ back) ≡ token_lines (listing set) ++ token_lines back
tokens_behind_listing set back = ap (map tokens_of) (lines_behind_listing set back) ∙ map-append tokens_of (lines_of (listing set)) (lines_of back)

-- lines whose first is the mark
first_marked : (lines : List (List (List ℕ))) → get_or lines 0 [] ≡ marked → lines ≡ marked ∷ drop 1 lines
first_marked [] is = absurd (cc is)
first_marked (line ∷ lines) is = ap (λ first. first ∷ lines) is

-- the first mark is the one behind lines of which none is a mark
mark_behind : (front rest : List (List (List ℕ))) → ((k : ℕ) → k < length front → is_word (codes "history") (get_or front k []) ≡ false)
    → position (is_word (codes "history")) (front ++ marked ∷ rest) ≡ Some (length front)
mark_behind front rest free =
    position_found (is_word (codes "history")) (front ++ marked ∷ rest) (length front) [] (omega (arith, length-append front (marked ∷ rest)))
    (λ k below. ap (is_word (codes "history")) (get_or_append_left front (marked ∷ rest) [] k below) ∙ free k below)
    (ap (is_word (codes "history")) (get_or-append_seam front marked rest []) ∙ is_marked)

smaller : (procs most : ℕ) (steps : List ℕ) → procs ≤ most → AllByRecursion (λ p. p < procs) steps → AllByRecursion (λ p. p < most) steps
smaller procs most [] le all = tt
smaller procs most (p ∷ steps) le all = (omega (arith, le, all.0), smaller procs most steps le all.1)

-- ---- a set and its steps

module _ (one : (form : InputForm) (input : List ℕ) → IsOneInput form input)
    (back : (set : ProgramSet) → IsSet set → Meaning (listing set) set)
    (start_fits : (set : ProgramSet) → IsSet set → Fits set (start set))
    (step_fits : (set : ProgramSet) (s : MachineState) (p : ℕ) → IsSet set → Fits set s → IsTrue (enabled set s p) → Fits set (step set s p))
    (few_procs : (t : Topology) → IsTopology t → proc_count t ≤ MAX_PROCS)
    (faultless : (steps : List ℕ) → AllByRecursion (λ p. p < 2 ^ 32) steps → first_fault 1 (lines_of (history_text steps)) ≡ None)
    (head : (steps : List ℕ) → AllByRecursion (λ p. p < 2 ^ 32) steps → get_or (map tokens_of (lines_of (history_text steps))) 0 [] ≡ codes "history" ∷ [])
    (read_back : (procs : ℕ) (steps : List ℕ) → procs ≤ 2 ^ 32 → AllByRecursion (λ p. p < procs) steps
    → entries_of procs (drop 1 (map tokens_of (lines_of (history_text steps)))) ≡ Some steps) where
  -- the text says the set and the steps
  module _ (set : ProgramSet) (steps : List ℕ) (valid : IsSet set) (lawful : IsLawful set steps) where
    abbrev listed : List ℕ
    listed = listing set ++ history_text steps

    abbrev front : List (List (List ℕ))
    front = token_lines (listing set)

    abbrev rest : List (List (List ℕ))
    rest = drop 1 (token_lines (history_text steps))

    means : Meaning (listing set) set
    means = back set valid

    few : proc_count set.topo ≤ 2 ^ 32
    few = omega (arith, few_procs set.topo valid.topology)

    there : AllByRecursion (λ p. p < proc_count set.topo) steps
    there = all_there set valid step_fits (start set) steps (start_fits set valid) lawful

    small : AllByRecursion (λ p. p < 2 ^ 32) steps
    small = smaller (proc_count set.topo) (2 ^ 32) steps few there

    lines_are : token_lines listed ≡ front ++ marked ∷ rest
    lines_are =
        tokens_behind_listing set (history_text steps) ∙ ap (λ lines. front ++ lines) (first_marked (token_lines (history_text steps)) (head steps small))

    says : SaysSteps listed set
    says = record {
      plain =
          ap (first_fault 1) (lines_behind_listing set (history_text steps))
          ∙ faultless_join 1 1 (lines_of (listing set)) (lines_of (history_text steps)) means.plain (faultless steps small);
      place = length front;
      mark = ap (position (is_word (codes "history"))) lines_are ∙ mark_behind front rest (unmarked front set means.meaning);
      meaning =
          subst (λ lines. IsMeaning lines set) (sym (ap (take (length front)) lines_are ∙ take-append_seam front (marked ∷ rest))) means.meaning;
      steps = steps;
      entries =
          ap (λ lines. entries_of (proc_count set.topo) (drop (length front + 1) lines)) lines_are
          ∙ ap (entries_of (proc_count set.topo)) (drop-append-add front (marked ∷ rest) 1)
          ∙ read_back (proc_count set.topo) steps few there;
    }

  -- what `check` owes for a text that says a set and lawful steps
  module _ (text : List ℕ) (set : ProgramSet) (says : SaysSteps text set) (lawful : IsLawful set says.steps) where
    same_said : (other : ProgramSet) (also : SaysSteps text other) → (other ≡ set) × (also.steps ≡ says.steps)
    same_said other also =
        let set_is : other ≡ set = (one form.History text).one_set other set also says in
        let place_is : also.place ≡ says.place = same_place (position (is_word (codes "history")) (token_lines text)) also.place says.place also.mark says.mark in
        let here : entries_of (proc_count set.topo) (lines_behind text says.place) ≡ Some also.steps =
        subst (λ (q : ProgramSet × ℕ). entries_of (proc_count q.0.topo) (lines_behind text q.1) ≡ Some also.steps) (λ i. (set_is i, place_is i)) also.entries in
        (set_is, cc (here, says.entries))

    finds_lawful : (output : List ℕ) (ending : CommandEnding) → IsCheckOutput text output ending → (output ≡ check_line says.steps Lawful) × (ending ≡ Done)
    finds_lawful output ending check =
        let same = same_said check.set check.meaning in
        let all : IsLawful check.set check.meaning.steps =
        subst (λ (q : ProgramSet × List ℕ). IsLawful q.0 q.1) (λ i. (sym same.0 i, sym same.1 i)) lawful in
        let answer_is : check.answer ≡ Lawful = check.exactly.1 all in (
          check.written ∙ ap (λ answer. check_line check.meaning.steps answer) answer_is ∙ ap (λ steps. check_line steps Lawful) same.1,
          check.ended ∙ ap check_ending answer_is,
        )

  pub history_is_lawful : (form : SetForm) (input text : List ℕ) (ending : CommandEnding) → IsRunOutput History form input text ending → length text ≤ limit → HistoryIsLawful form input text
  unfolding says
  history_is_lawful form input text ending history short =
      let valid : IsSet history.set = (one (whole form) input).lawful history.set history.meaning in
      let says : SaysSteps (listing history.set ++ history_text history.steps) history.set = says history.set history.steps valid history.run.lawful in
      subst (HistoryIsLawful form input) (sym history.written)
      (record {
        set = history.set;
        meaning = history.meaning;
        steps = history.steps;
        run = history.run;
        said = (says, refl);
        taken = record { short = subst (λ t. length t ≤ limit) history.written short; valid = (history.set, says) };
        checked = λ output next check. finds_lawful (listing history.set ++ history_text history.steps) history.set says history.run.lawful output next check;
      })
