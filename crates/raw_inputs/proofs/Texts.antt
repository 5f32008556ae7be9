-- Texts mean one set or have one fault, by what is so of what they are read as.
use Rattle.std.proofs.Common.{◌≡◌, ◌⊎◌, ◌∙◌, ℕ, ◌+◌, List, codes, length, drop, Option, Some, None, refl, sym, ap, subst, inl, inr, ⊎_elim}
use Rattle.std.proofs.lemmas.Option.{none-some, same_Some}
use Rattle.raw_text.specs.Lines.{lines_of}
use Rattle.raw_answer.specs.OneAnswer.{HasOneAnswer}
use Rattle.raw_answer.proofs.Texts.{one_text}
use Rattle.raw_answer.proofs.Made.{made_answer, seen_answer}
use Rattle.raw_grid.specs.Topology.{proc_count}
use Rattle.raw_model.specs.Program.{ProgramSet, IsSet}
use Rattle.raw_set_text.specs.declared.kind.SetKind.{SetKind}
use Rattle.raw_set_text.specs.declared.kind.SetKind.TheVariants.{NotAscii, LineTooLong, OverLimit}
use Rattle.raw_set_text.specs.Meaning as set
use Rattle.raw_set_text.specs.Texts.{IsOneText, token_lines}
use Rattle.raw_report.specs.History.{entries_of, IsBadEntry}
use Rattle.raw_route.specs.Planned.{sendings}
use Rattle.raw_route.specs.Laws as route
use Rattle.raw_plan_text.specs.Texts.{IsOnePlanText}
use Rattle.raw_flow.specs.Right as flow
use Rattle.raw_either_flow.specs.Texts as either
use Rattle.raw_claim_text.specs.Marked.{mark_in, FaultBefore, IsBehind, IsFaultBehind}
use Rattle.raw_claim_text.proofs.Behind.{one_behind}
use Rattle.raw_inputs.specs.declared.form.InputForm.TheVariants as form
use Rattle.raw_inputs.specs.declared.flaw.LineKind.{LineKind}
use Rattle.raw_inputs.specs.declared.flaw.LineKind.TheVariants.{Set, BadEntry, BadCommand}
use Rattle.raw_inputs.specs.Inputs.{planned_of, compiled_of, IsShort, SaysSteps, SaysScript, OfSet, IsBadAt, NoStep, bad_at, NoCommand, MarkedFault, IsOneSet}
use Rattle.raw_inputs.proofs.Limits.{are_short_or_long}

-- faults of texts of sets are faults of lines
pub of_set : {T : Type 0} {Means : T → Type 0} {Wrong : ℕ → SetKind → Type 0} {IsValid : T → Type 0} → HasOneAnswer Means Wrong IsValid → HasOneAnswer Means (OfSet Wrong) IsValid
of_set {T} {Means} {Wrong} {IsValid} answer = record {
  some = ⊎_elim (λ (means : (x : T) × Means x). inl means) (λ (fault : (line : ℕ) × (kind : SetKind) × Wrong line kind). inr (fault.0, Set fault.1, fault.2)) answer.some;
  valid = answer.valid;
  one_meaning = answer.one_meaning;
  one_fault = one_fault;
  not_both = not_both;
}
  where
    one_fault : (i j : ℕ) (a b : LineKind) → OfSet Wrong i a → OfSet Wrong j b → (i ≡ j) × (a ≡ b)
    one_fault i j (Set a) (Set b) x y = let same = answer.one_fault i j a b x y in (same.0, ap Set same.1)
    one_fault i j (Set a) _ x y = absurd y
    one_fault i j _ b x y = absurd x

    not_both : (x : T) (line : ℕ) (kind : LineKind) → Means x → OfSet Wrong line kind → ⊥
    not_both x line (Set kind) means fault = answer.not_both x line kind means fault
    not_both x line _ means fault = fault

-- ---- a set alone, a plan and a flow
pub of_text : (input : List ℕ) → IsOneText input → IsOneSet form.Text input
of_text input one = of_set one

pub of_plan : (input : List ℕ) → IsOnePlanText input → route.EachIsSet → IsOneSet form.Plan input
of_plan input one lawful =
    of_set (made_answer one (IsShort planned_of) (λ plan. are_short_or_long (planned_of plan).tiles) planned_of (length (lines_of input) + 1) OverLimit IsSet
    (λ plan valid short. lawful plan.cols plan.rows (sendings plan.hauls plan.words) valid.lawful.size valid.sends short))

pub of_flow : (input : List ℕ) → either.IsOneText input → flow.EachPlacedIsSet → IsOneSet form.Flow input
of_flow input one lawful =
    of_set (made_answer one (IsShort compiled_of) (λ placed. are_short_or_long (compiled_of placed).tiles) compiled_of (length (lines_of input) + 1) OverLimit IsSet
    (λ placed valid short. lawful placed.flow placed.ports placed.inputs valid.flow valid.ports valid.inputs short))

-- ---- a set before a mark
-- what is behind the mark has one answer, where the first bad line of it is one
bad_answer : {T : Type 0} (Tail : T → Type 0) (IsBad : ℕ → Type 0) (place : ℕ) (why : LineKind) → ((x : T) × Tail x) ⊎ ((at : ℕ) × IsBad at) → ((a b : T) → Tail a → Tail b → a ≡ b)
    → ((j k : ℕ) → IsBad j → IsBad k → j ≡ k) → ((x : T) (k : ℕ) → Tail x → IsBad k → ⊥) → HasOneAnswer Tail (IsBadAt IsBad place why) (λ x. Unit {0})
bad_answer {T} Tail IsBad place why some one one_bad not_both = record {
  some = ⊎_elim (λ (tail : (x : T) × Tail x). inl tail)
      (λ (bad : (at : ℕ) × IsBad at). inr (place + 1 + bad.0 + 1, why, record { at = bad.0; bad = bad.1; line_is = refl; kind_is = refl })) some;
  valid = λ x tail. tt;
  one_meaning = one;
  one_fault = λ i j a b x y. (x.line_is ∙ ap (λ k. place + 1 + k + 1) (one_bad x.at y.at x.bad y.bad) ∙ sym y.line_is, x.kind_is ∙ sym y.kind_is);
  not_both = λ x line kind tail fault. not_both x fault.at tail fault.bad;
}

module _ (one : (lines : List (List (List ℕ))) → set.IsOneSet lines) (input : List ℕ) where
  abbrev lines : List (List (List ℕ))
  lines = token_lines input

  marked : {T : Type 0} (word : List ℕ) (Tail : List (List (List ℕ)) → ℕ → ProgramSet → T → Type 0) (Wrong : List (List (List ℕ)) → ℕ → ProgramSet → ℕ → LineKind → Type 0)
      → ((place : ℕ) (s : ProgramSet) → HasOneAnswer (Tail lines place s) (Wrong lines place s) (λ x. Unit {0}))
      → HasOneAnswer (λ (said : ProgramSet × T). IsBehind word Tail lines said) (MarkedFault word Wrong lines) (λ (said : ProgramSet × T). IsSet said.0 × Unit {0})
  marked word Tail Wrong tails =
      one_behind one word lines Tail Wrong (λ s x. Unit {0}) tails (MarkedFault word Wrong lines) Set (λ line kind fault. inl fault) (λ line kind fault. inr fault) by_kind
    where
      by_kind : (line : ℕ) (kind : LineKind) → MarkedFault word Wrong lines line kind
          → ((fault : SetKind) × (kind ≡ Set fault) × FaultBefore (mark_in word lines) lines line fault) ⊎ IsFaultBehind word Wrong lines line kind
      by_kind line (Set kind) (inl fault) = inl (kind, refl, fault)
      by_kind line _ (inl fault) = absurd fault
      by_kind line kind (inr fault) = inr fault

  -- the lines behind the mark say these steps of the set
  abbrev Steps : List (List (List ℕ)) → ℕ → ProgramSet → List ℕ → Type 0
  Steps of place s steps = entries_of (proc_count s.topo) (drop (place + 1) of) ≡ Some steps

  pub of_history : ((procs : ℕ) (of : List (List (List ℕ))) → ((steps : List ℕ) × (entries_of procs of ≡ Some steps)) ⊎ ((k : ℕ) × IsBadEntry procs of k))
      → ((procs j k : ℕ) (of : List (List (List ℕ))) → IsBadEntry procs of j → IsBadEntry procs of k → j ≡ k)
      → ((procs k : ℕ) (of : List (List (List ℕ))) → IsBadEntry procs of k → entries_of procs of ≡ None) → IsOneSet form.History input
  of_history entries one_bad not_both =
      seen_answer
      (one_text (Set NotAscii) (Set LineTooLong) (MarkedFault (codes "history") NoStep) input (λ of (said : ProgramSet × List ℕ). IsBehind (codes "history") Steps of said) (λ (said : ProgramSet × List ℕ). IsSet said.0 × Unit {0})
      (marked (codes "history") Steps NoStep steps_one))
      (λ said. said.0) (SaysSteps input) IsSet
      (λ said m. record { plain = m.plain; place = m.meaning.place; mark = m.meaning.mark; meaning = m.meaning.set_is; steps = said.1; entries = m.meaning.tail_is })
      (λ s says. ((s, says.steps), record { plain = says.plain; meaning = record { place = says.place; mark = says.mark; set_is = says.meaning; tail_is = says.entries } }, refl))
      (λ said valid. valid.0)
    where
      steps_one : (place : ℕ) (s : ProgramSet) → HasOneAnswer (Steps lines place s) (NoStep lines place s) (λ x. Unit {0})
      steps_one place s =
          let procs = proc_count s.topo in
          let tail : List (List (List ℕ)) = drop (place + 1) lines in
          bad_answer (Steps lines place s) (IsBadEntry procs tail) place BadEntry (entries procs tail) (λ a b x y. same_Some a b (sym x ∙ y))
          (λ j k x y. one_bad procs j k tail x y) (λ steps k x bad. none-some steps (sym (not_both procs k tail bad) ∙ x))

  -- they are a script, which begins with this line
  abbrev Commands : List (List (List ℕ)) → ℕ → ProgramSet → ℕ → Type 0
  Commands of place s from = (from ≡ place + 1) × (bad_at of place s ≡ None)

  pub of_script : IsOneSet form.Script input
  of_script =
      seen_answer
      (one_text (Set NotAscii) (Set LineTooLong) (MarkedFault (codes "script") NoCommand) input (λ of (said : ProgramSet × ℕ). IsBehind (codes "script") Commands of said) (λ (said : ProgramSet × ℕ). IsSet said.0 × Unit {0})
      (marked (codes "script") Commands NoCommand commands_one))
      (λ said. said.0) (SaysScript input) IsSet
      (λ said m. record { plain = m.plain; place = m.meaning.place; mark = m.meaning.mark; meaning = m.meaning.set_is; commands = m.meaning.tail_is.1 })
      (λ s says. ((s, says.place + 1), record { plain = says.plain; meaning = record { place = says.place; mark = says.mark; set_is = says.meaning; tail_is = (refl, says.commands) } }, refl))
      (λ said valid. valid.0)
    where
      by_bad : (place : ℕ) (s : ProgramSet) (o : Option ℕ) → bad_at lines place s ≡ o → ((from : ℕ) × Commands lines place s from) ⊎ ((at : ℕ) × (bad_at lines place s ≡ Some at))
      by_bad place s None is = inl (place + 1, (refl, is))
      by_bad place s (Some at) is = inr (at, is)

      commands_one : (place : ℕ) (s : ProgramSet) → HasOneAnswer (Commands lines place s) (NoCommand lines place s) (λ x. Unit {0})
      commands_one place s =
          bad_answer (Commands lines place s) (λ at. bad_at lines place s ≡ Some at) place BadCommand (by_bad place s (bad_at lines place s) refl) (λ a b x y. x.0 ∙ sym y.0)
          (λ j k x y. same_Some j k (sym x ∙ y)) (λ from k x bad. none-some k (sym x.1 ∙ bad))
