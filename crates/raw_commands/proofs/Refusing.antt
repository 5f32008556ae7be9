-- For an input that has a fault nothing is due, and no script goes past the end that is valid.
use Rattle.std.proofs.Common.{◌≡◌, ◌∙◌, ℕ, Bool, true, false, List, Option, Some, None, ap, inl, inr}
use Rattle.raw_model.specs.Program.{ProgramSet}
use Rattle.raw_debug.specs.Script.{past_end}
use Rattle.raw_shell.specs.declared.ending.CommandEnding.{CommandEnding}
use Rattle.raw_inputs.specs.declared.form.InputForm.{InputForm}
use Rattle.raw_inputs.specs.declared.form.InputForm.TheVariants.{Text, Image, Plan, Flow, History, Script, Claim}
use Rattle.raw_command_line.specs.declared.arguments.FlowSet.TheVariants.{Compiled, Scheduled, Endless}
use Rattle.raw_command_line.specs.declared.arguments.ReadingCommand.{ReadingCommand}
use Rattle.raw_command_line.specs.declared.arguments.ReadingCommand.TheVariants.{Run, Cycles, Path, Trace, Depths, Steady, Names, Lines, Asm, List as ListCommand, Plan as PlanCommand, Flow as FlowCommand, Check, Debug, Prove, ProveLive}
use Rattle.raw_command_line.specs.declared.arguments.Command.TheVariants.{Reads}
use Rattle.raw_inputs.specs.declared.flaw.LineKind.TheVariants.{Set}
use Rattle.raw_inputs.specs.declared.flaw.Refusal.{Refusal}
use Rattle.raw_inputs.specs.declared.flaw.Refusal.TheVariants.{Line}
use Rattle.raw_inputs.specs.Inputs.{labels_before, whole, lines_behind, HasStreamFault, SaysScript, IsOneInput}
use Rattle.raw_owed.specs.Owed.{form_of}
use Rattle.raw_inputs.specs.Claimed.{says_rows, SaysClaimBy}
use Rattle.raw_stream_text.specs.Streams.{FedStream}
use Rattle.raw_stream_text.specs.Texts.{StreamMeaning}
use Rattle.raw_owed.specs.Schedules.{is_stream_text, IsSchedule, HasTextFault, IsOneFlow}
use Rattle.raw_owed.specs.Owed.{GoesPast, Refuses, IsRefused, IsDue, IsValid}
use Rattle.raw_owed.specs.ClaimOutputs.{IsProveOutputBy}
use Rattle.raw_owed.specs.LiveOutputs.{IsLiveOutputBy}

-- what is so of two answers to one question
pub same_some : (o : Option ℕ) (i j : ℕ) → o ≡ Some i → o ≡ Some j → i ≡ j
same_some o i j a b = cc (a, b)

pub not_none : (o : Option ℕ) (k : ℕ) → o ≡ None → o ≡ Some k → ⊥
not_none o k a b = cc (a, b)

-- what is owed says the set and the claim
says_claim : (b : Bool) (input output : List ℕ) (ending : CommandEnding) → IsProveOutputBy b input output ending → (set : ProgramSet) × SaysClaimBy b input set
says_claim false input output ending owed = (owed.set, (owed.flow, owed.places, owed.meaning))
says_claim true input output ending owed = (owed.set, (owed.fed, owed.meaning))

says_live : (b : Bool) (input output : List ℕ) (ending : CommandEnding) → IsLiveOutputBy b input output ending → (set : ProgramSet) × SaysClaimBy b input set
says_live false input output ending owed = (owed.set, (owed.flow, owed.places, owed.meaning))
says_live true input output ending owed = (owed.set, (owed.fed, owed.meaning))

-- a text that means a stream has no fault as one
means_or_fails : (input : List ℕ) → IsOneFlow input → (fed : FedStream) (refusal : Refusal) → StreamMeaning input fed → HasStreamFault input refusal → ⊥
means_or_fails input one fed (Line line (Set kind)) meaning fault = one.stream.not_both fed line kind meaning fault
means_or_fails input one fed _ meaning fault = absurd fault

-- no set is made for a text that has a fault
not_made : (input : List ℕ) → IsOneFlow input → (rows : Bool) (set : ProgramSet) (refusal : Refusal) → IsSchedule rows input set → HasTextFault rows input refusal → ⊥
not_made input one true set refusal made fault = means_or_fails input one made.fed refusal made.meaning fault
not_made input one false set (Line line (Set kind)) made fault = one.flow.not_both made.fed line kind made.meaning fault
not_made input one false set _ made fault = absurd fault

module _ (law : (form : InputForm) (input : List ℕ) → IsOneInput form input) where
  -- no command refuses a valid input
  pub valid_not : (command : ReadingCommand) (input : List ℕ) (refusal : Refusal) → IsOneFlow input → IsValid command input → Refuses (Reads command) input refusal → ⊥
  valid_not Debug input refusal one v r = (law Script input).not_both v.0 refusal v.1 r
  valid_not (FlowCommand Endless) input refusal one v r = means_or_fails input one v.0 refusal v.1 r
  valid_not command input refusal one v r = (law (form_of command) input).not_both v.0 refusal v.1 r

  -- the set and the script that an input says are one
  pub one_script : (input : List ℕ) (a b : ProgramSet) (x : SaysScript input a) (y : SaysScript input b) → ◌≡◌ {A = ProgramSet × ℕ} (a, x.place) (b, y.place)
  one_script input a b x y =
      let sets = (law Script input).one_set a b x y in
      let places : x.place ≡ y.place = same_some _ x.place y.place x.mark y.mark in
      λ i. (sets i, places i)

  -- so is where it goes past the end
  pub one_past : (input : List ℕ) (a b : ProgramSet) (x : SaysScript input a) (y : SaysScript input b)
      → past_end (labels_before a input x.place) a (lines_behind input x.place) ≡ past_end (labels_before b input y.place) b (lines_behind input y.place)
  one_past input a b x y = ap (λ (q : ProgramSet × ℕ). past_end (labels_before q.0 input q.1) q.0 (lines_behind input q.1)) (one_script input a b x y)

  -- a valid input goes nowhere past the end
  pub valid_not_past : (command : ReadingCommand) (input output : List ℕ) (line : ℕ) → IsValid command input → GoesPast (Reads command) input output line → ⊥
  valid_not_past Debug input output line v past =
      let same = one_past input v.0 past.set v.1 past.meaning in
      not_none _ past.at v.2 (same ∙ past.past)
  valid_not_past command input output line v past = past

  -- nothing is due for an input that has to be refused
  pub due_not : (command : ReadingCommand) (input output : List ℕ) (refusal : Refusal) → IsOneFlow input → IsDue (Reads command) input output → IsRefused command input refusal → ⊥
  due_not (Run options) input output refusal one (inl d) r = (law (whole options.form) input).not_both d.1.set refusal d.1.meaning r
  due_not (Cycles options) input output refusal one (inl d) r = (law (whole options.form) input).not_both d.1.set refusal d.1.meaning r
  due_not (Path form) input output refusal one (inl d) r = (law (whole form) input).not_both d.1.set refusal d.1.meaning r
  due_not (Trace options) input output refusal one (inl d) r = (law (whole options.form) input).not_both d.1.set refusal d.1.meaning r
  due_not (Depths form) input output refusal one (inl d) r = (law (whole form) input).not_both d.1.set refusal d.1.meaning r
  due_not (Steady form) input output refusal one (inl d) r = (law (whole form) input).not_both d.1.set refusal d.1.meaning r
  due_not (Names form) input output refusal one (inl d) r = (law (whole form) input).not_both d.1.set refusal d.1.meaning r
  due_not Lines input output refusal one (inl d) r = (law Text input).not_both d.1.set refusal d.1.meaning r
  due_not Asm input output refusal one (inl d) r = (law Text input).not_both d.1.set refusal d.1.meaning r
  due_not ListCommand input output refusal one (inl d) r = (law Image input).not_both d.1.set refusal d.1.meaning r
  due_not PlanCommand input output refusal one (inl d) r = (law Plan input).not_both d.1.set refusal d.1.meaning r
  due_not (FlowCommand Compiled) input output refusal one (inl d) r = (law Flow input).not_both d.1.set refusal d.1.meaning r
  due_not (FlowCommand Scheduled) input output refusal one (inl d) r = not_made input one (is_stream_text input) d.1.set refusal d.1.schedule r
  due_not (FlowCommand Endless) input output refusal one (inl d) r = means_or_fails input one d.1.fed refusal d.1.meaning r
  due_not Check input output refusal one (inl d) r = (law History input).not_both d.1.set refusal d.1.meaning r
  due_not Debug input output refusal one (inl d) r = (law Script input).not_both d.1.set refusal d.1.meaning r
  due_not Debug input output refusal one (inr d) r = (law Script input).not_both d.1.set refusal d.1.meaning r
  due_not Prove input output refusal one (inl d) r = let says = says_claim (says_rows input) input output d.0 d.1 in (law Claim input).not_both says.0 refusal says.1 r
  due_not ProveLive input output refusal one (inl d) r = let says = says_live (says_rows input) input output d.0 d.1 in (law Claim input).not_both says.0 refusal says.1 r
  due_not command input output refusal one (inr d) r = d.1
