-- Which set an input means and where it has a fault, by how the set is written in it.
use Rattle.std.specs.Prelude.{◌≡◌, ◌⊎◌, ℕ, ◌+◌, ◌≤◌, List, codes, length, take, drop, Option, Some, None}
use Rattle.raw_text.specs.Lines.{lines_of, first_fault}
use Rattle.raw_text.specs.Text.{text_lines}
use Rattle.raw_answer.specs.OneAnswer.{HasOneAnswer}
use Rattle.raw_answer.specs.Texts.{TextFault}
use Rattle.raw_answer.specs.Made.{Makes, MeansTooMuch}
use Rattle.raw_lines.specs.Placing.{label_places}
use Rattle.raw_grid.specs.Topology.{proc_count}
use Rattle.raw_model.specs.Program.{ProgramSet, IsSet}
use Rattle.raw_set_text.specs.declared.kind.SetKind.{SetKind}
use Rattle.raw_set_text.specs.declared.kind.SetKind.TheVariants.{NotAscii, LineTooLong, OverLimit}
use Rattle.raw_set_text.specs.Meaning.{IsMeaning}
use Rattle.raw_set_text.specs.Texts.{Meaning, Fault, token_lines}
use Rattle.raw_report.specs.History.{entries_of, IsBadEntry}
use Rattle.raw_debug.specs.Commands.{LabelPlaces, bad_command}
use Rattle.raw_codegen.specs.Limits.{AreShort}
use Rattle.raw_route.specs.Planned.{planned, sendings}
use Rattle.raw_plan_text.specs.Plans.{HaulPlan}
use Rattle.raw_plan_text.specs.Texts.{PlanMeaning, PlanFault}
use Rattle.raw_flow.specs.Compiled.{compiled_at}
use Rattle.raw_stream_text.specs.Texts.{StreamFault}
use Rattle.raw_either_flow.specs.Placed.{PlacedFlow}
use Rattle.raw_either_flow.specs.Texts.{EitherMeaning, EitherFault}
use Rattle.raw_claim_text.specs.Marked.{mark_in, FaultBefore, IsFaultBehind}
use Rattle.raw_image.specs.Image.{Image, ImageFault}
use Rattle.raw_inputs.specs.declared.marked.Scripted.{Scripted}
use Rattle.raw_command_line.specs.declared.arguments.SetForm.{SetForm}
use Rattle.raw_command_line.specs.declared.arguments.SetForm.TheVariants as set_form
use Rattle.raw_inputs.specs.declared.form.InputForm.{InputForm}
use Rattle.raw_inputs.specs.declared.form.InputForm.TheVariants as form
use Rattle.raw_inputs.specs.declared.flaw.LineKind.{LineKind}
use Rattle.raw_inputs.specs.declared.flaw.LineKind.TheVariants.{Set, BadEntry, BadCommand}
use Rattle.raw_inputs.specs.declared.flaw.Refusal.{Refusal}
use Rattle.raw_inputs.specs.declared.flaw.Refusal.TheVariants as refusal
use Rattle.raw_inputs.specs.Claimed.{SaysClaim, IsClaimFault}
use Rattle.raw_inputs.specs.Flaws.{Failure}
use Rattle.raw_shell.specs.declared.failure.Failure.TheVariants.{Refused, Memory}
use Rattle.raw_inputs.specs.declared.flaw.InputFlaw.TheVariants as flaw

-- the set that a plan plans
abbrev pub planned_of : HaulPlan → ProgramSet
planned_of plan = planned plan.cols plan.rows (sendings plan.hauls plan.words)

-- the set that a flow is compiled to, with its ports and the words of its inputs: of a stream the flow that it is
abbrev pub compiled_of : PlacedFlow → ProgramSet
compiled_of placed = compiled_at placed.flow placed.ports placed.inputs

-- the programs of the set that is made are within the limits
abbrev pub IsShort : {X : Type 0} → (X → ProgramSet) → X → Type 0
IsShort set_of x = AreShort (set_of x).tiles

-- an input means this, of which a set is made whose programs are within the limits, and this is the set
abbrev pub MakesSet : {X : Type 0} → (X → Type 0) → (X → ProgramSet) → ProgramSet → Type 0
MakesSet Meant set_of set = Makes Meant (IsShort set_of) set_of set

-- its text has this fault, or it means this, and the programs of the set that is made of it pass the limits; that is told behind the last line
abbrev pub MakesNone : {X : Type 0} → (X → Type 0) → (ℕ → SetKind → Type 0) → (X → ProgramSet) → List ℕ → ℕ → SetKind → Type 0
MakesNone Meant Fault set_of input line kind = Fault line kind ⊎ MeansTooMuch Meant (IsShort set_of) (length (lines_of input) + 1) OverLimit line kind

-- the lines of an input behind the mark at this place
abbrev pub lines_behind : List ℕ → ℕ → List (List (List ℕ))
lines_behind input place = drop (place + 1) (token_lines input)

-- an input says a set and steps of its processors: no line is faulty as a line of text, the lines before the mark `history` mean the
-- set, and those behind it say the steps
pub record SaysSteps (input : List ℕ) (set : ProgramSet) : Type 0 where
  pub plain : first_fault 1 (lines_of input) ≡ None
  pub place : ℕ
  pub mark : mark_in (codes "history") (token_lines input) ≡ Some place
  pub meaning : IsMeaning (take place (token_lines input)) set
  pub steps : List ℕ
  pub entries : entries_of (proc_count set.topo) (lines_behind input place) ≡ Some steps

-- an input says this set and these steps
abbrev pub AreSaid : List ℕ → ProgramSet → List ℕ → Type 0
AreSaid input set steps = (said : SaysSteps input set) × (said.steps ≡ steps)

-- where the labels of a set stand that the lines before this place mean
abbrev pub labels_before : ProgramSet → List ℕ → ℕ → LabelPlaces
labels_before set input place = label_places set.topo (take place (token_lines input))

-- an input says a set and a script: no line is faulty as a line of text, the lines before the mark `script` mean the set, and
-- those behind it are commands
pub record SaysScript (input : List ℕ) (set : ProgramSet) : Type 0 where
  pub plain : first_fault 1 (lines_of input) ≡ None
  pub place : ℕ
  pub mark : mark_in (codes "script") (token_lines input) ≡ Some place
  pub meaning : IsMeaning (take place (token_lines input)) set
  pub commands : bad_command (labels_before set input place) set (lines_behind input place) ≡ None

-- the set and the text are those of an input that says a set and a script, which begins with the line at this place
pub record IsScripted (input : List ℕ) (scripted : Scripted) : Type 0 where
  pub said : SaysScript input scripted.set
  pub from : scripted.from ≡ said.place + 1
  pub lines : text_lines scripted.text ≡ token_lines input
  pub within : scripted.from ≤ length (token_lines input)

-- a fault that texts of sets have, where lines may be faulty in more ways
abbrev pub OfSet : (ℕ → SetKind → Type 0) → ℕ → LineKind → Type 0
OfSet Fault line (Set kind) = Fault line kind
OfSet Fault line _ = ⊥

-- the line behind the mark at this place is the first that is bad, counted from 0, and this is its kind
pub record IsBadAt (IsBad : ℕ → Type 0) (place : ℕ) (why : LineKind) (line : ℕ) (kind : LineKind) : Type 0 where
  pub at : ℕ
  pub bad : IsBad at
  pub line_is : line ≡ place + 1 + at + 1
  pub kind_is : kind ≡ why

-- the first of the lines behind the mark that says no step of a processor of the set
abbrev pub NoStep : List (List (List ℕ)) → ℕ → ProgramSet → ℕ → LineKind → Type 0
NoStep lines place set line kind = IsBadAt (IsBadEntry (proc_count set.topo) (drop (place + 1) lines)) place BadEntry line kind

-- the line behind the mark, counted from 0, that is the first that is no command of a script on the set, where there is one
abbrev pub bad_at : List (List (List ℕ)) → ℕ → ProgramSet → Option ℕ
bad_at lines place set = bad_command (label_places set.topo (take place lines)) set (drop (place + 1) lines)

-- the first of the lines behind the mark that is no command of a script on the set
abbrev pub NoCommand : List (List (List ℕ)) → ℕ → ProgramSet → ℕ → LineKind → Type 0
NoCommand lines place set line kind = IsBadAt (λ at. bad_at lines place set ≡ Some at) place BadCommand line kind

-- the least fault of lines that are to say a set, this word as the mark, and more: one of the set, or that there is no mark, or one behind it
abbrev pub MarkedFault : List ℕ → (List (List (List ℕ)) → ℕ → ProgramSet → ℕ → LineKind → Type 0) → List (List (List ℕ)) → ℕ → LineKind → Type 0
MarkedFault word Wrong lines line kind = OfSet (FaultBefore (mark_in word lines) lines) line kind ⊎ IsFaultBehind word Wrong lines line kind

-- the form of an input that is a set of this form
abbrev pub whole : SetForm → InputForm
whole set_form.Text = form.Text
whole set_form.Image = form.Image
whole set_form.Plan = form.Plan
whole set_form.Flow = form.Flow

-- An input means a set where its lines mean the set, or it is an image of the set, in version 1 or 2. It also means
-- one where it is the text of a plan that plans the set, or of a flow, plain or of rows, that is compiled to it,
-- and where it says the set and steps, or the set and a script or a claim.
abbrev pub Means : InputForm → List ℕ → ProgramSet → Type 0
Means form.Text input set = Meaning input set
Means form.Image input set = Image input set
Means form.Plan input set = MakesSet (PlanMeaning input) planned_of set
Means form.Flow input set = MakesSet (EitherMeaning input) compiled_of set
Means form.History input set = SaysSteps input set
Means form.Script input set = SaysScript input set
Means form.Claim input set = SaysClaim input set

-- a text has this least fault, at its line; of a plan or a flow whose text has none, the programs may pass the limits
abbrev pub HasLineFault : InputForm → List ℕ → ℕ → LineKind → Type 0
HasLineFault form.Text input line kind = OfSet (Fault input) line kind
HasLineFault form.Image input line kind = ⊥
HasLineFault form.Plan input line kind = OfSet (MakesNone (PlanMeaning input) (PlanFault input) planned_of input) line kind
HasLineFault form.Flow input line kind = OfSet (MakesNone (EitherMeaning input) (EitherFault input) compiled_of input) line kind
HasLineFault form.History input line kind = TextFault (Set NotAscii) (Set LineTooLong) (MarkedFault (codes "history") NoStep) input line kind
HasLineFault form.Script input line kind = TextFault (Set NotAscii) (Set LineTooLong) (MarkedFault (codes "script") NoCommand) input line kind
HasLineFault form.Claim input line kind = OfSet (IsClaimFault input) line kind

-- an input has a fault: a text its least one, at its line, or an image its first one, at its offset in bytes
abbrev pub HasFault : InputForm → List ℕ → Refusal → Type 0
HasFault form input (refusal.Line line kind) = HasLineFault form input line kind
HasFault form.Image input (refusal.Image offset kind) = ImageFault input offset kind
HasFault _ input (refusal.Image offset kind) = ⊥

-- why an input is not read as a set: its fault, or want of memory
abbrev pub IsRefusalOf : InputForm → List ℕ → Failure → Type 0
IsRefusalOf form input (Refused (flaw.At refusal)) = HasFault form input refusal
IsRefusalOf form input Memory = Unit {0}
IsRefusalOf form input _ = ⊥

-- an input has a fault as the text of a stream, whatever else it may be
abbrev pub HasStreamFault : List ℕ → Refusal → Type 0
HasStreamFault input (refusal.Line line (Set kind)) = StreamFault input line kind
HasStreamFault input _ = ⊥

-- why it is not read as one: its least fault, or want of memory
abbrev pub IsNoStream : List ℕ → Failure → Type 0
IsNoStream input (Refused (flaw.At refusal)) = HasStreamFault input refusal
IsNoStream input Memory = Unit {0}
IsNoStream input _ = ⊥

-- a text means exactly one set, which keeps all that sets keep, or has exactly one fault, and not both
abbrev pub IsOneSet : InputForm → List ℕ → Type 0
IsOneSet form input = HasOneAnswer (Means form input) (HasLineFault form input) IsSet

-- an input means a set, or has a fault
abbrev pub MeansOrFails : InputForm → List ℕ → Type 0
MeansOrFails form input = ((set : ProgramSet) × Means form input set) ⊎ ((refusal : Refusal) × HasFault form input refusal)

-- an input has at most one fault
abbrev pub HasOneFault : InputForm → List ℕ → Type 0
HasOneFault form input = (a b : Refusal) → HasFault form input a → HasFault form input b → a ≡ b

-- an input means at most one set, which keeps all that sets keep, and where it means one it has no fault
pub record IsOneInput (form : InputForm) (input : List ℕ) : Type 0 where
  pub one_set : (a b : ProgramSet) → Means form input a → Means form input b → a ≡ b
  pub lawful : (set : ProgramSet) → Means form input set → IsSet set
  pub not_both : (set : ProgramSet) (refusal : Refusal) → Means form input set → HasFault form input refusal → ⊥
