-- Which command the words are.
use Rattle.std.specs.Prelude.{ℕ, Bool, true, false, not, ◌&&◌, ◌||◌, List, [], ◌∷◌, codes, Option, Some, None, is_none, nat_le, if◌then◌else◌}
use Rattle.std.specs.Option.{option_map, option_and_then}
use Rattle.std.specs.Str.{bytes_eq}
use Rattle.raw_text.specs.Number.{number_of}
use Rattle.raw_generated.specs.declared.limits.TheConstants.{MAX_GENERATED_WORDS}
use Rattle.raw_shell.specs.Arguments.{workers_of}
use Rattle.raw_shell.specs.declared.arguments.FixedText.TheVariants.{Help, Version}
use Rattle.raw_command_line.specs.declared.arguments.AloneCommand.{AloneCommand}
use Rattle.raw_command_line.specs.declared.arguments.AloneCommand.TheVariants.{Fixed, Work}
use Rattle.raw_command_line.specs.declared.arguments.SetForm.{SetForm}
use Rattle.raw_command_line.specs.declared.arguments.SetForm.TheVariants.{Text, Image, Plan, Flow}
use Rattle.raw_command_line.specs.declared.arguments.StateOutput.TheVariants.{Report, Picture}
use Rattle.raw_command_line.specs.declared.arguments.RunOutput.{RunOutput}
use Rattle.raw_command_line.specs.declared.arguments.RunOutput.TheVariants.{State, History}
use Rattle.raw_command_line.specs.declared.arguments.TraceOutput.{TraceOutput}
use Rattle.raw_command_line.specs.declared.arguments.TraceOutput.TheVariants.{Lines, Page}
use Rattle.raw_command_line.specs.declared.limits.TheConstants.{MAX_TRACE_CYCLES}
use Rattle.raw_command_line.specs.declared.arguments.FlowSet.{FlowSet}
use Rattle.raw_command_line.specs.declared.arguments.FlowSet.TheVariants.{Compiled, Scheduled, Endless}
use Rattle.raw_command_line.specs.declared.arguments.Extra.{Extra}
use Rattle.raw_command_line.specs.declared.arguments.Extra.TheVariants.{Whole, Lost, Endless as EndlessRows}
use Rattle.raw_command_line.specs.declared.arguments.CommandOption.{CommandOption}
use Rattle.raw_command_line.specs.declared.arguments.Options.{Options}
use Rattle.raw_command_line.specs.declared.arguments.CommandOption.TheVariants as option
use Rattle.raw_command_line.specs.declared.arguments.ReadingCommand.{ReadingCommand}
use Rattle.raw_command_line.specs.declared.arguments.ReadingCommand.TheVariants as reading
use Rattle.raw_command_line.specs.declared.arguments.Command.{Command}
use Rattle.raw_command_line.specs.declared.arguments.Command.TheVariants.{Alone, Reads}

-- ---- options

-- the option that one word is
unfoldable pub plain_option : List ℕ → Option CommandOption
plain_option word =
    if bytes_eq word (codes "--image") then Some (option.Form Image)
    else (if bytes_eq word (codes "--plan") then Some (option.Form Plan)
    else (if bytes_eq word (codes "--flow") then Some (option.Form Flow)
    else (if bytes_eq word (codes "--schedule") then Some (option.Made Scheduled)
    else (if bytes_eq word (codes "--whole") then Some (option.More Whole)
    else (if bytes_eq word (codes "--lost") then Some (option.More Lost)
    else (if bytes_eq word (codes "--endless") then Some (option.More EndlessRows)
    else None))))))

-- whether an option has a number behind it
unfoldable pub takes_number : List ℕ → Bool
takes_number word = bytes_eq word (codes "--workers") || bytes_eq word (codes "--from") || bytes_eq word (codes "--cycles")

-- so many workers, where a number says how many
abbrev pub workers_option : ℕ → Option CommandOption
workers_option number = option_map (λ workers. option.Workers workers) (workers_of number)

-- a trace has 1 to 50,000 cycles at most
abbrev pub cycles_option : ℕ → Option CommandOption
cycles_option number = if nat_le 1 number && nat_le number MAX_TRACE_CYCLES then Some (option.Cycles number) else None

-- the option that a word and a number are
unfoldable pub number_option : List ℕ → ℕ → Option CommandOption
number_option word number =
    if bytes_eq word (codes "--workers") then workers_option number
    else (if bytes_eq word (codes "--from") then Some (option.From number)
    else (if bytes_eq word (codes "--cycles") then cycles_option number
    else None))

-- an option, and options behind it
abbrev pub behind : Option CommandOption → Option (List CommandOption) → Option (List CommandOption)
behind None more = None
behind (Some first) more = option_map (λ options. first ∷ options) more

-- the options that words are, one after another
abbrev pub options_in : List (List ℕ) → Option (List CommandOption)
options_in [] = Some []
options_in (word ∷ []) = if takes_number word then None else behind (plain_option word) (Some [])
options_in (word ∷ next ∷ words) =
    if takes_number word then behind (option_and_then (number_option word) (number_of next)) (options_in words)
    else behind (plain_option word) (options_in (next ∷ words))

-- ---- what options say: each kind at most once, in any order

-- nothing is said
abbrev pub nothing_said : Options
nothing_said = record { form = None; workers = None; from = None; cycles = None; more = None; made = None }

-- a value that is said, where none is said yet
abbrev pub said_once : {X : Type 0} → Option X → X → Option (Option X)
said_once (Some said) value = None
said_once None value = Some (Some value)

-- what is said with one option more
abbrev pub with_option : Options → CommandOption → Option Options
with_option said (option.Form form) = option_map (λ f. record said { form = f }) (said_once said.form form)
with_option said (option.Workers workers) = option_map (λ n. record said { workers = n }) (said_once said.workers workers)
with_option said (option.From cycle) = option_map (λ n. record said { from = n }) (said_once said.from cycle)
with_option said (option.Cycles cycles) = option_map (λ n. record said { cycles = n }) (said_once said.cycles cycles)
with_option said (option.More more) = option_map (λ m. record said { more = m }) (said_once said.more more)
with_option said (option.Made made) = option_map (λ m. record said { made = m }) (said_once said.made made)

-- what is said with an option, where there is one
abbrev pub with_first : Options → Option CommandOption → Option Options
with_first said first = option_and_then (with_option said) first

-- what is said with these options
abbrev pub with_options : Option Options → List CommandOption → Option Options
with_options said [] = said
with_options said (o ∷ options) = with_options (option_and_then (λ s. with_option s o) said) options

-- what is said with the options that these words are
abbrev pub with_words : Option Options → List (List ℕ) → Option Options
with_words said words = option_and_then (with_options said) (options_in words)

-- what the words behind a command say
abbrev pub options_of : List (List ℕ) → Option Options
options_of words = with_words (Some nothing_said) words

-- ---- commands, each with the options that it takes

-- the form of a set, which is a text where no option says it
abbrev pub form_said : Option SetForm → SetForm
form_said None = Text
form_said (Some form) = form

-- the set that is written of a flow, which is the compiled one where no option says it
abbrev pub made_said : Option FlowSet → FlowSet
made_said None = Compiled
made_said (Some made) = made

-- the set that is written where rows without end are asked for: none where no set is scheduled
abbrev pub endless_said : Option FlowSet → Option FlowSet
endless_said (Some Scheduled) = Some Endless
endless_said _ = None

-- the set that is written of a flow: of one that is scheduled it may be asked that its rows have no end
abbrev pub flow_set : Option FlowSet → Option Extra → Option FlowSet
flow_set made None = Some (made_said made)
flow_set made (Some EndlessRows) = endless_said made
flow_set made (Some _) = None

-- a command, where no option is said that it does not take
abbrev pub unless_extra : Bool → Command → Option Command
unless_extra free command = if free then Some command else None

-- the lines of the whole run are asked for,
abbrev pub is_whole : Option Extra → Bool
is_whole (Some Whole) = true
is_whole _ = false

-- or those of lost cycles,
abbrev pub is_lost : Option Extra → Bool
is_lost (Some Lost) = true
is_lost _ = false

-- or rows without end
abbrev pub is_endless : Option Extra → Bool
is_endless (Some EndlessRows) = true
is_endless _ = false

-- nothing is said of the cycles of a trace, nor of what is written beside
abbrev pub has_no_cycles : Options → Bool
has_no_cycles said = is_none said.from && is_none said.cycles && is_none said.more

-- nothing is said that speaks of a trace, of what is written beside or of what is made of a flow
abbrev pub has_run_options_alone : Options → Bool
has_run_options_alone said = is_none said.made && has_no_cycles said

-- a run takes the form of its set, and a number of workers
abbrev pub run_of : RunOutput → Options → Option Command
run_of output said =
    unless_extra (has_run_options_alone said) (Reads (reading.Run (record { output = output; form = form_said said.form; workers = said.workers })))

-- `cycles` takes the form of its set, and whether it has the lines of lost cycles
abbrev pub cycles_of : Options → Option Command
cycles_of said =
    unless_extra (is_none said.workers && is_none said.made && is_none said.from && is_none said.cycles && not (is_whole said.more) && not (is_endless said.more))
    (Reads (reading.Cycles (record { form = form_said said.form; lost = is_lost said.more })))

-- a trace takes the form of its set, its first cycle, how many it has at most, and whether it has the whole run
abbrev pub trace_of : TraceOutput → Options → Option Command
trace_of output said =
    unless_extra (is_none said.workers && is_none said.made && not (is_lost said.more) && not (is_endless said.more))
    (Reads (reading.Trace (record { output = output; form = form_said said.form; from = said.from; cycles = said.cycles; whole = is_whole said.more })))

-- these take the form of their set
abbrev pub with_form_alone : (SetForm → ReadingCommand) → Options → Option Command
with_form_alone command said = unless_extra (is_none said.workers && has_run_options_alone said) (Reads (command (form_said said.form)))

-- `flow` takes which set is written of its flow
abbrev pub flow_of : Options → Option Command
flow_of said =
    option_and_then (λ set. unless_extra (is_none said.form && is_none said.workers && is_none said.from && is_none said.cycles) (Reads (reading.Flow set)))
    (flow_set said.made said.more)

-- these take no option
abbrev pub without_options : Command → Options → Option Command
without_options command said = unless_extra (is_none said.form && is_none said.workers && has_run_options_alone said) command

-- the command of this name
unfoldable pub command_named : List ℕ → Options → Option Command
command_named name said =
    if bytes_eq name (codes "--help") then without_options (Alone (Fixed Help)) said
    else (if bytes_eq name (codes "--version") then without_options (Alone (Fixed Version)) said
    else (if bytes_eq name (codes "run") then run_of (State Report) said
    else (if bytes_eq name (codes "picture") then run_of (State Picture) said
    else (if bytes_eq name (codes "history") then run_of History said
    else (if bytes_eq name (codes "cycles") then cycles_of said
    else (if bytes_eq name (codes "path") then with_form_alone reading.Path said
    else (if bytes_eq name (codes "trace") then trace_of Lines said
    else (if bytes_eq name (codes "explore") then trace_of Page said
    else (if bytes_eq name (codes "depths") then with_form_alone reading.Depths said
    else (if bytes_eq name (codes "steady") then with_form_alone reading.Steady said
    else (if bytes_eq name (codes "names") then with_form_alone reading.Names said
    else (if bytes_eq name (codes "lines") then without_options (Reads reading.Lines) said
    else (if bytes_eq name (codes "asm") then without_options (Reads reading.Asm) said
    else (if bytes_eq name (codes "list") then without_options (Reads reading.List) said
    else (if bytes_eq name (codes "plan") then without_options (Reads reading.Plan) said
    else (if bytes_eq name (codes "flow") then flow_of said
    else (if bytes_eq name (codes "check") then without_options (Reads reading.Check) said
    else (if bytes_eq name (codes "debug") then without_options (Reads reading.Debug) said
    else (if bytes_eq name (codes "prove") then without_options (Reads reading.Prove) said
    else None)))))))))))))))))))

-- `work` on so many words, 1 to 100,000: it takes a number of workers
abbrev pub work_on : Options → ℕ → Option Command
work_on said n =
    if nat_le 1 n && nat_le n MAX_GENERATED_WORDS then unless_extra (is_none said.form && has_run_options_alone said) (Alone (Work n said.workers)) else None

-- `work` and these words behind it: a number, and then options
abbrev pub work_of : List (List ℕ) → Option Command
work_of [] = None
work_of (number ∷ words) = option_and_then (λ said. option_and_then (work_on said) (number_of number)) (options_of words)

-- the words are `prove --live`
abbrev pub asks_live_proof : List (List ℕ) → Bool
asks_live_proof [] = false
asks_live_proof (command ∷ []) = false
asks_live_proof (command ∷ option ∷ []) = if bytes_eq command (codes "prove") then bytes_eq option (codes "--live") else false
asks_live_proof (command ∷ option ∷ third ∷ more) = false

-- the command that other words are
abbrev pub other_command : List (List ℕ) → Option Command
other_command [] = None
other_command (name ∷ words) = if bytes_eq name (codes "work") then work_of words else option_and_then (command_named name) (options_of words)

-- the command that the words are, or none where they are outside the lawful ones
abbrev pub command_of : List (List ℕ) → Option Command
command_of words = if asks_live_proof words then Some (Reads reading.ProveLive) else other_command words
