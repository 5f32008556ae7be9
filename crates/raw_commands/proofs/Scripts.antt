-- What a script that was read owes.
use Rattle.std.proofs.Common.{◌≡◌, ◌∙◌, ℕ, ◌+◌, ◌-◌, List, take, drop, Option, Some, None, refl, sym, ap, ap₂, inl, inr, arith}
use Rattle.raw_text.specs.Text.{text_lines}
use Rattle.raw_lines.specs.Placing.{label_places}
use Rattle.raw_debug.specs.Commands.{LabelPlaces}
use Rattle.raw_debug.specs.Script.{past_end, script_text}
use Rattle.raw_inputs.specs.declared.marked.Scripted.{Scripted}
use Rattle.raw_command_line.specs.declared.arguments.ReadingCommand.TheVariants.{Debug}
use Rattle.raw_command_line.specs.declared.arguments.Command.TheVariants.{Reads}
use Rattle.raw_shell.specs.declared.ending.CommandEnding.TheVariants.{Done}
use Rattle.raw_inputs.specs.Inputs.{labels_before, lines_behind, IsScripted}
use Rattle.raw_owed.specs.Owed.{IsDebugOutput, IsPastOutput, IsDue}

-- where the labels of the lines before the mark stand
abbrev pub labels_of : Scripted → LabelPlaces
labels_of scripted = label_places scripted.set.topo (take (scripted.from - 1) (text_lines scripted.text))

module _ (input : List ℕ) (scripted : Scripted) (is : IsScripted input scripted) (labels : LabelPlaces) (labels_are : labels ≡ labels_of scripted) where
  -- the lines of the script
  abbrev pub script : List (List (List ℕ))
  script = drop scripted.from (text_lines scripted.text)

  abbrev pub text : List ℕ
  text = script_text labels scripted.set script

  script_is : script ≡ lines_behind input is.said.place
  script_is = ap (λ n. drop n (text_lines scripted.text)) is.from ∙ ap (drop (is.said.place + 1)) is.lines

  labels_is : labels ≡ labels_before scripted.set input is.said.place
  labels_is =
      let before : scripted.from - 1 ≡ is.said.place = omega (arith, is.from) in
      labels_are ∙ ap₂ (λ n lines. label_places scripted.set.topo (take n lines)) before is.lines

  past_is : past_end labels scripted.set script ≡ past_end (labels_before scripted.set input is.said.place) scripted.set (lines_behind input is.said.place)
  past_is = ap₂ (λ ls lines. past_end ls scripted.set lines) labels_is script_is

  text_is : text ≡ script_text (labels_before scripted.set input is.said.place) scripted.set (lines_behind input is.said.place)
  text_is = ap₂ (λ ls lines. script_text ls scripted.set lines) labels_is script_is

  pub debug_owed : past_end labels scripted.set script ≡ None → IsDebugOutput input text Done
  debug_owed none = record {
    set = scripted.set;
    meaning = is.said;
    within = sym past_is ∙ none;
    written = text_is;
    ended = refl;
  }

  pub past_owed : (k line : ℕ) → past_end labels scripted.set script ≡ Some k → line ≡ scripted.from + k + 1 → IsPastOutput input text line
  past_owed k line past line_is = record {
    set = scripted.set;
    meaning = is.said;
    at = k;
    past = sym past_is ∙ past;
    line_is = line_is ∙ ap (λ n. n + k + 1) is.from;
    written = text_is;
  }

  due_by : (o : Option ℕ) → past_end labels scripted.set script ≡ o → IsDue (Reads Debug) input text
  due_by None e = inl (Done, debug_owed e)
  due_by (Some k) e = inr (scripted.from + k + 1, past_owed k (scripted.from + k + 1) e refl)

  -- what is due of it, wherever it goes
  pub script_due : IsDue (Reads Debug) input text
  script_due = due_by (past_end labels scripted.set script) refl
