-- Options in another order say the same, and options of one kind nothing.
use Rattle.std.proofs.Common.{◌≡◌, ℕ, Bool, true, false, List, [], ◌∷◌, ◌++◌, Option, Some, None, refl, ap, sym, ◌∙◌, codes, bytes_eq, if◌then◌else◌}
use Rattle.std.proofs.lemmas.Slice.Eq.{bytes_eq-Decides}
use Rattle.std.specs.Option.{option_and_then}
use Rattle.raw_text.specs.Number.{number_of}
use Rattle.raw_command_line.specs.declared.arguments.SetForm.{SetForm}
use Rattle.raw_command_line.specs.declared.arguments.FlowSet.{FlowSet}
use Rattle.raw_command_line.specs.declared.arguments.Extra.{Extra}
use Rattle.raw_command_line.specs.declared.arguments.CommandOption.{CommandOption}
use Rattle.raw_command_line.specs.declared.arguments.CommandOption.TheVariants.{Form, Workers, From, Cycles, More, Made}
use Rattle.raw_command_line.specs.declared.arguments.Options.{Options}
use Rattle.raw_command_line.specs.declared.arguments.ReadingCommand.TheVariants.{ProveLive}
use Rattle.raw_command_line.specs.declared.arguments.Command.TheVariants.{Reads}
use Rattle.raw_command_line.specs.Arguments.{nothing_said, with_option, with_options, takes_number, plain_option, options_in, options_of, command_named, work_on, asks_live_proof, other_command, command_of}
use Rattle.raw_command_line.specs.WordOrder.{IsOrderOf, AreAlike, are_of_kind, SayTwice, IsFreeOfOrder, IsNoCommand}
use Rattle.raw_command_line.proofs.Options.{none_with}

-- what is said with two options more
abbrev with_both : Options → CommandOption → CommandOption → Option Options
with_both said o p = option_and_then (λ s. with_option s p) (with_option said o)

-- two options more, in either order
swap_at : (f : Option SetForm) (w a c : Option ℕ) (h : Option Extra) (d : Option FlowSet) (o p : CommandOption)
    → with_both (record { form = f; workers = w; from = a; cycles = c; more = h; made = d }) o p ≡ with_both (record { form = f; workers = w; from = a; cycles = c; more = h; made = d }) p o
swap_at None w a c h d (Form m) (Form n) = refl
swap_at (Some x) w a c h d (Form m) (Form n) = refl
swap_at None None a c h d (Form m) (Workers n) = refl
swap_at None (Some y) a c h d (Form m) (Workers n) = refl
swap_at (Some x) None a c h d (Form m) (Workers n) = refl
swap_at (Some x) (Some y) a c h d (Form m) (Workers n) = refl
swap_at None w None c h d (Form m) (From n) = refl
swap_at None w (Some y) c h d (Form m) (From n) = refl
swap_at (Some x) w None c h d (Form m) (From n) = refl
swap_at (Some x) w (Some y) c h d (Form m) (From n) = refl
swap_at None w a None h d (Form m) (Cycles n) = refl
swap_at None w a (Some y) h d (Form m) (Cycles n) = refl
swap_at (Some x) w a None h d (Form m) (Cycles n) = refl
swap_at (Some x) w a (Some y) h d (Form m) (Cycles n) = refl
swap_at None w a c h None (Form m) (Made n) = refl
swap_at None w a c h (Some y) (Form m) (Made n) = refl
swap_at (Some x) w a c h None (Form m) (Made n) = refl
swap_at (Some x) w a c h (Some y) (Form m) (Made n) = refl
swap_at None None a c h d (Workers m) (Form n) = refl
swap_at (Some y) None a c h d (Workers m) (Form n) = refl
swap_at None (Some x) a c h d (Workers m) (Form n) = refl
swap_at (Some y) (Some x) a c h d (Workers m) (Form n) = refl
swap_at f None a c h d (Workers m) (Workers n) = refl
swap_at f (Some x) a c h d (Workers m) (Workers n) = refl
swap_at f None None c h d (Workers m) (From n) = refl
swap_at f None (Some y) c h d (Workers m) (From n) = refl
swap_at f (Some x) None c h d (Workers m) (From n) = refl
swap_at f (Some x) (Some y) c h d (Workers m) (From n) = refl
swap_at f None a None h d (Workers m) (Cycles n) = refl
swap_at f None a (Some y) h d (Workers m) (Cycles n) = refl
swap_at f (Some x) a None h d (Workers m) (Cycles n) = refl
swap_at f (Some x) a (Some y) h d (Workers m) (Cycles n) = refl
swap_at f None a c h None (Workers m) (Made n) = refl
swap_at f None a c h (Some y) (Workers m) (Made n) = refl
swap_at f (Some x) a c h None (Workers m) (Made n) = refl
swap_at f (Some x) a c h (Some y) (Workers m) (Made n) = refl
swap_at None w None c h d (From m) (Form n) = refl
swap_at (Some y) w None c h d (From m) (Form n) = refl
swap_at None w (Some x) c h d (From m) (Form n) = refl
swap_at (Some y) w (Some x) c h d (From m) (Form n) = refl
swap_at f None None c h d (From m) (Workers n) = refl
swap_at f (Some y) None c h d (From m) (Workers n) = refl
swap_at f None (Some x) c h d (From m) (Workers n) = refl
swap_at f (Some y) (Some x) c h d (From m) (Workers n) = refl
swap_at f w None c h d (From m) (From n) = refl
swap_at f w (Some x) c h d (From m) (From n) = refl
swap_at f w None None h d (From m) (Cycles n) = refl
swap_at f w None (Some y) h d (From m) (Cycles n) = refl
swap_at f w (Some x) None h d (From m) (Cycles n) = refl
swap_at f w (Some x) (Some y) h d (From m) (Cycles n) = refl
swap_at f w None c h None (From m) (Made n) = refl
swap_at f w None c h (Some y) (From m) (Made n) = refl
swap_at f w (Some x) c h None (From m) (Made n) = refl
swap_at f w (Some x) c h (Some y) (From m) (Made n) = refl
swap_at None w a None h d (Cycles m) (Form n) = refl
swap_at (Some y) w a None h d (Cycles m) (Form n) = refl
swap_at None w a (Some x) h d (Cycles m) (Form n) = refl
swap_at (Some y) w a (Some x) h d (Cycles m) (Form n) = refl
swap_at f None a None h d (Cycles m) (Workers n) = refl
swap_at f (Some y) a None h d (Cycles m) (Workers n) = refl
swap_at f None a (Some x) h d (Cycles m) (Workers n) = refl
swap_at f (Some y) a (Some x) h d (Cycles m) (Workers n) = refl
swap_at f w None None h d (Cycles m) (From n) = refl
swap_at f w (Some y) None h d (Cycles m) (From n) = refl
swap_at f w None (Some x) h d (Cycles m) (From n) = refl
swap_at f w (Some y) (Some x) h d (Cycles m) (From n) = refl
swap_at f w a None h d (Cycles m) (Cycles n) = refl
swap_at f w a (Some x) h d (Cycles m) (Cycles n) = refl
swap_at f w a None h None (Cycles m) (Made n) = refl
swap_at f w a None h (Some y) (Cycles m) (Made n) = refl
swap_at f w a (Some x) h None (Cycles m) (Made n) = refl
swap_at f w a (Some x) h (Some y) (Cycles m) (Made n) = refl
swap_at None w a c h None (Made m) (Form n) = refl
swap_at (Some y) w a c h None (Made m) (Form n) = refl
swap_at None w a c h (Some x) (Made m) (Form n) = refl
swap_at (Some y) w a c h (Some x) (Made m) (Form n) = refl
swap_at f None a c h None (Made m) (Workers n) = refl
swap_at f (Some y) a c h None (Made m) (Workers n) = refl
swap_at f None a c h (Some x) (Made m) (Workers n) = refl
swap_at f (Some y) a c h (Some x) (Made m) (Workers n) = refl
swap_at f w None c h None (Made m) (From n) = refl
swap_at f w (Some y) c h None (Made m) (From n) = refl
swap_at f w None c h (Some x) (Made m) (From n) = refl
swap_at f w (Some y) c h (Some x) (Made m) (From n) = refl
swap_at f w a None h None (Made m) (Cycles n) = refl
swap_at f w a (Some y) h None (Made m) (Cycles n) = refl
swap_at f w a None h (Some x) (Made m) (Cycles n) = refl
swap_at f w a (Some y) h (Some x) (Made m) (Cycles n) = refl
swap_at f w a c h None (Made m) (Made n) = refl
swap_at f w a c h (Some x) (Made m) (Made n) = refl
swap_at None w a c None d (Form m) (More n) = refl
swap_at None w a c None d (More m) (Form n) = refl
swap_at None w a c (Some z) d (Form m) (More n) = refl
swap_at None w a c (Some z) d (More m) (Form n) = refl
swap_at (Some x) w a c None d (Form m) (More n) = refl
swap_at (Some x) w a c None d (More m) (Form n) = refl
swap_at (Some x) w a c (Some z) d (Form m) (More n) = refl
swap_at (Some x) w a c (Some z) d (More m) (Form n) = refl
swap_at f None a c None d (Workers m) (More n) = refl
swap_at f None a c None d (More m) (Workers n) = refl
swap_at f None a c (Some z) d (Workers m) (More n) = refl
swap_at f None a c (Some z) d (More m) (Workers n) = refl
swap_at f (Some x) a c None d (Workers m) (More n) = refl
swap_at f (Some x) a c None d (More m) (Workers n) = refl
swap_at f (Some x) a c (Some z) d (Workers m) (More n) = refl
swap_at f (Some x) a c (Some z) d (More m) (Workers n) = refl
swap_at f w None c None d (From m) (More n) = refl
swap_at f w None c None d (More m) (From n) = refl
swap_at f w None c (Some z) d (From m) (More n) = refl
swap_at f w None c (Some z) d (More m) (From n) = refl
swap_at f w (Some x) c None d (From m) (More n) = refl
swap_at f w (Some x) c None d (More m) (From n) = refl
swap_at f w (Some x) c (Some z) d (From m) (More n) = refl
swap_at f w (Some x) c (Some z) d (More m) (From n) = refl
swap_at f w a None None d (Cycles m) (More n) = refl
swap_at f w a None None d (More m) (Cycles n) = refl
swap_at f w a None (Some z) d (Cycles m) (More n) = refl
swap_at f w a None (Some z) d (More m) (Cycles n) = refl
swap_at f w a (Some x) None d (Cycles m) (More n) = refl
swap_at f w a (Some x) None d (More m) (Cycles n) = refl
swap_at f w a (Some x) (Some z) d (Cycles m) (More n) = refl
swap_at f w a (Some x) (Some z) d (More m) (Cycles n) = refl
swap_at f w a c None None (Made m) (More n) = refl
swap_at f w a c None None (More m) (Made n) = refl
swap_at f w a c (Some z) None (Made m) (More n) = refl
swap_at f w a c (Some z) None (More m) (Made n) = refl
swap_at f w a c None (Some x) (Made m) (More n) = refl
swap_at f w a c None (Some x) (More m) (Made n) = refl
swap_at f w a c (Some z) (Some x) (Made m) (More n) = refl
swap_at f w a c (Some z) (Some x) (More m) (Made n) = refl
swap_at f w a c None d (More m) (More n) = refl
swap_at f w a c (Some z) d (More m) (More n) = refl

swap : (said : Options) (o p : CommandOption) → with_both said o p ≡ with_both said p o
swap said o p = swap_at said.form said.workers said.from said.cycles said.more said.made o p

-- an option that stands behind others may stand first
to_front : (said : Option Options) (before : List CommandOption) (o : CommandOption) (after : List CommandOption)
    → with_options said (before ++ o ∷ after) ≡ with_options said (o ∷ before ++ after)
to_front said [] o after = refl
to_front None (p ∷ before) o after = none_with (before ++ o ∷ after) ∙ sym (none_with (before ++ after))
to_front (Some said) (p ∷ before) o after =
    to_front (with_option said p) before o after ∙ ap (λ s. with_options s (before ++ after)) (swap said p o)

-- options in another order say the same
same_said : (said : Option Options) (options others : List CommandOption) → IsOrderOf options others → with_options said options ≡ with_options said others
same_said said [] others h = ap (with_options said) (sym h)
same_said said (o ∷ options) others h =
    same_said (option_and_then (λ s. with_option s o) said) options (h.0 ++ h.1) h.3
    ∙ sym (to_front said h.0 o h.1) ∙ ap (with_options said) (sym h.2)

-- two options of one kind say nothing
twice_at : (f : Option SetForm) (w a c : Option ℕ) (h : Option Extra) (d : Option FlowSet) (o p : CommandOption) → are_of_kind o p ≡ true
    → with_both (record { form = f; workers = w; from = a; cycles = c; more = h; made = d }) o p ≡ None
twice_at None w a c h d (Form m) (Form n) e = refl
twice_at (Some x) w a c h d (Form m) (Form n) e = refl
twice_at f w a c h d (Form m) (Workers n) e = absurd (cc e)
twice_at f w a c h d (Form m) (From n) e = absurd (cc e)
twice_at f w a c h d (Form m) (Cycles n) e = absurd (cc e)
twice_at f w a c h d (Form m) (Made n) e = absurd (cc e)
twice_at f w a c h d (Workers m) (Form n) e = absurd (cc e)
twice_at f None a c h d (Workers m) (Workers n) e = refl
twice_at f (Some x) a c h d (Workers m) (Workers n) e = refl
twice_at f w a c h d (Workers m) (From n) e = absurd (cc e)
twice_at f w a c h d (Workers m) (Cycles n) e = absurd (cc e)
twice_at f w a c h d (Workers m) (Made n) e = absurd (cc e)
twice_at f w a c h d (From m) (Form n) e = absurd (cc e)
twice_at f w a c h d (From m) (Workers n) e = absurd (cc e)
twice_at f w None c h d (From m) (From n) e = refl
twice_at f w (Some x) c h d (From m) (From n) e = refl
twice_at f w a c h d (From m) (Cycles n) e = absurd (cc e)
twice_at f w a c h d (From m) (Made n) e = absurd (cc e)
twice_at f w a c h d (Cycles m) (Form n) e = absurd (cc e)
twice_at f w a c h d (Cycles m) (Workers n) e = absurd (cc e)
twice_at f w a c h d (Cycles m) (From n) e = absurd (cc e)
twice_at f w a None h d (Cycles m) (Cycles n) e = refl
twice_at f w a (Some x) h d (Cycles m) (Cycles n) e = refl
twice_at f w a c h d (Cycles m) (Made n) e = absurd (cc e)
twice_at f w a c h d (Made m) (Form n) e = absurd (cc e)
twice_at f w a c h d (Made m) (Workers n) e = absurd (cc e)
twice_at f w a c h d (Made m) (From n) e = absurd (cc e)
twice_at f w a c h d (Made m) (Cycles n) e = absurd (cc e)
twice_at f w a c h None (Made m) (Made n) e = refl
twice_at f w a c h (Some x) (Made m) (Made n) e = refl
twice_at f w a c h d (Form m) (More n) e = absurd (cc e)
twice_at f w a c h d (More m) (Form n) e = absurd (cc e)
twice_at f w a c h d (Workers m) (More n) e = absurd (cc e)
twice_at f w a c h d (More m) (Workers n) e = absurd (cc e)
twice_at f w a c h d (From m) (More n) e = absurd (cc e)
twice_at f w a c h d (More m) (From n) e = absurd (cc e)
twice_at f w a c h d (Cycles m) (More n) e = absurd (cc e)
twice_at f w a c h d (More m) (Cycles n) e = absurd (cc e)
twice_at f w a c h d (Made m) (More n) e = absurd (cc e)
twice_at f w a c h d (More m) (Made n) e = absurd (cc e)
twice_at f w a c None d (More m) (More n) e = refl
twice_at f w a c (Some z) d (More m) (More n) e = refl

twice : (said : Option Options) (o p : CommandOption) (after : List CommandOption) → are_of_kind o p ≡ true → with_options said (o ∷ p ∷ after) ≡ None
twice None o p after e = none_with after
twice (Some said) o p after e = ap (λ s. with_options s after) (twice_at said.form said.workers said.from said.cycles said.more said.made o p e) ∙ none_with after

said_twice : (said : Option Options) (before : List CommandOption) (o : CommandOption) (between : List CommandOption) (p : CommandOption) (after : List CommandOption)
    → are_of_kind o p ≡ true → with_options said (before ++ o ∷ between ++ p ∷ after) ≡ None
said_twice said [] o between p after e =
    to_front (option_and_then (λ s. with_option s o) said) between p after ∙ twice said o p (between ++ after) e
said_twice said (q ∷ before) o between p after e = said_twice (option_and_then (λ s. with_option s q) said) before o between p after e

-- `prove --live` has no option behind its name
module _ (name : List ℕ) where
  is_live : (word : List ℕ) (a b : Bool) → bytes_eq word (codes "--live") ≡ b → (options : List CommandOption) → options_in (word ∷ []) ≡ Some options → (if a then b else false) ≡ false
  unfolding takes_number plain_option
  is_live word false b e options said = refl
  is_live word true false e options said = refl
  is_live word true true e options said =
      absurd (cc (ap (λ w. options_in (w ∷ [])) (sym ((bytes_eq-Decides word (codes "--live")).0 e)) ∙ said))

  not_live : (words : List (List ℕ)) (options : List CommandOption) → options_in words ≡ Some options → asks_live_proof (name ∷ words) ≡ false
  not_live [] options said = refl
  not_live (word ∷ []) options said = is_live word (bytes_eq name (codes "prove")) (bytes_eq word (codes "--live")) refl options said
  not_live (word ∷ next ∷ more) options said = refl

  is_other : (words : List (List ℕ)) (options : List CommandOption) → options_in words ≡ Some options → command_of (name ∷ words) ≡ other_command (name ∷ words)
  is_other words options said = ap (λ b. if b then Some (Reads ProveLive) else other_command (name ∷ words)) (not_live words options said)

other_work : (number : List ℕ) (words : List (List ℕ)) → command_of (codes "work" ∷ number ∷ words) ≡ other_command (codes "work" ∷ number ∷ words)
other_work number [] = refl
other_work number (word ∷ words) = refl

module _ (words others : List (List ℕ)) (h : AreAlike words others) where
  same_options : options_of words ≡ options_of others
  same_options =
      ap (option_and_then (with_options (Some nothing_said))) h.said
      ∙ same_said (Some nothing_said) h.options h.reordered h.order
      ∙ sym (ap (option_and_then (with_options (Some nothing_said))) h.also)

  pub free_of_order : IsFreeOfOrder words others
  free_of_order = record {
    named = λ name e.
        let same : other_command (name ∷ words) ≡ other_command (name ∷ others) = rw e (ap (option_and_then (command_named name)) same_options) in
        is_other name words h.options h.said ∙ same ∙ sym (is_other name others h.reordered h.also);
    work = λ number.
        other_work number words ∙ ap (option_and_then (λ said. option_and_then (work_on said) (number_of number))) same_options ∙ sym (other_work number others);
  }

module _ (words : List (List ℕ)) (h : SayTwice words) where
  nothing : options_of words ≡ None
  nothing =
      ap (option_and_then (with_options (Some nothing_said))) h.said
      ∙ said_twice (Some nothing_said) h.before h.one h.between h.other h.after h.kind

  pub no_command : IsNoCommand words
  no_command = record {
    named = λ name e.
        let same : other_command (name ∷ words) ≡ None = rw e (ap (option_and_then (command_named name)) nothing) in
        is_other name words (h.before ++ h.one ∷ h.between ++ h.other ∷ h.after) h.said ∙ same;
    work = λ number. other_work number words ∙ ap (option_and_then (λ said. option_and_then (work_on said) (number_of number))) nothing;
  }
