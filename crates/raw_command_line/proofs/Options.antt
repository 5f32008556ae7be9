-- Options among the words, one after another.
use Rattle.std.proofs.Common.{◌≡◌, ℕ, true, false, List, [], ◌∷◌, Option, Some, None, refl, sym}
use Rattle.std.specs.Option.{option_and_then}
use Rattle.raw_text.specs.Number.{number_of}
use Rattle.raw_command_line.specs.declared.arguments.CommandOption.{CommandOption}
use Rattle.raw_command_line.specs.declared.arguments.Options.{Options}
use Rattle.raw_command_line.specs.Arguments.{plain_option, takes_number, number_option, behind, options_in, with_option, with_first, with_options, with_words}

-- where nothing can be said, nothing more can
pub none_with : (options : List CommandOption) → with_options None options ≡ None
none_with [] = refl
none_with (o ∷ options) = none_with options

no_words : (words : Option (List CommandOption)) → option_and_then (with_options None) words ≡ None
no_words None = refl
no_words (Some options) = none_with options

-- so it is with words
pub nothing_more : (words : List (List ℕ)) → with_words None words ≡ None
nothing_more words = no_words (options_in words)

-- an option, and then the options that words are
put_first : (said : Options) (first : Option CommandOption) (more : Option (List CommandOption))
    → option_and_then (with_options (Some said)) (behind first more)
    ≡ option_and_then (with_options (option_and_then (with_option said) first)) more
put_first said None more = sym (no_words more)
put_first said (Some o) None = refl
put_first said (Some o) (Some options) = refl

-- an option without a number is one word
pub one_word : (said : Options) (word : List ℕ) (rest : List (List ℕ)) → takes_number word ≡ false
    → with_words (Some said) (word ∷ rest) ≡ with_words (with_first said (plain_option word)) rest
one_word said word [] e = rw e (put_first said (plain_option word) (Some []))
one_word said word (next ∷ rest) e = rw e (put_first said (plain_option word) (options_in (next ∷ rest)))

-- an option with a number is two
pub two_words : (said : Options) (word next : List ℕ) (rest : List (List ℕ)) → takes_number word ≡ true
    → with_words (Some said) (word ∷ next ∷ rest)
    ≡ with_words (with_first said (option_and_then (number_option word) (number_of next))) rest
two_words said word next rest e = rw e (put_first said (option_and_then (number_option word) (number_of next)) (options_in rest))
