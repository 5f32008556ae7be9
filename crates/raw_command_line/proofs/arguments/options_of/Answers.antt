use Rattle.std.proofs.Common.{◌≡◌, true, false, Some, ◌∷◌, map, ap, sym, ◌∙◌}
use Rattle.std.specs.Prelude.{string_bytes}
use Rattle.raw_command_line.specs.Arguments.{takes_number, with_words}
use Rattle.raw_command_line.proofs.Options.{one_word, two_words, nothing_more}
use Rattle.raw_command_line.proofs.arguments.options_of.Goals as goal

pub returns-in_err-said : goal.returns-in_err-said
returns-in_err-said c =
    let said = c.options.said in
    let word = string_bytes c.in-Some.word.now in
    let count = string_bytes c.in_ok-count.count.now in
    let rest = map string_bytes c.in_ok-count.others.now in
    let says : takes_number word ≡ true = sym c.has_number.ensures ∙ c.if-has_number.true in
    c.from_residual-in_err-said.ensures
    ∙ sym (c.options.invariant
    ∙ ap (λ l. with_words (Some said) (map string_bytes l)) c.in-Some.ensures.cases.0
    ∙ ap (λ l. with_words (Some said) (word ∷ map string_bytes l)) c.in_ok-count.ensures.cases.0
    ∙ two_words said word count rest says
    ∙ ap (λ o. with_words o rest) (sym c.with_number.ensures ∙ c.in_err-said.was)
    ∙ nothing_more rest)

pub returns-in_err-said-2 : goal.returns-in_err-said-2
returns-in_err-said-2 c =
    let said = c.options.said in
    let word = string_bytes c.in-Some.word.now in
    let rest = map string_bytes c.in-Some.behind.now in
    let says : takes_number word ≡ false = sym c.has_number.ensures ∙ c.if-has_number.false in
    c.from_residual-in_err-said-2.ensures
    ∙ sym (c.options.invariant
    ∙ ap (λ l. with_words (Some said) (map string_bytes l)) c.in-Some.ensures.cases.0
    ∙ one_word said word rest says
    ∙ ap (λ o. with_words o rest) (sym c.with_word.ensures ∙ c.in_err-said-2.was)
    ∙ nothing_more rest)
