-- The words `debug --live` are those of no other command.
use Rattle.std.proofs.Common.{◌≡◌, ℕ, Bool, true, false, List, [], ◌∷◌, None, refl, ap, ◌∙◌, codes, bytes_eq, if◌then◌else◌}
use Rattle.std.proofs.lemmas.Slice.Eq.{bytes_eq-Decides}
use Rattle.raw_debug_live.specs.Words.{asks_live}
use Rattle.raw_command_line.specs.Arguments.{command_of, takes_number, plain_option}
use Rattle.raw_commands.specs.Call.{Call}
use Rattle.raw_commands.specs.Promises.{Headline}

both : (a b : Bool) → (if a then b else false) ≡ true → (a ≡ true) × (b ≡ true)
both true b h = (refl, h)
both false b h = absurd (cc h)

pub no_command : (words : List (List ℕ)) → asks_live words ≡ true → command_of words ≡ None
unfolding takes_number plain_option
no_command [] h = refl
no_command (command ∷ []) h = absurd (cc h)
no_command (command ∷ option ∷ []) h =
    let is = both (bytes_eq command (codes "debug")) (bytes_eq option (codes "--live")) h in
    ap (λ name. command_of (name ∷ option ∷ [])) ((bytes_eq-Decides command (codes "debug")).0 is.0)
    ∙ ap (λ word. command_of (codes "debug" ∷ word ∷ [])) ((bytes_eq-Decides option (codes "--live")).0 is.1)
no_command (command ∷ option ∷ third ∷ more) h = absurd (cc h)

pub no_headline : (words : List (List ℕ)) → asks_live words ≡ true → (call : Call) → call.words ≡ command_of words → Headline call
no_headline words on call same = λ form workers is. absurd (cc (same ∙ no_command words on, is))

pub not_both : (words : List (List ℕ)) → asks_live words ≡ true → asks_live words ≡ false → ⊥
not_both words on off = cc (on, off)
