use Rattle.std.proofs.Common.{◌∙◌, ℕ, List, ◌++◌, ap}
use Rattle.std.specs.Prelude.{codes, decimal}
use Rattle.raw_owed.specs.Checked.{place_text}
use Rattle.raw_run_commands.proofs.CheckLines.{place_more, five_more}
use Rattle.raw_run_commands.proofs.checked.waits_line.Goals as goal

-- what stands behind the front of the line, for this wire and this processor
abbrev behind : ℕ → ℕ → List ℕ
behind wire on = codes " waits wire " ++ (decimal wire ++ (codes " for " ++ (decimal on ++ codes "\n")))

pub returns : goal.returns
returns c =
    let wire : ℕ = c.from.result in
    let on : ℕ = c.from-2.result in
    let front = c.place_line-line.result in
    c.push_text-3.ensures.text
    ∙ ap (λ l. l ++ codes "\n") (c.push_number-2.ensures.text
    ∙ ap (λ l. l ++ decimal on) (c.push_text-2.ensures.text
    ∙ ap (λ l. l ++ codes " for ") (c.push_number.ensures.text ∙ ap (λ l. l ++ decimal wire) c.push_text.ensures.text)))
    ∙ five_more front (codes " waits wire ") (decimal wire) (codes " for ") (decimal on) (codes "\n")
    ∙ ap (λ l. l ++ behind wire on) c.place_line-line.ensures.text
    ∙ place_more c.args.place c.args.p (behind wire on)
    ∙ ap (λ w. place_text c.args.place c.args.p (behind w on)) c.from.ensures
    ∙ ap (λ q. place_text c.args.place c.args.p (behind c.args.wait.wire.0 q)) c.from-2.ensures
