use Rattle.std.proofs.Common.{◌≡◌, ◌∙◌, ◌++◌, List, ℕ, codes, decimal, subst}
use Rattle.raw_io.specs.Writing.{Writes}
use Rattle.raw_shell.proofs.saying.put_refused.Goals as goal

pub returns : goal.returns
returns g c =
    let digits : c.as_bytes-digits.result.now ≡ decimal c.args.number = c.as_bytes-digits.ensures.value ∙ c.format.ensures.text in
    let sight = g.E.Sink.sight in
    let Put : List ℕ → Type 0 = λ text. Writes (sight c.args.err.now) (sight c.put_each.new.sink) text c.put_each.result in
    subst (λ number. Put (c.args.place.now ++ (number ++ (codes ": " ++ (c.args.word.now ++ codes "\n"))))) digits c.put_each.ensures.written
