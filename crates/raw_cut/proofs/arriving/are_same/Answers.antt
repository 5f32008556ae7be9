use Rattle.std.proofs.Common.{sym, ◌∙◌}
use Rattle.std.proofs.lemmas.Slice.Eq.{bytes_eq-Decides}
use Rattle.raw_cut.proofs.arriving.are_same.Goals as goal

pub returns : goal.returns
returns c = λ e. (bytes_eq-Decides c.args.numbers.now c.args.others.now).0 (sym c.eq.ensures ∙ e)
