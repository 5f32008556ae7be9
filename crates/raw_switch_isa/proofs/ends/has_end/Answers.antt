use Rattle.std.proofs.lemmas.Bool.{eqb-true, eq-eqb}
use Rattle.std.proofs.lemmas.Nat.{bit_set_by_shift}
use Rattle.raw_switch_isa.proofs.ends.has_end.Goals as goal

pub returns-clause-set : goal.returns-clause-set
returns-clause-set c =
    let set = bit_set_by_shift c.args.ends c.args.end in
    (λ is_one. set.0 (eqb-true _ 1 is_one), λ is_set. eq-eqb _ 1 (set.1 is_set))
