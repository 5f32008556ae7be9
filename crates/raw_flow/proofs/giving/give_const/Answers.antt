use Rattle.std.proofs.Common.{[], ◌∷◌}
use Rattle.std.proofs.lemmas.Result.{on_ok_weaker}
use Rattle.raw_codegen.specs.Parts.{ToTile, Gives}
use Rattle.raw_flow.proofs.Parts.{const_given}
use Rattle.raw_flow.proofs.giving.give_const.Goals as goal

pub returns-clause-gives : goal.returns-clause-gives
returns-clause-gives c = λ n.
    on_ok_weaker c.give_tile.result
    (λ (h : Gives n (ToTile c.args.t c.store_ins.result ∷ []) c.give_load.new.self c.give_tile.new.self).
    const_given c.law_giving.ensures n c.args.t c.args.v c.args.word c.store_ins.result c.args.programs.now c.give_load.new.self c.give_tile.new.self c.store_ins.ensures (c.in_ok-give_load.ensures.gives n) h)
    (c.give_tile.ensures.gives n)
