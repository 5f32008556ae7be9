use Rattle.std.proofs.Common.{[], ◌∷◌, subst}
use Rattle.std.proofs.lemmas.Result.{on_ok_weaker}
use Rattle.raw_tile_isa.specs.Instruction.{Instruction}
use Rattle.raw_codegen.specs.Parts.{ToTile, Gives}
use Rattle.raw_codegen.specs.Rows.{load_ins, store_ins}
use Rattle.raw_flow.specs.Compiled.{op_ins}
use Rattle.raw_flow.proofs.giving.give_operation.Goals as goal

pub returns-clause-gives : goal.returns-clause-gives
returns-clause-gives c = λ n.
    let t = c.args.t in
    let both = c.law_giving.ensures.both in
    let w0 = c.args.programs.now in
    let w1 = c.give_tile.new.self in
    let w2 = c.give_tile-2.new.self in
    let w3 = c.give_tile-3.new.self in
    let w4 = c.give_tile-4.new.self in
    let first : Gives n (ToTile t (load_ins 5 c.args.a) ∷ []) w0 w1 = subst (λ (i : Instruction). Gives n (ToTile t i ∷ []) w0 w1) c.load_ins.ensures (c.in_ok-give_tile.ensures.gives n) in
    let second : Gives n (ToTile t (load_ins 6 c.args.b) ∷ []) w1 w2 = subst (λ (i : Instruction). Gives n (ToTile t i ∷ []) w1 w2) c.load_ins-2.ensures (c.in_ok-give_tile-2.ensures.gives n) in
    let third : Gives n (ToTile t (op_ins c.args.op) ∷ []) w2 w3 = subst (λ (i : Instruction). Gives n (ToTile t i ∷ []) w2 w3) c.op_ins.ensures (c.in_ok-give_tile-3.ensures.gives n) in
    on_ok_weaker c.give_tile-4.result
    (λ (h : Gives n (ToTile t c.store_ins.result ∷ []) w3 w4).
    let last : Gives n (ToTile t (store_ins 7 c.args.v) ∷ []) w3 w4 = subst (λ (i : Instruction). Gives n (ToTile t i ∷ []) w3 w4) c.store_ins.ensures h in
    both n _ _ w0 w1 w4 first (both n _ _ w1 w2 w4 second (both n _ _ w2 w3 w4 third last)))
    (c.give_tile-4.ensures.gives n)
