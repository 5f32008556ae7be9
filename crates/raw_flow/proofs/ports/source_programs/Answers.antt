use Rattle.std.proofs.Common.{◌≡◌, ◌+◌, [], ◌∷◌, ◌++◌, List, map, ap, ◌∙◌, sym, arith}
use Rattle.std.specs.List.{range_with_len}
use Rattle.std.proofs.lemmas.List.FromFn.{map-range_with_len_more}
use Rattle.raw_model.specs.Program.{PortProgram}
use Rattle.raw_flow.specs.Compiled.{source_program}
use Rattle.raw_flow.proofs.ports.source_programs.Goals as goal

pub loop-port-preserved : goal.loop-port-preserved
loop-port-preserved c =
    let f = source_program c.args.ports.now c.args.inputs.now in
    let k = c.loop-port.port in
    let same : 0 + k ≡ k = omega arith in
    c.in_ok-push.ensures.items
    ∙ ap (λ (xs : List PortProgram). xs ++ c.in_ok-program.program ∷ []) c.loop-port.invariant
    ∙ ap (λ (p : PortProgram). map f (range_with_len 0 k) ++ p ∷ []) c.in_ok-program.ensures
    ∙ sym (map-range_with_len_more f 0 k k same)
