use Rattle.std.proofs.Common.{◌≡◌, ◌+◌, [], ◌∷◌, ◌++◌, List, map, ap, ◌∙◌, sym, arith, append_assoc}
use Rattle.std.specs.List.{range_with_len}
use Rattle.std.proofs.lemmas.List.FromFn.{map-range_with_len_more}
use Rattle.raw_model.specs.Program.{PortProgram}
use Rattle.raw_flow.specs.Compiled.{sink_program}
use Rattle.raw_flow.proofs.ports.add_sinks.Goals as goal

pub loop-port-preserved : goal.loop-port-preserved
loop-port-preserved c =
    let f = sink_program c.args.flow.now c.args.ports.now in
    let k = c.loop-port.port in
    let old = c.args.programs.now.items in
    let same : 0 + k ≡ k = omega arith in
    c.in_ok-push.ensures.items
    ∙ ap (λ (xs : List PortProgram). xs ++ c.in_ok-program.program ∷ []) c.loop-port.invariant
    ∙ ap (λ (p : PortProgram). (old ++ map f (range_with_len 0 k)) ++ p ∷ []) c.in_ok-program.ensures
    ∙ append_assoc old (map f (range_with_len 0 k)) (f k ∷ [])
    ∙ ap (λ (xs : List PortProgram). old ++ xs) (sym (map-range_with_len_more f 0 k k same))
