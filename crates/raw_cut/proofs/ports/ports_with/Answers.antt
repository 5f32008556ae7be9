use Rattle.std.proofs.Common.{◌≡◌, ℕ, ◌+◌, List, [], ◌∷◌, ◌++◌, map, sym, ap, ap₂, ◌∙◌, arith}
use Rattle.std.specs.List.{range_with_len}
use Rattle.std.proofs.lemmas.List.{map-append}
use Rattle.raw_model.specs.Program.{PortProgram}
use Rattle.raw_stream.proofs.Sums.{range_push}
use Rattle.raw_cut.specs.Parts.{port_with}
use Rattle.raw_cut.proofs.Copies.{some_so}
use Rattle.raw_cut.proofs.ports.ports_with.Goals as goal

pub loop-port-preserved : goal.loop-port-preserved
loop-port-preserved c =
    let p : ℕ = c.loop-port.port in
    let rs : List (List ℕ) = map (λ row. row.items) c.args.rows.now in
    let f : ℕ → PortProgram = port_with c.args.topo.now c.args.stream.now rs c.args.spare in
    let made : c.in-Some.made ≡ f p = some_so _ c.in_ok-made.field-0 c.in-Some.made c.in-Some.is c.in_ok-made.ensures in
    let none : 0 + p ≡ p = omega arith in
    let step : map f (range_with_len 0 (p + 1)) ≡ map f (range_with_len 0 p) ++ f p ∷ [] =
    ap (map f) (range_push 0 p) ∙ map-append f (range_with_len 0 p) ((0 + p) ∷ []) ∙ ap (λ (k : ℕ). map f (range_with_len 0 p) ++ f k ∷ []) none in
    c.in_ok-push-in-Some.ensures.items ∙ ap₂ (λ (xs : List PortProgram) (x : PortProgram). xs ++ x ∷ []) c.loop-port.invariant made ∙ sym step
