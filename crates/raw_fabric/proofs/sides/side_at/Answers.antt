use Rattle.std.proofs.Common.{ℕ, ◌+◌, ◌-◌, ◌<◌, ◌≤◌, Some, length, sym, ap, ◌∙◌, subst, arith}
use Rattle.raw_grid.specs.Wires.{wires_of, producer_of, consumer_of}
use Rattle.raw_grid.specs.Wires as topo
use Rattle.raw_grid.proofs.WireLaws.{input_within, output_within}
use Rattle.raw_model.specs.Program.{ProgramSet}
use Rattle.raw_fabric_rule.specs.ByEnds.{wires, producer_end}
use Rattle.raw_fabric_rule.proofs.Nets.{is_net}
use Rattle.raw_fabric_step.specs.Posts.{IsSide}
use Rattle.raw_fabric.proofs.OtherSides.{input_is, output_is, side_in, side_out, none_in, none_out}
use Rattle.raw_fabric.proofs.sides.side_at.Goals as goal

pub producer-requires : goal.producer-requires
producer-requires c =
    let g = c.args.set.now in
    let are = c.requires.ends in
    subst (λ (x : ProgramSet). c.in-Some.wire < length (wires_of x.topo)) (sym c.set.view_is)
    (input_within g.topo c.in-Some.wire are.0 c.args.end (input_is g are.0 c.args.ends.now are.1 c.args.end c.if-end-lt-END_COUNT.true (Some c.in-Some.wire) c.in-Some.is))

pub producer_end-requires : goal.producer_end-requires
producer_end-requires c =
    let g = c.args.set.now in
    let are = c.requires.ends in
    subst (λ (x : ProgramSet). c.in-Some.wire < length (wires_of x.topo)) (sym c.set.view_is)
    (input_within g.topo c.in-Some.wire are.0 c.args.end (input_is g are.0 c.args.ends.now are.1 c.args.end c.if-end-lt-END_COUNT.true (Some c.in-Some.wire) c.in-Some.is))

pub overflow_add-result : goal.overflow_add-result
unfolding producer_end wires
overflow_add-result c =
    let g = c.args.set.now in
    let are = c.requires.ends in
    let within = input_within g.topo c.in-Some.wire are.0 c.args.end (input_is g are.0 c.args.ends.now are.1 c.args.end c.if-end-lt-END_COUNT.true (Some c.in-Some.wire) c.in-Some.is) in
    let few = ((is_net g c.requires.valid).made c.in-Some.wire within).2 in
    let is = c.producer_end.ensures ∙ ap (λ (x : ProgramSet). topo.producer_end x.topo c.in-Some.wire) c.set.view_is in
    omega arith

pub consumer-requires : goal.consumer-requires
consumer-requires c =
    let g = c.args.set.now in
    let are = c.requires.ends in
    let past : 10 ≤ c.args.end = omega arith in
    subst (λ (x : ProgramSet). c.in-Some-outputs.wire < length (wires_of x.topo)) (sym c.set.view_is)
    (output_within g.topo c.in-Some-outputs.wire are.0 (c.args.end - 10) (output_is g are.0 c.args.ends.now are.1 c.args.end c.requires.end past (Some c.in-Some-outputs.wire) c.in-Some-outputs.is))

pub consumer_end-requires : goal.consumer_end-requires
consumer_end-requires c =
    let g = c.args.set.now in
    let are = c.requires.ends in
    let past : 10 ≤ c.args.end = omega arith in
    subst (λ (x : ProgramSet). c.in-Some-outputs.wire < length (wires_of x.topo)) (sym c.set.view_is)
    (output_within g.topo c.in-Some-outputs.wire are.0 (c.args.end - 10) (output_is g are.0 c.args.ends.now are.1 c.args.end c.requires.end past (Some c.in-Some-outputs.wire) c.in-Some-outputs.is))

pub returns-in-Some : goal.returns-in-Some
returns-in-Some c p are wired =
    subst (λ (q : ℕ × ℕ). IsSide c.args.set.now p c.args.end (record { wire = c.in-Some.wire; other = q.0; end = 10 + q.1 })) (λ i. (sym (c.producer.ensures ∙ ap (λ (x : ProgramSet). producer_of x.topo c.in-Some.wire) c.set.view_is) i, sym (c.producer_end.ensures ∙ ap (λ (x : ProgramSet). topo.producer_end x.topo c.in-Some.wire) c.set.view_is) i))
    (side_in c.args.set.now p c.args.ends.now are c.args.end c.in-Some.wire c.if-end-lt-END_COUNT.true c.in-Some.is)

pub returns-in-None : goal.returns-in-None
returns-in-None c p are wired = let none = none_in c.args.set.now p c.args.ends.now are c.args.end c.if-end-lt-END_COUNT.true c.in-None.is in absurd (omega arith)

pub returns-in-Some-outputs : goal.returns-in-Some-outputs
returns-in-Some-outputs c p are wired =
    let past : 10 ≤ c.args.end = omega arith in
    subst (λ (q : ℕ × ℕ). IsSide c.args.set.now p c.args.end (record { wire = c.in-Some-outputs.wire; other = q.0; end = q.1 })) (λ i. (sym (c.consumer.ensures ∙ ap (λ (x : ProgramSet). consumer_of x.topo c.in-Some-outputs.wire) c.set.view_is) i, sym (c.consumer_end.ensures ∙ ap (λ (x : ProgramSet). topo.consumer_end x.topo c.in-Some-outputs.wire) c.set.view_is) i))
    (side_out c.args.set.now p c.args.ends.now are c.args.end c.in-Some-outputs.wire c.requires.end past c.in-Some-outputs.is)

pub returns-in-None-outputs : goal.returns-in-None-outputs
returns-in-None-outputs c p are wired =
    let past : 10 ≤ c.args.end = omega arith in
    let none = none_out c.args.set.now p c.args.ends.now are c.args.end c.requires.end past c.in-None-outputs.is in absurd (omega arith)
