use Rattle.std.proofs.Common.{◌≡◌, ◌+◌, ◌-◌, ◌*◌, ◌%◌, ◌<◌, length, sym, ap, ◌∙◌, subst, arith, mod-lt}
use Rattle.std.specs.Prelude.{slice_index}
use Rattle.std.specs.Mem.Slots.{slots_items}
use Rattle.raw_grid.specs.Topology.{proc_count}
use Rattle.raw_grid.specs.Wires.{wires_of, producer_of, consumer_of}
use Rattle.raw_grid.specs.Wires as topo
use Rattle.raw_model.specs.Program.{ProgramSet}
use Rattle.raw_fabric_rule.specs.ByEnds.{procs, wires, producer, producer_end, consumer, consumer_end}
use Rattle.raw_fabric_rule.specs.Word.{field, status, data_word, flight}
use Rattle.raw_fabric_rule.specs.Closing.{wire_of}
use Rattle.raw_fabric_rule.proofs.Lists.{length-flight}
use Rattle.raw_fabric_rule.proofs.Nets.{is_net}
use Rattle.raw_fabric.proofs.ReadBack.{value_more}
use Rattle.raw_fabric.proofs.read.read_wire.Goals as goal

pub producer-requires : goal.producer-requires
unfolding wires
producer-requires c = subst (λ (x : ProgramSet). c.args.wire < length (wires_of x.topo)) (sym c.set.view_is) c.requires.wire

pub consumer-requires : goal.consumer-requires
unfolding wires
consumer-requires c = subst (λ (x : ProgramSet). c.args.wire < length (wires_of x.topo)) (sym c.set.view_is) c.requires.wire

pub producer_end-requires : goal.producer_end-requires
unfolding wires
producer_end-requires c = subst (λ (x : ProgramSet). c.args.wire < length (wires_of x.topo)) (sym c.set.view_is) c.requires.wire

pub consumer_end-requires : goal.consumer_end-requires
unfolding wires
consumer_end-requires c = subst (λ (x : ProgramSet). c.args.wire < length (wires_of x.topo)) (sym c.set.view_is) c.requires.wire

pub word_at-requires : goal.word_at-requires
unfolding producer
word_at-requires c =
    let g = c.args.set.now in
    let made = (is_net g c.requires.valid).made c.args.wire c.requires.wire in
    let is = c.producer.ensures ∙ ap (λ (x : ProgramSet). producer_of x.topo c.args.wire) c.set.view_is in
    let below : producer_of g.topo c.args.wire < procs g = made.0 in
    let long = c.requires.words.1 in
    (c.requires.words.0, omega arith)

pub word_at-requires-2 : goal.word_at-requires-2
unfolding consumer
word_at-requires-2 c =
    let g = c.args.set.now in
    let made = (is_net g c.requires.valid).made c.args.wire c.requires.wire in
    let is = c.consumer.ensures ∙ ap (λ (x : ProgramSet). consumer_of x.topo c.args.wire) c.set.view_is in
    let below : consumer_of g.topo c.args.wire < procs g = made.1 in
    let long = c.requires.words.1 in
    (c.requires.words.0, omega arith)

pub field_of-sent-requires : goal.field_of-sent-requires
unfolding producer_end
field_of-sent-requires c =
    let g = c.args.set.now in
    let made = (is_net g c.requires.valid).made c.args.wire c.requires.wire in
    let is = c.from.ensures ∙ c.producer_end.ensures ∙ ap (λ (x : ProgramSet). topo.producer_end x.topo c.args.wire) c.set.view_is in
    let few : 10 + topo.producer_end g.topo c.args.wire < 20 = made.2 in
    omega arith

pub field_of-taken-requires : goal.field_of-taken-requires
unfolding consumer_end
field_of-taken-requires c =
    let g = c.args.set.now in
    let made = (is_net g c.requires.valid).made c.args.wire c.requires.wire in
    let is = c.from-2.ensures ∙ c.consumer_end.ensures ∙ ap (λ (x : ProgramSet). topo.consumer_end x.topo c.args.wire) c.set.view_is in
    let few : topo.consumer_end g.topo c.args.wire < 10 = made.4 in
    omega arith

pub word_at-requires-in-loop-i : goal.word_at-requires-in-loop-i
unfolding procs
word_at-requires-in-loop-i c =
    let g = c.args.set.now in
    let is = c.procs.ensures.value ∙ ap (λ (x : ProgramSet). proc_count x.topo) c.set.view_is in
    let below = c.requires.wire in
    let long = c.requires.words.1 in
    let k = mod-lt (c.field_of-taken.result + c.loop-i.i) (let z : 0 < 8 = omega arith in z) in
    (c.requires.words.0, omega arith)

pub overflow_cast-word_at : goal.overflow_cast-word_at
unfolding procs
overflow_cast-word_at c =
    let is = c.procs.ensures.value ∙ ap (λ (x : ProgramSet). proc_count x.topo) c.set.view_is in
    let small = c.requires.small (16 * (c.procs.result + c.args.wire) + (c.field_of-taken.result + c.loop-i.i) % 8) (omega arith) in
    let value = c.word_at-in-loop-i.ensures in
    omega arith

pub push-requires : goal.push-requires
push-requires c =
    let d = data_word c.args.set.now (slots_items c.args.closed.now.words) c.args.wire in
    let l = ap length c.loop-i.invariant ∙ length-flight d c.field_of-taken.result c.loop-i.i in
    let t = c.loop-i-test.true in
    let m = mod-lt (c.field_of-sent.result + 8 - c.field_of-taken.result) (let z : 0 < 8 = omega arith in z) in
    (omega arith, omega arith)

pub loop-i-preserved : goal.loop-i-preserved
unfolding procs
loop-i-preserved c =
    let is = c.procs.ensures.value ∙ ap (λ (x : ProgramSet). proc_count x.topo) c.set.view_is in
    c.push.ensures.items
    ∙ value_more c.args.set.now (slots_items c.args.closed.now.words) c.args.wire c.field_of-taken.result c.loop-i.i c.loop-i.queue.items (16 * (c.procs.result + c.args.wire)) c.word_at-in-loop-i.result
    c.loop-i.invariant (ap (λ n. 16 * (n + c.args.wire)) is) c.word_at-in-loop-i.ensures

pub returns : goal.returns
unfolding wire_of status producer producer_end consumer consumer_end
returns c =
    let g = c.args.set.now in
    let words = slots_items c.args.closed.now.words in
    let w = c.args.wire in
    let d = data_word g words w in
    let from = c.producer.ensures ∙ ap (λ (x : ProgramSet). producer_of x.topo w) c.set.view_is in
    let to = c.consumer.ensures ∙ ap (λ (x : ProgramSet). consumer_of x.topo w) c.set.view_is in
    let out = c.from.ensures ∙ c.producer_end.ensures ∙ ap (λ (x : ProgramSet). topo.producer_end x.topo w) c.set.view_is in
    let in' = c.from-2.ensures ∙ c.consumer_end.ensures ∙ ap (λ (x : ProgramSet). topo.consumer_end x.topo w) c.set.view_is in
    let a = c.field_of-sent.ensures.value ∙ (λ i. field (10 + out i) ((c.word_at.ensures ∙ ap (λ p. slice_index words (16 * p)) from) i)) in
    let b = c.field_of-taken.ensures.value ∙ (λ i. field (in' i) ((c.word_at-2.ensures ∙ ap (λ p. slice_index words (16 * p)) to) i)) in
    let end = c.loop-i.auto.i-end in
    let over = c.loop-i-test.false in
    let at : c.loop-i.i ≡ (c.field_of-sent.result + 8 - c.field_of-taken.result) % 8 = omega arith in
    c.loop-i.invariant ∙ (λ i. flight d (b i) (at i)) ∙ ap (flight d (field (consumer_end g w) (status words (consumer g w)))) (λ i. (a i + 8 - b i) % 8)
