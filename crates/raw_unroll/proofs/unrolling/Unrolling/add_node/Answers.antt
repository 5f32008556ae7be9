use Rattle.std.proofs.Common.{◌≡◌, ◌-◌, ◌<◌, length, Some, refl, ap, ◌∙◌, subst, arith}
use Rattle.std.specs.Prelude.{slice_get}
use Rattle.std.proofs.lemmas.Option.{slice_get_read}
use Rattle.raw_stream.specs.Streams.{Stream}
use Rattle.raw_unroll.specs.declared.unrolling.Unrolling.{Unrolling}
use Rattle.raw_unroll.proofs.Rows.{begins, node_made, are_there, one_more}
use Rattle.raw_unroll.proofs.unrolling.Unrolling.add_node.Goals as goal
use Rattle.raw_unroll.proofs.unrolling.Unrolling.add_node.Goals.{After-index-node}

-- the node stands in the stream
there : (c : After-index-node) → slice_get c.args.stream.now.nodes c.args.v ≡ Some c.index-node.result.now
there c =
    let node = c.index-node.result.now in
    let nodes : c.stream.inside.nodes.items ≡ c.args.stream.now.nodes = cc (ap (λ (x : Stream). x.nodes) c.stream.view_is) in
    let within : c.args.v < length c.stream.inside.nodes.items = omega (arith, c.requires.node, ap length nodes) in
    subst (λ xs. slice_get xs c.args.v ≡ Some node) nodes (slice_get_read c.stream.inside.nodes.items (length c.stream.inside.nodes.items) c.args.v node refl within c.index-node.ensures)

pub node_of-made-requires : goal.node_of-made-requires
node_of-made-requires c =
    let begin = begins c.args.self.now c.args.stream.now c.args.row c.args.v c.requires.unrolled (c.len.result - c.args.v) (omega arith) in
    are_there c.args.self.now c.args.stream.now c.args.row c.args.v (c.len.result - c.args.v) c.index-node.result.now c.requires.unrolled (there (goal.at.node_of-made-requires c).After-index-node) begin

pub take_place-place-requires-clause-node : goal.take_place-place-requires-clause-node
take_place-place-requires-clause-node c = there (goal.at.take_place-place-requires-clause-node c).After-index-node

pub returns : goal.returns
returns c =
    let s : Stream = c.args.stream.now in
    let node = c.index-node.result.now in
    let found = there (goal.at.returns c).After-index-node in
    let begin = begins c.args.self.now s c.args.row c.args.v c.requires.unrolled (c.len.result - c.args.v) (omega arith) in
    let room = are_there c.args.self.now s c.args.row c.args.v (c.len.result - c.args.v) node c.requires.unrolled found begin in
    let made = c.node_of-made.ensures ∙ node_made c.args.self.now s c.args.row c.args.v c.requires.unrolled (c.len.result - c.args.v) node begin room in
    let new : Unrolling = record { next = c.take_place-place.new.self.next; places = c.push.new.self; nodes = c.push-2.new.self } in
    one_more c.args.self.now s c.args.row c.args.v c.requires.unrolled c.take_place-place.new.self new c.take_place-place.result node c.node_of-made.result c.take_place-place.ensures.next refl
    c.in_ok-push.ensures.items c.in_ok-push-2.ensures.items c.take_place-place.ensures.value found made
