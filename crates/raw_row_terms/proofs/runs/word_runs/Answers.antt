use Rattle.std.proofs.Common.{rules, ◌≡◌, ◌<◌, Some, length, map, refl, ap, ◌∙◌, subst, arith}
use Rattle.std.specs.Prelude.{slice_get}
use Rattle.std.specs.List.{range_with_len}
use Rattle.std.proofs.lemmas.List.{length-map}
use Rattle.std.proofs.lemmas.Option.{slice_get_read}
use Rattle.std.proofs.lemmas.List.FromFn.{length-range_with_len}
use Rattle.raw_stream.specs.declared.row_node.RowNode.TheVariants.{Input}
use Rattle.raw_stream.specs.Streams.{Stream}
use Rattle.raw_stream.specs.Unrolled.{first}
use Rattle.raw_stream.proofs.Places.{word_within}
use Rattle.raw_row_terms.proofs.Words.{first_at}
use Rattle.raw_row_terms.proofs.runs.word_runs.Goals as goal

pub run_of-requires-clause-port : goal.run_of-requires-clause-port
run_of-requires-clause-port c =
    let s : Stream = c.args.stream.now in
    let below : c.loop-place.place < length c.stream.inside.nodes.items = omega (arith, c.loop-place-test.true, c.len-place-end.ensures, c.loop-place.auto.place-end) in
    let at : slice_get s.nodes c.loop-place.place ≡ Some (Input c.in-Input.port) =
    subst (λ (g : Stream). slice_get g.nodes c.loop-place.place ≡ Some (Input c.in-Input.port)) c.stream.view_is
    (slice_get_read c.stream.inside.nodes.items (length c.stream.inside.nodes.items) c.loop-place.place c.index.result.now refl below c.index.ensures ∙ ap (λ n. Some n) c.in-Input.is) in
    let some : c.in-Input.port < length s.sources = c.requires.rows.named.nodes c.loop-place.place (Input c.in-Input.port) at in
    let is : c.deref.result.now ≡ map (first s) (range_with_len 0 (length s.sources)) = search rules in
    omega (arith, some, ap length is, length-map (range_with_len 0 (length s.sources)) (first s), length-range_with_len 0 (length s.sources))

pub run_of-requires-clause-first : goal.run_of-requires-clause-first
run_of-requires-clause-first c =
    let s : Stream = c.args.stream.now in
    let below : c.loop-place.place < length c.stream.inside.nodes.items = omega (arith, c.loop-place-test.true, c.len-place-end.ensures, c.loop-place.auto.place-end) in
    let at : slice_get s.nodes c.loop-place.place ≡ Some (Input c.in-Input.port) =
    subst (λ (g : Stream). slice_get g.nodes c.loop-place.place ≡ Some (Input c.in-Input.port)) c.stream.view_is
    (slice_get_read c.stream.inside.nodes.items (length c.stream.inside.nodes.items) c.loop-place.place c.index.result.now refl below c.index.ensures ∙ ap (λ n. Some n) c.in-Input.is) in
    let some : c.in-Input.port < length s.sources = c.requires.rows.named.nodes c.loop-place.place (Input c.in-Input.port) at in
    let is : c.deref.result.now ≡ map (first s) (range_with_len 0 (length s.sources)) = search rules in
    first_at s c.deref.result.now c.in-Input.port is some

pub run_of-requires-clause-inside : goal.run_of-requires-clause-inside
run_of-requires-clause-inside c =
    let s : Stream = c.args.stream.now in
    let below : c.loop-place.place < length c.stream.inside.nodes.items = omega (arith, c.loop-place-test.true, c.len-place-end.ensures, c.loop-place.auto.place-end) in
    let at : slice_get s.nodes c.loop-place.place ≡ Some (Input c.in-Input.port) =
    subst (λ (g : Stream). slice_get g.nodes c.loop-place.place ≡ Some (Input c.in-Input.port)) c.stream.view_is
    (slice_get_read c.stream.inside.nodes.items (length c.stream.inside.nodes.items) c.loop-place.place c.index.result.now refl below c.index.ensures ∙ ap (λ n. Some n) c.in-Input.is) in
    word_within s c.requires.rows.named 0 c.in-Input.port c.loop-place.place (omega (arith, c.requires.rows.some)) at
