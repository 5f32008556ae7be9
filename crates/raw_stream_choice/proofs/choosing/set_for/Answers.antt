use Rattle.std.proofs.Common.{ℕ, ◌^◌, ◌<◌, List, sym, subst}
use Rattle.std.specs.List.{All}
use Rattle.raw_stream.specs.Kept.{IsStream}
use Rattle.raw_stream_text.specs.Streams.{FedStream}
use Rattle.raw_cut.proofs.Copies.{some_so}
use Rattle.raw_stream_choice.proofs.Lawful.{are_stream_ports}
use Rattle.raw_stream_choice.proofs.choosing.set_for.Goals as goal

pub set_with-requires : goal.set_with-requires
set_with-requires c =
    let is : IsStream c.input.inside.stream = subst (λ (fed : FedStream). IsStream fed.stream) (sym c.input.view_is) c.requires.stream in
    let all : All (λ word. word < 2 ^ 32) c.input.inside.words.items = subst (λ (fed : FedStream). All (λ word. word < 2 ^ 32) fed.words) (sym c.input.view_is) c.requires.words in
    are_stream_ports c.input.inside.stream c.deref.result.now c.in-Ok-Some.ports.items is
    (subst (λ (words : List ℕ). All (λ word. word < 2 ^ 32) words) (sym c.deref.ensures.value) all)
    (some_so _ c.in-Ok-Some.field-0 c.in-Ok-Some.ports c.in-Ok-Some.field-0-is c.in-Ok-Some.ensures)
