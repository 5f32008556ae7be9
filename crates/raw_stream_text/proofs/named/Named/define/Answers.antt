use Rattle.std.proofs.Common.{◌+◌, ap}
use Rattle.raw_stream_text.proofs.named.Named.define.Goals as goal

pub returns : goal.returns
returns c =
    let notes = c.in_ok-note.ensures in
    record { numbers = notes.numbers; count = ap (λ n. n + 1) notes.count; sources = notes.sources; sinks = notes.sinks }
