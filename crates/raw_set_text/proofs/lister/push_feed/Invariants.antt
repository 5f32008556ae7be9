use Rattle.std.proofs.Common.{◌≡◌, ◌++◌}
use Rattle.std.specs.Prelude.{string_bytes}
use Rattle.std.specs.Slice.Iter.{chunks_rest, chunks_size}
use Rattle.raw_text.specs.Lines.{written_lines}
use Rattle.raw_set_text.specs.Listing.{words_lines}
use Rattle.raw_set_text.proofs.lister.push_feed.Given as goal

abbrev pub invariant-loop-piece : goal.invariant-loop-piece
invariant-loop-piece l = record {
  size : chunks_size l.piece-iterator ≡ 8;
  so_far : string_bytes l.text ++ written_lines (words_lines l.place (chunks_rest l.piece-iterator)) ≡ string_bytes l.fn.text ++ written_lines (words_lines l.place l.words);
}
