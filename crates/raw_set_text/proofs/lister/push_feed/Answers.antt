use Rattle.std.proofs.Common.{◌≡◌, ◌++◌, ◌<◌, ◌∙◌, length, min, map, sym, ap, arith, length-append}
use Rattle.std.specs.Prelude.{string_bytes}
use Rattle.std.specs.Slice.Iter.{chunks_rest, chunks_size}
use Rattle.raw_text.specs.Lines.{written_lines}
use Rattle.raw_set_text.specs.Listing.{feed_line, pieces}
use Rattle.raw_set_text.proofs.Listed.Text.{piece_next, pieces_done}
use Rattle.raw_set_text.proofs.lister.push_feed.Goals as goal

pub loop-piece-preserved : goal.loop-piece-preserved
loop-piece-preserved c =
    let before = chunks_rest c.loop-piece.piece-iterator in
    let after = chunks_rest c.next.new.self in
    let piece = c.in-Some.piece.now in
    let f = feed_line c.args.place in
    let steps = rw c.in-Some.is at c.next.ensures.steps.1 in
    let size : chunks_size c.loop-piece.piece-iterator ≡ 8 = c.loop-piece.invariant.size in
    let long : length piece ≡ min 8 (length before) = steps.1 ∙ ap (λ n. min n (length before)) size in
    let some : 0 < length before = steps.2 in
    record {
      size = c.next.ensures.steps.0 ∙ size;
      so_far =
          ap (λ t. t ++ written_lines (map f (pieces 8 after))) c.in_ok-push_feed_line.ensures
          ∙ piece_next f 8 before piece after (string_bytes c.loop-piece.text) steps.0 long (omega (arith, length-append piece after, ap length steps.0))
          ∙ c.loop-piece.invariant.so_far;
    }

pub returns : goal.returns
returns c =
    let before = chunks_rest c.loop-piece.piece-iterator in
    let steps = rw c.in-None.is at c.next.ensures.steps.1 in
    sym (pieces_done (feed_line c.args.place) 8 before (string_bytes c.loop-piece.text) steps.0 (omega (arith, steps.0))) ∙ c.loop-piece.invariant.so_far
