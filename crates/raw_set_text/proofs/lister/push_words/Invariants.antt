use Rattle.std.proofs.Common.{◌≡◌, ◌++◌, drop, map}
use Rattle.std.specs.Prelude.{string_bytes}
use Rattle.raw_set_text.specs.Listing.{spaced, hex_text}
use Rattle.raw_set_text.proofs.lister.push_words.Given as goal

abbrev pub invariant-loop-word : goal.invariant-loop-word
invariant-loop-word l = string_bytes l.text ++ spaced (map hex_text (drop l.word-index l.words)) ≡ string_bytes l.fn.text ++ spaced (map hex_text l.words)
