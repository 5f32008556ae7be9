use Rattle.std.proofs.Common.{refl}
use Rattle.std.specs.Fmt.{digits, padded_integral, char_count}
use Rattle.raw_text.specs.Lines.{written_lines}
use Rattle.raw_text.specs.Number.{hex_digits}
use Rattle.raw_switch_isa.specs.Ends.{ends}
use Rattle.raw_switch_asm.specs.Listing.{line_text}
use Rattle.raw_set_text.specs.Listing.{listing}
use Rattle.raw_set_text.proofs.Listed.Back.{read_back}
use Rattle.raw_set_text.proofs.Listed.Size.{listing_short}
use Rattle.raw_set_text.proofs.laws.law_read_back.Goals as goal

pub returns-clause-back : goal.returns-clause-back
returns-clause-back c = read_back (record { tile = c.law_read_back.ensures; switch = c.law_read_back-2.ensures })

pub returns-clause-short : goal.returns-clause-short
returns-clause-short c =
    listing_short (record { tile = c.law_listing_is_short.ensures; switch = c.law_listing_is_short-2.ensures; ports = c.law_wires.ensures.few_ports })

pub returns-clause-worked : goal.returns-clause-worked
unfolding listing written_lines hex_digits line_text ends digits padded_integral char_count
returns-clause-worked c = refl
