use Rattle.raw_switch_asm.proofs.TextLaws.{TextLaws}
use Rattle.raw_switch_asm.proofs.Short.{listing_short}
use Rattle.raw_switch_asm.proofs.laws.law_listing_is_short.Goals as goal

pub returns : goal.returns
returns c =
    let laws : TextLaws = record {
      many = c.law_lines.ensures.many;
      faultless = c.law_lines.ensures.faultless;
      each_plain = c.law_lines.ensures.each_plain;
      first = c.law_tokens.ensures.first;
      behind = c.law_tokens.ensures.blank;
      last = c.law_tokens.ensures.last;
      number = c.law_numbers.ensures.decimal;
      token = c.law_numbers.ensures.decimal_token;
      passes = c.law_numbers.ensures.decimal_passes;
      low = c.law_numbers.ensures.first_low;
      high = c.law_numbers.ensures.first_high;
      short = c.law_numbers.ensures.decimal_length;
    } in listing_short laws
