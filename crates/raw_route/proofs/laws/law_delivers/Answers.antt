use Rattle.raw_route.proofs.Delivering.{delivered}
use Rattle.raw_route.proofs.Given.{TreeLaws, Laws}
use Rattle.raw_route.proofs.laws.law_delivers.Goals as goal

pub returns : goal.returns
returns c =
    let tree : TreeLaws = record {
      end_fits = c.law_fits.ensures.end_fits;
      parts = c.law_parts.ensures;
      switch_is = c.law_scripts.ensures.switch_code;
      few_switch = c.law_scripts.ensures.few_switch;
    } in
    let laws : Laws = record {
      tree = tree;
      same_rest = c.law_same_rest.ensures.same_rest;
      start = c.law_blocks.ensures.start;
      start_idle = c.law_blocks.ensures.start_idle;
      send = c.law_blocks.ensures.send;
      take = c.law_blocks.ensures.take;
      halts = c.law_halts.ensures;
      li = c.law_rows.ensures.li;
      sends = c.law_rows.ensures.send;
      sender = c.law_rows.ensures.sender;
      store_take = c.law_rows.ensures.store_take;
      store_taker = c.law_rows.ensures.store_taker;
      there = c.law_stored_words.ensures.there;
      elsewhere = c.law_stored_words.ensures.elsewhere;
    } in
    delivered laws
