use Rattle.std.proofs.Common.{true, false, refl, sym, ◌∙◌}
use Rattle.std.specs.Prelude.{map, string_bytes}
use Rattle.raw_commands.proofs.Ending.{headline_of, promises_of}
use Rattle.raw_commands.proofs.LiveWords.{no_headline, not_both}
use Rattle.raw_commands.proofs.top.raw_main.Goals as goal

pub returns-then-asks_live-clause-headline : goal.returns-then-asks_live-clause-headline
returns-then-asks_live-clause-headline g c = no_headline (map string_bytes c.args.words.now) (sym c.asks_live.ensures ∙ c.if-asks_live.true) _ refl

pub returns-then-asks_live-clause-promises : goal.returns-then-asks_live-clause-promises
returns-then-asks_live-clause-promises g c = λ off. absurd (not_both (map string_bytes c.args.words.now) (sym c.asks_live.ensures ∙ c.if-asks_live.true) off)

pub returns-else-asks_live-clause-headline : goal.returns-else-asks_live-clause-headline
returns-else-asks_live-clause-headline g c = headline_of c.law_one_input.ensures _ c.carry_out.ensures

pub returns-else-asks_live-clause-promises : goal.returns-else-asks_live-clause-promises
returns-else-asks_live-clause-promises g c = λ off. promises_of c.law_one_input.ensures _ c.carry_out.ensures c.law_one_flow.ensures

pub returns-else-asks_live-clause-live : goal.returns-else-asks_live-clause-live
returns-else-asks_live-clause-live g c = λ on. absurd (not_both (map string_bytes c.args.words.now) on (sym c.asks_live.ensures ∙ c.if-asks_live.false))
