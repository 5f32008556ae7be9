use Rattle.std.proofs.Common.{◌++◌, sym, ap, ◌∙◌}
use Rattle.std.specs.Option.{option_to_list}
use Rattle.raw_fabric_rule.specs.Word.{pack}
use Rattle.raw_fabric_rule.specs.Plays.{bumped}
use Rattle.raw_fabric_rule.proofs.Lists.{bumped-append}
use Rattle.raw_fabric_step.proofs.Pairing.{packed_small, bumped_many}
use Rattle.raw_fabric_step.proofs.pairs.raised.Goals as goal

pub bump_where-one_taken-requires-clause-word : goal.bump_where-one_taken-requires-clause-word
bump_where-one_taken-requires-clause-word c = let r = c.requires.packed in packed_small c.args.status r.0 r.1 r.2

pub bump_where-taken-requires-clause-word : goal.bump_where-taken-requires-clause-word
bump_where-taken-requires-clause-word c =
    let r = c.requires.packed in
    packed_small c.bump_where-one_taken.result (bumped (option_to_list c.args.first) r.0) (bumped_many (option_to_list c.args.first) r.0 r.1)
    (c.bump_where-one_taken.ensures r.0 r.1 r.2)

pub bump_where-one_sent-requires-clause-word : goal.bump_where-one_sent-requires-clause-word
bump_where-one_sent-requires-clause-word c =
    let r = c.requires.packed in
    let one = bumped (option_to_list c.args.first) r.0 in
    let many = bumped_many (option_to_list c.args.first) r.0 r.1 in
    packed_small c.bump_where-taken.result (bumped (option_to_list c.args.second) one) (bumped_many (option_to_list c.args.second) one many)
    (c.bump_where-taken.ensures one many (c.bump_where-one_taken.ensures r.0 r.1 r.2))

pub bump_where-requires-clause-word : goal.bump_where-requires-clause-word
bump_where-requires-clause-word c =
    let r = c.requires.packed in
    let one = bumped (option_to_list c.args.first) r.0 in
    let many = bumped_many (option_to_list c.args.first) r.0 r.1 in
    let two = bumped (option_to_list c.args.second) one in
    let still = bumped_many (option_to_list c.args.second) one many in
    packed_small c.bump_where-one_sent.result (bumped (option_to_list c.end_where.result) two) (bumped_many (option_to_list c.end_where.result) two still)
    (c.bump_where-one_sent.ensures two still (c.bump_where-taken.ensures one many (c.bump_where-one_taken.ensures r.0 r.1 r.2)))

pub returns : goal.returns
returns c counts many is =
    let first = option_to_list c.args.first in
    let second = option_to_list c.args.second in
    let third = option_to_list c.end_where.result in
    let fourth = option_to_list c.end_where-2.result in
    let one = bumped first counts in
    let many1 = bumped_many first counts many in
    let two = bumped second one in
    let many2 = bumped_many second one many1 in
    let three = bumped third two in
    let many3 = bumped_many third two many2 in
    c.bump_where.ensures three many3 (c.bump_where-one_sent.ensures two many2 (c.bump_where-taken.ensures one many1 (c.bump_where-one_taken.ensures counts many is)))
    ∙ ap pack (sym (bumped-append third fourth two) ∙ ap (bumped (third ++ fourth)) (sym (bumped-append first second counts))
    ∙ (λ i. bumped (c.end_where.ensures.ends i ++ c.end_where-2.ensures.ends i) (bumped (first ++ second) counts)))
