use Rattle.std.proofs.Common.{◌≡◌, map, Ok, Err, refl, sym, ap, ◌∙◌, subst, arith}
use Rattle.std.specs.Option.{option_map}
use Rattle.raw_stream.specs.Streams.{Stream}
use Rattle.raw_flow_text.specs.Building.{Answers}
use Rattle.raw_stream_text.specs.Streams.{words_of_all}
use Rattle.raw_stream_text.specs.Faults.{are_fed, whole_fault}
use Rattle.raw_stream_text.specs.Building.{feed_in}
use Rattle.raw_stream_text.proofs.Ending.{no_size, no_count}
use Rattle.raw_stream_text.proofs.Built.{answers_passed, made, built, ended, fed_is}
use Rattle.raw_stream_text.proofs.builder.Builder.finish.Goals as goal

pub returns-in_default-clause-fault : goal.returns-in_default-clause-fault
returns-in_default-clause-fault c = λ all is stands. rw c.at.ensures (refl, no_size (option_map (λ topo. topo.now) c.args.claimed) all (sym stands.size ∙ c.in_default.is))

pub returns-in_default-count-clause-fault : goal.returns-in_default-count-clause-fault
returns-in_default-count-clause-fault c = λ all is stands.
    rw c.at-in_default-count.ensures (refl, no_count (option_map (λ topo. topo.now) c.args.claimed) all c.in-Some.size (sym stands.size ∙ c.in-Some.is) (sym stands.count ∙ c.in_default-count.is))

pub returns-in_err-expect_whole-clause-fault : goal.returns-in_err-expect_whole-clause-fault
returns-in_err-expect_whole-clause-fault c = λ all is stands.
    let claimed = option_map (λ topo. topo.now) c.args.claimed in
    let whole : Stream = made c.in-Some.size c.in-Some-count.count c.in_ok-sources.sources.items c.in_ok-sinks.sinks.items c.args.self.nodes.items c.args.self.outs.items in
    let same = built claimed c.args.self c.args.named.now all is stands c.in-Some.size c.in-Some-count.count c.in-Some.is c.in-Some-count.is c.in_ok-sources.sources.items c.in_ok-sinks.sinks.items c.in_ok-sources.ensures c.in_ok-sinks.ensures in
    let matters : c.are_fed-fed.result ≡ are_fed claimed (map feed_in c.args.self.feeds.items) = c.are_fed-fed.ensures ∙ ap (λ fs. are_fed claimed (map feed_in fs)) c.deref.ensures.value in
    let told = subst (λ fs. Answers {T = Unit {0}} (Err c.in_err-expect_whole.field-0.0) c.args.end (whole_fault c.are_fed-fed.result whole (map feed_in fs))) c.deref-2.ensures.value (c.in_err-expect_whole.ensures {u = tt}) in
    ended claimed c.args.self c.args.named.now all is stands c.in-Some.size c.in-Some-count.count c.in-Some.is c.in-Some-count.is c.from_residual-in_err-expect_whole.result c.args.end c.are_fed-fed.result whole same matters
    (answers_passed (Unit {0}) c.from_residual-in_err-expect_whole.result c.in_err-expect_whole.field-0.0 c.args.end (whole_fault c.are_fed-fed.result whole (map feed_in c.args.self.feeds.items)) c.from_residual-in_err-expect_whole.ensures.1 told)

pub returns-clause-fault : goal.returns-clause-fault
returns-clause-fault c = λ all is stands.
    let claimed = option_map (λ topo. topo.now) c.args.claimed in
    let whole : Stream = made c.in-Some.size c.in-Some-count.count c.in_ok-sources.sources.items c.in_ok-sinks.sinks.items c.args.self.nodes.items c.args.self.outs.items in
    let same = built claimed c.args.self c.args.named.now all is stands c.in-Some.size c.in-Some-count.count c.in-Some.is c.in-Some-count.is c.in_ok-sources.sources.items c.in_ok-sinks.sinks.items c.in_ok-sources.ensures c.in_ok-sinks.ensures in
    let matters : c.are_fed-fed.result ≡ are_fed claimed (map feed_in c.args.self.feeds.items) = c.are_fed-fed.ensures ∙ ap (λ fs. are_fed claimed (map feed_in fs)) c.deref.ensures.value in
    let passed = ap (λ fs. whole_fault c.are_fed-fed.result whole (map feed_in fs)) (sym c.deref-2.ensures.value) ∙ c.in_ok-expect_whole.ensures in
    ended claimed c.args.self c.args.named.now all is stands c.in-Some.size c.in-Some-count.count c.in-Some.is c.in-Some-count.is {T = Unit {0}} (Ok tt) c.args.end c.are_fed-fed.result whole same matters passed

pub returns-clause-fed : goal.returns-clause-fed
returns-clause-fed c = λ all is stands.
    let claimed = option_map (λ topo. topo.now) c.args.claimed in
    let whole : Stream = made c.in-Some.size c.in-Some-count.count c.in_ok-sources.sources.items c.in_ok-sinks.sinks.items c.args.self.nodes.items c.args.self.outs.items in
    let same = built claimed c.args.self c.args.named.now all is stands c.in-Some.size c.in-Some-count.count c.in-Some.is c.in-Some-count.is c.in_ok-sources.sources.items c.in_ok-sinks.sinks.items c.in_ok-sources.ensures c.in_ok-sinks.ensures in
    let words = c.in_ok-words.ensures ∙ ap (λ fs. words_of_all (map feed_in fs) c.len.result) c.deref-3.ensures.value in
    fed_is claimed c.args.self c.args.named.now all is stands c.in-Some.size c.in-Some-count.count c.in-Some.is c.in-Some-count.is whole c.in_ok-words.words.items c.len.result same (omega arith) words
