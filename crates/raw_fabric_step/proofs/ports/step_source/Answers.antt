use Rattle.std.proofs.Common.{None, sym, ap, ◌∙◌}
use Rattle.std.specs.Prelude.{map, slice_index}
use Rattle.raw_model.specs.Local.{Source}
use Rattle.raw_fabric_rule.specs.Plays.{values_of}
use Rattle.raw_fabric_rule.specs.Conditions.{blank}
use Rattle.raw_fabric_step.specs.Units.{mine}
use Rattle.raw_fabric_step.proofs.PortRows.{source_needs, source_gives, source_fills, source_sent, source_next, source_touches}
use Rattle.raw_fabric_step.proofs.Rows.{may_take, prepared_looked, stepped}
use Rattle.raw_fabric_step.proofs.ports.step_source.Goals as goal

pub see_ends-requires-clause-asks : goal.see_ends-requires-clause-asks
see_ends-requires-clause-asks c =
    let r = c.requires in
    let a = c.args.words.now.key in
    let post = c.args.post.now in
    let u = mine c.args.seat.now.me.0 post.index in
    c.pair_asks.ensures a.set post.p u.local (source_needs a.set post.p u.local c.args.port.now.local r.due.local_is)
    (source_gives a.set post.p u.local c.args.port.now.local r.due.local_is post.ends.now r.stands.seated.post_is.ends_are c.is_some-first.result c.is_some-second.result c.is_some-first.ensures c.is_some-second.ensures)

pub commit_pair-requires-clause-takes : goal.commit_pair-requires-clause-takes
commit_pair-requires-clause-takes c =
    let a = c.args.words.now.key in
    let post = c.args.post.now in
    record {
      needs_are = source_needs a.set post.p (mine c.see_ends.new.seat.me.0 post.index).local c.args.port.now.local (c.see_ends.ensures.looked.local_same ∙ c.requires.due.local_is);
      first_in = tt;
      second_in = tt;
    }

pub commit_pair-requires-clause-operands : goal.commit_pair-requires-clause-operands
commit_pair-requires-clause-operands c =
    let r = c.requires in
    let a = c.args.words.now.key in
    let post = c.args.post.now in
    let may = may_take a r.stands.seated.post_is.valid post.p (mine c.args.seat.now.me.0 post.index) (mine c.see_ends.new.seat.me.0 post.index) _ r.due c.in-Ok.ensures.saw in
    record { shown = may.shown; fetched = ap (map blank) may.idle.fetched; staged = may.idle.staged }

pub commit_pair-requires-clause-sends : goal.commit_pair-requires-clause-sends
commit_pair-requires-clause-sends c =
    let r = c.requires in
    let a = c.args.words.now.key in
    let post = c.args.post.now in
    let ends_are = r.stands.seated.post_is.ends_are in
    let z = mine c.see_ends.new.seat.me.0 post.index in
    let local_is = c.see_ends.ensures.looked.local_same ∙ r.due.local_is in
    record {
      fills_are = source_fills a.set post.p z.local c.args.port.now.local local_is post.ends.now ends_are
          c.is_some-first.result c.is_some-second.result c.is_some-first.ensures c.is_some-second.ensures (values_of z) c.fire_source-word.result
          c.word_where.result c.word_where-in-Ok.result c.word_where.ensures c.word_where-in-Ok.ensures;
      sent_are = source_sent a.set post.p z.local c.args.port.now.local local_is post.ends.now ends_are
          c.is_some-first.result c.is_some-second.result c.is_some-first.ensures c.is_some-second.ensures (values_of z) c.fire_source-word.result
          c.word_where.result c.word_where-in-Ok.result c.word_where.ensures c.word_where-in-Ok.ensures
          (c.fire_source-word.ensures.word ∙ ap (λ l. slice_index l c.args.port.now.local.done) r.given);
    }

pub returns-in-Ok-clause-stepped : goal.returns-in-Ok-clause-stepped
returns-in-Ok-clause-stepped c =
    let r = c.requires in
    let a = c.args.words.now.key in
    let post = c.args.post.now in
    let u = mine c.args.seat.now.me.0 post.index in
    let z = mine c.see_ends.new.seat.me.0 post.index in
    stepped a post c.commit_pair.result (values_of z) (Source c.fire_source-word.new.port.local) None c.args.seat.now c.see_ends.new.seat c.commit_pair.new.seat
    c.see_ends.ensures.kept (prepared_looked a post.p u z c.see_ends.ensures.looked) c.commit_pair.ensures.same c.commit_pair.ensures.fired
    (source_next a.set post.p u.local c.args.port.now.local r.due.local_is (values_of z) ∙ ap Source (sym c.fire_source-word.ensures.next))
    (source_touches a.set post.p u.local c.args.port.now.local r.due.local_is (values_of z)) tt
