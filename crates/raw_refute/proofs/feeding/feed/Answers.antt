use Rattle.std.proofs.Common.{◌≡◌, ◌∙◌, ℕ, ◌<◌, ◌^◌, ◌++◌, List, length, take, drop, sym, ap, subst, arith}
use Rattle.std.proofs.lemmas.List.{take-append-le, take_all}
use Rattle.raw_model.specs.Program.{ProgramSet, PortProgram, IsSet}
use Rattle.raw_model.specs.Fed.{fed, fed_ports}
use Rattle.raw_model.proofs.Fed.{all_at, fed_set}
use Rattle.raw_refute.proofs.feeding.feed.Goals as goal
use Rattle.raw_refute.proofs.feeding.feed.Goals.{After-feed_ports}

-- the set, as its fields say it
abbrev inside : After-feed_ports → ProgramSet
inside c = record {
  topo = c.set.inside.topo;
  limit = c.set.inside.limit;
  depth = c.set.inside.depth;
  ports = c.set.inside.ports.items;
  tiles = c.set.inside.tiles.items;
  shows = c.set.inside.shows.items;
}

-- the ports, as the borrow of the vector gives them back
abbrev ports : After-feed_ports → List PortProgram
ports c = take c.set.inside.ports.len (c.feed_ports.new.ports ++ drop (length c.feed_ports.new.ports) c.set.inside.ports.items)

back : (c : After-feed_ports) → ports c ≡ fed_ports c.set.inside.ports.items c.args.words.now
back c =
    let many = c.feed_ports.auto.ports ∙ c.deref_mut.ensures.len in
    take-append-le c.set.inside.ports.len c.feed_ports.new.ports (drop (length c.feed_ports.new.ports) c.set.inside.ports.items) (omega (arith, many))
    ∙ take_all c.set.inside.ports.len c.feed_ports.new.ports (omega (arith, many))
    ∙ c.feed_ports.ensures
    ∙ ap (λ (old : List PortProgram). fed_ports old c.args.words.now) c.deref_mut.ensures.value

fed_so : (c : After-feed_ports) → IsSet (record (inside c) { ports = ports c })
fed_so c =
    subst (λ (new : List PortProgram). IsSet (record (inside c) { ports = new })) (sym (back c))
    (fed_set (inside c) c.args.words.now (all_at (λ (word : ℕ). word < 2 ^ 32) c.args.words.now c.words_fit.ensures) c.set.invariant)

pub invariant_of-set : goal.invariant_of-set
invariant_of-set c = fed_so (goal.at.invariant_of-set c).After-feed_ports

same : (c : After-feed_ports) → record (inside c) { ports = ports c } ≡ fed c.args.set.now c.args.words.now
same c = ap (λ (new : List PortProgram). record (inside c) { ports = new }) (back c) ∙ ap (λ (set : ProgramSet). fed set c.args.words.now) c.set.view_is

pub returns : goal.returns
returns c = same (goal.at.returns c).After-feed_ports
