use Rattle.std.proofs.Common.{◌/◌, sym, ap, ◌∙◌, arith}
use Rattle.raw_grid.specs.Topology.{proc_count}
use Rattle.raw_model.specs.Program.{ProgramSet}
use Rattle.raw_fabric_rule.specs.ByEnds.{procs}
use Rattle.raw_fabric.specs.Opened.{about_of}
use Rattle.raw_fabric.proofs.Places.{read_at}
use Rattle.raw_fabric.proofs.fabric.Fabric.post.Goals as goal

pub index-requires : goal.index-requires
unfolding procs
index-requires c =
    let f = c.requires.fabric in
    let each = f.ends.each_end in
    let ok = c.args.self.now.parts.ends.ok in
    let there = c.requires.there in
    omega arith

pub returns-clause-post : goal.returns-clause-post
unfolding procs
returns-clause-post c =
    let f = c.requires.fabric in
    let a = about_of c.args.self.now in
    let there = c.requires.there in
    let each = f.ends.each_end in
    let ok = c.args.self.now.parts.ends.ok in
    let sides = f.sides.each in
    let sides_ok = c.args.self.now.sides.ok in
    record {
      post_is = record {
        valid = f.valid;
        words_are = f.words_are;
        within = c.requires.there;
        processors_are = c.procs.ensures.value ∙ ap (λ (x : ProgramSet). proc_count x.topo) (c.set.view_is ∙ sym f.set_is);
        depth_is = c.from.ensures ∙ ap (λ (x : ProgramSet). x.depth) (c.set.view_is ∙ sym f.set_is);
        ends_are = f.ends.ends_are c.args.p.0 c.index.result.now (read_at c.args.self.now.parts.ends c.args.p.0 c.index.result.now (omega arith) c.index.ensures);
        sides_are = f.sides.sides_are c.args.p.0 c.index-2.result.now (read_at c.args.self.now.sides c.args.p.0 c.index-2.result.now (omega arith) c.index-2.ensures);
      };
      index_is = c.place_of.ensures ∙ ap (λ n. c.args.p.0 / n) (sym f.workers_are);
    }
