use Rattle.std.proofs.Common.{arith, ◌+◌, ◌-◌, ◌<◌, length, sym, ap, ◌∙◌, subst}
use Rattle.raw_grid.specs.Topology.{proc_count}
use Rattle.raw_grid.specs.Wires.{wires_of}
use Rattle.raw_model.specs.Program.{ProgramSet}
use Rattle.raw_path.specs.declared.stretch.Stretch.{Stretch}
use Rattle.raw_path.specs.Path.{waited_for}
use Rattle.raw_path.specs.Known.{IsTold}
use Rattle.raw_path.proofs.Reaching.{wire_there}
use Rattle.raw_path.proofs.Telling.{told_same, told_next}
use Rattle.raw_path.proofs.Walks.{hop_at, hop_here, leads_of, IsWalked, walked_on, walked_all}
use Rattle.raw_path.proofs.walking.walk.Goals as goal

pub stretch_from-requires-clause-wire : goal.stretch_from-requires-clause-wire
stretch_from-requires-clause-wire c =
    let set = c.args.set.now in
    let hops = c.args.hops.now in
    let e = c.hops.end in
    let is = c.hops.invariant.1.end in
    let h = hop_at hops c.in-Some.i in
    let leads = leads_of set hops e c.in-Some.i h is c.in-Some.is (hop_here set hops e c.in-Some.i is c.in-Some.is) in
    subst (λ (s : ProgramSet). h.wire < length (wires_of s.topo)) (sym c.set.view_is)
    (wire_there set c.requires.valid hops h.before.to e.p h.wire is.there leads.waited)

pub stretch_from-requires-clause-early : goal.stretch_from-requires-clause-early
stretch_from-requires-clause-early c =
    let set = c.args.set.now in
    let hops = c.args.hops.now in
    let e = c.hops.end in
    let is = c.hops.invariant.1.end in
    (leads_of set hops e c.in-Some.i (hop_at hops c.in-Some.i) is c.in-Some.is (hop_here set hops e c.in-Some.i is c.in-Some.is)).early

pub hops-smaller : goal.hops-smaller
hops-smaller c =
    let set = c.args.set.now in
    let hops = c.args.hops.now in
    let e = c.hops.end in
    let is = c.hops.invariant.1.end in
    let leads = leads_of set hops e c.in-Some.i (hop_at hops c.in-Some.i) is c.in-Some.is (hop_here set hops e c.in-Some.i is c.in-Some.is) in
    let some = leads.some in
    let early = leads.early in
    omega (arith, some, early)

pub hops-preserved : goal.hops-preserved
hops-preserved c =
    let set = c.args.set.now in
    let hops = c.args.hops.now in
    let e = c.hops.end in
    let is = c.hops.invariant.1 in
    let h = hop_at hops c.in-Some.i in
    let old = c.hops.told in
    let new = c.add.new.self in
    let s = c.stretch_from.result in
    let made =
    c.stretch_from.ensures
    ∙ ap (λ (g : ProgramSet). let x : Stretch = record { p = e.p; from = h.from; turns = e.to + 1 - h.from; first = h.first; last = e.last; wait = waited_for g.topo e.p h.wire } in x) c.set.view_is in (
      told_same (proc_count set.topo) c.args.last.stalled _ new (told_next (proc_count set.topo) c.args.last.stalled old.stretches.items s old new c.hops.invariant.0 c.in_ok-add.ensures),
      subst (λ ss. IsWalked set hops c.args.last h.before ss) (sym c.in_ok-add.ensures.stretches)
          (walked_on set hops c.args.last e old.stretches.items c.in-Some.i h s is c.requires.hops c.in-Some.is (hop_here set hops e c.in-Some.i is.end c.in-Some.is) made),
    )

pub returns : goal.returns
returns c =
    let set = c.args.set.now in
    let old = c.hops.told in
    let s = c.first_stretch.result in
    subst (λ ss. IsTold (proc_count set.topo) c.args.last.stalled ss c.add-2.new.self)
    (walked_all set c.args.hops.now c.args.last c.hops.end old.stretches.items s c.hops.invariant.1 c.in_default.is c.first_stretch.ensures)
    (told_next (proc_count set.topo) c.args.last.stalled old.stretches.items s old c.add-2.new.self c.hops.invariant.0 c.in_ok-add-2.ensures)
