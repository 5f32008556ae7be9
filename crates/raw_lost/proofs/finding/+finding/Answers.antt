use Rattle.std.proofs.Common.{◌≡◌, suc, ◌-◌, ◌<◌, length, Some, None, sym, ap, ◌∙◌, subst, arith}
use Rattle.std.proofs.lemmas.Option.{slice_get-get_or}
use Rattle.raw_grid.specs.Topology.{proc_count}
use Rattle.raw_grid.specs.Wires.{wires_of, producer_of, consumer_of}
use Rattle.raw_model.specs.Program.{ProgramSet}
use Rattle.raw_pace.specs.Path.{far_end}
use Rattle.raw_clock.specs.Clock.{clock}
use Rattle.raw_steady.specs.Steady.{root}
use Rattle.raw_lost.specs.Lost.{kind_at, root_kind}
use Rattle.raw_lost.proofs.Roots.{wire_there, far_there, led_on, same_root, kinds_put}
use Rattle.raw_lost.proofs.finding.+finding.Goals as goal

pub follow-far_end-next-requires : goal.follow-far_end-next-requires
follow-far_end-next-requires t c =
    let set = c.args.set.now in
    let wire = c.in-Waits.wire in
    subst (λ (s : ProgramSet). wire.0 < length (wires_of s.topo)) (sym c.set.view_is)
    (wire_there set c.requires.valid c.args.cycles c.args.p wire c.requires.there (sym c.in-Waits.is ∙ c.requires.turn))

pub follow-kind_of_root-requires : goal.follow-kind_of_root-requires
follow-kind_of_root-requires t c =
    let set = c.args.set.now in
    let valid = c.requires.valid in
    let k = c.args.cycles in
    let p = c.args.p in
    let wire = c.in-Waits.wire in
    let turn = sym c.in-Waits.is ∙ c.requires.turn in
    let far = far_end (producer_of set.topo) (consumer_of set.topo) p wire.0 in
    let same : c.far_end-next.result ≡ far =
    c.far_end-next.ensures ∙ ap (λ (s : ProgramSet). far_end (producer_of s.topo) (consumer_of s.topo) p wire.0) c.set.view_is in
    let there : c.far_end-next.result < proc_count set.topo =
    subst (λ q. q < proc_count set.topo) (sym same) (far_there set valid k p wire.0 (wire_there set valid k p wire c.requires.there turn)) in
    let next : suc (c.args.left - 1) ≡ c.args.left = omega (arith, c.if-left-eq0.false) in
    let enough : root set (clock set k) (c.args.left - 1) c.far_end-next.result ≡ root set (clock set k) (suc (proc_count set.topo)) c.far_end-next.result =
    subst (λ q. root set (clock set k) (c.args.left - 1) q ≡ root set (clock set k) (suc (proc_count set.topo)) q) (sym same)
    (sym (led_on set valid k (c.args.left - 1) p wire turn)
    ∙ ap (λ n. root set (clock set k) n p) next
    ∙ c.requires.enough
    ∙ same_root set valid k p wire c.requires.there turn) in
    (omega (arith, c.decreases, c.if-left-eq0.false), (valid, (there, (c.requires.many, (c.requires.turns, (c.requires.kinds, enough))))))

pub follow-returns-else-left-eq0-clause-kind : goal.follow-returns-else-left-eq0-clause-kind
follow-returns-else-left-eq0-clause-kind t c =
    let set = c.args.set.now in
    let k = c.args.cycles in
    let p = c.args.p in
    let wire = c.in-Waits.wire in
    let turn = sym c.in-Waits.is ∙ c.requires.turn in
    let far = far_end (producer_of set.topo) (consumer_of set.topo) p wire.0 in
    let same : c.far_end-next.result ≡ far =
    c.far_end-next.ensures ∙ ap (λ (s : ProgramSet). far_end (producer_of s.topo) (consumer_of s.topo) p wire.0) c.set.view_is in
    c.kind_of_root.ensures.kind
    ∙ ap (λ q. root_kind set (clock set k) q) same
    ∙ ap (kind_at set (clock set k)) (sym (same_root set c.requires.valid k p wire c.requires.there turn))

pub kind_of_root-returns-in-Some-clause-kind : goal.kind_of_root-returns-in-Some-clause-kind
kind_of_root-returns-in-Some-clause-kind t c =
    let kinds = c.args.kinds.now in
    let many = c.requires.kinds.many in
    let there = c.requires.there in
    c.requires.kinds.each c.args.p c.in-Some.kind (slice_get-get_or kinds c.args.p None (omega (arith, many, there)) ∙ ap Some c.in-Some.is)

pub kind_of_root-returns-in-None-clause-kinds : goal.kind_of_root-returns-in-None-clause-kinds
kind_of_root-returns-in-None-clause-kinds t c =
    kinds_put c.args.set.now c.requires.valid c.args.cycles c.follow-kind.new.kinds c.args.p c.follow-kind.result c.follow-kind.ensures.kinds c.follow-kind.ensures.kind
