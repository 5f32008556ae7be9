use Rattle.std.proofs.Common.{arith, ◌≡◌, true, ◌<◌, ◌+◌, [], ◌∷◌, ◌++◌, length, Some, sym, ap, ◌∙◌, subst}
use Rattle.raw_pace.specs.Path.{far_end}
use Rattle.raw_grid.specs.Wires.{wires_of, producer_of, consumer_of}
use Rattle.raw_model.specs.Program.{ProgramSet}
use Rattle.raw_clock.specs.Clock.{goes, is_stalled}
use Rattle.raw_path.specs.declared.hops.End.{End}
use Rattle.raw_path.specs.Path.{goes_in, one_stall}
use Rattle.raw_path.specs.Known.{IsEnd, AreHops, AreKept, IsReached}
use Rattle.raw_path.proofs.Kept.{kept_push, hops_push}
use Rattle.raw_path.proofs.Reaching.{one_at_most, seen_at, known_at, own_few, own_reached, HasWaited, has_waited, far_few, far_end_is, hop_to, end_by, far_reached}
use Rattle.raw_path.proofs.seen.reach.Goals as goal
use Rattle.raw_path.proofs.seen.reach.Goals.{In-Some}

-- the processor waited in the cycle before, and the other end of its wire went on
has : (c : In-Some) → HasWaited c.args.set.now c.requires.valid c.args.hops.now.items c.args.cycles c.args.p c.in-Some.wire
has c =
    has_waited c.args.set.now c.requires.valid c.args.hops.now.items c.args.cycles c.args.p c.in-Some.wire (seen_at c.args.seen.now c.args.p)
    (known_at c.args.set.now c.args.hops.now.items c.args.cycles c.args.seen.now c.args.p c.requires.known c.requires.there) c.requires.there
    (sym c.wire_of.ensures ∙ c.in-Some.is) (ap goes (sym c.requires.turn) ∙ sym c.goes.ensures ∙ c.if-not-goes.false)

pub overflow_add-result : goal.overflow_add-result
overflow_add-result c =
    let set = c.args.set.now in
    let on : goes_in set c.args.cycles c.args.p ≡ true = ap goes (sym c.requires.turn) ∙ sym c.goes.ensures ∙ c.if-not-goes.false in
    let own = known_at set c.args.hops.now.items c.args.cycles c.args.seen.now c.args.p c.requires.known c.requires.there in
    let few = own_few set c.requires.valid c.args.hops.now.items c.args.cycles c.args.p (seen_at c.args.seen.now c.args.p) own c.requires.there (sym c.wire_of.ensures ∙ c.in-None.is) on in
    omega (arith, few, one_at_most (is_stalled c.args.turn), c.one_stall.ensures, c.requires.few)

pub far_end-requires : goal.far_end-requires
far_end-requires c =
    subst (λ (s : ProgramSet). c.in-Some.wire < length (wires_of s.topo)) (sym c.set.view_is) (has (goal.at.far_end-requires c).In-Some).wire

pub bounds-seen-far_end : goal.bounds-seen-far_end
bounds-seen-far_end c =
    let same = c.far_end.ensures ∙ ap (λ (s : ProgramSet). far_end (producer_of s.topo) (consumer_of s.topo) c.args.p c.in-Some.wire) c.set.view_is in
    let there = (has (goal.at.bounds-seen-far_end c).In-Some).there in
    let many = c.requires.known.many in
    omega (arith, same, there, many)

pub overflow_add-result-in-Some : goal.overflow_add-result-in-Some
overflow_add-result-in-Some c =
    let set = c.args.set.now in
    let hops = c.args.hops.now.items in
    let seen = c.args.seen.now in
    let n = c.args.cycles in
    let p = c.args.p in
    let w = c.in-Some.wire in
    let waited = has (goal.at.overflow_add-result-in-Some c).In-Some in
    let same = c.far_end.ensures ∙ ap (λ (s : ProgramSet). far_end (producer_of s.topo) (consumer_of s.topo) p w) c.set.view_is in
    let far = far_end (producer_of set.topo) (consumer_of set.topo) p w in
    let few = far_few set c.requires.valid hops n p w waited (seen_at seen far) (known_at set hops n seen far c.requires.known waited.there) in
    let here = ap (λ q. (seen_at seen q).end.stalled) same in
    omega (arith, few, here, one_at_most (is_stalled c.args.turn), c.one_stall-in-Some.ensures, c.requires.few)

pub returns-in-None-clause-reached : goal.returns-in-None-clause-reached
returns-in-None-clause-reached c =
    λ went.
    let set = c.args.set.now in
    let hops = c.args.hops.now.items in
    let n = c.args.cycles in
    let p = c.args.p in
    let own = seen_at c.args.seen.now p in
    let on : goes_in set n p ≡ true = ap goes (sym c.requires.turn) ∙ went in
    let known = known_at set hops n c.args.seen.now p c.requires.known c.requires.there in
    let stall = c.one_stall.ensures ∙ ap (λ t. one_stall (is_stalled t)) c.requires.turn in
    subst (λ k. let e : End = record { p = p; to = n; last = own.pc; stalled = own.end.stalled + k; hop = own.end.hop } in IsReached set hops n p e) (sym stall)
    (own_reached set c.requires.valid hops n p own known c.requires.there (sym c.wire_of.ensures ∙ c.in-None.is) on)

pub returns-in_ok-push-in-Some-clause-reached : goal.returns-in_ok-push-in-Some-clause-reached
returns-in_ok-push-in-Some-clause-reached c =
    λ went.
    let set = c.args.set.now in
    let hops = c.args.hops.now.items in
    let seen = c.args.seen.now in
    let n = c.args.cycles in
    let p = c.args.p in
    let w = c.in-Some.wire in
    let own = seen_at seen p in
    let q = c.far_end.result in
    let other = seen_at seen q in
    let known = known_at set hops n seen p c.requires.known c.requires.there in
    let waited = has (goal.at.returns-in_ok-push-in-Some-clause-reached c).In-Some in
    let far = far_end (producer_of set.topo) (consumer_of set.topo) p w in
    let same : q ≡ far = c.far_end.ensures ∙ ap (λ (s : ProgramSet). far_end (producer_of s.topo) (consumer_of s.topo) p w) c.set.view_is in
    let stall = c.one_stall-in-Some.ensures ∙ ap (λ t. one_stall (is_stalled t)) c.requires.turn in
    let base =
    subst (λ r. IsReached set (hops ++ hop_to set c.requires.valid hops n w own (seen_at seen r) ∷ []) n p (end_by set c.requires.valid hops n p own (seen_at seen r))) (sym same)
    (far_reached set c.requires.valid hops n p w own (seen_at seen far) waited known (known_at set hops n seen far c.requires.known waited.there) c.requires.there) in
    let counted =
    subst
    (λ k.
    let e : End = record { p = p; to = n; last = own.pc; stalled = other.end.stalled + k; hop = Some (length hops) } in
    IsReached set (hops ++ hop_to set c.requires.valid hops n w own other ∷ []) n p e)
    (sym stall) base in
    let numbered =
    subst
    (λ k.
    let e : End = record { p = p; to = n; last = own.pc; stalled = other.end.stalled + c.one_stall-in-Some.result; hop = Some k } in
    IsReached set (hops ++ hop_to set c.requires.valid hops n w own other ∷ []) n p e)
    (sym (c.len-hop.ensures ∙ c.args.hops.now.ok.0)) counted in
    subst
    (λ xs.
    let e : End = record { p = p; to = n; last = own.pc; stalled = other.end.stalled + c.one_stall-in-Some.result; hop = Some c.len-hop.result } in
    IsReached set xs n p e)
    (sym c.in_ok-push-in-Some.ensures.items) numbered

pub returns-in_ok-push-in-Some-clause-hops : goal.returns-in_ok-push-in-Some-clause-hops
returns-in_ok-push-in-Some-clause-hops c =
    let set = c.args.set.now in
    let hops = c.args.hops.now.items in
    let seen = c.args.seen.now in
    let n = c.args.cycles in
    let p = c.args.p in
    let w = c.in-Some.wire in
    let own = seen_at seen p in
    let q = c.far_end.result in
    let waited = has (goal.at.returns-in_ok-push-in-Some-clause-hops c).In-Some in
    let far = far_end (producer_of set.topo) (consumer_of set.topo) p w in
    let same : q ≡ far = c.far_end.ensures ∙ ap (λ (s : ProgramSet). far_end (producer_of s.topo) (consumer_of s.topo) p w) c.set.view_is in
    let end : IsEnd set hops (seen_at seen q).end =
    subst (λ r. IsEnd set hops (seen_at seen r).end) (sym same)
    (far_end_is set c.requires.valid hops n p w waited (seen_at seen far) (known_at set hops n seen far c.requires.known waited.there)) in
    subst (λ xs. AreHops set xs) (sym c.in_ok-push-in-Some.ensures.items)
    (hops_push set hops (hop_to set c.requires.valid hops n w own (seen_at seen q)) c.requires.hops end)

pub returns-in_ok-push-in-Some-clause-kept : goal.returns-in_ok-push-in-Some-clause-kept
returns-in_ok-push-in-Some-clause-kept c =
    subst (λ xs. AreKept c.args.hops.now.items xs) (sym c.in_ok-push-in-Some.ensures.items) (kept_push c.args.hops.now.items _)
