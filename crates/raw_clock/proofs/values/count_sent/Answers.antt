use Rattle.std.proofs.Common.{◌≡◌, ℕ, ◌+◌, ◌<◌, List, length, set, get_or, refl, sym, ap, subst, ◌∙◌, arith}
use Rattle.std.specs.Prelude.{slice_index}
use Rattle.std.proofs.lemmas.List.Elements.{All-get_or}
use Rattle.raw_network.specs.Network.{Sent}
use Rattle.raw_clock.proofs.Sending.{AreCountedTo, counted_next, counted_all}
use Rattle.raw_clock.proofs.values.count_sent.Goals as goal
use Rattle.raw_clock.proofs.values.count_sent.Goals.{After-value}

pub loop-i-init : goal.loop-i-init
loop-i-init c = (refl, record { each = refl; more = λ w within. refl; few = λ w. omega arith })

-- the wire of the value that is counted
wire_is : (c : After-value) → c.value.inside.wire ≡ (get_or c.args.sent.now c.loop-i.i c.index-sent-i.result).wire
wire_is c = ap (λ (m : Sent). m.wire) (c.value.view_is ∙ c.index-sent-i.is)

there : (c : After-value) → (get_or c.args.sent.now c.loop-i.i c.index-sent-i.result).wire < length c.loop-i.passed
there c =
    let within = All-get_or (λ (m : Sent). m.wire < length c.args.passed.now) c.args.sent.now c.loop-i.i c.index-sent-i.result c.loop-i-test.true c.requires.there in
    omega (arith, within, c.loop-i.invariant.1.each)

pub count-requires-clause-there : goal.count-requires-clause-there
count-requires-clause-there c =
    let at = (goal.at.count-requires-clause-there c).After-value in
    omega (arith, there at, wire_is at)

pub count-requires-clause-room : goal.count-requires-clause-room
count-requires-clause-room c =
    let few = c.loop-i.invariant.1.few c.value.inside.wire in
    let room = c.requires.room c.value.inside.wire in
    omega (arith, few, room, c.requires.few, c.loop-i-test.true)

pub loop-i-preserved : goal.loop-i-preserved
loop-i-preserved c =
    let at = (goal.at.loop-i-preserved c).After-value in (
      refl,
      subst (λ (now : List ℕ). AreCountedTo c.args.sent.now (c.loop-i.i + 1) c.args.passed.now now)
          (sym (c.count.ensures ∙ ap (λ w. set c.loop-i.passed w (slice_index c.loop-i.passed w + 1)) (wire_is at)))
          (counted_next c.args.sent.now c.loop-i.i c.index-sent-i.result c.args.passed.now c.loop-i.passed c.loop-i-test.true (there at) c.loop-i.invariant.1),
    )

pub returns-clause-counted : goal.returns-clause-counted
returns-clause-counted c = counted_all c.args.sent.now c.loop-i.i c.args.passed.now c.loop-i.passed (omega (arith, c.loop-i-test.false, c.loop-i.invariant.0)) c.loop-i.invariant.1

pub returns-clause-few : goal.returns-clause-few
returns-clause-few c = λ w. omega (arith, c.loop-i.invariant.1.few w, c.requires.few, c.loop-i.auto.i-end, c.loop-i.invariant.0)
