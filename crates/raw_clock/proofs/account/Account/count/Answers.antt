use Rattle.std.proofs.Common.{arith, ◌≡◌, ◌<◌, ◌-◌, sym, ap, subst}
use Rattle.std.specs.Prelude.{slice_index}
use Rattle.raw_clock.specs.declared.account.Account.{Account}
use Rattle.raw_clock.specs.Tally.{IsTallyBy, IsNoted}
use Rattle.raw_clock.proofs.Tallying.{put_at, at_ends, waits_there, room_at, room_for_inputs, room_for_outputs}
use Rattle.raw_clock.proofs.Accounting.{since_is, turn_is, counted_since, counted_none, counted_more}
use Rattle.raw_clock.proofs.account.Account.count.Goals.{then-since-cycles, else-since-cycles}
use Rattle.raw_clock.proofs.account.Account.count.Goals as goal

pub note-requires-clause-wire : goal.note-requires-clause-wire
note-requires-clause-wire c =
    let g = c.args.set.now in
    let p = c.args.p.0 in
    let a = c.args.self.now in
    let is = c.requires.stands.account in
    let turn = c.index.result.now in
    let since = since_is g c.requires.valid c.args.cycles a is p c.requires.there c.index-since.result.now c.index-since.ensures in
    let here = turn_is g c.requires.valid c.args.cycles a is p c.requires.there turn c.index.ensures in
    let less : slice_index a.since.items p < c.args.cycles = omega (arith, since, c.if-since-cycles.true) in
    waits_there g c.requires.valid p turn
    (at_ends g c.requires.valid (slice_index a.since.items p) p c.requires.there turn (sym (is.steady p (slice_index a.since.items p) turn here (omega arith) less)))

pub note-requires-clause-room : goal.note-requires-clause-room
note-requires-clause-room c =
    let is = c.requires.stands.account in
    room_at c.args.set.now c.requires.valid (λ q. slice_index c.args.self.now.since.items q) c.args.cycles c.requires.stands.few is.before c.args.self.now.tally is.counted c.args.p.0

pub note-requires-clause-inputs : goal.note-requires-clause-inputs
note-requires-clause-inputs c =
    let is = c.requires.stands.account in
    room_for_inputs c.args.set.now c.requires.valid (λ q. slice_index c.args.self.now.since.items q) c.args.cycles c.requires.stands.few is.before c.args.self.now.tally is.counted

pub note-requires-clause-outputs : goal.note-requires-clause-outputs
note-requires-clause-outputs c =
    let is = c.requires.stands.account in
    room_for_outputs c.args.set.now c.requires.valid (λ q. slice_index c.args.self.now.since.items q) c.args.cycles c.requires.stands.few is.before c.args.self.now.tally is.counted

pub returns-clause-account : goal.returns-clause-account
returns-clause-account c =
    let g = c.args.set.now in
    let p = c.args.p.0 in
    let a = c.args.self.now in
    let n = c.args.cycles in
    let is = c.requires.stands.account in
    let valid = c.requires.valid in
    let since = since_is g valid n a is p c.requires.there c.index-since.result.now c.index-since.ensures in
    let parts : (c.if-since-cycles.self.turns.items ≡ a.turns.items) × (put_at c.if-since-cycles.self.since.items p n ≡ put_at a.since.items p n)
    × IsTallyBy g (λ q. slice_index (put_at a.since.items p n) q) c.if-since-cycles.self.tally =
    elim c.if-since-cycles.branch [
      | then-since-cycles w ↦ (
        ap (λ (b : Account). b.turns.items) w.self-is,
        ap (λ (b : Account). put_at b.since.items p n) w.self-is,
        subst (λ t. IsTallyBy g (λ q. slice_index (put_at a.since.items p n) q) t) (sym (ap (λ (b : Account). b.tally) w.self-is))
            (counted_since g valid n a is p c.requires.there w.index.result.now w.note.new.self (turn_is g valid n a is p c.requires.there w.index.result.now w.index.ensures)
            (omega (arith, since, w.if-since-cycles.true))
            (subst (λ k. IsNoted g.topo p w.index.result.now (n - k) a.tally w.note.new.self) since w.note.ensures)),
      )
      | else-since-cycles w ↦ (
        ap (λ (b : Account). b.turns.items) w.self-is,
        ap (λ (b : Account). put_at b.since.items p n) w.self-is,
        subst (λ t. IsTallyBy g (λ q. slice_index (put_at a.since.items p n) q) t) (sym (ap (λ (b : Account). b.tally) w.self-is))
            (counted_none g valid n a is p c.requires.there (omega (arith, since, w.if-since-cycles.false))),
      )
    ] in
    counted_more g valid n a is p c.requires.there _ parts.0 parts.1 parts.2
