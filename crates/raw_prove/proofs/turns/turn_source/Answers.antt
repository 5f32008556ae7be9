use Rattle.std.proofs.Common.{◌≡◌, ◌+◌, ◌<◌, false, None, [], length, sym, ap, ◌∙◌, arith}
use Rattle.std.specs.Prelude.{slice_index, nat_le}
use Rattle.std.proofs.lemmas.Bool.{leb-false}
use Rattle.raw_model.specs.Local.{Source, PortLocal}
use Rattle.raw_model.specs.Machine.{is_stopped, port_program, words_of}
use Rattle.raw_processor.specs.Given.{wires_in}
use Rattle.raw_serial.specs.Needs.{AreNeedsOf, unmet_of}
use Rattle.raw_term.specs.TermMachine.{numbered}
use Rattle.raw_prove.proofs.Turning.{source_stopped_idle, source_unmet_idle, source_there, source_room, source_fired}
use Rattle.raw_prove.proofs.turns.turn_source.Goals as goal
use Rattle.raw_prove.proofs.turns.turn_source.Goals.{After-source_needs, After-next_number-number}

needs : (c : After-source_needs)
    → AreNeedsOf c.args.set.now c.args.p.0 (Source c.args.unit.now.port.local) c.args.ends.now (wires_in c.source_needs.result.inputs c.args.ends.now.inputs) (wires_in c.source_needs.result.outputs c.args.ends.now.outputs)
needs c = record {
  ends = c.requires.stands.ends_are;
  takes = c.source_needs.ensures.takes c.args.ends.now;
  sends = c.source_needs.ensures.sends c.args.set.now.topo c.args.p.0 c.args.ends.now c.requires.stands.ends_are;
}

needs_then : (c : After-next_number-number)
    → AreNeedsOf c.args.set.now c.args.p.0 (Source c.args.unit.now.port.local) c.args.ends.now (wires_in c.source_needs.result.inputs c.args.ends.now.inputs) (wires_in c.source_needs.result.outputs c.args.ends.now.outputs)
needs_then c = record {
  ends = c.requires.stands.ends_are;
  takes = c.source_needs.ensures.takes c.args.ends.now;
  sends = c.source_needs.ensures.sends c.args.set.now.topo c.args.p.0 c.args.ends.now c.requires.stands.ends_are;
}

going : (c : After-next_number-number) → is_stopped c.args.set.now c.args.p.0 (Source c.args.unit.now.port.local) ≡ false
going c = ap (λ ws. nat_le (length ws) c.args.unit.now.port.local.done) (sym c.words_of-words.ensures) ∙ sym c.is_spent.ensures ∙ c.if-is_spent.false

below : (c : After-next_number-number) → c.args.unit.now.port.local.done < length (words_of (port_program c.args.set.now c.args.p.0))
below c = leb-false (length (words_of (port_program c.args.set.now c.args.p.0))) c.args.unit.now.port.local.done (going c)

none : (c : After-next_number-number) → unmet_of c.args.set.now c.args.p.0 (Source c.args.unit.now.port.local) c.args.wires.now ≡ None
none c = sym (c.in_default.ensures c.args.p.0 (Source c.args.unit.now.port.local) (needs_then c))

number : (c : After-next_number-number) → c.next_number-number.result ≡ slice_index (words_of (port_program (numbered c.args.set.now) c.args.p.0)) c.args.unit.now.port.local.done
number c = c.next_number-number.ensures.number ∙ sym (c.requires.unit.words c.args.unit.now.port.local.done (below c))

pub returns-then-is_spent-clause-turn : goal.returns-then-is_spent-clause-turn
returns-then-is_spent-clause-turn c = λ nodes.
    source_stopped_idle c.args.set.now c.args.p.0 c.args.unit.now.port.local nodes c.args.wires.now c.requires.unit.many
    (ap (λ ws. nat_le (length ws) c.args.unit.now.port.local.done) (sym c.words_of-words.ensures) ∙ sym c.is_spent.ensures ∙ c.if-is_spent.true)

pub unmet_at-requires-clause-needs : goal.unmet_at-requires-clause-needs
unmet_at-requires-clause-needs c = record { p = c.args.p.0; l = Source c.args.unit.now.port.local; needs = needs (goal.at.unmet_at-requires-clause-needs c).After-source_needs }

pub returns-in-Some-clause-turn : goal.returns-in-Some-clause-turn
returns-in-Some-clause-turn c = λ nodes.
    source_unmet_idle c.args.set.now c.args.p.0 c.args.unit.now.port.local nodes c.args.wires.now c.requires.unit.many c.in-Some._wire.0
    (sym (c.in-Some.ensures c.args.p.0 (Source c.args.unit.now.port.local) (needs (goal.at.returns-in-Some-clause-turn c).After-source_needs)))

pub next_number-number-requires : goal.next_number-number-requires
next_number-number-requires c =
    let l : PortLocal = c.args.unit.now.port.local in
    let going : is_stopped c.args.set.now c.args.p.0 (Source l) ≡ false =
    ap (λ ws. nat_le (length ws) l.done) (sym c.words_of-words.ensures) ∙ sym c.is_spent.ensures ∙ c.if-is_spent.false in
    omega (arith, leb-false (length (words_of (port_program c.args.set.now c.args.p.0))) l.done going, c.requires.unit.few)

pub put_out-requires-clause-there : goal.put_out-requires-clause-there
put_out-requires-clause-there c =
    let at = (goal.at.put_out-requires-clause-there c).After-next_number-number in
    source_there c.args.set.now c.args.p.0 c.args.ends.now c.args.unit.now.port.local [] c.args.wires.now c.next_number-number.result c.requires.stands.ends_are c.requires.unit.many (number at)
    (going at) (none at) (length c.args.wires.now) c.requires.stands.each

pub put_out-requires-clause-room : goal.put_out-requires-clause-room
put_out-requires-clause-room c =
    let at = (goal.at.put_out-requires-clause-room c).After-next_number-number in
    source_room c.args.set.now c.args.p.0 c.args.ends.now c.args.unit.now.port.local [] c.args.wires.now c.next_number-number.result c.requires.stands.ends_are c.requires.unit.many (number at)
    (going at) (none at) c.requires.stands.valid.small_depth

pub returns-clause-turn : goal.returns-clause-turn
returns-clause-turn c = λ nodes.
    let at = (goal.at.returns-clause-turn c).After-next_number-number in
    source_fired c.args.set.now c.args.p.0 c.args.ends.now c.args.unit.now.port.local nodes c.args.wires.now c.next_number-number.result c.requires.stands.ends_are c.requires.unit.many (number at)
    (going at) (none at) c.next_number-number.new.unit.port.local c.put_out.new.self c.next_number-number.ensures.next c.put_out.ensures

pub returns-clause-kept : goal.returns-clause-kept
returns-clause-kept c = record {
  kind = c.requires.unit.kind;
  many = c.requires.unit.many;
  words = λ k h. c.requires.unit.words k h ∙ ap (λ n. n + k) (sym c.next_number-number.ensures.first);
  few = omega (arith, c.requires.unit.few, c.next_number-number.ensures.first);
}
