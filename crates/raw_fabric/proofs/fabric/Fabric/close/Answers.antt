use Rattle.std.proofs.Common.{◌≡◌, ℕ, ◌<◌, List, [], map, length, sym, ap, ◌∙◌, subst, arith}
use Rattle.std.specs.Prelude.{slice_index_or}
use Rattle.std.specs.Mem.Slots.{slots_items}
use Rattle.std.proofs.lemmas.List.{length-map, with_items_is}
use Rattle.arrayvec.specs.ArrayVec.{ArrayVec}
use Rattle.raw_model.specs.Program.{ProgramSet}
use Rattle.std.specs.Vec.{with_items}
use Rattle.raw_serial.specs.declared.parts.Parts.{Parts}
use Rattle.raw_serial.specs.Parts.{running_of}
use Rattle.raw_serial.specs.Running.{Running}
use Rattle.raw_serial.specs.Taken.{IsWhole}
use Rattle.raw_fabric_rule.specs.ByEnds.{wires}
use Rattle.raw_fabric_rule.specs.Closing.{wire_of}
use Rattle.raw_steps.specs.declared.log.PassLog.{PassLog}
use Rattle.raw_fabric.specs.Opened.{about_of}
use Rattle.raw_fabric.specs.Closed.{IsClosedTo, AreHeld}
use Rattle.raw_fabric.proofs.Opening.{some_words}
use Rattle.raw_fabric.proofs.Shut.{whole_of, closed_to, held_in}
use Rattle.raw_fabric.proofs.fabric.Fabric.close.Goals as goal
use Rattle.raw_fabric.proofs.fabric.Fabric.close.Goals.{After-read_wires, After-from_parts}

pub gather-seat-requires : goal.gather-seat-requires
gather-seat-requires c =
    let f = c.requires.fabric in
    let some = some_words (about_of c.args.self).set f.valid in
    let words = f.words_are in
    record {
      stands = record {
        some = f.some_worker;
        words = omega arith;
        passes_are = c.requires.passes;
        processors_many = ap length c.as_mut_slice.ensures.value ∙ f.processors;
        logs_many = ap length c.as_mut_slice-2.ensures.value ∙ f.logs;
      };
    }

abbrev items : ArrayVec ℕ → List ℕ
items queue = queue.items

-- what the fabric holds once it is read
own : (c : After-read_wires) → (with_items c.args.self.parts.processors c.gather-seat.new.processors).items ≡ c.gather-seat.new.processors
own c =
    let all = c.gather-seat.ensures.gathered.processors_all in
    let each = c.requires.fabric.processors in
    let ok = c.args.self.parts.processors.ok in
    with_items_is c.args.self.parts.processors c.gather-seat.new.processors (omega arith)

many : (c : After-read_wires) → length c.read_wires.new.queues ≡ length c.args.self.parts.wires.items
many c = c.read_wires.auto.queues ∙ ap length c.as_mut_slice-3.ensures.value

wires_own : (c : After-read_wires) → (with_items c.args.self.parts.wires c.read_wires.new.queues).items ≡ c.read_wires.new.queues
wires_own c =
    let many = many c in
    let ok = c.args.self.parts.wires.ok in
    with_items_is c.args.self.parts.wires c.read_wires.new.queues (omega arith)

logs_own : (c : After-read_wires) → (with_items c.args.self.logs c.gather-seat.new.logs).items ≡ c.gather-seat.new.logs
logs_own c =
    let all = c.gather-seat.ensures.gathered.logs_all in
    let each = c.requires.fabric.logs in
    let ok = c.args.self.logs.ok in
    with_items_is c.args.self.logs c.gather-seat.new.logs (omega arith)

long : (c : After-read_wires) → length (map items c.read_wires.new.queues) ≡ wires (about_of c.args.self).set
long c = length-map c.read_wires.new.queues items ∙ many c ∙ c.requires.fabric.wires

read : (c : After-read_wires) (w : ℕ) → w < wires (about_of c.args.self).set
    → slice_index_or (map items c.read_wires.new.queues) w [] ≡ wire_of (about_of c.args.self).set (slots_items c.close_table-closed.result.words) w
read c =
    subst (λ (s : ProgramSet). (w : ℕ) → w < wires s → slice_index_or (map items c.read_wires.new.queues) w [] ≡ wire_of s (slots_items c.close_table-closed.result.words) w) (sym c.requires.fabric.set_is)
    c.read_wires.ensures

-- the machine that is made
made : (c : After-from_parts) → c.from_parts.result ≡ running_of (about_of c.args.self).set c.gather-seat.new.processors (map items c.read_wires.new.queues)
made c = c.from_parts.ensures.made ∙ (λ i. running_of ((c.from_parts.ensures.set ∙ sym c.requires.fabric.set_is) i) (own (goal.at.After-from_parts c).After-read_wires i) (map items (wires_own (goal.at.After-from_parts c).After-read_wires i)))

pub from_parts-requires : goal.from_parts-requires
from_parts-requires c =
    let at = (goal.at.from_parts-requires c).After-read_wires in
    let f = c.requires.fabric in
    let self = c.args.self in
    let closed = c.close_table-closed.ensures.closed in
    let parts : Parts = record { ends = self.parts.ends; processors = with_items self.parts.processors c.gather-seat.new.processors; wires = with_items self.parts.wires c.read_wires.new.queues } in
    subst (λ (s : ProgramSet). IsWhole s parts) f.set_is
    (whole_of (about_of self) (slots_items c.close_table-closed.result.words) c.gather-seat.result.me.0 closed.0 c.gather-seat.new.processors (map items c.read_wires.new.queues) c.gather-seat.new.logs f.valid f.some_worker closed.1
    c.gather-seat.ensures.gathered (long at) (read at) parts f.ends (own at) (ap (map items) (wires_own at)) f.reached)

pub returns-clause-closed : goal.returns-clause-closed
returns-clause-closed c =
    let at = (goal.at.returns-clause-closed c).After-from_parts in
    let now = (goal.at.returns-clause-closed c).After-read_wires in
    let f = c.requires.fabric in
    let a = about_of c.args.self in
    let closed = c.close_table-closed.ensures.closed in
    subst (λ (q : Running × List PassLog). IsClosedTo a q.0 q.1) (λ i. (sym (made at) i, sym (logs_own now) i))
    (closed_to a (slots_items c.close_table-closed.result.words) c.gather-seat.result.me.0 closed.0 c.gather-seat.new.processors (map items c.read_wires.new.queues) c.gather-seat.new.logs f.valid f.some_worker closed.1
    c.gather-seat.ensures.gathered (long now) (read now))

pub returns-clause-kept : goal.returns-clause-kept
returns-clause-kept c =
    let at = (goal.at.returns-clause-kept c).After-from_parts in
    let now = (goal.at.returns-clause-kept c).After-read_wires in
    let f = c.requires.fabric in
    let a = about_of c.args.self in
    let closed = c.close_table-closed.ensures.closed in
    subst (λ (q : Running × List PassLog). AreHeld a.workers c.args.passes.items q.0 q.1) (λ i. (sym (made at) i, sym (logs_own now) i))
    (held_in a (slots_items c.close_table-closed.result.words) c.gather-seat.result.me.0 closed.0 c.gather-seat.new.processors (map items c.read_wires.new.queues) c.gather-seat.new.logs f.valid f.some_worker closed.1
    c.gather-seat.ensures.gathered (long now) (read now) a.workers c.args.passes.items c.gather-seat.ensures.kept)
