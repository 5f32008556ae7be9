use Rattle.std.proofs.Common.{◌≡◌, ℕ, ◌+◌, ◌*◌, ◌<◌, Some, [], length, sym, ap, ◌∙◌, subst, arith}
use Rattle.std.specs.Prelude.{slice_get}
use Rattle.raw_processor.specs.declared.processor.Processor.{Processor}
use Rattle.raw_fabric_rule.specs.Views.{About}
use Rattle.std.proofs.lemmas.List.{length-map, with_items_is}
use Rattle.raw_model.specs.Program.{IsSet}
use Rattle.raw_serial.specs.Running.{Running, IsReached}
use Rattle.raw_serial.specs.Fresh.{AreAllEnds}
use Rattle.raw_fabric_rule.specs.ByEnds.{procs, wires}
use Rattle.raw_fabric_rule.specs.Word.{word_count}
use Rattle.raw_fabric.specs.Laying.{HasWords}
use Rattle.raw_fabric.specs.Opened.{about_before, machine_before, AreAllSides}
use Rattle.raw_fabric_rule.specs.Opening.{first_view}
use Rattle.raw_fabric.specs.declared.pass.Pass.{Pass}
use Rattle.raw_fabric.specs.Rooms.{AreRooms}
use Rattle.raw_fabric.specs.Dealing.{HaveBefore}
use Rattle.raw_fabric.proofs.Laid.{laid}
use Rattle.raw_fabric.proofs.Opening.{some_words, have_before, local_there, cache_there, missed_there, owed_there}
use Rattle.raw_fabric.proofs.Early.{first_early}
use Rattle.raw_fabric.proofs.fabric.Fabric.with.Goals as goal

pub open_table-requires : goal.open_table-requires
open_table-requires c =
    let m = c.args.machine in
    let e = c.set-set.ensures in
    laid (about_before m c.args.workers) c.as_slice.result.now e.valid e.fits c.requires.supplies.some_worker (subst (HasWords m.set m.state) (sym c.as_slice.ensures.value) c.requires.supplies.words)

pub deal-passes-requires-clause-seat : goal.deal-passes-requires-clause-seat
deal-passes-requires-clause-seat c =
    let t = c.in-Ok.ensures in
    let some = some_words c.args.machine.set c.set-set.ensures.valid in
    let words = t.words ∙ ap length c.as_slice.ensures.value ∙ c.requires.supplies.words.long in
    record {
      workers_are = ap (λ (a : About). a.workers) t.key;
      words = omega arith;
      table = t.table;
      view = t.view ∙ ap (λ (a : About). (first_view a, [])) (sym t.key);
    }

pub deal-passes-requires-clause-rooms : goal.deal-passes-requires-clause-rooms
deal-passes-requires-clause-rooms c =
    let s = c.requires.supplies in
    (s.rooms_many, subst (λ (a : About). AreRooms a c.args.log_steps c.args.supplies.rooms.items) (sym c.in-Ok.ensures.key) s.rooms)

pub deal-passes-requires-clause-processors : goal.deal-passes-requires-clause-processors
deal-passes-requires-clause-processors c =
    let m = c.args.machine in
    let e = c.into_parts-ends.ensures in
    subst (HaveBefore c.in-Ok.table.shared.key) (sym c.as_mut_slice.ensures.value)
    (subst (λ (a : About). HaveBefore a c.into_parts-ends.result.processors.items) (sym c.in-Ok.ensures.key)
    (have_before m c.into_parts-ends.result e.made c.args.workers c.set-set.ensures.valid e.whole))

pub returns-clause-fabric : goal.returns-clause-fabric
unfolding procs wires
returns-clause-fabric c =
    let m = c.args.machine in
    let n = c.args.workers in
    let s = c.requires.supplies in
    let e = c.set-set.ensures in
    let t = c.in-Ok.ensures in
    let key = t.key in
    let parts = c.into_parts-ends.ensures in
    let whole = parts.whole in
    let logs = s.logs_many in
    let parts_ok = c.into_parts-ends.result.processors.ok in
    let dealt_long = c.deal-passes.ensures.dealt.long ∙ ap length c.as_mut_slice.ensures.value in
    let same_long : length c.deal-passes.new.processors ≡ c.into_parts-ends.result.processors.len = omega arith in
    let ok = c.args.supplies.logs.ok in
    let wires_long = ap (λ (r : Running). length r.state.wires) parts.made ∙ length-map c.into_parts-ends.result.wires.items (λ queue. queue.items) in
    record {
      set_is = ap (λ (a : About). a.set) key ∙ sym e.value;
      valid = subst IsSet (sym (ap (λ (a : About). a.set) key)) e.valid;
      reached = subst (λ (a : About). IsReached (machine_before a)) (sym key) e.reached;
      workers_are = ap (λ (a : About). a.workers) key;
      some_worker = subst (λ (a : About). 0 < a.workers) (sym key) c.requires.supplies.some_worker;
      words_are = t.words ∙ ap length c.as_slice.ensures.value ∙ s.words.long ∙ ap (λ (a : About). word_count a.set) (sym key);
      no_slots = t.slots;
      sides = subst (λ (a : About). AreAllSides a.set c.args.supplies.sides.items) (sym key) s.sides;
      ends = subst (λ (a : About). AreAllEnds a.set.topo c.into_parts-ends.result.ends.items) (sym key) whole.ends;
      processors = ap length (with_items_is c.into_parts-ends.result.processors c.deal-passes.new.processors same_long) ∙ c.deal-passes.ensures.dealt.long ∙ ap length c.as_mut_slice.ensures.value ∙ whole.each ∙ ap (λ (a : About). procs a.set) (sym key);
      wires = sym wires_long ∙ e.fits.wires ∙ ap (λ (a : About). wires a.set) (sym key);
      logs = (let z : length c.args.supplies.logs.items ≡ n = omega arith in z) ∙ ap (λ (a : About). a.workers) (sym key);
    }

pub returns-clause-new : goal.returns-clause-new
returns-clause-new c =
    let m = c.args.machine in
    let n = c.args.workers in
    let made = c.into_parts-ends.ensures.made in
    let parts = c.into_parts-ends.result in
    let have = c.deal-passes.ensures.dealt in
    let at : (k j : ℕ) (pass : Pass) (x : Processor) → slice_get c.deal-passes.result.items k ≡ Some pass → slice_get pass.processors.items j ≡ Some x → slice_get parts.processors.items (k + j * n) ≡ Some x =
    λ k j pass x here e. ap (λ l. slice_get l (k + j * n)) (sym c.as_mut_slice.ensures.value) ∙ (have.dealt.taken k pass here).each j x e in
    record {
      fresh = λ k pass here. record {
        no_log = have.dealt.no_log k pass here;
        room_is = have.dealt.rooms_are k pass here;
        locals = λ j x e. local_there m parts made (k + j * n) x (at k j pass x here e);
        caches = λ j x e. cache_there m parts made (k + j * n) x (at k j pass x here e);
        missed = λ j x e. missed_there m parts made (k + j * n) x (at k j pass x here e);
        owed = λ j x e. owed_there m parts made (k + j * n) x (at k j pass x here e);
      };
      early = λ k pass here p holds. first_early c.in-Ok.table.shared.key c.in-Ok.table.shared.table_id k pass (have.passes_are.each k pass here) (have.parts k pass here) p holds;
    }
