use Rattle.std.proofs.Common.{◌≡◌, ℕ, ◌<◌, ◌≤◌, List, ◌++◌, length, map, cond, get_or, None, Some, sym, ap, ◌∙◌, subst, ⊎_elim, arith}
use Rattle.std.specs.Prelude.{◌^◌, IfSome, slice_get}
use Rattle.std.proofs.lemmas.Option.{slice_get_cases}
use Rattle.raw_model.specs.Local.{Local}
use Rattle.raw_model.specs.Parts.{memory_of}
use Rattle.raw_processor.specs.Processor.{local_of}
use Rattle.raw_serial.specs.declared.turn.Turn.{Turn}
use Rattle.raw_serial.specs.declared.turn.Turn.TheVariants.{Fired}
use Rattle.raw_serial.specs.Running.{IsStep, Follows}
use Rattle.raw_serial.specs.Told.{Told, told_in, told_of}
use Rattle.raw_trace.specs.declared.entry.Entry.TheVariants as entry
use Rattle.raw_trace.specs.Parts.{regs_of, pc_of, is_faulted}
use Rattle.raw_trace.specs.Firing.{sent_entry, register_entries, access_entries, miss_entries}
use Rattle.raw_explore.proofs.Fired.{touched_there, after_step, fired_told}
use Rattle.raw_explore.proofs.firing.fire.Goals as goal
use Rattle.raw_explore.proofs.firing.fire.Goals.{After-try_step_telling}

local_there : (xs : List Local) (p : ℕ) → p < length xs → (l : Local) × (slice_get xs p ≡ Some l)
local_there xs p below =
    ⊎_elim
    (λ (q : (x : Local) × (p < length xs) × (slice_get xs p ≡ Some x) × (get_or xs p x ≡ x)). (q.0, q.2))
    (λ (q : (length xs ≤ p) × (slice_get xs p ≡ None)). absurd (omega (arith, below, q.0)))
    (slice_get_cases xs p).1

-- the turn is a step, and its event is told
fired : (c : After-try_step_telling) → c.try_step_telling.result ≡ Fired
fired c = c.try_step_telling.ensures.turn.answer ∙ c.requires.fired

stepped : (c : After-try_step_telling) → IsStep c.args.machine.now c.try_step_telling.new.self c.args.p.0
stepped c = subst (λ (turn : Turn). Follows turn c.args.machine.now c.try_step_telling.new.self c.args.p.0) (fired c) c.try_step_telling.ensures.turn.after

told : (c : After-try_step_telling) → told_in c.try_step_telling.new.teller ≡ told_of c.args.machine.now c.try_step_telling.new.self c.args.p.0
told c = c.try_step_telling.ensures.told (fired c)

pub push_access-requires-clause-inside : goal.push_access-requires-clause-inside
push_access-requires-clause-inside c =
    let m = c.args.machine.now in
    subst (λ o. IfSome o (λ address. address < 2 ^ 16))
    (sym (ap (λ (t : Told). t.touched) (told (goal.at.push_access-requires-clause-inside c).After-try_step_telling)))
    (touched_there m.set m.state.wires c.args.p.0 (slice_get m.state.locals c.args.p.0))

pub returns-clause-step : goal.returns-clause-step
returns-clause-step c = stepped (goal.at.returns-clause-step c).After-try_step_telling

pub returns-clause-pc : goal.returns-clause-pc
returns-clause-pc c =
    let m = c.args.machine.now in
    let here = local_there m.state.locals c.args.p.0 (omega (arith, c.set-set.ensures.fits.processors, c.requires.there)) in
    c.pc.ensures
    ∙ ap pc_of
    (after_step m.set m.state c.args.p.0 here.0 here.1 (local_of c.processor-processor.result.now) c.try_step_telling.new.self.state
    (stepped (goal.at.returns-clause-pc c).After-try_step_telling).state c.processor-processor.ensures.local)

pub returns-clause-entries : goal.returns-clause-entries
returns-clause-entries c =
    let m = c.args.machine.now in
    let n = c.try_step_telling.new.self in
    let e = c.try_step_telling.new.teller in
    let p = c.args.p.0 in
    let is = told (goal.at.returns-clause-entries c).After-try_step_telling in
    let here = local_there m.state.locals p (omega (arith, c.set-set.ensures.fits.processors, c.requires.there)) in
    let next = local_of c.processor-processor.result.now in
    let register = c.written-register.result in
    let store = c.stores-store.result in
    let written = register_entries (regs_of (Some next)) (cond (is_faulted (Some next)) None register) in
    let touched = access_entries store (memory_of (Some next)) e.touched in
    let taken = c.deref.result.now in
    let sent = c.deref-2.result.now in
    let first = c.push_taken.ensures.entries ∙ ap (λ xs. xs ++ map entry.Taken taken) c.clear.ensures in
    let second = c.push_sent.ensures.entries ∙ ap (λ xs. xs ++ map sent_entry sent) first in
    let third = c.push_register.ensures.entries ∙ ap (λ xs. xs ++ written) second in
    let fourth = c.push_access.ensures.entries ∙ ap (λ xs. xs ++ touched) third in
    c.push_miss.ensures ∙ ap (λ xs. xs ++ miss_entries e.missed) fourth
    ∙ fired_told m.set m.state p here.0 here.1 next n.state (stepped (goal.at.returns-clause-entries c).After-try_step_telling).state
    c.processor-processor.ensures.local taken sent register e.touched e.missed _ store
    (c.deref.ensures.0 ∙ ap (λ (t : Told). t.from) is) (c.deref-2.ensures.0 ∙ ap (λ (t : Told). t.sent) is) (c.written-register.ensures here.0 here.1) (c.stores-store.ensures here.0 here.1)
    (ap (λ (t : Told). t.touched) is) (ap (λ (t : Told). t.missed) is)
