use Rattle.std.proofs.Common.{[], ◌++◌, List, length, take, drop, ap, sym, subst, ◌∙◌, arith}
use Rattle.std.specs.Prelude.{replicate}
use Rattle.std.proofs.lemmas.List.{take-append-le, take_all}
use Rattle.raw_processor.specs.declared.processor.Processor.{Processor}
use Rattle.raw_serial.specs.Fresh.{IsFresh, AreFirst}
use Rattle.raw_serial.specs.Running.{Running}
use Rattle.raw_serial.specs.Parts.{running_of, AreParts}
use Rattle.raw_serial.proofs.Freshly.{made}
use Rattle.raw_serial.proofs.machine.Machine.restart.Goals as goal
use Rattle.raw_serial.proofs.machine.Machine.restart.Goals.{After-clear}

-- the processors, as the borrow of the vector gives them back
abbrev processors : After-clear → List Processor
processors c = take c.self.inside.processors.len (c.reset_processors.new.processors ++ drop (length c.reset_processors.new.processors) c.self.inside.processors.items)

again : (c : After-clear)
    → AreParts c.self.inside.set.now c.self.inside.ends.items (processors c) c.clear.new.self × IsFresh c.self.inside.set.now (running_of c.self.inside.set.now (processors c) c.clear.new.self)
again c =
    let many = c.reset_processors.auto.processors ∙ c.deref_mut.ensures.len in
    let back = take-append-le c.self.inside.processors.len c.reset_processors.new.processors (drop (length c.reset_processors.new.processors) c.self.inside.processors.items) (omega (arith, many))
    ∙ take_all c.self.inside.processors.len c.reset_processors.new.processors (omega (arith, many)) in
    made c.self.inside.set.now c.self.invariant.valid c.self.inside.ends.items (processors c) c.clear.new.self
    (record { each_end = c.self.invariant.each_end; ends_are = c.self.invariant.ends_are })
    (subst (AreFirst c.self.inside.set.now) (sym back) c.reset_processors.ensures)
    (c.clear.ensures ∙ ap (λ n. replicate n []) c.self.invariant.fits.wires)

pub invariant_of-self : goal.invariant_of-self
invariant_of-self c = (again (goal.at.invariant_of-self c).After-clear).0

pub returns : goal.returns
returns c =
    let at = (goal.at.returns c).After-clear in
    subst (λ (m : Running). IsFresh m.set (running_of c.self.inside.set.now (processors at) c.clear.new.self)) c.self.view_is (again at).1
