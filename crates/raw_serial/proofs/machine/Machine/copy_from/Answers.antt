use Rattle.std.proofs.Common.{◌≡◌, List, Some, ◌++◌, length, take, drop, slice_get, ap, sym, subst, ◌∙◌, arith}
use Rattle.std.proofs.lemmas.List.{take-append-le, take_all}
use Rattle.raw_model.specs.Program.{ProgramSet}
use Rattle.raw_model.specs.Start.{IsFit}
use Rattle.raw_processor.specs.declared.processor.Processor.{Processor}
use Rattle.raw_processor.specs.Processor.{local_of}
use Rattle.raw_serial.specs.Running.{Running}
use Rattle.raw_serial.specs.Parts.{running_of, AreParts}
use Rattle.raw_serial.specs.Copied.{AreCopies}
use Rattle.raw_serial.proofs.Fields.{at_field}
use Rattle.raw_serial.proofs.Copies.{can_be, same_machine, are_parts}
use Rattle.raw_serial.proofs.machine.Machine.copy_from.Goals as goal
use Rattle.raw_serial.proofs.machine.Machine.copy_from.Goals.{After-copy_from}

pub copy_processors-requires-clause-kinds : goal.copy_processors-requires-clause-kinds
copy_processors-requires-clause-kinds c = λ p x y here there.
    let set = c.self.inside.set.now in
    let as_self = c.self.invariant in
    let as_other = c.other.invariant in
    let same : c.other.inside.set.now ≡ set = ap (λ (m : Running). m.set) c.other.view_is ∙ c.requires ∙ sym (ap (λ (m : Running). m.set) c.self.view_is) in
    let mine : slice_get c.self.inside.processors.items p ≡ Some x = subst (λ l. slice_get l p ≡ Some x) c.deref_mut.ensures.value here in
    let theirs : slice_get c.other.inside.processors.items p ≡ Some y = subst (λ l. slice_get l p ≡ Some y) c.deref.ensures.value there in
    can_be set p x y (as_self.kept p x mine)
    (as_self.fits.locals p (local_of x) (at_field local_of c.self.inside.processors.items p x mine))
    (subst (λ (g : ProgramSet). IsFit g p (local_of y)) same (as_other.fits.locals p (local_of y) (at_field local_of c.other.inside.processors.items p y theirs)))

-- the processors, as the borrow of the vector gives them back
abbrev processors : After-copy_from → List Processor
processors c = take c.self.inside.processors.len (c.copy_processors.new.processors ++ drop (length c.copy_processors.new.processors) c.self.inside.processors.items)

record Copied (c : After-copy_from) : Type 0 where
  parts : AreParts c.self.inside.set.now c.self.inside.ends.items (processors c) c.copy_from.new.self
  same : running_of c.self.inside.set.now (processors c) c.copy_from.new.self ≡ c.args.other.now

copied : (c : After-copy_from) → Copied c
copied c =
    let set = c.self.inside.set.now in
    let many = c.copy_processors.auto.processors ∙ c.deref_mut.ensures.len in
    let back : processors c ≡ c.copy_processors.new.processors = take-append-le c.self.inside.processors.len c.copy_processors.new.processors (drop (length c.copy_processors.new.processors) c.self.inside.processors.items) (omega (arith, many))
    ∙ take_all c.self.inside.processors.len c.copy_processors.new.processors (omega (arith, many)) in
    let same : c.other.inside.set.now ≡ set = ap (λ (m : Running). m.set) c.other.view_is ∙ c.requires ∙ sym (ap (λ (m : Running). m.set) c.self.view_is) in
    let wires_are : c.copy_from.new.self ≡ c.other.inside.wires = c.copy_from.ensures in
    let as_other = subst (λ w. AreParts set c.other.inside.ends.items c.other.inside.processors.items w) (sym wires_are)
    (subst (λ (g : ProgramSet). AreParts g c.other.inside.ends.items c.other.inside.processors.items c.other.inside.wires) same c.other.invariant) in
    let copies : AreCopies c.self.inside.processors.items c.other.inside.processors.items (processors c) =
    subst (AreCopies c.self.inside.processors.items c.other.inside.processors.items) (sym back)
    (subst (λ l. AreCopies c.self.inside.processors.items l c.copy_processors.new.processors) c.deref.ensures.value
    (subst (λ l. AreCopies l c.deref.result.now c.copy_processors.new.processors) c.deref_mut.ensures.value c.copy_processors.ensures)) in
    record {
      parts = are_parts set c.self.inside.ends.items c.self.inside.processors.items c.other.inside.processors.items (processors c) c.self.inside.wires c.copy_from.new.self
          c.self.invariant c.other.inside.ends.items as_other copies;
      same = same_machine set c.self.inside.ends.items c.self.inside.processors.items c.other.inside.processors.items (processors c) c.self.inside.wires c.copy_from.new.self
          c.self.invariant c.other.inside.ends.items as_other copies
          ∙ ap (λ w. running_of set c.other.inside.processors.items w) wires_are
          ∙ ap (λ (g : ProgramSet). running_of g c.other.inside.processors.items c.other.inside.wires) (sym same)
          ∙ c.other.view_is;
    }

pub invariant_of-self : goal.invariant_of-self
invariant_of-self c = (copied (goal.at.invariant_of-self c).After-copy_from).parts

pub returns : goal.returns
returns c = (copied (goal.at.returns c).After-copy_from).same
