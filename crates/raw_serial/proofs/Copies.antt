-- The parts of a machine that was made as another one.
use Rattle.std.proofs.Common.{◌≡◌, ℕ, List, length, map, Some, sym, ap, subst, ◌∙◌, arith}
use Rattle.std.specs.Prelude.{slice_get}
use Rattle.std.proofs.lemmas.List.{length-map}
use Rattle.std.proofs.lemmas.Option.{slice_get_within}
use Rattle.raw_model.specs.Program.{ProgramSet}
use Rattle.raw_model.specs.Start.{IsFit, Fits}
use Rattle.raw_processor.specs.declared.end_wires.EndWires.{EndWires}
use Rattle.raw_processor.specs.declared.processor.Processor.{Processor}
use Rattle.raw_processor.specs.declared.processor.Processor.TheVariants as a
use Rattle.raw_processor.specs.Processor.{local_of, cache_of, misses_of, owed_of, IsKept, CanBe, IsCopy}
use Rattle.raw_serial.specs.Running.{Running, IsReached}
use Rattle.raw_serial.specs.Parts.{state_of, running_of, AreParts}
use Rattle.raw_serial.specs.Copied.{AreCopies}
use Rattle.raw_serial.proofs.Fields.{some_at, at_field, map_is}
use Rattle.raw_serial.proofs.Reached.{few_reached}

-- a processor can be made as one that has the same number in a machine of the same set
pub can_be : (g : ProgramSet) (p : ℕ) (old other : Processor) → IsKept g p old → IsFit g p (local_of old) → IsFit g p (local_of other) → CanBe old other
can_be g p (a.Tile old) (a.Tile other) kept fits as_other = tt
can_be g p (a.Switch old) (a.Switch other) kept fits as_other = tt
can_be g p (a.Source old) (a.Source other) kept fits as_other = let none = ap length as_other.1.got in omega (arith, none)
can_be g p (a.Sink old) (a.Sink other) kept fits as_other =
    let many = as_other.1.got in let few = as_other.1.done in omega (arith, many, few, kept)
can_be g p old other kept fits as_other = absurd (cc (fits.0, as_other.0))

module _ (g : ProgramSet) (ends : List EndWires) (old others new : List Processor) (before wires : List (List ℕ))
    (as_old : AreParts g ends old before) (other_ends : List EndWires) (as_other : AreParts g other_ends others wires) (copies : AreCopies old others new) where
  many : length new ≡ length others
  many = copies.each ∙ as_old.each ∙ sym as_other.each

  -- whose copy the processor at a place is
  copy_at : (p : ℕ) (x : Processor) → slice_get new p ≡ Some x
      → (was : Processor) × (other : Processor) × (slice_get old p ≡ Some was) × (slice_get others p ≡ Some other) × IsCopy was other x
  copy_at p x here =
      let within = slice_get_within new p x here in
      let was = some_at old p (omega (arith, within, copies.each)) in
      let other = some_at others p (omega (arith, within, many)) in
      (was.0, other.0, was.1, other.1, copies.copied p x here was.0 other.0 was.1 other.1)

  same_field : {Y : Type 0} (f : Processor → Y) → ((was other now : Processor) → IsCopy was other now → f now ≡ f other) → map f new ≡ map f others
  same_field f same =
      map_is f new (map f others) (many ∙ sym (length-map others f))
      (λ p x here.
      let it = copy_at p x here in
      at_field f others p it.1 it.3 ∙ ap Some (sym (same it.0 it.1 x it.4)))

  -- they stand for the same machine
  pub same_machine : running_of g new wires ≡ running_of g others wires
  same_machine =
      let locals = same_field local_of (λ was other now copy. copy.local) in
      let caches = same_field cache_of (λ was other now copy. copy.cache) in
      let missed = same_field misses_of (λ was other now copy. copy.misses) in
      let owed = same_field owed_of (λ was other now copy. copy.owed) in
      λ i. record {
        set = g;
        state = record { locals = locals i; wires = wires };
        caches = caches i;
        missed = missed i;
        owed = owed i;
      }

  reached : IsReached (running_of g new wires)
  reached = subst IsReached (sym same_machine) as_other.reached

  fits : Fits g (state_of new wires)
  fits = subst (λ (m : Running). Fits g m.state) (sym same_machine) as_other.fits

  -- they are the parts of a machine
  pub are_parts : AreParts g ends new wires
  are_parts =
      record {
        valid = as_old.valid;
        each_end = as_old.each_end;
        each = copies.each ∙ as_old.each;
        ends_are = as_old.ends_are;
        kept = λ p x here. let it = copy_at p x here in it.4.kept g p (as_old.kept p it.0 it.2);
        few = few_reached g as_old.valid new wires reached fits;
        fits = fits;
        reached = reached;
      }
