use Rattle.std.proofs.Common.{rules, ◌≡◌, ◌<◌, length, refl, ◌∙◌, subst}
use Rattle.std.proofs.lemmas.Option.{slice_get_read, slice_get_within, get_or_from_slice_get}
use Rattle.raw_fabric.specs.Opened.{about_of, id_of, IsPass}
use Rattle.raw_tests.proofs.orders.sweep_in_threads.Goals as goal

pub for_each_mut-requires-clause-accepts : goal.for_each_mut-requires-clause-accepts
for_each_mut-requires-clause-accepts g c κs within = λ i p lt e.
    (c.requires.fabric, c.requires.passes.each i p.now (slice_get_read c.args.passes.now (length c.args.passes.now) i p.now refl lt e))

pub returns : goal.returns
returns g c =
    let fabric = c.args.fabric.now in
    let long : length c.for_each_mut.new.s ≡ length c.args.passes.now = c.for_each_mut.auto.s in
    record {
      many = long ∙ c.requires.passes.many;
      each = λ k pass here.
          let lt = subst (λ n. k < n) long (slice_get_within c.for_each_mut.new.s k pass here) in
          let called = (c.for_each_mut.ensures k pass lt).1 in
          subst (IsPass (about_of fabric) (id_of fabric) k) (called.left ∙ get_or_from_slice_get c.for_each_mut.new.s k pass pass here) called.call;
    }
