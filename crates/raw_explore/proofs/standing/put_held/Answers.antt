use Rattle.std.proofs.Common.{◌≡◌, [], cond, sym, ap, ◌∙◌, subst}
use Rattle.std.specs.Prelude.{map}
use Rattle.std.specs.List.{flat_map}
use Rattle.std.proofs.lemmas.Bool.{eq-eqb}
use Rattle.std.proofs.lemmas.List.Folds.{flat_map-map}
use Rattle.raw_network.specs.Network.{values_on}
use Rattle.raw_grid.specs.Wires.{producer_of}
use Rattle.raw_model.specs.Program.{ProgramSet}
use Rattle.raw_trace.specs.declared.entry.Entry.TheVariants as entry
use Rattle.raw_trace.specs.Text.{entry_text}
use Rattle.raw_state_text.proofs.Sections.{same_text}
use Rattle.raw_explore.proofs.standing.put_held.Goals as goal

pub returns : goal.returns
returns g c =
    let w = c.args.w in
    let values = values_on c.args.machine.now.state.wires w in
    let own : producer_of c.args.machine.now.set.topo w ≡ c.args.p.0 =
    subst (λ (s : ProgramSet). producer_of s.topo w ≡ c.args.p.0) (c.behind-machine.view_is ∙ c.set.ensures.value) (sym c.producer.ensures ∙ c.if-producer-p.false) in
    same_text _ _ _ _ _
    (ap (flat_map (λ value. entry_text (entry.Sent w value))) c.wire.ensures
    ∙ sym (flat_map-map entry_text (entry.Sent w) values)
    ∙ ap (λ b. flat_map entry_text (cond b (map (entry.Sent w) values) [])) (sym (eq-eqb (producer_of c.args.machine.now.set.topo w) c.args.p.0 own)))
    c.put_values.ensures
