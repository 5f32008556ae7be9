use Rattle.std.proofs.Common.{ap, ◌∙◌}
use Rattle.std.specs.List.{flat_map, filter_map}
use Rattle.std.proofs.lemmas.Grind.{flat_map-append}
use Rattle.std.proofs.lemmas.List.Elements.{filter_map-append}
use Rattle.raw_network.specs.Runs.{events, events_of, sent_on}
use Rattle.raw_network.proofs.Kth.{in_turn}
use Rattle.raw_model.specs.Machine.{machine_of}
use Rattle.raw_model.specs.Rest.{end_from}
use Rattle.raw_model.proofs.laws.law_steps.Goals as goal

pub returns : goal.returns
returns c = record {
  lawful = λ set s front rest. (in_turn (machine_of set) s front rest).lawful;
  ends = λ set s front rest. (in_turn (machine_of set) s front rest).ends;
  passed = λ set s front rest w.
      ap (flat_map (λ e. sent_on w e.sent)) (in_turn (machine_of set) s front rest).did
      ∙ flat_map-append (λ e. sent_on w e.sent) (events (machine_of set) s front) (events (machine_of set) (end_from set s front) rest);
  touched = λ set s front rest tile.
      ap (filter_map (λ e. e.touched)) ((in_turn (machine_of set) s front rest).did_by tile)
      ∙ filter_map-append (λ e. e.touched) (events_of (machine_of set) s front tile) (events_of (machine_of set) (end_from set s front) rest tile);
}
