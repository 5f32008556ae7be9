use Rattle.std.proofs.Common.{◌++◌, List, None, ap, ◌∙◌}
use Rattle.std.specs.Prelude.{slice_index_or}
use Rattle.std.specs.Option.{option_to_list}
use Rattle.raw_network.specs.Network.{Sent}
use Rattle.raw_model.specs.Machine.{sent_to}
use Rattle.raw_serial.proofs.telling.EventTells.tell.Goals as goal

pub returns : goal.returns
returns c =
    let taken =
    c.push_taken-2.ensures.items
    ∙ ap (λ ws. ws ++ option_to_list c.args.wires.second) (c.push_taken.ensures.items ∙ ap (λ ws. ws ++ option_to_list c.args.wires.first) c.clear.ensures) in
    let sent =
    c.push_sent-2.ensures.items
    ∙ ap (λ (ms : List Sent). ms ++ sent_to (slice_index_or c.args.ends.now.outputs 9 None) c.args.out.now.sent2)
    (c.push_sent.ensures.items ∙ ap (λ (ms : List Sent). ms ++ sent_to (slice_index_or c.args.ends.now.outputs 4 None) c.args.out.now.sent1) c.clear-2.ensures) in
    λ i. record { from = taken i; sent = sent i; touched = c.args.out.now.touched; missed = c.args.missed }
