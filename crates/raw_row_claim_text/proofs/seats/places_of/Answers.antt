use Rattle.std.proofs.Common.{◌+◌, ◌<◌, ◌++◌, ◌∷◌, [], length, take, sym, ap, ◌∙◌}
use Rattle.std.proofs.lemmas.List.{take_more}
use Rattle.std.proofs.lemmas.Option.{slice_get_within, get_or_from_slice_get}
use Rattle.raw_grid.specs.declared.parts.PortPlace.{PortPlace}
use Rattle.raw_row_claim_text.proofs.seats.places_of.Goals as goal

pub loop-port-preserved : goal.loop-port-preserved
loop-port-preserved c =
    let places = c.args.topo.now.places in
    let port = c.loop-port.port in
    let place : PortPlace = c.place_of.result in
    let lt : port < length places = slice_get_within places port place c.place_of.ensures in
    c.in_ok-push.ensures.items ∙ ap (λ ps. ps ++ place ∷ []) c.loop-port.invariant
    ∙ ap (λ (p : PortPlace). take port places ++ p ∷ []) (sym (get_or_from_slice_get places port place place c.place_of.ensures)) ∙ sym (take_more places port place lt)
