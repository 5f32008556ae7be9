use Rattle.std.proofs.Common.{◌+◌, ◌<◌, length, sym, ◌∙◌, subst}
use Rattle.std.proofs.lemmas.Option.{slice_get_within, get_or_from_slice_get}
use Rattle.raw_stream_text.specs.Meaning.{IsPortOf}
use Rattle.raw_row_claim_text.specs.Seats.{AreSeatsUpTo}
use Rattle.raw_row_claim_text.proofs.Seating.{seats_more}
use Rattle.raw_row_claim_text.proofs.seats.seats_of.Goals as goal

pub seat_of-requires : goal.seat_of-requires
seat_of-requires c =
    let places = c.args.places.now in
    let n = c.loop-number.number in
    let place = c.place_at-place.result in
    let lt : n < length places = slice_get_within places n place c.place_at-place.ensures in
    subst (IsPortOf c.args.topo.now) (get_or_from_slice_get places n place place c.place_at-place.ensures) (c.requires n place lt)

pub loop-number-preserved : goal.loop-number-preserved
loop-number-preserved c =
    let places = c.args.places.now in
    let n = c.loop-number.number in
    subst (AreSeatsUpTo c.args.topo.now places (n + 1)) (sym c.in_ok-push.ensures.items)
    (seats_more c.args.topo.now places n c.seat_of.result c.loop-number.seats.items c.loop-number.invariant (c.seat_of.ensures ∙ sym c.place_at-place.ensures))
