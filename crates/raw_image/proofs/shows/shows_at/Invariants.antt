use Rattle.std.proofs.Common.{◌≡◌, ◌-◌, []}
use Rattle.raw_model.specs.declared.limits.TheConstants.{MAX_ALL_SHOWN}
use Rattle.raw_image.specs.Fields.{repeated}
use Rattle.raw_image.specs.Reading.{show_at, shown_in}
use Rattle.raw_image.proofs.Loop.{listed}
use Rattle.raw_image.proofs.shows.shows_at.Given as goal

abbrev pub invariant-loop : goal.invariant-loop
invariant-loop l = record {
  read : repeated (listed (λ before. show_at l.tiles (MAX_ALL_SHOWN - shown_in before))) (l.count - l.counter) l.shows.items l.rest ≡ repeated (listed (λ before. show_at l.tiles (MAX_ALL_SHOWN - shown_in before))) l.count [] l.initial.rest;
  room : l.room ≡ MAX_ALL_SHOWN - shown_in l.shows.items;
}
