use Rattle.std.proofs.Common.{◌++◌, ◌∷◌, [], ◌-◌, arith}
use Rattle.std.proofs.lemmas.Result.{err_from_is_err_and}
use Rattle.std.proofs.lemmas.List.Sums.{sum_by_push}
use Rattle.raw_model.specs.declared.limits.TheConstants.{MAX_ALL_SHOWN}
use Rattle.raw_model.specs.declared.program.Show.{Show}
use Rattle.raw_image.specs.Reading.{show_at, shows_at, shown_in}
use Rattle.raw_image.proofs.Loop.{listed, goes_on, ends, one_read, one_fails}
use Rattle.raw_image.proofs.shows.shows_at.Goals as goal

pub returns-in_err-show : goal.returns-in_err-show
unfolding shows_at
returns-in_err-show c =
    let p = err_from_is_err_and c.from_residual-in_err-show.result c.from_residual-in_err-show.ensures.1 in
    rw (p.1, p.2, c.in_ok-count.ensures.read)
    (ends (listed (λ before. show_at c.args.tiles (MAX_ALL_SHOWN - shown_in before))) c.in_err-show.field-0.0 c.in_ok-count.count c.loop.counter c.loop.shows.items c.loop.rest.now _ c.loop-test.true
    (one_fails c.in_err-show.field-0.0 (show_at c.args.tiles (MAX_ALL_SHOWN - shown_in c.loop.shows.items) c.loop.rest.now) c.loop.shows.items (rw (← c.loop.invariant.room) c.in_err-show.ensures.read)) c.loop.invariant.read)

pub loop-preserved : goal.loop-preserved
loop-preserved c = record {
  read = rw c.in_ok-push.ensures.items
      (goes_on (listed (λ before. show_at c.args.tiles (MAX_ALL_SHOWN - shown_in before))) c.in_ok-count.count c.loop.counter c.loop.shows.items c.loop.rest.now (c.loop.shows.items ++ c.in_ok-show.show ∷ []) c.in_ok-show.after.now _ c.loop-test.true
      (one_read (show_at c.args.tiles (MAX_ALL_SHOWN - shown_in c.loop.shows.items) c.loop.rest.now) c.loop.shows.items c.in_ok-show.show c.in_ok-show.after.now (rw (← c.loop.invariant.room) c.in_ok-show.ensures.read)) c.loop.invariant.read);
  room = rw c.in_ok-push.ensures.items (omega (arith, sum_by_push (λ (show : Show). show.words) c.loop.shows.items c.in_ok-show.show, c.loop.invariant.room));
}
