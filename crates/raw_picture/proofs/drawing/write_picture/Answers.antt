use Rattle.std.proofs.Common.{sym}
use Rattle.raw_state_text.proofs.Sections.{same_text}
use Rattle.raw_picture.proofs.Ends.{answer_fits}
use Rattle.raw_picture.proofs.Runs.{picture_is}
use Rattle.raw_picture.proofs.drawing.write_picture.Goals as goal

pub put_picture-requires : goal.put_picture-requires
put_picture-requires g c =
    let m = c.args.m.now in
    let known = c.set-set.ensures in
    record {
      fits = answer_fits m.set m.state known.valid known.fits c.outcome.result c.outcome.ensures;
      outcome = c.outcome.ensures;
    }

pub returns : goal.returns
returns g c = λ steps run.
    let m = c.args.m.now in
    let known = c.set-set.ensures in
    same_text _ _ _ _ _ (sym (picture_is m known.valid c.requires steps run known.reached)) c.put_picture.ensures
