use Rattle.std.proofs.Common.{◌≡◌, ◌+◌, ◌*◌, List, [], ◌∷◌, ◌++◌, get_or, take, Err, sym, ap, subst, ◌∙◌}
use Rattle.raw_route.specs.Hauls.{Haulage, IsHaul}
use Rattle.raw_route.specs.Planned.{Sending, sendings}
use Rattle.raw_route.specs.Counts.{AreCounts}
use Rattle.raw_route.proofs.Faultless.{all_sendings}
use Rattle.raw_route.proofs.HaulParts.{tiles_are}
use Rattle.raw_route.proofs.Plans.{haul_at, sendings_more, sendings_taken, programs_more, too_many, all_given}
use Rattle.raw_route.proofs.planning.give_hauls.Goals as goal

pub give_haul-requires-clause-haul : goal.give_haul-requires-clause-haul
give_haul-requires-clause-haul c =
    subst (IsHaul (c.args.cols * c.args.rows)) (sym c.index-hauls-i.is)
    (haul_at (c.args.cols * c.args.rows) 0 c.args.hauls.now c.loop-i.i c.index-hauls-i.result c.requires.lawful.faultless c.loop-i-test.true)

pub give_haul-requires-clause-counts : goal.give_haul-requires-clause-counts
give_haul-requires-clause-counts c =
    tiles_are (c.args.cols * c.args.rows) c.loop-i.counts.items (take c.loop-i.i (sendings c.args.hauls.now c.args.words.now)) c.loop-i.invariant.counts

pub returns-in_err-give_haul-clause-too_many : goal.returns-in_err-give_haul-clause-too_many
returns-in_err-give_haul-clause-too_many c = λ e.
    let k = rw e at c.from_residual.ensures in
    let n = c.args.cols * c.args.rows in
    let i = c.loop-i.i in
    let hauls = c.args.hauls.now in
    let words = c.args.words.now in
    let xs = sendings hauls words in
    let x : Sending = record { haul = c.index-hauls-i.result; word = get_or words i 0 } in
    let next : take (i + 1) xs ≡ take i xs ++ x ∷ [] =
    sendings_more hauls words i c.index-hauls-i.result c.requires.as_many c.loop-i-test.true
    ∙ ap (λ (h : Haulage). take i xs ++ record { haul = h; word = get_or words i 0 } ∷ []) (sym c.index-hauls-i.is) in
    let oks = all_sendings n 0 hauls words c.requires.lawful.faultless c.words_fit.ensures in
    too_many c.law_parts.ensures c.law_giving.ensures.longer c.law_giving.ensures.too_long c.args.cols c.args.rows c.requires.lawful.size xs oks i x c.loop-i.programs next c.loop-i.invariant.programs
    (c.in_err-give_haul.ensures.too_many (take i xs) c.loop-i.invariant.counts (ap (λ r. Err r) (sym k.1)))

pub loop-i-preserved : goal.loop-i-preserved
loop-i-preserved c =
    let n = c.args.cols * c.args.rows in
    let i = c.loop-i.i in
    let hauls = c.args.hauls.now in
    let words = c.args.words.now in
    let xs = sendings hauls words in
    let x : Sending = record { haul = c.index-hauls-i.result; word = get_or words i 0 } in
    let next : take (i + 1) xs ≡ take i xs ++ x ∷ [] =
    sendings_more hauls words i c.index-hauls-i.result c.requires.as_many c.loop-i-test.true
    ∙ ap (λ (h : Haulage). take i xs ++ record { haul = h; word = get_or words i 0 } ∷ []) (sym c.index-hauls-i.is) in
    let given = c.in_ok-give_haul.ensures.given (take i xs) c.loop-i.invariant.counts in
    record {
      programs = programs_more c.args.cols c.args.rows i xs x c.loop-i.programs c.give_haul.new.programs next c.loop-i.invariant.programs given.0;
      counts = subst (λ (es : List Sending). AreCounts n c.give_haul.new.counts.items es) (sym next) given.1;
    }

pub returns-clause-given : goal.returns-clause-given
returns-clause-given c =
    all_given c.args.cols c.args.rows c.loop-i.i c.args.hauls.now c.args.words.now c.loop-i.programs c.requires.as_many c.loop-i-test.false c.loop-i.invariant.programs

pub returns-clause-counted : goal.returns-clause-counted
returns-clause-counted c =
    subst (λ (es : List Sending). AreCounts (c.args.cols * c.args.rows) c.loop-i.counts.items es)
    (sendings_taken c.args.hauls.now c.args.words.now c.loop-i.i c.requires.as_many c.loop-i-test.false) c.loop-i.invariant.counts
