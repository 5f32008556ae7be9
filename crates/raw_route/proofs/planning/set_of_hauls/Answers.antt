use Rattle.std.proofs.Common.{ℕ, ◌*◌, ◌<◌, List, length, Err, inr, refl, sym, ap, subst, ◌∙◌}
use Rattle.raw_model.specs.Program.{ProgramSet, TileProgram, IsSet}
use Rattle.raw_model.specs.Rest.{IsRun, end}
use Rattle.raw_codegen.specs.Limits.{AreShort}
use Rattle.raw_route.specs.Planned.{sendings, planned}
use Rattle.raw_route.specs.Counts.{AreCounts}
use Rattle.raw_route.specs.Delivered.{IsDelivered}
use Rattle.raw_route.proofs.HaulParts.{tiles_are}
use Rattle.raw_route.proofs.Plans.{set_is, tiles_are_short, tiles_not_short, each_sending, few_tiles}
use Rattle.raw_route.proofs.planning.set_of_hauls.Goals as goal

pub returns-in-Err-TooMany-clause-refusal : goal.returns-in-Err-TooMany-clause-refusal
returns-in-Err-TooMany-clause-refusal c =
    inr (refl, tiles_not_short c.args.cols c.args.rows (sendings c.args.hauls.now c.args.words.now) (c.in-Err-TooMany.ensures.too_many (ap (λ r. Err r) c.in-Err-TooMany.field-0-is)))

pub shows-requires : goal.shows-requires
shows-requires c =
    let size = tiles_are (c.args.cols * c.args.rows) c.in-Ok.made.1.items (sendings c.args.hauls.now c.args.words.now) c.in-Ok.ensures.counts in
    subst (λ (n : ℕ). n < 4294967296) (sym (ap length c.deref.ensures.value ∙ size)) (few_tiles c.args.cols c.args.rows c.requires.lawful.size)

pub invariant_of-result : goal.invariant_of-result
invariant_of-result c =
    let xs = sendings c.args.hauls.now c.args.words.now in
    let shown = c.in_ok-shows.ensures (c.args.cols * c.args.rows) xs (subst (λ (ks : List ℕ). AreCounts (c.args.cols * c.args.rows) ks xs) (sym c.deref.ensures.value) c.in-Ok.ensures.counts) in
    let same = set_is c.args.cols c.args.rows xs c.args.topo c.new.result.items c.in-Ok.made.0.items c.in_ok-shows.shows.items c.requires.grid c.new.ensures.items c.in-Ok.ensures.tiles shown in
    let oks = each_sending c.args.cols c.args.rows c.args.hauls.now c.args.words.now c.requires.lawful c.words_fit.ensures in
    let valid : IsSet (planned c.args.cols c.args.rows xs) =
    c.law_planned.ensures c.args.cols c.args.rows xs c.requires.lawful.size oks
    (tiles_are_short c.args.cols c.args.rows xs (subst (λ (tiles : List TileProgram). AreShort tiles) c.in-Ok.ensures.tiles c.in-Ok.ensures.short)) in
    subst (λ (set : ProgramSet). IsSet set) (sym same) valid

pub returns-clause-set : goal.returns-clause-set
returns-clause-set c =
    let xs = sendings c.args.hauls.now c.args.words.now in
    let shown = c.in_ok-shows.ensures (c.args.cols * c.args.rows) xs (subst (λ (ks : List ℕ). AreCounts (c.args.cols * c.args.rows) ks xs) (sym c.deref.ensures.value) c.in-Ok.ensures.counts) in
    let same = set_is c.args.cols c.args.rows xs c.args.topo c.new.result.items c.in-Ok.made.0.items c.in_ok-shows.shows.items c.requires.grid c.new.ensures.items c.in-Ok.ensures.tiles shown in
    same

pub returns-clause-delivers : goal.returns-clause-delivers
returns-clause-delivers c =
    let xs = sendings c.args.hauls.now c.args.words.now in
    let shown = c.in_ok-shows.ensures (c.args.cols * c.args.rows) xs (subst (λ (ks : List ℕ). AreCounts (c.args.cols * c.args.rows) ks xs) (sym c.deref.ensures.value) c.in-Ok.ensures.counts) in
    let same = set_is c.args.cols c.args.rows xs c.args.topo c.new.result.items c.in-Ok.made.0.items c.in_ok-shows.shows.items c.requires.grid c.new.ensures.items c.in-Ok.ensures.tiles shown in
    let oks = each_sending c.args.cols c.args.rows c.args.hauls.now c.args.words.now c.requires.lawful c.words_fit.ensures in
    let valid : IsSet (planned c.args.cols c.args.rows xs) =
    c.law_planned.ensures c.args.cols c.args.rows xs c.requires.lawful.size oks
    (tiles_are_short c.args.cols c.args.rows xs (subst (λ (tiles : List TileProgram). AreShort tiles) c.in-Ok.ensures.tiles c.in-Ok.ensures.short)) in
    subst (λ (set : ProgramSet). (steps : List ℕ) → IsRun set steps → IsDelivered set xs (end set steps)) (sym same)
    (c.law_delivers.ensures c.args.cols c.args.rows xs valid oks)
