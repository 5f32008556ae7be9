use Rattle.std.proofs.Common.{◌<◌, ◌++◌, refl, ap, arith}
use Rattle.std.specs.Prelude.{codes, decimal}
use Rattle.raw_state_text.proofs.Sections.{nothing_yet, one_more, failed, last_part, all_written, same_text}
use Rattle.raw_explore.proofs.StateLines.{told_some, told_none}
use Rattle.raw_explore.proofs.standing.put_state.Goals as goal

pub returns-then-count-eq0 : goal.returns-then-count-eq0
returns-then-count-eq0 g c =
    all_written _ _ _ _ _ (nothing_yet _ _)
    (told_none c.args.machine.now c.set-set.ensures.valid c.args.k c.args.p.0 c.requires.at c.requires.there c.count.result c.count.ensures.value c.if-count-eq0.true)

pub returns-in_err-put_head : goal.returns-in_err-put_head
returns-in_err-put_head g c =
    let p = c.args.p.0 in
    let some : 0 < c.count.result = omega (arith, c.if-count-eq0.false) in
    let told = told_some c.args.machine.now c.set-set.ensures.valid c.args.k p c.requires.at c.requires.there c.processor.result.now c.processor.ensures.local
    c.processor.ensures.fits c.processor.ensures.misses c.count.result c.count.ensures.value some in
    let head = ap (λ n. decimal p ++ codes " " ++ decimal n) c.pc.ensures in
    failed _ _ _ _ _ _ _ (nothing_yet _ _) told _ c.from_residual.result c.from_residual.ensures.0 (same_text _ _ _ _ _ head c.in_err-put_head.ensures)

pub returns-in_err-put_state_entries : goal.returns-in_err-put_state_entries
returns-in_err-put_state_entries g c =
    let p = c.args.p.0 in
    let some : 0 < c.count.result = omega (arith, c.if-count-eq0.false) in
    let told = told_some c.args.machine.now c.set-set.ensures.valid c.args.k p c.requires.at c.requires.there c.processor.result.now c.processor.ensures.local
    c.processor.ensures.fits c.processor.ensures.misses c.count.result c.count.ensures.value some in
    let head = ap (λ n. decimal p ++ codes " " ++ decimal n) c.pc.ensures in
    failed _ _ _ _ _ _ _
    (one_more _ _ _ _ _ _ _ (nothing_yet _ _) told _ (same_text _ _ _ _ _ head c.in_ok-put_head.ensures)) refl _
    c.from_residual-in_err-put_state_entries.result c.from_residual-in_err-put_state_entries.ensures.0 c.in_err-put_state_entries.ensures

pub returns : goal.returns
returns g c =
    let p = c.args.p.0 in
    let some : 0 < c.count.result = omega (arith, c.if-count-eq0.false) in
    let told = told_some c.args.machine.now c.set-set.ensures.valid c.args.k p c.requires.at c.requires.there c.processor.result.now c.processor.ensures.local
    c.processor.ensures.fits c.processor.ensures.misses c.count.result c.count.ensures.value some in
    let head = ap (λ n. decimal p ++ codes " " ++ decimal n) c.pc.ensures in
    last_part _ _ _ _ _ _ _
    (one_more _ _ _ _ _ _ _ (one_more _ _ _ _ _ _ _ (nothing_yet _ _) told _ (same_text _ _ _ _ _ head c.in_ok-put_head.ensures)) refl _ c.in_ok-put_state_entries.ensures) refl
    (record { ok = c.put_all.ensures.ok; front = c.put_all.ensures.front; fault = c.put_all.ensures.fault; count = c.put_all.ensures.count })
