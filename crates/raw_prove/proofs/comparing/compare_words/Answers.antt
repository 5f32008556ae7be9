use Rattle.std.proofs.Common.{rules, ◌≡◌, ℕ, map, length, ap, ◌∙◌, arith}
use Rattle.std.specs.Prelude.{slice_index}
use Rattle.raw_term.specs.Seen.{terms_seen}
use Rattle.raw_term.specs.Claims.{claim_terms, claimed}
use Rattle.raw_prove.specs.Units.{state_of}
use Rattle.raw_prove.proofs.Claiming.{inputs_few, numbers_of, outs_within}
use Rattle.raw_prove.proofs.RowComparing.{terms_say}
use Rattle.raw_prove.proofs.comparing.compare_words.Goals as goal

pub claim_terms-requires-clause-few : goal.claim_terms-requires-clause-few
claim_terms-requires-clause-few c =
    let few = inputs_few c.deref.result.now in
    let same = ap length c.deref.ensures.value in
    omega (arith, few, same, c.claim.invariant.few)

pub claimed-requires : goal.claimed-requires
claimed-requires c =
    outs_within (length c.claim.inside.nodes.items) c.claim.inside.outs.items c.deref-in-Ok-2.result.now c.in-Ok.numbers.items c.deref-in-Ok.result.now
    c.deref-in-Ok-2.ensures.value c.deref-in-Ok.ensures.value
    (numbers_of _ _ c.deref.result.now c.in-Ok.numbers.items c.in-Ok.ensures.numbers ∙ ap length c.deref.ensures.value) c.claim.invariant.outs

pub returns-in-Ok : goal.returns-in-Ok
returns-in-Ok c =
    let many : length (terms_seen c.args.places.now (state_of c.args.machine.now).state) ≡ length c.args.claim.now.outs = search rules in
    let same : c.claim_terms.new.table ≡ (claim_terms (state_of c.args.machine.now) c.args.claim.now).nodes = search rules in
    let mine : c.deref-in-Ok-3.result.now ≡ terms_seen c.args.places.now (state_of c.args.machine.now).state = search rules in
    let listed : map {A = ℕ} {B = ℕ} (λ v. slice_index c.deref-in-Ok.result.now v) c.deref-in-Ok-2.result.now ≡ claimed (state_of c.args.machine.now) c.args.claim.now = search rules in
    let claims : c.deref-in-Ok-4.result.now ≡ claimed (state_of c.args.machine.now) c.args.claim.now = c.deref-in-Ok-4.ensures.value ∙ c.in_ok-wanted-in-Ok.ensures ∙ listed in
    terms_say (state_of c.args.machine.now) c.args.claim.now (terms_seen c.args.places.now (state_of c.args.machine.now).state) many c.claim_terms.new.table c.deref-in-Ok-3.result.now c.deref-in-Ok-4.result.now
    same mine claims c.compare_terms.result c.compare_terms.ensures
