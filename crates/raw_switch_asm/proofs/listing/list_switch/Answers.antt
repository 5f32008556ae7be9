use Rattle.std.proofs.Common.{◌≡◌, ◌∙◌, ℕ, ◌++◌, ◌+◌, drop, Vec, Global, sym, ap}
use Rattle.std.specs.Prelude.{string_bytes}
use Rattle.raw_switch_asm.specs.Listing.{listing}
use Rattle.raw_switch_asm.proofs.Written.{listing_next, listing_done}
use Rattle.raw_switch_asm.proofs.listing.list_switch.Goals as goal

pub loop-ins-preserved : goal.loop-ins-preserved
loop-ins-preserved c =
    let code = c.args.code.now in
    let k = c.loop-ins.ins-index in
    ap (λ t. t ++ listing (drop (k + 1) code)) c.in_ok-push_line.ensures
    ∙ listing_next code k (string_bytes c.loop-ins.text) c.ins-item.result c.loop-ins-test.true c.ins-item.is
    ∙ c.loop-ins.invariant

pub returns : goal.returns
returns c =
    let text = string_bytes c.loop-ins.text in
    let bytes : c.into_bytes.result.items ≡ text = ap (λ (v : Vec ℕ Global). v.items) c.into_bytes.ensures.value in
    bytes ∙ sym (listing_done c.args.code.now c.loop-ins.ins-index text c.loop-ins-test.false) ∙ c.loop-ins.invariant
