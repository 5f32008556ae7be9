use Rattle.std.proofs.Common.{◌≡◌, ◌++◌, [], codes, ap, ap₂, ◌∙◌, append-nil}
use Rattle.std.specs.Prelude.{slice_get}
use Rattle.raw_state_text.proofs.Sections.{same_text}
use Rattle.raw_debug.specs.Answers.{place_text, next_text}
use Rattle.raw_debug.proofs.answers.put_where.Goals as goal

pub returns : goal.returns
returns g c =
    let m = c.args.m.now in
    let p = c.args.p.0 in
    let place : c.as_bytes.result.now ≡ place_text m.set m.state p = c.as_bytes.ensures ∙ c.place_text-place.ensures.text in
    let next : c.as_bytes-2.result.now ≡ next_text m.set p (slice_get m.state.locals p) ++ codes "\n" = c.as_bytes-2.ensures ∙ c.next_line-next.ensures in
    same_text _ _ _ _ _ (ap₂ (λ x y. x ++ (y ++ [])) place next ∙ ap (λ z. place_text m.set m.state p ++ z) (append-nil _)) c.put_each.ensures.written
