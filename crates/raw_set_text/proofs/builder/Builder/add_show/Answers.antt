use Rattle.std.proofs.Common.{refl, ◌∙◌, arith, inl, inr, ◌⊎◌, ◌<◌, ◌+◌, ◌*◌, length}
use Rattle.raw_model.specs.declared.limits.TheConstants.{MEMORY_SIZE, MAX_SHOWS, MAX_ALL_SHOWN}
use Rattle.raw_set_text.specs.Entry.Entry.{Show as ShowEntry}
use Rattle.raw_set_text.proofs.builder.Builder.add_show.Goals.{then-from-via-then-from, then-from-via-else-from+then-len, then-from-via-else-from+else-len+then-shown-from}
use Rattle.raw_set_text.specs.declared.kind.SetKind.TheVariants.{OverLimit}
use Rattle.raw_set_text.proofs.Building.PortsKeep.{ports_keep}
use Rattle.raw_set_text.proofs.Building.TilesKeep.{tiles_keep}
use Rattle.raw_set_text.proofs.Building.Entries.{off_adds, refused_adds, show_fault, show_next, too_much, not_too_much}
use Rattle.raw_set_text.proofs.builder.Builder.add_show.Goals as goal

pub returns-in_err-number : goal.returns-in_err-number
returns-in_err-number c =
    off_adds c.args.self.now (ShowEntry c.args.tile c.args.address c.args.words) c.args.tile c.from_residual.result c.in_err-number.field-0.0 refl refl c.from_residual.ensures.1 (λ entries stands. c.in_err-number.ensures.numbered entries stands)

pub returns-then-from : goal.returns-then-from
returns-then-from c =
    let builder = c.args.self.now in
    let past : (MEMORY_SIZE < c.args.address + 4 * c.args.words) ⊎ ((MAX_SHOWS < length builder.shows.items + 1) ⊎ (MAX_ALL_SHOWN < builder.shown + c.args.words)) = elim c.then-from.branch [
      | then-from-via-then-from w ↦ inl (omega arith)
      | then-from-via-else-from+then-len w ↦ inr (inl (omega (arith, builder.shows.ok.0)))
      | then-from-via-else-from+else-len+then-shown-from w ↦ inr (inr (omega arith))
    ] in
    refused_adds builder builder (ShowEntry c.args.tile c.args.address c.args.words) OverLimit
    (λ entries stands.
    let at = c.in_ok-number.ensures.numbered entries stands in
    show_fault builder entries c.args.tile c.args.address c.args.words stands at.0 ∙ rw (too_much builder c.args.address c.args.words past))

pub returns : goal.returns
returns c =
    let builder = c.args.self.now in
    let little = not_too_much builder c.args.address c.args.words (omega arith) (omega (arith, builder.shows.ok.0)) (omega arith) in
    record {
      fault = λ entries stands.
          let at = c.in_ok-number.ensures.numbered entries stands in
          show_fault builder entries c.args.tile c.args.address c.args.words stands at.0 ∙ rw little;
      stands = λ entries stands.
          let at = c.in_ok-number.ensures.numbered entries stands in
          show_next builder _ entries c.args.tile c.args.address c.args.words c.in_ok-number.number stands (ports_keep builder.ports entries (ShowEntry c.args.tile c.args.address c.args.words) refl refl (λ _. refl) refl refl refl stands.ports)
          (tiles_keep builder.tiles entries (ShowEntry c.args.tile c.args.address c.args.words) (λ _ _. refl) (λ _ _. refl) (λ _ _ _. refl) (λ _ _. refl) refl refl refl refl stands.tiles)
          at.1 c.in_ok-push.ensures.items refl refl (omega arith);
    }
