use Rattle.std.proofs.Common.{rules, ◌∙◌, inl, inr, ◌⊎◌, ◌≡◌, ◌≤◌, ◌<◌, false}
use Rattle.raw_grid.specs.declared.limits.TheConstants.{MAX_SIZE}
use Rattle.raw_set_text.proofs.builder.later_grid.Goals.{else-contains-via-then-contains+else-contains-2, else-contains-via-else-contains}
use Rattle.raw_set_text.specs.Faults.{is_within}
use Rattle.raw_set_text.proofs.Building.Entries.{grid_fault, within_both, not_within, never_both}
use Rattle.raw_set_text.proofs.builder.later_grid.Goals as goal

pub returns-then-contains-2-clause-fault : goal.returns-then-contains-2-clause-fault
returns-then-contains-2-clause-fault c entries some =
    let wide : (1 ≤ c.args.columns) × (c.args.columns ≤ MAX_SIZE) = search rules in
    let high : (1 ≤ c.args.rows) × (c.args.rows ≤ MAX_SIZE) = search rules in
    grid_fault entries c.args.columns c.args.rows some ∙ rw (within_both 1 MAX_SIZE c.args.columns wide.0 wide.1, within_both 1 MAX_SIZE c.args.rows high.0 high.1)

pub returns-else-contains-clause-fault : goal.returns-else-contains-clause-fault
returns-else-contains-clause-fault c entries some =
    let outside : (is_within 1 MAX_SIZE c.args.columns ≡ false) ⊎ (is_within 1 MAX_SIZE c.args.rows ≡ false) = elim c.else-contains.branch [
      | else-contains-via-then-contains+else-contains-2 w ↦ (let past : (c.args.rows < 1) ⊎ (MAX_SIZE < c.args.rows) = search rules in inr (not_within 1 MAX_SIZE c.args.rows past))
      | else-contains-via-else-contains w ↦ (let past : (c.args.columns < 1) ⊎ (MAX_SIZE < c.args.columns) = search rules in inl (not_within 1 MAX_SIZE c.args.columns past))
    ] in
    grid_fault entries c.args.columns c.args.rows some ∙ rw (never_both (is_within 1 MAX_SIZE c.args.columns) (is_within 1 MAX_SIZE c.args.rows) outside)
