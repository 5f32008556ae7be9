use Rattle.std.proofs.Common.{◌≡◌, ℕ, List, ◌++◌, take, ap, ◌∙◌}
use Rattle.std.specs.List.{flat_map, range_with_len}
use Rattle.raw_text.specs.Text.{text_lines}
use Rattle.raw_grid.specs.Topology.{Topology, tile_count}
use Rattle.raw_lines.specs.declared.section.ProgramSection.{ProgramSection}
use Rattle.raw_lines.specs.declared.kind.ProgramKind.TheVariants.{Tile, Switch}
use Rattle.raw_lines.specs.Sections.{sections_in}
use Rattle.raw_lines.specs.Lines.{labels_of, numbers_of, all_labels, all_numbers, sources_text}
use Rattle.raw_lines.specs.LabelsOf.{lines_in}
use Rattle.raw_lines.proofs.Ranges.{four}
use Rattle.raw_lines.proofs.listing.push_sources.Goals as goal

pub returns : goal.returns
unfolding sources_text
returns c =
    let topo = c.args.topo.now in
    let labels = c.in_ok-labels.labels in
    let lines = lines_in labels in
    let asked = take c.args.to (text_lines c.args.text.now) in
    let tell : (Topology → List (List (List ℕ)) → List ProgramSection → ℕ → List ℕ) → Topology → List (List (List ℕ)) → List ProgramSection → List ℕ =
    λ text topo lines sections. flat_map (text topo lines sections) (range_with_len 0 (tile_count topo)) in
    let same : (text : Topology → List (List (List ℕ)) → List ProgramSection → ℕ → List ℕ) → tell text labels.topo.now lines labels.sections.items ≡ tell text topo asked (sections_in asked) =
    λ text. ap (tell text labels.topo.now lines) labels.all ∙ ap (λ topo. tell text topo lines (sections_in lines)) c.in_ok-labels.ensures.topo
    ∙ ap (λ lines. tell text topo lines (sections_in lines)) c.in_ok-labels.ensures.lines in
    four c.args.bytes.now.items (all_labels Tile topo asked) (all_labels Switch topo asked) (all_numbers Tile topo asked) (all_numbers Switch topo asked) _ _ _ _
    (c.in_ok-push_all_labels.ensures ∙ ap (λ t. c.args.bytes.now.items ++ t) (same (labels_of Tile)))
    (c.in_ok-push_all_labels-2.ensures ∙ ap (λ t. c.push_all_labels.new.bytes.items ++ t) (same (labels_of Switch)))
    (c.in_ok-push_all_numbers.ensures ∙ ap (λ t. c.push_all_labels-2.new.bytes.items ++ t) (same (numbers_of Tile)))
    (c.in_ok-push_all_numbers-2.ensures ∙ ap (λ t. c.push_all_numbers.new.bytes.items ++ t) (same (numbers_of Switch)))
