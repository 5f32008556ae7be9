use Rattle.std.proofs.Common.{ℕ, List, ◌++◌, ap, ◌∙◌}
use Rattle.std.specs.List.{flat_map, range_with_len}
use Rattle.raw_grid.specs.Topology.{Topology, tile_count}
use Rattle.raw_lines.specs.declared.section.ProgramSection.{ProgramSection}
use Rattle.raw_lines.specs.declared.kind.ProgramKind.{ProgramKind}
use Rattle.raw_lines.specs.declared.kind.ProgramKind.TheVariants.{Tile, Switch}
use Rattle.raw_lines.specs.Sections.{sections_in}
use Rattle.raw_lines.specs.Lines.{program_text, lines_text}
use Rattle.raw_lines.specs.LabelsOf.{lines_in}
use Rattle.raw_lines.proofs.listing.list_lines.Goals as goal

pub returns : goal.returns
unfolding lines_text
returns c =
    let labels = c.in_ok-labels.labels in
    let tell : ProgramKind → Topology → List (List (List ℕ)) → List ProgramSection → List ℕ =
    λ kind topo lines sections. flat_map (program_text kind topo lines sections) (range_with_len 0 (tile_count topo)) in
    let whole : Topology → List (List (List ℕ)) → List ProgramSection → List ℕ = λ topo lines sections. tell Tile topo lines sections ++ tell Switch topo lines sections in
    c.in_ok-push_programs-2.ensures
    ∙ ap (λ t. t ++ tell Switch labels.topo.now (lines_in labels) labels.sections.items)
    (c.in_ok-push_programs.ensures ∙ ap (λ t. t ++ tell Tile labels.topo.now (lines_in labels) labels.sections.items) c.new-bytes.ensures.items)
    ∙ ap (whole labels.topo.now (lines_in labels)) labels.all
    ∙ ap (λ topo. whole topo (lines_in labels) (sections_in (lines_in labels))) c.in_ok-labels.ensures.topo
    ∙ ap (λ lines. whole c.args.topo.now lines (sections_in lines)) c.in_ok-labels.ensures.lines
