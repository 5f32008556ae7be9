-- A set that is being built at its beginning, and as a whole.
use Rattle.std.proofs.Common.{◌≡◌, ℕ, ◌*◌, List, [], ◌∷◌, length, None, refl, sym, ap, ◌∙◌, unwrap_or}
use Rattle.raw_model.specs.declared.limits.TheConstants.{DEFAULT_DEPTH}
use Rattle.raw_grid.specs.Topology.{Topology}
use Rattle.raw_model.specs.declared.program.Show.{Show as Shown}
use Rattle.raw_model.specs.Program.{ProgramSet, TileProgram, PortProgram}
use Rattle.raw_set_text.specs.declared.builder.Builder.{Builder}
use Rattle.raw_set_text.specs.declared.ports.Ports.{Ports}
use Rattle.raw_set_text.specs.Entry.{Entry}
use Rattle.raw_set_text.specs.Entry.Entry.{Grid, Limit}
use Rattle.raw_set_text.specs.Entries.{topology_of, limits_of, depths_of, ports_of, tiles_of, first_or, set_of}
use Rattle.raw_set_text.specs.Building.{PortsStand, TilesStand}
use Rattle.raw_set_text.specs.Reading.{BuilderStands}
use Rattle.raw_set_text.proofs.Building.PortsKeep.{ports_keep}
use Rattle.raw_set_text.proofs.Building.TilesKeep.{tiles_keep}
use Rattle.raw_set_text.proofs.Building.TilesLists.{unwrap_first}

-- the size of a grid that is given nothing yet
pub size_begins : (ports : Ports) (columns rows : ℕ) → PortsStand ports (Grid columns rows ∷ []) → ports.topo.cols * ports.topo.rows ≡ columns * rows
unfolding topology_of
size_begins ports columns rows stands = ap (λ topo. topo.cols * topo.rows) stands.topo

-- a set of a grid and of a limit
pub builder_begins : (builder : Builder) (columns rows : ℕ) → PortsStand builder.ports (Grid columns rows ∷ []) → TilesStand builder.tiles (Grid columns rows ∷ []) → builder.depth ≡ None → builder.shows.items ≡ [] → builder.shown ≡ 0 → BuilderStands builder (Grid columns rows ∷ Limit builder.limit ∷ [])
builder_begins builder columns rows ports tiles depth shows shown = record {
  begun = refl;
  ports = ports_keep builder.ports (Grid columns rows ∷ []) (Limit builder.limit) refl refl (λ _. refl) refl refl refl ports;
  tiles = tiles_keep builder.tiles (Grid columns rows ∷ []) (Limit builder.limit) (λ _ _. refl) (λ _ _. refl) (λ _ _ _. refl) (λ _ _. refl) refl refl refl refl tiles;
  limit = refl;
  depth = sym depth;
  shows = shows;
  count = ap (λ (xs : List Shown). length xs) shows;
  shown = shown;
}

-- the set of these parts
abbrev set_with : Topology → ℕ → ℕ → List PortProgram → List TileProgram → List Shown → ProgramSet
set_with topo limit depth ports tiles shows = record { topo = topo; limit = limit; depth = depth; ports = ports; tiles = tiles; shows = shows }

-- what was built is the set that the entries declare
pub set_is : (builder : Builder) (entries : List Entry) (depth : ℕ) (tiles : List TileProgram) → BuilderStands builder entries → depth ≡ unwrap_or builder.depth 4 → tiles ≡ tiles_of entries → set_with builder.ports.topo builder.limit depth builder.ports.programs.items tiles builder.shows.items ≡ set_of entries
unfolding set_of
set_is builder entries depth tiles stands deep given =
    let limit : builder.limit ≡ first_or 0 (limits_of entries) = sym (ap (λ limits. first_or 0 limits) stands.limit) in
    let deepness : depth ≡ first_or DEFAULT_DEPTH (depths_of entries) = deep ∙ unwrap_first builder.depth (depths_of entries) DEFAULT_DEPTH (sym stands.depth) in
    ap (λ topo. set_with topo builder.limit depth builder.ports.programs.items tiles builder.shows.items) stands.ports.topo
    ∙ ap (λ n. set_with (topology_of entries) n depth builder.ports.programs.items tiles builder.shows.items) limit
    ∙ ap (λ n. set_with (topology_of entries) (first_or 0 (limits_of entries)) n builder.ports.programs.items tiles builder.shows.items) deepness
    ∙ ap (λ ports. set_with (topology_of entries) (first_or 0 (limits_of entries)) (first_or DEFAULT_DEPTH (depths_of entries)) ports tiles builder.shows.items) stands.ports.programs
    ∙ ap (λ all. set_with (topology_of entries) (first_or 0 (limits_of entries)) (first_or DEFAULT_DEPTH (depths_of entries)) (ports_of entries) all builder.shows.items) given
    ∙ ap (λ shows. set_with (topology_of entries) (first_or 0 (limits_of entries)) (first_or DEFAULT_DEPTH (depths_of entries)) (ports_of entries) (tiles_of entries) shows) stands.shows
