-- How many bytes an image has at most.
use Rattle.std.proofs.Common.{◌≡◌, ℕ, ◌+◌, ◌*◌, ◌^◌, ◌≤◌, List, [], ◌∷◌, ◌++◌, length, refl, arith, sum_by}
use Rattle.std.specs.List.{flat_map, zip}
use Rattle.std.proofs.lemmas.List.{length-append}
use Rattle.std.proofs.lemmas.List.Concat.{length-flat_map}
use Rattle.std.proofs.lemmas.List.Sums.{sum_by-le, sum_by-cons}
use Rattle.raw_grid.specs.declared.parts.PortKind.{PortKind}
use Rattle.raw_grid.specs.declared.parts.PortKind.TheVariants.{Source, Sink}
use Rattle.raw_grid.specs.declared.parts.PortPlace.{PortPlace}
use Rattle.raw_model.specs.Program.{ProgramSet, TileProgram, PortProgram, IsSet}
use Rattle.raw_image.specs.declared.version.Version.TheVariants.{Two}
use Rattle.raw_image.specs.Image.{number, counted, instruction_bytes, switch_bytes, cell_bytes, place_bytes, given_bytes, port_bytes, ports_bytes, misses_bytes, tile_bytes, show_bytes, head_bytes, image_in, image}
use Rattle.raw_image.proofs.Promises.{Promises}

-- a list whose elements have at most so many bytes each
counted_size : {A : Type 0} (bytes : A → List ℕ) (size : ℕ) (xs : List A) → ((x : A) → length (bytes x) ≤ size)
    → length (counted bytes xs) ≤ 4 + length xs * size
counted_size bytes size xs each =
    let count : length (number (length xs)) ≡ 4 = refl in
    omega (arith, count, length-append (number (length xs)) (flat_map bytes xs), length-flat_map bytes xs, sum_by-le (λ x. length (bytes x)) size xs (λ k d lt. each _))

tile_size : (tile : TileProgram)
    → length (tile_bytes Two tile) ≤ 16 + 4 * length tile.code + 8 * length tile.switch + 8 * length tile.cells + length tile.misses
tile_size tile =
    let code = counted instruction_bytes tile.code in
    let switch = counted switch_bytes tile.switch in
    let cells = counted cell_bytes tile.cells in
    let count : length (number (length tile.misses)) ≡ 4 = refl in
    omega (
      arith,
      count,
      length-append code (switch ++ (cells ++ misses_bytes Two tile.misses)),
      length-append switch (cells ++ misses_bytes Two tile.misses),
      length-append cells (misses_bytes Two tile.misses),
      length-append (number (length tile.misses)) tile.misses,
      counted_size instruction_bytes 4 tile.code (λ ins. omega arith),
      counted_size switch_bytes 8 tile.switch (λ ins. omega arith),
      counted_size cell_bytes 8 tile.cells (λ cell. omega arith),
    )

tiles_size : (tiles : List TileProgram) → length (flat_map (tile_bytes Two) tiles)
    ≤ 16 * length tiles + 4 * sum_by (λ (tile : TileProgram). length tile.code) tiles
    + 8 * sum_by (λ (tile : TileProgram). length tile.switch) tiles
    + 8 * sum_by (λ (tile : TileProgram). length tile.cells) tiles
    + sum_by (λ (tile : TileProgram). length tile.misses) tiles
tiles_size [] = omega arith
tiles_size (tile ∷ tiles) =
    omega (
      arith,
      tiles_size tiles,
      tile_size tile,
      length-append (tile_bytes Two tile) (flat_map (tile_bytes Two) tiles),
      sum_by-cons (λ (tile : TileProgram). length tile.code) tile tiles,
      sum_by-cons (λ (tile : TileProgram). length tile.switch) tile tiles,
      sum_by-cons (λ (tile : TileProgram). length tile.cells) tile tiles,
      sum_by-cons (λ (tile : TileProgram). length tile.misses) tile tiles,
    )

given_size : (kind : PortKind) (port : PortProgram) → length (given_bytes kind port) ≤ 4 + 4 * length port.words
given_size Source port = omega (arith, counted_size number 4 port.words (λ word. omega arith))
given_size Sink port = omega arith

ports_size : (places : List PortPlace) (ports : List PortProgram) → length (flat_map port_bytes (zip places ports))
    ≤ 12 * length ports + 4 * sum_by (λ (port : PortProgram). length port.words) ports
ports_size [] ports = omega arith
ports_size (place ∷ places) [] = omega arith
ports_size (place ∷ places) (port ∷ ports) =
    let stands : length (place_bytes place) ≡ 8 = refl in
    omega (
      arith,
      stands,
      ports_size places ports,
      given_size place.kind port,
      length-append (place_bytes place) (given_bytes place.kind port),
      length-append (port_bytes (place, port)) (flat_map port_bytes (zip places ports)),
      sum_by-cons (λ (port : PortProgram). length port.words) port ports,
    )

-- an image of all limits has about 2,900,000 bytes
pub image_size : Promises → (set : ProgramSet) → IsSet set → length (image set) ≤ 2 ^ 22
unfolding image_in
image_size promised set valid =
    let head = head_bytes Two set.topo.cols set.topo.rows set.depth set.limit in
    let ports = ports_bytes set.topo.places set.ports in
    let tiles = flat_map (tile_bytes Two) set.tiles in
    let shows = counted show_bytes set.shows in
    let front : length head ≡ 16 = refl in
    let count : length (number (length set.ports)) ≡ 4 = refl in
    omega (
      arith,
      front,
      count,
      length-append head (ports ++ (tiles ++ shows)),
      length-append ports (tiles ++ shows),
      length-append tiles shows,
      length-append (number (length set.ports)) (flat_map port_bytes (zip set.topo.places set.ports)),
      ports_size set.topo.places set.ports,
      tiles_size set.tiles,
      counted_size show_bytes 12 set.shows (λ show. omega arith),
      promised.ports set.topo valid.topology,
      promised.tiles set.topo valid.topology,
      valid.topology.size.most_cols,
      valid.topology.size.most_rows,
      valid.each_port,
      valid.each_tile,
      valid.totals.instructions,
      valid.totals.switch_instructions,
      valid.totals.cells,
      valid.totals.misses,
      valid.totals.words,
      valid.totals.shows,
    )
