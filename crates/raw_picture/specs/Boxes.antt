-- The boxes of tiles, switches and ports.
use Rattle.std.specs.Prelude.{ℕ, ◌+◌, ◌-◌, ◌*◌, Bool, Option, Some, None, List, [], ◌∷◌, ◌++◌, codes, decimal, length, slice_get, if◌then◌else◌}
use Rattle.raw_grid.specs.declared.parts.Side.{Side}
use Rattle.raw_grid.specs.declared.parts.Side.TheVariants.{N, E, S, W}
use Rattle.raw_grid.specs.declared.parts.PortKind.{PortKind}
use Rattle.raw_grid.specs.declared.parts.PortKind.TheVariants.{Source, Sink}
use Rattle.raw_grid.specs.declared.parts.PortPlace.{PortPlace}
use Rattle.raw_grid.specs.Names.{kind_text, net_text}
use Rattle.raw_grid.specs.Topology.{Topology, tile_count}
use Rattle.raw_model.specs.Program.{ProgramSet, PortProgram}
use Rattle.raw_model.specs.Start.{MachineState}
use Rattle.raw_model.specs.StateTexts.{mark_of}
use Rattle.raw_model.specs.Parts.{count_in}
use Rattle.raw_picture.specs.declared.course.Point.{Point}
use Rattle.raw_picture.specs.declared.names.Progress.{Progress}
use Rattle.raw_picture.specs.declared.layout.TheConstants.{BOX_HEIGHT, EAST_PORT, LANE, LANES_TOP, NORTH_PORT, PORT_HEIGHT, PORT_LEFT, PORT_WIDTH, SOUTH_PORT, SWITCH_LEFT, SWITCH_TOP, SWITCH_WIDTH, TILE_WIDTH, WEST_PORT}
use Rattle.raw_picture.specs.Places.{corner_at, cell, port_lane}
use Rattle.raw_picture.specs.Forms.{in_turn, rect, text, title, group_start, group_end, labelled}
use Rattle.raw_names.specs.Names.{processor_name}
use Rattle.raw_picture.specs.Names.{first_word, shown_mark, no_code, no_switch_code, pc_at}
use Rattle.raw_picture.specs.Told.{is_told}

-- the class of a box, by the mark that it shows and whether its processor is told
unfoldable pub box_class : List ℕ → Bool → List ℕ
box_class mark on = codes "box " ++ first_word mark ++ (if on then codes " on" else [])

-- how far processor p is
abbrev pub progress_of : MachineState → ℕ → Progress
progress_of s p = record { count = count_in (slice_get s.locals p); pc = pc_at (slice_get s.locals p) }

-- what the title of the box of a tile or a switch says
unfoldable pub box_title : Topology → ℕ → List ℕ → Progress → List ℕ
box_title topo p mark far =
    processor_name topo p ++ codes ", processor " ++ decimal p ++ codes ": " ++ mark ++ codes ", count " ++ decimal far.count
    ++ codes ", pc " ++ decimal far.pc

-- the box of a tile or a switch at a point, as wide as this: its name, its number, its mark, its count and its pc
unfoldable pub box_with : Topology → ℕ → Point → ℕ → List ℕ → Bool → Progress → List ℕ
box_with topo p at width mark on far =
    in_turn (
    group_start
    ∷ title (box_title topo p mark far)
    ∷ rect (box_class mark on) at.x at.y width BOX_HEIGHT 4
    ∷ text (codes "name") (at.x + 8) (at.y + 20) (processor_name topo p)
    ∷ text (codes "soft end") (at.x + width - 8) (at.y + 20) (labelled (codes "#") p)
    ∷ text (codes "mark") (at.x + 8) (at.y + 39) mark
    ∷ text (codes "plain") (at.x + 8) (at.y + 57) (labelled (codes "count ") far.count)
    ∷ text (codes "plain") (at.x + 8) (at.y + 74) (labelled (codes "pc ") far.pc)
    ∷ group_end
    ∷ [])

-- the box of processor p, a tile or a switch, whose program is empty or not
unfoldable pub box_of : ProgramSet → MachineState → ℕ → Bool → Point → ℕ → List ℕ
box_of set s p empty at width =
    box_with set.topo p at width (shown_mark set s p empty) (is_told set s p) (progress_of s p)

-- where the box of the switch beside a tile stands
abbrev pub switch_corner : Point → Point
switch_corner c = record { x = c.x + SWITCH_LEFT; y = c.y + SWITCH_TOP }

-- the box of a tile, and that of its switch
unfoldable pub boxes : ProgramSet → MachineState → ℕ → List ℕ
boxes set s t =
    box_of set s t (no_code (slice_get set.tiles t)) (cell set.topo t) TILE_WIDTH
    ++ box_of set s (tile_count set.topo + t) (no_switch_code (slice_get set.tiles t)) (switch_corner (cell set.topo t)) SWITCH_WIDTH

-- where the box of a port stands, at a side of a cell, by its lane
abbrev pub port_corner : Side → Point → ℕ → Point
port_corner W c k = record { x = c.x - WEST_PORT; y = c.y + LANES_TOP + LANE * k }
port_corner E c k = record { x = c.x + EAST_PORT; y = c.y + LANES_TOP + LANE * k }
port_corner N c k = record { x = c.x - PORT_LEFT + LANE * k; y = c.y - (NORTH_PORT + LANE * k) }
port_corner S c k = record { x = c.x - PORT_LEFT + LANE * k; y = c.y + SOUTH_PORT + LANE * k }

-- the word for what a port of this kind has done
abbrev pub done_word : PortKind → List ℕ
done_word Source = codes "sent"
done_word Sink = codes "got"

-- how many words a port puts in or takes out at most: a source has so many words, a sink so much room
abbrev pub most_of : PortKind → PortProgram → ℕ
most_of Source port = length port.words
most_of Sink port = port.capacity

abbrev pub most_at : PortKind → Option PortProgram → ℕ
most_at kind None = 0
most_at kind (Some port) = most_of kind port

-- what the title of the box of a port says
unfoldable pub port_title : Topology → ℕ → PortPlace → List ℕ → ℕ → ℕ → List ℕ
port_title topo p place mark count most =
    processor_name topo p ++ codes ", processor " ++ decimal p ++ codes ": " ++ mark ++ codes ", " ++ done_word place.kind ++ codes " "
    ++ decimal count ++ codes " of " ++ decimal most

-- what the box of a port shows: its kind, its network, how far it is
unfoldable pub port_text : PortPlace → ℕ → ℕ → List ℕ
port_text place count most =
    kind_text place.kind ++ codes " " ++ net_text place.net ++ codes ": " ++ decimal count ++ codes "/" ++ decimal most

-- its number stands away from the grid at E, and on the left elsewhere
abbrev pub port_texts : Side → Point → ℕ → List ℕ → List ℕ
port_texts E at p shown =
    text (codes "plain") (at.x + 6) (at.y + 12) shown ++ text (codes "soft end") (at.x + 190) (at.y + 12) (labelled (codes "#") p)
port_texts _ at p shown =
    text (codes "soft") (at.x + 6) (at.y + 12) (labelled (codes "#") p) ++ text (codes "plain end") (at.x + 190) (at.y + 12) shown

-- the box of the port that is processor p and stands at this place
unfoldable pub port_box_with : Topology → ℕ → PortPlace → List ℕ → Bool → ℕ → ℕ → List ℕ
port_box_with topo p place mark on count most =
    let at = port_corner place.side (corner_at place.x place.y) (port_lane place) in
    in_turn (
    group_start
    ∷ title (port_title topo p place mark count most)
    ∷ rect (box_class mark on) at.x at.y PORT_WIDTH PORT_HEIGHT 3
    ∷ port_texts place.side at p (port_text place count most)
    ∷ group_end
    ∷ [])

unfoldable pub port_box : ProgramSet → MachineState → ℕ → PortPlace → List ℕ
port_box set s i place =
    let p = 2 * tile_count set.topo + i in
    port_box_with set.topo p place (mark_of set s p) (is_told set s p) (count_in (slice_get s.locals p))
    (most_at place.kind (slice_get set.ports i))
