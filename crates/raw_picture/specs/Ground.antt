-- The ground of a picture: the cells of the tiles, and the channels in which wires run.
use Rattle.std.specs.Prelude.{ℕ, ◌+◌, ◌-◌, ◌*◌, ◌/◌, ◌%◌, nat_lt, Bool, List, [], ◌++◌, codes, if◌then◌else◌}
use Rattle.raw_grid.specs.declared.parts.Side.{Side}
use Rattle.raw_grid.specs.declared.parts.Side.TheVariants.{N, E, S, W}
use Rattle.raw_grid.specs.declared.parts.PortPlace.{PortPlace}
use Rattle.raw_grid.specs.Topology.{Topology}
use Rattle.raw_picture.specs.declared.course.Point.{Point}
use Rattle.raw_picture.specs.declared.layout.TheConstants.{BOX_HEIGHT, CELL_EDGE, CELL_HEIGHT, CELL_WIDTH, CHANNEL, DOWN_LEFT, LANE, LANES_LEFT, LANES_TOP, LONG, NORTH_GAP, NORTH_LENGTH, PORT_HEIGHT, SHORT, SOUTH_LEFT, SWITCH_BOTTOM, SWITCH_RIGHT, SWITCH_TOP, WEST_START}
use Rattle.raw_picture.specs.Places.{corner_at, cell, port_lane}
use Rattle.raw_picture.specs.Forms.{rect}

-- the ground of a tile
unfoldable pub cell_ground : Topology → ℕ → List ℕ
cell_ground topo t = rect (codes "cell") ((cell topo t).x - CELL_EDGE) ((cell topo t).y - CELL_EDGE) CELL_WIDTH CELL_HEIGHT 6

-- the ground of a channel
abbrev pub channel_ground : ℕ → ℕ → ℕ → ℕ → List ℕ
channel_ground x y width height = rect (codes "link") x y width height 0

-- that to a neighbour, where there is one
abbrev pub neighbour_ground : Bool → ℕ → ℕ → ℕ → ℕ → List ℕ
neighbour_ground there x y width height = if there then channel_ground x y width height else []

-- the channels of a tile: to its switch, to the east, to the south
unfoldable pub link_ground : Topology → ℕ → List ℕ
link_ground topo t =
    let c = cell topo t in
    channel_ground (c.x + DOWN_LEFT) (c.y + BOX_HEIGHT) CHANNEL SHORT
    ++ neighbour_ground (nat_lt (t % topo.cols + 1) topo.cols) (c.x + SWITCH_RIGHT) (c.y + SWITCH_TOP) SHORT CHANNEL
    ++ neighbour_ground (nat_lt (t / topo.cols + 1) topo.rows) (c.x + SOUTH_LEFT) (c.y + SWITCH_BOTTOM) CHANNEL LONG

-- the lane of a port at a side of a cell
abbrev pub lane_ground_at : Side → Point → ℕ → List ℕ
lane_ground_at W c k = channel_ground (c.x - WEST_START) (c.y + LANES_TOP + LANE * k) SHORT PORT_HEIGHT
lane_ground_at E c k = channel_ground (c.x + SWITCH_RIGHT) (c.y + LANES_TOP + LANE * k) SHORT PORT_HEIGHT
lane_ground_at N c k = channel_ground (c.x + LANES_LEFT + LANE * k) (c.y - (NORTH_GAP + LANE * k)) PORT_HEIGHT (NORTH_LENGTH + LANE * k)
lane_ground_at S c k = channel_ground (c.x + LANES_LEFT + LANE * k) (c.y + SWITCH_BOTTOM) PORT_HEIGHT (SHORT + LANE * k)

-- the lane of the port at this place
unfoldable pub lane_ground : PortPlace → List ℕ
lane_ground place = lane_ground_at place.side (corner_at place.x place.y) (port_lane place)
