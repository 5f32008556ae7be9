-- Where the pieces of a picture stand, as functions of column, row and lane. A number that is taken away is
-- never the greater one: a corner lies far enough from the left and from above.
use Rattle.std.specs.Prelude.{ℕ, ◌+◌, ◌-◌, ◌*◌, ◌/◌, ◌%◌, ◌≤◌, ◌==◌, ◌||◌, nat_lt, nat_le, if◌then◌else◌}
use Rattle.raw_grid.specs.declared.parts.Net.{Net}
use Rattle.raw_grid.specs.declared.parts.Net.TheVariants.{One, Two}
use Rattle.raw_grid.specs.declared.parts.Side.{Side}
use Rattle.raw_grid.specs.declared.parts.Side.TheVariants.{N, E, S, W}
use Rattle.raw_grid.specs.declared.parts.PortKind.{PortKind}
use Rattle.raw_grid.specs.declared.parts.PortKind.TheVariants.{Source, Sink}
use Rattle.raw_grid.specs.declared.parts.PortPlace.{PortPlace}
use Rattle.raw_grid.specs.Ends.{opposite}
use Rattle.raw_grid.specs.Names.{net_number}
use Rattle.raw_grid.specs.Topology.{Topology, tile_count}
use Rattle.raw_grid.specs.Wires.{producer_of, producer_end, consumer_of, consumer_end}
use Rattle.raw_picture.specs.declared.course.Point.{Point}
use Rattle.raw_picture.specs.declared.course.Channel.{Channel}
use Rattle.raw_picture.specs.declared.course.Beside.{Beside}
use Rattle.raw_picture.specs.declared.course.Beside.TheVariants.{Tile, Neighbour, Port}
use Rattle.raw_picture.specs.declared.course.WirePlace.{WirePlace}
use Rattle.raw_picture.specs.declared.course.Course.{Course}
use Rattle.raw_picture.specs.declared.course.Run.{Run}
use Rattle.raw_picture.specs.declared.course.WireEnds.{WireEnds}
use Rattle.raw_picture.specs.declared.layout.TheConstants.{BOX_HEIGHT, CHANNEL, COLUMN, DOWN_LEFT, FIRST_X, FIRST_Y, LANE, LONG, NETWORK, NORTH_GAP, NORTH_LENGTH, NORTH_START, ROW, SHORT, SOUTH_LEFT, SWITCH_BOTTOM, SWITCH_RIGHT, SWITCH_TOP, WAIT_TRACK, WEST_START, WIRE_TRACK}

-- the corner of the cell in a column and a row
abbrev pub corner_at : ℕ → ℕ → Point
corner_at x y = record { x = FIRST_X + COLUMN * x; y = FIRST_Y + ROW * y }

-- the corner of the cell of a tile
abbrev pub cell : Topology → ℕ → Point
cell topo tile = corner_at (tile % topo.cols) (tile / topo.cols)

-- of the two lanes of a network, that of the wires that lead this way
abbrev pub back : Side → ℕ
back N = 1
back W = 1
back _ = 0

-- the lane of a wire of this network that leads this way
abbrev pub lane : Net → Side → ℕ
lane net way = 2 * (net_number net - 1) + back way

-- the channel between the switch of a cell and what is beside it, where the wire of a port has this lane. That of two
-- neighbours is one and the same for both of them: their corners lie a column or a row apart
abbrev pub channel_at : Point → Beside → ℕ → Channel
channel_at c Tile k = record { x = c.x + DOWN_LEFT; y = c.y + BOX_HEIGHT; length = SHORT }
channel_at c (Neighbour E) k = record { x = c.x + SWITCH_RIGHT; y = c.y + SWITCH_TOP; length = SHORT }
channel_at c (Neighbour S) k = record { x = c.x + SOUTH_LEFT; y = c.y + SWITCH_BOTTOM; length = LONG }
channel_at c (Neighbour W) k = record { x = c.x - WEST_START; y = c.y + SWITCH_TOP; length = SHORT }
channel_at c (Neighbour N) k = record { x = c.x + SOUTH_LEFT; y = c.y - NORTH_START; length = LONG }
channel_at c (Port E) k = record { x = c.x + SWITCH_RIGHT; y = c.y + SWITCH_TOP; length = SHORT }
channel_at c (Port S) k = record { x = c.x + SOUTH_LEFT; y = c.y + SWITCH_BOTTOM; length = SHORT + LANE * k }
channel_at c (Port W) k = record { x = c.x - WEST_START; y = c.y + SWITCH_TOP; length = SHORT }
channel_at c (Port N) k = record { x = c.x + SOUTH_LEFT; y = c.y - (NORTH_GAP + LANE * k); length = NORTH_LENGTH + LANE * k }

-- the point of a course at this distance from its beginning
abbrev pub along_way : Side → Channel → ℕ → ℕ → Point
along_way E c track d = record { x = c.x + d; y = c.y + track }
along_way W c track d = record { x = c.x + c.length - d; y = c.y + track }
along_way S c track d = record { x = c.x + track; y = c.y + d }
along_way N c track d = record { x = c.x + track; y = c.y + c.length - d }

abbrev pub along : Course → ℕ → Point
along course d = along_way course.way course.channel course.track d

-- the network of an end with this index
abbrev pub net_at : ℕ → Net
net_at index = if nat_lt index 5 then One else Two

-- the side of a switch at which its end with this index is
abbrev pub side_at : ℕ → Side
side_at index =
    if index % 5 == 0 then N
    else (if index % 5 == 1 then E
    else (if index % 5 == 2 then S else W))

-- the ends of a wire
abbrev pub ends_of : Topology → ℕ → WireEnds
ends_of topo v =
    record { from = producer_of topo v; output = producer_end topo v; to = consumer_of topo v; input = consumer_end topo v }

-- where the wire with these ends lies: from a tile to its switch, from a switch to its tile, from a switch at a side to a
-- port or to its neighbour there, from a port to a switch
unfoldable pub place_of : Topology → WireEnds → WirePlace
place_of topo e =
    if nat_lt e.from (tile_count topo) then record { tile = e.from; beside = Tile; way = S }
    else (if nat_lt e.to (tile_count topo) then record { tile = e.to; beside = Tile; way = N }
    else (if nat_lt e.from (2 * tile_count topo)
    then record {
      tile = e.from - tile_count topo;
      beside = if nat_le (2 * tile_count topo) e.to then Port (side_at e.output) else Neighbour (side_at e.output);
      way = side_at e.output;
    }
    else record { tile = e.to - tile_count topo; beside = Port (side_at e.input); way = opposite (side_at e.input) }))

-- how the wire with these ends runs
unfoldable pub run_of : Topology → WireEnds → Run
run_of topo e =
    let place = place_of topo e in
    let net = net_at e.output in
    record { channel = channel_at (cell topo place.tile) place.beside (lane net place.way); way = place.way; net = net }

-- how a wire runs
abbrev pub run_at : Topology → ℕ → Run
run_at topo v = run_of topo (ends_of topo v)

-- the course of the arrow of a wire that runs so
abbrev pub wire_course : Run → Course
wire_course run = record { channel = run.channel; way = run.way; track = WIRE_TRACK + LANE * lane run.net run.way }

-- the side that a wait of processor p on a wire points to: that to which the wire leads where p is its producer,
-- and else the opposite one
abbrev pub wait_way : WireEnds → ℕ → Run → Side
wait_way e p run = if e.from == p then run.way else opposite run.way

-- the track of a wait of processor p on a wire: between a tile and its switch each of the two has its own
abbrev pub wait_track : Topology → WireEnds → ℕ → Run → ℕ
wait_track topo e p run =
    if nat_lt e.from (tile_count topo) || nat_lt e.to (tile_count topo)
    then (if nat_lt p (tile_count topo) then WAIT_TRACK else WAIT_TRACK + LANE) + NETWORK * (net_number run.net - 1)
    else WAIT_TRACK + LANE * lane run.net run.way

-- the course of the arrow of a wait of processor p on wire v
unfoldable pub wait_course : Topology → ℕ → ℕ → Course
wait_course topo p v =
    let e = ends_of topo v in
    let run = run_of topo e in
    record { channel = run.channel; way = wait_way e p run; track = wait_track topo e p run }

-- the side to which the wire of a port leads: away from a source, and towards a sink
abbrev pub port_way : PortKind → Side → Side
port_way Source side = opposite side
port_way Sink side = side

-- the lane of the wire of a port
abbrev pub port_lane : PortPlace → ℕ
port_lane place = lane place.net (port_way place.kind place.side)

-- a corner of a cell lies far enough from the left and from above, and not too far
pub record IsCorner (c : Point) : Type 0 where
  pub right : FIRST_X ≤ c.x
  pub below : FIRST_Y ≤ c.y
  pub column : c.x ≤ 100000
  pub row : c.y ≤ 100000

-- a channel lies neither too near nor too far off, and is as long as that of a port in the north at most
pub record IsChannel (c : Channel) : Type 0 where
  pub right : 24 ≤ c.x
  pub below : 100 ≤ c.y
  pub column : c.x ≤ 101000
  pub row : c.y ≤ 101000
  pub long : SHORT ≤ c.length
  pub short : c.length ≤ NORTH_LENGTH + 3 * LANE

-- a course runs within the width of its channel
pub record IsCourse (course : Course) : Type 0 where
  pub channel : IsChannel course.channel
  pub track : course.track ≤ CHANNEL
