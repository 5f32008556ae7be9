-- The frame of a picture: its edges, which the size of the grid and the sides of its ports decide.
use Rattle.std.specs.Prelude.{ℕ, ◌+◌, ◌-◌, ◌*◌, ◌==◌, ◌≤◌, max, Bool, if◌then◌else◌}
use Rattle.std.specs.List.{list_any}
use Rattle.raw_grid.specs.declared.parts.Side.{Side}
use Rattle.raw_grid.specs.declared.parts.Side.TheVariants.{N, E, S, W}
use Rattle.raw_grid.specs.declared.parts.PortPlace.{PortPlace}
use Rattle.raw_grid.specs.Names.{side_number}
use Rattle.raw_grid.specs.Topology.{Topology}
use Rattle.raw_picture.specs.declared.frame.Frame.{Frame}
use Rattle.raw_picture.specs.declared.layout.TheConstants.{COLUMN, FIRST_X, FIRST_Y, LEAST_WIDTH, NO_EAST, NO_NORTH, NO_SOUTH, NO_WEST, ROW, TO_EAST, TO_SOUTH}

-- whether a port is at this side
abbrev pub is_at : Side → PortPlace → Bool
is_at side place = side_number place.side == side_number side

unfoldable pub has_port : Topology → Side → Bool
has_port topo side = list_any (is_at side) topo.places

-- the edges of the picture: there is room at a side where a port is
unfoldable pub frame_of : Topology → Frame
frame_of topo = record {
  left = if has_port topo W then 0 else NO_WEST;
  top = if has_port topo N then 0 else NO_NORTH;
  right = FIRST_X + COLUMN * topo.cols + (if has_port topo E then TO_EAST else NO_EAST);
  bottom = FIRST_Y + ROW * topo.rows + (if has_port topo S then TO_SOUTH else NO_SOUTH);
}

abbrev pub width : Frame → ℕ
width f = max LEAST_WIDTH (f.right - f.left)

abbrev pub height : Frame → ℕ
height f = f.bottom - f.top

-- a frame has its edges within these bounds
pub record IsFrame (f : Frame) : Type 0 where
  pub left : f.left ≤ NO_WEST
  pub top : f.top ≤ NO_NORTH
  pub some_right : FIRST_X + COLUMN + NO_EAST ≤ f.right
  pub right : f.right ≤ 100000
  pub some_bottom : FIRST_Y + ROW + NO_SOUTH ≤ f.bottom
  pub bottom : f.bottom ≤ 100000
