-- The legend of a picture.
use Rattle.std.specs.Prelude.{ℕ, ◌+◌, ◌-◌, ◌*◌, List, [], ◌∷◌, ◌++◌, codes}
use Rattle.raw_grid.specs.declared.parts.Net.{Net}
use Rattle.raw_grid.specs.declared.parts.Net.TheVariants.{One, Two}
use Rattle.raw_grid.specs.declared.parts.Side.TheVariants.{E}
use Rattle.raw_grid.specs.Names.{net_number}
use Rattle.raw_picture.specs.declared.course.Course.{Course}
use Rattle.raw_picture.specs.declared.frame.Frame.{Frame}
use Rattle.raw_picture.specs.declared.layout.TheConstants.{LEGEND_HEIGHT, LEGEND_LEFT, LEGEND_TEXT, SHORT}
use Rattle.raw_picture.specs.Flows.{arrow_class, number_class}
use Rattle.raw_picture.specs.Forms.{in_turn, text, arrow, number, tag_box, tag_text, labelled}

-- the course of a line of the legend with this track; the legend stands in the lower left corner
abbrev pub legend_course : Frame → ℕ → Course
legend_course f track = record { channel = record { x = f.left + LEGEND_LEFT; y = f.bottom - LEGEND_HEIGHT; length = SHORT }; way = E; track = track }

-- what a line of the legend says
unfoldable pub legend_text : Frame → ℕ → List ℕ → List ℕ
legend_text f track shown = text (codes "soft") (f.left + LEGEND_TEXT) (f.bottom - LEGEND_HEIGHT + track + 4) shown

-- what the row of a wire of this network says
abbrev pub wire_meaning : Net → List ℕ
wire_meaning One = codes "a wire of network 1 that holds 3 values"
wire_meaning Two = codes "a wire of network 2 that holds 3 values"

-- the legend: an arrow of each kind, and what it means
unfoldable pub wire_row : Frame → Net → List ℕ
wire_row f net =
    let track = 20 * (net_number net - 1) in
    in_turn (
    arrow (arrow_class net) (legend_course f track) 15
    ∷ number (number_class net) (legend_course f track) (codes "3")
    ∷ legend_text f track (wire_meaning net)
    ∷ [])

unfoldable pub wait_rows : Frame → List ℕ
wait_rows f =
    in_turn (
    arrow (codes "wait") (legend_course f 40) 2
    ∷ tag_box (legend_course f 40)
    ∷ tag_text (legend_course f 40) (labelled (codes "wire ") 8)
    ∷ legend_text f 40 (codes "a wait of the cycle or chain, on wire 8")
    ∷ arrow (codes "thin") (legend_course f 60) 2
    ∷ legend_text f 60 (codes "another wait; each points to who is waited for")
    ∷ [])

unfoldable pub legend : Frame → List ℕ
legend f = wire_row f One ++ wire_row f Two ++ wait_rows f ++ codes "</svg>\n"
