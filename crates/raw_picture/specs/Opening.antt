-- What stands before the grid: the title, the description, the style, the head lines.
use Rattle.std.specs.Prelude.{ℕ, ◌+◌, List, [], ◌∷◌, ◌++◌, codes, decimal}
use Rattle.raw_grid.specs.Topology.{Topology}
use Rattle.raw_model.specs.Program.{ProgramSet}
use Rattle.raw_model.specs.Start.{MachineState}
use Rattle.raw_model.specs.Outcomes.{outcome}
use Rattle.raw_model.specs.StateTexts.{outcome_word}
use Rattle.raw_picture.specs.declared.frame.Frame.{Frame}
use Rattle.raw_picture.specs.Forms.{in_turn, rect, text, title}
use Rattle.raw_picture.specs.Frame.{frame_of, width, height}
use Rattle.raw_picture.specs.Style.{style}
use Rattle.raw_picture.specs.Told.{say, description}

-- the size of the grid
unfoldable pub grid_text : Topology → List ℕ
grid_text topo = codes "grid " ++ decimal topo.cols ++ codes " " ++ decimal topo.rows

-- the size of the document, and the part of the plane that it shows
unfoldable pub size_text : Frame → List ℕ
size_text f =
    codes " width=\"" ++ decimal (width f) ++ codes "\" height=\"" ++ decimal (height f) ++ codes "\" viewBox=\"" ++ decimal f.left ++ codes " "
    ++ decimal f.top ++ codes " " ++ decimal (width f) ++ codes " " ++ decimal (height f) ++ codes "\">\n"

-- the title of the document
unfoldable pub title_text : ProgramSet → MachineState → List ℕ
title_text set s = grid_text set.topo ++ codes " at rest: " ++ outcome_word (outcome set s)

-- what stands before the size of the document
unfoldable pub svg_start : List ℕ
svg_start = codes "<svg xmlns=\"http://www.w3.org/2000/svg\" role=\"img\""

-- the first lines
unfoldable pub opening : ProgramSet → MachineState → List ℕ
opening set s =
    in_turn (
    svg_start
    ∷ size_text (frame_of set.topo)
    ∷ title (title_text set s)
    ∷ [])

-- what the set says of the grid, its limit and its depth
unfoldable pub set_text : ProgramSet → List ℕ
set_text set =
    grid_text set.topo ++ codes ", limit " ++ decimal set.limit ++ codes ", depth " ++ decimal set.depth

-- the page, and the head lines in its upper left corner
unfoldable pub head : ProgramSet → MachineState → List ℕ
head set s =
    let f = frame_of set.topo in
    in_turn (
    rect (codes "page") f.left f.top (width f) (height f) 0
    ∷ text (codes "head") (f.left + 24) (f.top + 42) (outcome_word (outcome set s))
    ∷ text (codes "say") (f.left + 24) (f.top + 64) (say set s (outcome set s))
    ∷ text (codes "soft") (f.left + 24) (f.top + 83) (set_text set)
    ∷ [])

-- all that stands before the grid
unfoldable pub front : ProgramSet → MachineState → List ℕ
front set s = opening set s ++ description set s ++ style ++ head set s
