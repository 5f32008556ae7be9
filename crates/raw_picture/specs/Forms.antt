-- The forms of which a picture is made, as texts.
use Rattle.std.specs.Prelude.{ℕ, ◌+◌, ◌-◌, List, ◌++◌, codes, decimal}
use Rattle.std.specs.List.{flat_map}
use Rattle.raw_grid.specs.declared.parts.Side.{Side}
use Rattle.raw_grid.specs.declared.parts.Side.TheVariants.{N, E, S, W}
use Rattle.raw_picture.specs.declared.course.Course.{Course}
use Rattle.raw_picture.specs.declared.layout.TheConstants.{MIDDLE, TAG_BEFORE, TAG_BESIDE, TAG_LENGTH, TAG_WIDTH}
use Rattle.raw_picture.specs.Places.{along}

-- texts one after another
abbrev pub in_turn : List (List ℕ) → List ℕ
in_turn texts = flat_map (λ text. text) texts

-- a rectangle of this class, with its corner, its width and its height, and the radius of its corners
unfoldable pub rect : List ℕ → ℕ → ℕ → ℕ → ℕ → ℕ → List ℕ
rect class x y width height radius =
    codes "<rect class=\"" ++ class ++ codes "\" x=\"" ++ decimal x ++ codes "\" y=\"" ++ decimal y
    ++ codes "\" width=\"" ++ decimal width ++ codes "\" height=\"" ++ decimal height ++ codes "\" rx=\"" ++ decimal radius ++ codes "\"/>\n"

-- what stands before a text of this class at this point, without the end of its tag
unfoldable pub text_head : List ℕ → ℕ → ℕ → List ℕ
text_head class x y = codes "<text class=\"" ++ class ++ codes "\" x=\"" ++ decimal x ++ codes "\" y=\"" ++ decimal y

-- what stands behind a text
abbrev pub text_end : List ℕ
text_end = codes "</text>\n"

-- a text of this class at this point
unfoldable pub text : List ℕ → ℕ → ℕ → List ℕ → List ℕ
text class x y shown = text_head class x y ++ codes "\">" ++ shown ++ text_end

-- the text of a tag that runs upwards
unfoldable pub turned : ℕ → ℕ → List ℕ → List ℕ
turned x y shown =
    text_head (codes "tagged mid") x y
    ++ codes "\" transform=\"rotate(-90 " ++ decimal x ++ codes " " ++ decimal y ++ codes ")\">" ++ shown ++ text_end

-- a title, which a reader of the document shows where one points
unfoldable pub title : List ℕ → List ℕ
title shown = codes "<title>" ++ shown ++ codes "</title>\n"

-- what stands before and behind the pieces of a group
abbrev pub group_start : List ℕ
group_start = codes "<g>\n"

abbrev pub group_end : List ℕ
group_end = codes "</g>\n"

-- the stroke of a line that leads this way, before its length
abbrev pub stroke : Side → List ℕ
stroke N = codes "v-"
stroke E = codes "h"
stroke S = codes "v"
stroke W = codes "h-"

-- an arrow of this class along a course, from this distance on and to 9 before its end
unfoldable pub arrow : List ℕ → Course → ℕ → List ℕ
arrow class course d =
    codes "<path class=\"" ++ class ++ codes "\" d=\"M" ++ decimal (along course d).x ++ codes " " ++ decimal (along course d).y
    ++ stroke course.way ++ decimal (course.channel.length - d - 9) ++ codes "\"/>\n"

-- a number at the beginning of a course
abbrev pub number : List ℕ → Course → List ℕ → List ℕ
number class course shown = text class (along course 8).x ((along course 8).y + 4) shown

-- the box of a tag in the middle of a course, by the way of the course
abbrev pub tag_box_by : Side → ℕ → ℕ → List ℕ
tag_box_by E x y = rect (codes "tag") (x - TAG_BEFORE) (y - TAG_BESIDE) TAG_LENGTH TAG_WIDTH 3
tag_box_by W x y = rect (codes "tag") (x - TAG_BEFORE) (y - TAG_BESIDE) TAG_LENGTH TAG_WIDTH 3
tag_box_by N x y = rect (codes "tag") (x - TAG_BESIDE) (y - TAG_BEFORE) TAG_WIDTH TAG_LENGTH 3
tag_box_by S x y = rect (codes "tag") (x - TAG_BESIDE) (y - TAG_BEFORE) TAG_WIDTH TAG_LENGTH 3

unfoldable pub tag_box : Course → List ℕ
tag_box course = tag_box_by course.way (along course MIDDLE).x (along course MIDDLE).y

-- the text of a tag, which runs along the course
abbrev pub tag_text_by : Side → ℕ → ℕ → List ℕ → List ℕ
tag_text_by E x y shown = text (codes "tagged mid") x (y + 4) shown
tag_text_by W x y shown = text (codes "tagged mid") x (y + 4) shown
tag_text_by N x y shown = turned (x + 4) y shown
tag_text_by S x y shown = turned (x + 4) y shown

unfoldable pub tag_text : Course → List ℕ → List ℕ
tag_text course shown = tag_text_by course.way (along course MIDDLE).x (along course MIDDLE).y shown

-- a number behind a word
unfoldable pub labelled : List ℕ → ℕ → List ℕ
labelled label n = label ++ decimal n
