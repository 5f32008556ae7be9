-- The whole text of a picture is made of its fixed pieces of markup and of texts without markup.
use Rattle.std.proofs.Common.{◌≡◌, ℕ, zero, suc, ◌+◌, ◌-◌, ◌*◌, ◌/◌, ◌%◌, Bool, true, false, ◌||◌, List, [], ◌∷◌, ◌++◌, codes, length, take, Option, Some, None, refl, ap, ◌∙◌, inl, inr, append-nil}
use Rattle.std.specs.Prelude.{decimal, nat_lt, slice_get, if◌then◌else◌}
use Rattle.std.specs.List.{list_all, list_any, flat_map, range_with_len, position, AllByRecursion}
use Rattle.std.proofs.lemmas.List.Folds.{list_any-append}
use Rattle.std.proofs.lemmas.List.Elements.{All-from_recursion, All-append}
use Rattle.std.proofs.lemmas.Grind.{flat_map-append}
use Rattle.raw_network.specs.Network.{values_on}
use Rattle.raw_grid.specs.declared.parts.Net.{Net}
use Rattle.raw_grid.specs.declared.parts.Net.TheVariants.{One, Two}
use Rattle.raw_grid.specs.declared.parts.Side.{Side}
use Rattle.raw_grid.specs.declared.parts.Side.TheVariants.{N, E, S, W}
use Rattle.raw_grid.specs.declared.parts.PortPlace.{PortPlace}
use Rattle.raw_grid.specs.Names.{net_number}
use Rattle.raw_grid.specs.Topology.{Topology, tile_count}
use Rattle.raw_model.specs.Program.{ProgramSet}
use Rattle.raw_model.specs.Start.{MachineState}
use Rattle.raw_model.specs.Rest.{end}
use Rattle.raw_model.specs.Outcomes.{outcome}
use Rattle.raw_model.specs.Texts.{words_text}
use Rattle.raw_model.specs.StateTexts.{outcome_word}
use Rattle.raw_model.specs.Waits.{first_wait}
use Rattle.raw_names.specs.Names.{processor_name}
use Rattle.raw_picture.specs.declared.course.Point.{Point}
use Rattle.raw_picture.specs.declared.course.Course.{Course}
use Rattle.raw_picture.specs.declared.frame.Frame.{Frame}
use Rattle.raw_picture.specs.declared.layers.Layer.{Layer}
use Rattle.raw_picture.specs.declared.layers.Layer.TheVariants.{Cells, Links, Lanes, Boxes, Ports, Wires, Waits}
use Rattle.raw_picture.specs.declared.names.Progress.{Progress}
use Rattle.raw_picture.specs.declared.told.Shape.{Shape}
use Rattle.raw_picture.specs.declared.told.Shape.TheVariants.{Nothing, Chain, Cycle}
use Rattle.raw_picture.specs.declared.told.Telling.TheVariants.{Sentences, Lines}
use Rattle.raw_picture.specs.Plain.{is_plain_byte, IsPlain}
use Rattle.raw_picture.specs.Markup.{is_markup_byte, HasNoMarkup, markup, IsPiece, HasOnlyItsMarkup}
use Rattle.raw_picture.specs.Places.{along, cell, corner_at, port_lane, wait_course, wire_course, run_at}
use Rattle.raw_picture.specs.declared.layout.TheConstants.{BOX_HEIGHT, CHANNEL, DOWN_LEFT, LONG, MIDDLE, PORT_HEIGHT, PORT_WIDTH, SHORT, SOUTH_LEFT, SWITCH_BOTTOM, SWITCH_RIGHT, SWITCH_TOP, SWITCH_WIDTH, TILE_WIDTH}
use Rattle.raw_picture.specs.Forms.{in_turn, rect, text_head, text_end, text, turned, title, group_start, group_end, stroke, arrow, number, tag_box_by, tag_box, tag_text_by, tag_text, labelled}
use Rattle.raw_picture.specs.Frame.{frame_of, width, height}
use Rattle.raw_picture.specs.Names.{wait_text, first_word, up_to, is_blank, shown_mark, no_code, no_switch_code}
use Rattle.raw_picture.specs.Told.{say, told_in, is_told, shape_of, segment, lead, wait_piece, wait_told, waits_told, all_waits, description, path_start, path_by, path}
use Rattle.raw_picture.specs.Style.{style}
use Rattle.raw_picture.specs.Opening.{size_text, title_text, svg_start, opening, set_text, head, front}
use Rattle.raw_picture.specs.Ground.{cell_ground, neighbour_ground, link_ground, lane_ground_at, lane_ground}
use Rattle.raw_picture.specs.Boxes.{port_corner, switch_corner, box_class, progress_of, box_title, box_with, box_of, boxes, port_title, port_text, port_texts, port_box_with, port_box}
use Rattle.raw_picture.specs.Flows.{arrow_class, number_class, wire_text, wire_group, wire_with, wire_drawn, wire_tag, wait_arrow, wait_group, wait_with, wait_drawn}
use Rattle.raw_picture.specs.Legend.{legend_course, legend_text, wire_meaning, wire_row, wait_rows, legend}
use Rattle.raw_picture.specs.Picture.{of_port, piece, size, layer_text, ground, figures, picture_of, picture}
use Rattle.raw_picture.proofs.Plain.{first, second, differs, plain_number, plain_words, plain_labelled, plain_name, plain_wait, plain_mark, plain_shown, plain_word_of, plain_say, plain_all_waits, plain_title, plain_set, plain_box, plain_port_title, plain_port_text, plain_wire}

-- ---- texts without markup

-- the next of what is known of each
next : {A B : Type 0} → A → B → A × B
next a b = (a, b)

plain_byte : (b : ℕ) → is_plain_byte b ≡ true → is_markup_byte b ≡ false
plain_byte b is = rw (differs b 60 refl is, differs b 62 refl is, differs b 38 refl is, differs b 34 refl is, differs b 39 refl is)

said : (words : List ℕ) → IsPlain words → HasNoMarkup words
said [] p = refl
said (b ∷ rest) p =
    let here : is_plain_byte b ≡ true = first (is_plain_byte b) (list_all is_plain_byte rest) p in
    ap (λ x. x || list_any is_markup_byte rest) (plain_byte b here) ∙ said rest (second (is_plain_byte b) (list_all is_plain_byte rest) p)

none_both : (a b : List ℕ) → HasNoMarkup a → HasNoMarkup b → HasNoMarkup (a ++ b)
none_both a b na nb = list_any-append is_markup_byte a b ∙ ap (λ x. x || list_any is_markup_byte b) na ∙ nb

-- a text and others behind it, one by one
abbrev strung : List ℕ → List (List ℕ) → List ℕ
strung front [] = front
strung front (words ∷ texts) = strung (front ++ words) texts

none_strung : (front : List ℕ) (texts : List (List ℕ)) → HasNoMarkup front → AllByRecursion HasNoMarkup texts → HasNoMarkup (strung front texts)
none_strung front [] none all = none
none_strung front (words ∷ texts) none all = none_strung (front ++ words) texts (none_both front words none all.0) all.1

none_either : (p : Bool) (a b : List ℕ) → HasNoMarkup a → HasNoMarkup b → HasNoMarkup (if p then a else b)
none_either true a b na nb = na
none_either false a b na nb = nb

number_said : (n : ℕ) → HasNoMarkup (decimal n)
number_said n = said (decimal n) (plain_number n)

not_first : (a b : Bool) → (a || b) ≡ false → a ≡ false
not_first true b is = absurd (cc is)
not_first false b is = refl

not_second : (a b : Bool) → (a || b) ≡ false → b ≡ false
not_second true b is = absurd (cc is)
not_second false b is = is

none_front : (n : ℕ) (words : List ℕ) → HasNoMarkup words → HasNoMarkup (take n words)
none_front zero words none = refl
none_front (suc n) [] none = refl
none_front (suc n) (b ∷ rest) none =
    ap (λ x. x || list_any is_markup_byte (take n rest)) (not_first (is_markup_byte b) (list_any is_markup_byte rest) none) ∙ none_front n rest (not_second (is_markup_byte b) (list_any is_markup_byte rest) none)

-- ---- texts with no markup but their own, put together

both : (a b : List ℕ) → HasOnlyItsMarkup a → HasOnlyItsMarkup b → HasOnlyItsMarkup (a ++ b)
both a b ha hb = record {
  pieces = ha.pieces ++ hb.pieces;
  whole = flat_map-append (λ words. words) ha.pieces hb.pieces ∙ ap (λ words. words ++ in_turn hb.pieces) ha.whole ∙ ap (λ words. a ++ words) hb.whole;
  each = All-append IsPiece ha.pieces hb.pieces ha.each hb.each;
}

none_made : HasOnlyItsMarkup []
none_made = record { pieces = []; whole = refl; each = All-from_recursion IsPiece [] tt }

one : (words : List ℕ) → IsPiece words → HasOnlyItsMarkup words
one words is = record { pieces = words ∷ []; whole = append-nil words; each = All-from_recursion IsPiece (words ∷ []) (is, tt) }

made_from : (front : List ℕ) (pieces : List (List ℕ)) → HasOnlyItsMarkup front → AllByRecursion IsPiece pieces → HasOnlyItsMarkup (strung front pieces)
made_from front [] is all = is
made_from front (piece ∷ pieces) is all = made_from (front ++ piece) pieces (both front piece is (one piece all.0)) all.1

made : (pieces : List (List ℕ)) → AllByRecursion IsPiece pieces → HasOnlyItsMarkup (strung [] pieces)
made pieces all = made_from [] pieces none_made all

either : (p : Bool) (a b : List ℕ) → HasOnlyItsMarkup a → HasOnlyItsMarkup b → HasOnlyItsMarkup (if p then a else b)
either true a b ha hb = ha
either false a b ha hb = hb

together : (texts : List (List ℕ)) → AllByRecursion HasOnlyItsMarkup texts → HasOnlyItsMarkup (in_turn texts)
together [] all = none_made
together (words ∷ texts) all = both words (in_turn texts) all.0 (together texts all.1)

each : {X : Type 0} (f : X → List ℕ) → ((x : X) → HasOnlyItsMarkup (f x)) → (xs : List X) → HasOnlyItsMarkup (flat_map f xs)
each f is [] = none_made
each f is (x ∷ xs) = both (f x) (flat_map f xs) (is x) (each f is xs)

-- ---- the forms

rect_made : (class : List ℕ) (x y width height radius : ℕ) → HasNoMarkup class → HasOnlyItsMarkup (rect class x y width height radius)
unfolding rect markup
rect_made class x y wide high radius none =
    made (codes "<rect class=\"" ∷ class ∷ codes "\" x=\"" ∷ decimal x ∷ codes "\" y=\"" ∷ decimal y ∷ codes "\" width=\"" ∷ decimal wide ∷ codes "\" height=\"" ∷ decimal high ∷ codes "\" rx=\"" ∷ decimal radius ∷ codes "\"/>\n" ∷ [])
    (next (inl (0, refl)) (next (inr none) (next (inl (1, refl)) (next (inr (number_said x))
    (next (inl (2, refl)) (next (inr (number_said y)) (next (inl (3, refl)) (next (inr (number_said wide))
    (next (inl (4, refl)) (next (inr (number_said high)) (next (inl (5, refl)) (next (inr (number_said radius))
    (next (inl (6, refl)) tt)))))))))))))

head_made : (class : List ℕ) (x y : ℕ) → HasNoMarkup class → HasOnlyItsMarkup (text_head class x y)
unfolding text_head markup
head_made class x y none =
    made (codes "<text class=\"" ∷ class ∷ codes "\" x=\"" ∷ decimal x ∷ codes "\" y=\"" ∷ decimal y ∷ [])
    (next (inl (7, refl)) (next (inr none) (next (inl (1, refl)) (next (inr (number_said x))
    (next (inl (2, refl)) (next (inr (number_said y)) tt))))))

text_made : (class : List ℕ) (x y : ℕ) (shown : List ℕ) → HasNoMarkup class → HasNoMarkup shown → HasOnlyItsMarkup (text class x y shown)
unfolding text markup
text_made class x y shown none is =
    made_from (text_head class x y) (codes "\">" ∷ shown ∷ text_end ∷ []) (head_made class x y none) (next (inl (8, refl)) (next (inr is) (next (inl (9, refl)) tt)))

turned_made : (x y : ℕ) (shown : List ℕ) → HasNoMarkup shown → HasOnlyItsMarkup (turned x y shown)
unfolding turned markup
turned_made x y shown is =
    made_from (text_head (codes "tagged mid") x y) (codes "\" transform=\"rotate(-90 " ∷ decimal x ∷ codes " " ∷ decimal y ∷ codes ")\">" ∷ shown ∷ text_end ∷ [])
    (head_made (codes "tagged mid") x y refl)
    (next (inl (10, refl)) (next (inr (number_said x))
    (next (inr refl) (next (inr (number_said y)) (next (inl (11, refl)) (next (inr is) (next (inl (9, refl)) tt)))))))

title_made : (shown : List ℕ) → HasNoMarkup shown → HasOnlyItsMarkup (title shown)
unfolding title markup
title_made shown is = made (codes "<title>" ∷ shown ∷ codes "</title>\n" ∷ [])
    (next (inl (12, refl)) (next (inr is) (next (inl (13, refl)) tt)))

start_made : HasOnlyItsMarkup group_start
unfolding markup
start_made = one group_start (inl (14, refl))

end_made : HasOnlyItsMarkup group_end
unfolding markup
end_made = one group_end (inl (15, refl))

stroke_said : (way : Side) → HasNoMarkup (stroke way)
stroke_said N = refl
stroke_said E = refl
stroke_said S = refl
stroke_said W = refl

arrow_made : (class : List ℕ) (course : Course) (d : ℕ) → HasNoMarkup class → HasOnlyItsMarkup (arrow class course d)
unfolding arrow markup
arrow_made class course d none =
    let x = (along course d).x in
    let y = (along course d).y in
    let n = course.channel.length - d - 9 in
    made (codes "<path class=\"" ∷ class ∷ codes "\" d=\"M" ∷ decimal x ∷ codes " " ∷ decimal y ∷ stroke course.way ∷ decimal n ∷ codes "\"/>\n" ∷ [])
    (next (inl (16, refl)) (next (inr none) (next (inl (17, refl)) (next (inr (number_said x)) (next (inr refl)
    (next (inr (number_said y)) (next (inr (stroke_said course.way)) (next (inr (number_said n))
    (next (inl (6, refl)) tt)))))))))

number_made : (class : List ℕ) (course : Course) (shown : List ℕ) → HasNoMarkup class → HasNoMarkup shown → HasOnlyItsMarkup (number class course shown)
number_made class course shown none is = text_made class (along course 8).x ((along course 8).y + 4) shown none is

tag_box_made_by : (way : Side) (x y : ℕ) → HasOnlyItsMarkup (tag_box_by way x y)
tag_box_made_by E x y = rect_made (codes "tag") _ _ _ _ _ refl
tag_box_made_by W x y = rect_made (codes "tag") _ _ _ _ _ refl
tag_box_made_by N x y = rect_made (codes "tag") _ _ _ _ _ refl
tag_box_made_by S x y = rect_made (codes "tag") _ _ _ _ _ refl

tag_box_made : (course : Course) → HasOnlyItsMarkup (tag_box course)
unfolding tag_box
tag_box_made course = tag_box_made_by course.way (along course MIDDLE).x (along course MIDDLE).y

tag_text_made_by : (way : Side) (x y : ℕ) (shown : List ℕ) → HasNoMarkup shown → HasOnlyItsMarkup (tag_text_by way x y shown)
tag_text_made_by E x y shown is = text_made (codes "tagged mid") x (y + 4) shown refl is
tag_text_made_by W x y shown is = text_made (codes "tagged mid") x (y + 4) shown refl is
tag_text_made_by N x y shown is = turned_made (x + 4) y shown is
tag_text_made_by S x y shown is = turned_made (x + 4) y shown is

tag_text_made : (course : Course) (shown : List ℕ) → HasNoMarkup shown → HasOnlyItsMarkup (tag_text course shown)
unfolding tag_text
tag_text_made course shown is = tag_text_made_by course.way (along course MIDDLE).x (along course MIDDLE).y shown is

labelled_said : (label : List ℕ) (n : ℕ) → IsPlain label → HasNoMarkup (labelled label n)
labelled_said label n p = said (labelled label n) (plain_labelled label n p)

-- ---- before the grid

size_made : (f : Frame) → HasOnlyItsMarkup (size_text f)
unfolding size_text markup
size_made f =
    made (codes " width=\"" ∷ decimal (width f) ∷ codes "\" height=\"" ∷ decimal (height f) ∷ codes "\" viewBox=\"" ∷ decimal f.left ∷ codes " " ∷ decimal f.top ∷ codes " " ∷ decimal (width f) ∷ codes " " ∷ decimal (height f) ∷ codes "\">\n" ∷ [])
    (next (inl (23, refl)) (next (inr (number_said (width f))) (next (inl (4, refl))
    (next (inr (number_said (height f))) (next (inl (24, refl)) (next (inr (number_said f.left)) (next (inr refl)
    (next (inr (number_said f.top)) (next (inr refl) (next (inr (number_said (width f))) (next (inr refl)
    (next (inr (number_said (height f))) (next (inl (25, refl)) tt)))))))))))))

svg_made : HasOnlyItsMarkup svg_start
unfolding markup
svg_made = one svg_start (inl (22, refl))

opening_made : (set : ProgramSet) (s : MachineState) → HasOnlyItsMarkup (opening set s)
unfolding opening
opening_made set s =
    together (svg_start ∷ size_text (frame_of set.topo) ∷ title (title_text set s) ∷ [])
    (next svg_made (next (size_made (frame_of set.topo))
    (next (title_made (title_text set s) (said (title_text set s) (plain_title set s))) tt)))

description_made : (set : ProgramSet) (s : MachineState) → HasOnlyItsMarkup (description set s)
unfolding description markup
description_made set s =
    let outcome_said = say set s (outcome set s) in
    let waits = all_waits Sentences set s in
    made (codes "<desc>" ∷ outcome_said ∷ waits ∷ codes ".</desc>\n" ∷ [])
    (next (inl (20, refl)) (next (inr (said outcome_said (plain_say set s (outcome set s))))
    (next (inr (said waits (plain_all_waits set s))) (next (inl (21, refl)) tt))))

style_made : HasOnlyItsMarkup style
unfolding markup
style_made = one style (inl (26, refl))

head_lines_made : (set : ProgramSet) (s : MachineState) → HasOnlyItsMarkup (head set s)
unfolding head
head_lines_made set s =
    let f = frame_of set.topo in
    let o = outcome set s in
    together (rect (codes "page") f.left f.top (width f) (height f) 0
    ∷ text (codes "head") (f.left + 24) (f.top + 42) (outcome_word o)
    ∷ text (codes "say") (f.left + 24) (f.top + 64) (say set s o)
    ∷ text (codes "soft") (f.left + 24) (f.top + 83) (set_text set)
    ∷ [])
    (next (rect_made (codes "page") f.left f.top (width f) (height f) 0 refl)
    (next (text_made (codes "head") (f.left + 24) (f.top + 42) (outcome_word o) refl (said (outcome_word o) (plain_word_of o)))
    (next (text_made (codes "say") (f.left + 24) (f.top + 64) (say set s o) refl (said (say set s o) (plain_say set s o)))
    (next (text_made (codes "soft") (f.left + 24) (f.top + 83) (set_text set) refl (said (set_text set) (plain_set set))) tt))))

front_made : (set : ProgramSet) (s : MachineState) → HasOnlyItsMarkup (front set s)
unfolding front
front_made set s =
    both (opening set s ++ description set s ++ style) (head set s)
    (both (opening set s ++ description set s) style (both (opening set s) (description set s) (opening_made set s) (description_made set s)) style_made)
    (head_lines_made set s)

-- ---- the ground

link_made : (x y width height : ℕ) → HasOnlyItsMarkup (rect (codes "link") x y width height 0)
link_made x y width height = rect_made (codes "link") x y width height 0 refl

cell_made : (topo : Topology) (t : ℕ) → HasOnlyItsMarkup (cell_ground topo t)
unfolding cell_ground
cell_made topo t = rect_made (codes "cell") _ _ _ _ _ refl

neighbour_made : (there : Bool) (x y wide high : ℕ) → HasOnlyItsMarkup (neighbour_ground there x y wide high)
neighbour_made there x y wide high = either there (rect (codes "link") x y wide high 0) [] (link_made x y wide high) none_made

links_made : (topo : Topology) (t : ℕ) → HasOnlyItsMarkup (link_ground topo t)
unfolding link_ground
links_made topo t =
    let c = cell topo t in
    let own = rect (codes "link") (c.x + DOWN_LEFT) (c.y + BOX_HEIGHT) CHANNEL SHORT 0 in
    let east = neighbour_ground (nat_lt (t % topo.cols + 1) topo.cols) (c.x + SWITCH_RIGHT) (c.y + SWITCH_TOP) SHORT CHANNEL in
    let south = neighbour_ground (nat_lt (t / topo.cols + 1) topo.rows) (c.x + SOUTH_LEFT) (c.y + SWITCH_BOTTOM) CHANNEL LONG in
    both (own ++ east) south
    (both own east (link_made _ _ CHANNEL SHORT) (neighbour_made _ _ _ SHORT CHANNEL)) (neighbour_made _ _ _ CHANNEL LONG)

lane_made_at : (side : Side) (c : Point) (k : ℕ) → HasOnlyItsMarkup (lane_ground_at side c k)
lane_made_at W c k = link_made _ _ _ _
lane_made_at E c k = link_made _ _ _ _
lane_made_at N c k = link_made _ _ _ _
lane_made_at S c k = link_made _ _ _ _

lane_made : (place : PortPlace) → HasOnlyItsMarkup (lane_ground place)
unfolding lane_ground
lane_made place = lane_made_at place.side (corner_at place.x place.y) (port_lane place)

segment_said : (course : Course) → HasNoMarkup (segment course)
unfolding segment
segment_said course =
    let from = along course 0 in
    let to = along course course.channel.length in
    none_strung (decimal from.x) (codes " " ∷ decimal from.y ∷ codes "L" ∷ decimal to.x ∷ codes " " ∷ decimal to.y ∷ []) (number_said from.x)
    (next refl (next (number_said from.y) (next refl (next (number_said to.x) (next refl (next (number_said to.y) tt))))))

lead_said : (one : Bool) → HasNoMarkup (lead Lines one)
lead_said true = refl
lead_said false = refl

line_told : (topo : Topology) (one : Bool) (p : ℕ) (wait : Option ℕ) → HasNoMarkup (wait_told Lines topo one p wait)
unfolding wait_piece
line_told topo one p None = refl
line_told topo one p (Some v) =
    none_both (lead Lines one) (segment (wait_course topo p v)) (lead_said one) (segment_said (wait_course topo p v))

lines_told : (set : ProgramSet) (s : MachineState) (one : Bool) (ps : List ℕ) → HasNoMarkup (waits_told Lines set s one ps)
lines_told set s one [] = refl
lines_told set s one (p ∷ ps) =
    none_both (wait_told Lines set.topo one p (first_wait set s p)) (waits_told Lines set s false ps)
    (line_told set.topo one p (first_wait set s p)) (lines_told set s false ps)

all_lines_told : (set : ProgramSet) (s : MachineState) → HasNoMarkup (all_waits Lines set s)
unfolding all_waits
all_lines_told set s = lines_told set s true (told_in set s)

path_made_by : (shape : Shape) (line : List ℕ) → HasNoMarkup line → HasOnlyItsMarkup (path_by shape line)
unfolding markup
path_made_by Nothing line none = none_made
path_made_by Chain line none = made (path_start ∷ line ∷ codes "\"/>\n" ∷ [])
    (next (inl (18, refl)) (next (inr none) (next (inl (6, refl)) tt)))
path_made_by Cycle line none = made (path_start ∷ line ∷ codes "Z\"/>\n" ∷ [])
    (next (inl (18, refl)) (next (inr none) (next (inl (19, refl)) tt)))

path_made : (set : ProgramSet) (s : MachineState) → HasOnlyItsMarkup (path set s)
unfolding path
path_made set s = path_made_by (shape_of (outcome set s)) (all_waits Lines set s) (all_lines_told set s)

-- ---- the boxes

up_to_said : (words : List ℕ) (i : Option ℕ) → HasNoMarkup words → HasNoMarkup (up_to words i)
up_to_said words None none = none
up_to_said words (Some i) none = none_front i words none

class_said : (mark : List ℕ) (on : Bool) → HasNoMarkup mark → HasNoMarkup (box_class mark on)
unfolding box_class first_word
class_said mark on none =
    let word = up_to mark (position is_blank mark) in
    let more = if on then codes " on" else [] in
    none_strung (codes "box ") (word ∷ more ∷ []) refl
    (next (up_to_said mark (position is_blank mark) none) (next (none_either on (codes " on") [] refl refl) tt))

box_with_made : (topo : Topology) (p : ℕ) (at : Point) (wide : ℕ) (mark : List ℕ) (on : Bool) (far : Progress) → IsPlain mark
    → HasOnlyItsMarkup (box_with topo p at wide mark on far)
unfolding box_with
box_with_made topo p at wide mark on far is =
    let none = said mark is in
    together (group_start
    ∷ title (box_title topo p mark far)
    ∷ rect (box_class mark on) at.x at.y wide BOX_HEIGHT 4
    ∷ text (codes "name") (at.x + 8) (at.y + 20) (processor_name topo p)
    ∷ text (codes "soft end") (at.x + wide - 8) (at.y + 20) (labelled (codes "#") p)
    ∷ text (codes "mark") (at.x + 8) (at.y + 39) mark
    ∷ text (codes "plain") (at.x + 8) (at.y + 57) (labelled (codes "count ") far.count)
    ∷ text (codes "plain") (at.x + 8) (at.y + 74) (labelled (codes "pc ") far.pc)
    ∷ group_end
    ∷ [])
    (next start_made
    (next (title_made (box_title topo p mark far) (said (box_title topo p mark far) (plain_box topo p mark far is)))
    (next (rect_made (box_class mark on) _ _ _ _ _ (class_said mark on none))
    (next (text_made (codes "name") _ _ (processor_name topo p) refl (said (processor_name topo p) (plain_name topo p)))
    (next (text_made (codes "soft end") _ _ (labelled (codes "#") p) refl (labelled_said (codes "#") p refl))
    (next (text_made (codes "mark") _ _ mark refl none)
    (next (text_made (codes "plain") _ _ (labelled (codes "count ") far.count) refl (labelled_said (codes "count ") far.count refl))
    (next (text_made (codes "plain") _ _ (labelled (codes "pc ") far.pc) refl (labelled_said (codes "pc ") far.pc refl))
    (next end_made tt)))))))))

box_made : (set : ProgramSet) (s : MachineState) (p : ℕ) (empty : Bool) (at : Point) (wide : ℕ) → HasOnlyItsMarkup (box_of set s p empty at wide)
unfolding box_of
box_made set s p empty at wide =
    box_with_made set.topo p at wide (shown_mark set s p empty) (is_told set s p) (progress_of s p) (plain_shown set s p empty)

boxes_made : (set : ProgramSet) (s : MachineState) (t : ℕ) → HasOnlyItsMarkup (boxes set s t)
unfolding boxes
boxes_made set s t =
    let tile = no_code (slice_get set.tiles t) in
    let switch = no_switch_code (slice_get set.tiles t) in
    let beside = tile_count set.topo + t in
    let corner = switch_corner (cell set.topo t) in
    both (box_of set s t tile (cell set.topo t) TILE_WIDTH) (box_of set s beside switch corner SWITCH_WIDTH)
    (box_made set s t tile (cell set.topo t) TILE_WIDTH) (box_made set s beside switch corner SWITCH_WIDTH)

port_texts_made : (side : Side) (at : Point) (p : ℕ) (shown : List ℕ) → HasNoMarkup shown → HasOnlyItsMarkup (port_texts side at p shown)
port_texts_made E at p shown is =
    both (text (codes "plain") (at.x + 6) (at.y + 12) shown) (text (codes "soft end") (at.x + 190) (at.y + 12) (labelled (codes "#") p))
    (text_made (codes "plain") (at.x + 6) (at.y + 12) shown refl is)
    (text_made (codes "soft end") (at.x + 190) (at.y + 12) (labelled (codes "#") p) refl (labelled_said (codes "#") p refl))
port_texts_made _ at p shown is =
    both (text (codes "soft") (at.x + 6) (at.y + 12) (labelled (codes "#") p)) (text (codes "plain end") (at.x + 190) (at.y + 12) shown)
    (text_made (codes "soft") (at.x + 6) (at.y + 12) (labelled (codes "#") p) refl (labelled_said (codes "#") p refl))
    (text_made (codes "plain end") (at.x + 190) (at.y + 12) shown refl is)

port_box_with_made : (topo : Topology) (p : ℕ) (place : PortPlace) (mark : List ℕ) (on : Bool) (count most : ℕ) → IsPlain mark
    → HasOnlyItsMarkup (port_box_with topo p place mark on count most)
unfolding port_box_with
port_box_with_made topo p place mark on count most is =
    let words = port_title topo p place mark count most in
    let shown = port_text place count most in
    let at = port_corner place.side (corner_at place.x place.y) (port_lane place) in
    together (group_start
    ∷ title words
    ∷ rect (box_class mark on) at.x at.y PORT_WIDTH PORT_HEIGHT 3
    ∷ port_texts place.side at p shown
    ∷ group_end
    ∷ [])
    (next start_made (next (title_made words (said words (plain_port_title topo p place mark count most is)))
    (next (rect_made (box_class mark on) _ _ _ _ _ (class_said mark on (said mark is)))
    (next (port_texts_made place.side at p shown (said shown (plain_port_text place count most))) (next end_made tt)))))

port_box_made : (set : ProgramSet) (s : MachineState) (i : ℕ) (place : PortPlace) → HasOnlyItsMarkup (port_box set s i place)
unfolding port_box
port_box_made set s i place = port_box_with_made set.topo _ place _ _ _ _ (plain_mark set s _)

-- ---- wires and waits

arrow_class_said : (net : Net) → HasNoMarkup (arrow_class net)
arrow_class_said One = refl
arrow_class_said Two = refl

number_class_said : (net : Net) → HasNoMarkup (number_class net)
number_class_said One = refl
number_class_said Two = refl

wire_group_made : (topo : Topology) (v : ℕ) (values : List ℕ) → HasOnlyItsMarkup (wire_group topo v values)
unfolding wire_group
wire_group_made topo v values =
    let run = run_at topo v in
    let words = wire_text topo v ++ codes ":" ++ words_text values in
    let none = none_strung (wire_text topo v) (codes ":" ∷ words_text values ∷ []) (said (wire_text topo v) (plain_wire topo v))
    (next refl (next (said (words_text values) (plain_words values)) tt)) in
    together (group_start
    ∷ title words
    ∷ arrow (arrow_class run.net) (wire_course run) 15
    ∷ number (number_class run.net) (wire_course run) (decimal (length values))
    ∷ group_end
    ∷ [])
    (next start_made (next (title_made words none)
    (next (arrow_made (arrow_class run.net) (wire_course run) 15 (arrow_class_said run.net))
    (next (number_made (number_class run.net) (wire_course run) (decimal (length values)) (number_class_said run.net) (number_said (length values)))
    (next end_made tt)))))

wire_with_made : (topo : Topology) (v : ℕ) (values : List ℕ) → HasOnlyItsMarkup (wire_with topo v values)
wire_with_made topo v [] = none_made
wire_with_made topo v (value ∷ values) = wire_group_made topo v (value ∷ values)

wire_made : (set : ProgramSet) (s : MachineState) (v : ℕ) → HasOnlyItsMarkup (wire_drawn set s v)
unfolding wire_drawn
wire_made set s v = wire_with_made set.topo v (values_on s.wires v)

wire_tag_made : (course : Course) (v : ℕ) → HasOnlyItsMarkup (wire_tag course v)
unfolding wire_tag
wire_tag_made course v =
    both (tag_box course) (tag_text course (labelled (codes "wire ") v)) (tag_box_made course)
    (tag_text_made course (labelled (codes "wire ") v) (labelled_said (codes "wire ") v refl))

wait_arrow_made : (course : Course) (v : ℕ) (on : Bool) → HasOnlyItsMarkup (wait_arrow course v on)
unfolding wait_arrow
wait_arrow_made course v true = both (arrow (codes "wait") course 2) (wire_tag course v) (arrow_made (codes "wait") course 2 refl) (wire_tag_made course v)
wait_arrow_made course v false = arrow_made (codes "thin") course 2 refl

wait_group_made : (topo : Topology) (p v : ℕ) (on : Bool) → HasOnlyItsMarkup (wait_group topo p v on)
unfolding wait_group
wait_group_made topo p v on =
    together (group_start ∷ title (wait_text topo p v) ∷ wait_arrow (wait_course topo p v) v on ∷ group_end ∷ [])
    (next start_made (next (title_made (wait_text topo p v) (said (wait_text topo p v) (plain_wait topo p v)))
    (next (wait_arrow_made (wait_course topo p v) v on) (next end_made tt))))

wait_with_made : (topo : Topology) (p : ℕ) (on : Bool) (wait : Option ℕ) → HasOnlyItsMarkup (wait_with topo p on wait)
wait_with_made topo p on None = none_made
wait_with_made topo p on (Some v) = wait_group_made topo p v on

wait_made : (set : ProgramSet) (s : MachineState) (p : ℕ) → HasOnlyItsMarkup (wait_drawn set s p)
unfolding wait_drawn
wait_made set s p = wait_with_made set.topo p (is_told set s p) (first_wait set s p)

-- ---- the legend

legend_line_made : (f : Frame) (track : ℕ) (shown : List ℕ) → HasNoMarkup shown → HasOnlyItsMarkup (legend_text f track shown)
unfolding legend_text
legend_line_made f track shown is = text_made (codes "soft") _ _ shown refl is

wire_meaning_said : (net : Net) → HasNoMarkup (wire_meaning net)
wire_meaning_said One = refl
wire_meaning_said Two = refl

wire_row_made : (f : Frame) (net : Net) → HasOnlyItsMarkup (wire_row f net)
unfolding wire_row
wire_row_made f net =
    let track = 20 * (net_number net - 1) in
    together (arrow (arrow_class net) (legend_course f track) 15
    ∷ number (number_class net) (legend_course f track) (codes "3")
    ∷ legend_text f track (wire_meaning net)
    ∷ [])
    (next (arrow_made (arrow_class net) (legend_course f track) 15 (arrow_class_said net))
    (next (number_made (number_class net) (legend_course f track) (codes "3") (number_class_said net) refl)
    (next (legend_line_made f track (wire_meaning net) (wire_meaning_said net)) tt)))

wait_rows_made : (f : Frame) → HasOnlyItsMarkup (wait_rows f)
unfolding wait_rows
wait_rows_made f =
    together (arrow (codes "wait") (legend_course f 40) 2
    ∷ tag_box (legend_course f 40)
    ∷ tag_text (legend_course f 40) (labelled (codes "wire ") 8)
    ∷ legend_text f 40 (codes "a wait of the cycle or chain, on wire 8")
    ∷ arrow (codes "thin") (legend_course f 60) 2
    ∷ legend_text f 60 (codes "another wait; each points to who is waited for")
    ∷ [])
    (next (arrow_made (codes "wait") (legend_course f 40) 2 refl) (next (tag_box_made (legend_course f 40))
    (next (tag_text_made (legend_course f 40) (labelled (codes "wire ") 8) (labelled_said (codes "wire ") 8 refl))
    (next (legend_line_made f 40 (codes "a wait of the cycle or chain, on wire 8") refl)
    (next (arrow_made (codes "thin") (legend_course f 60) 2 refl)
    (next (legend_line_made f 60 (codes "another wait; each points to who is waited for") refl) tt))))))

end_tag_made : HasOnlyItsMarkup (codes "</svg>\n")
unfolding markup
end_tag_made = one (codes "</svg>\n") (inl (27, refl))

legend_made : (f : Frame) → HasOnlyItsMarkup (legend f)
unfolding legend
legend_made f =
    let wires = wire_row f One ++ wire_row f Two in
    both (wires ++ wait_rows f) (codes "</svg>\n")
    (both wires (wait_rows f) (both (wire_row f One) (wire_row f Two) (wire_row_made f One) (wire_row_made f Two)) (wait_rows_made f))
    end_tag_made

-- ---- the layers

of_port_made : (draw : PortPlace → List ℕ) → ((place : PortPlace) → HasOnlyItsMarkup (draw place)) → (place : Option PortPlace) → HasOnlyItsMarkup (of_port draw place)
of_port_made draw is None = none_made
of_port_made draw is (Some place) = is place

piece_made : (set : ProgramSet) (s : MachineState) (kind : Layer) (i : ℕ) → HasOnlyItsMarkup (piece set s kind i)
unfolding piece
piece_made set s Cells t = cell_made set.topo t
piece_made set s Links t = links_made set.topo t
piece_made set s Lanes i = of_port_made lane_ground lane_made (slice_get set.topo.places i)
piece_made set s Boxes t = boxes_made set s t
piece_made set s Ports i = of_port_made (port_box set s i) (port_box_made set s i) (slice_get set.topo.places i)
piece_made set s Wires v = wire_made set s v
piece_made set s Waits p = wait_made set s p

layer_made : (set : ProgramSet) (s : MachineState) (kind : Layer) → HasOnlyItsMarkup (layer_text set s kind)
unfolding layer_text
layer_made set s kind = each (piece set s kind) (piece_made set s kind) (range_with_len 0 (size set.topo kind))

ground_made : (set : ProgramSet) (s : MachineState) → HasOnlyItsMarkup (ground set s)
unfolding ground
ground_made set s =
    let cells = layer_text set s Cells in
    let links = layer_text set s Links in
    let lanes = layer_text set s Lanes in
    both (cells ++ links ++ lanes) (path set s)
    (both (cells ++ links) lanes (both cells links (layer_made set s Cells) (layer_made set s Links)) (layer_made set s Lanes)) (path_made set s)

figures_made : (set : ProgramSet) (s : MachineState) → HasOnlyItsMarkup (figures set s)
unfolding figures
figures_made set s =
    let tiles = layer_text set s Boxes in
    let ports = layer_text set s Ports in
    let wires = layer_text set s Wires in
    both (tiles ++ ports ++ wires) (layer_text set s Waits)
    (both (tiles ++ ports) wires (both tiles ports (layer_made set s Boxes) (layer_made set s Ports)) (layer_made set s Wires)) (layer_made set s Waits)

pub picture_made : (set : ProgramSet) (steps : List ℕ) → HasOnlyItsMarkup (picture set steps)
unfolding picture picture_of
picture_made set steps =
    let s = end set steps in
    let last = legend (frame_of set.topo) in
    both (front set s ++ ground set s ++ figures set s) last
    (both (front set s ++ ground set s) (figures set s) (both (front set s) (ground set s) (front_made set s) (ground_made set s)) (figures_made set s))
    (legend_made (frame_of set.topo))
