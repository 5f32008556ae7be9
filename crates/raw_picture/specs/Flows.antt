-- The wires that hold values, and the waits.
use Rattle.std.specs.Prelude.{ℕ, Bool, true, false, Option, Some, None, List, [], ◌∷◌, ◌++◌, codes, decimal, length}
use Rattle.raw_network.specs.Network.{values_on}
use Rattle.raw_grid.specs.declared.parts.Net.{Net}
use Rattle.raw_grid.specs.declared.parts.Net.TheVariants.{One, Two}
use Rattle.raw_grid.specs.Names.{net_text}
use Rattle.raw_grid.specs.Topology.{Topology}
use Rattle.raw_grid.specs.Wires.{producer_of, consumer_of}
use Rattle.raw_model.specs.Program.{ProgramSet}
use Rattle.raw_model.specs.Start.{MachineState}
use Rattle.raw_model.specs.Texts.{words_text}
use Rattle.raw_model.specs.Waits.{first_wait}
use Rattle.raw_names.specs.Names.{processor_name}
use Rattle.raw_picture.specs.declared.course.Course.{Course}
use Rattle.raw_picture.specs.Places.{run_at, wire_course, wait_course}
use Rattle.raw_picture.specs.Forms.{in_turn, title, group_start, group_end, arrow, number, tag_box, tag_text, labelled}
use Rattle.raw_picture.specs.Names.{wait_text}
use Rattle.raw_picture.specs.Told.{is_told}

-- the class of the arrow of a network, and that of a number on it
abbrev pub arrow_class : Net → List ℕ
arrow_class One = codes "n1"
arrow_class Two = codes "n2"

abbrev pub number_class : Net → List ℕ
number_class One = codes "t1 mid"
number_class Two = codes "t2 mid"

-- a wire: its network and its two ends
unfoldable pub wire_text : Topology → ℕ → List ℕ
wire_text topo v =
    codes "wire " ++ decimal v ++ codes ", network " ++ net_text (run_at topo v).net ++ codes ", from " ++ processor_name topo (producer_of topo v)
    ++ codes " to " ++ processor_name topo (consumer_of topo v)

-- the group of a wire that holds these values
unfoldable pub wire_group : Topology → ℕ → List ℕ → List ℕ
wire_group topo v values =
    let run = run_at topo v in
    in_turn (
    group_start
    ∷ title (wire_text topo v ++ codes ":" ++ words_text values)
    ∷ arrow (arrow_class run.net) (wire_course run) 15
    ∷ number (number_class run.net) (wire_course run) (decimal (length values))
    ∷ group_end
    ∷ [])

-- what is drawn of a wire with these values: nothing where it holds none
abbrev pub wire_with : Topology → ℕ → List ℕ → List ℕ
wire_with topo v [] = []
wire_with topo v (value ∷ values) = wire_group topo v (value ∷ values)

unfoldable pub wire_drawn : ProgramSet → MachineState → ℕ → List ℕ
wire_drawn set s v = wire_with set.topo v (values_on s.wires v)

-- a tag with the number of a wire
unfoldable pub wire_tag : Course → ℕ → List ℕ
wire_tag course v = tag_box course ++ tag_text course (labelled (codes "wire ") v)

-- the arrow of a wait: that of one which is told has a tag
unfoldable pub wait_arrow : Course → ℕ → Bool → List ℕ
wait_arrow course v true = arrow (codes "wait") course 2 ++ wire_tag course v
wait_arrow course v false = arrow (codes "thin") course 2

-- the group of the wait of processor p on wire v
unfoldable pub wait_group : Topology → ℕ → ℕ → Bool → List ℕ
wait_group topo p v on =
    in_turn (
    group_start
    ∷ title (wait_text topo p v)
    ∷ wait_arrow (wait_course topo p v) v on
    ∷ group_end
    ∷ [])

-- what is drawn of a processor that waits for this wire first, if it waits
abbrev pub wait_with : Topology → ℕ → Bool → Option ℕ → List ℕ
wait_with topo p on None = []
wait_with topo p on (Some v) = wait_group topo p v on

unfoldable pub wait_drawn : ProgramSet → MachineState → ℕ → List ℕ
wait_drawn set s p = wait_with set.topo p (is_told set s p) (first_wait set s p)
