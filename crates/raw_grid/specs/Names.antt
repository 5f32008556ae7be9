-- The names that networks, sides, directions, kinds of ports and ends have in texts, and the numbers that they have in images.
use Rattle.std.specs.Prelude.{ℕ, Bool, true, false, ◌==◌, ◌++◌, List, [], ◌∷◌, Option, codes}
use Rattle.std.specs.List.{find}
use Rattle.std.specs.Str.{bytes_eq}
use Rattle.raw_grid.specs.declared.parts.Net.{Net}
use Rattle.raw_grid.specs.declared.parts.Net.TheVariants.{One, Two}
use Rattle.raw_grid.specs.declared.parts.Side.{Side}
use Rattle.raw_grid.specs.declared.parts.Side.TheVariants as side
use Rattle.raw_grid.specs.declared.parts.Dir.{Dir}
use Rattle.raw_grid.specs.declared.parts.Dir.TheVariants.{N, E, S, W, P}
use Rattle.raw_grid.specs.declared.parts.PortKind.{PortKind}
use Rattle.raw_grid.specs.declared.parts.PortKind.TheVariants.{Source, Sink}
use Rattle.raw_grid.specs.declared.parts.End.{End}
use Rattle.raw_grid.specs.Ends.{all_sides}

-- the number of a network
abbrev pub net_number : Net → ℕ
net_number One = 1
net_number Two = 2

-- the name of a network: its number alone
abbrev pub net_text : Net → List ℕ
net_text One = codes "1"
net_text Two = codes "2"

abbrev pub all_nets : List Net
all_nets = One ∷ Two ∷ []

-- the number of a side: its place in N, E, S, W
abbrev pub side_number : Side → ℕ
side_number side.N = 0
side_number side.E = 1
side_number side.S = 2
side_number side.W = 3

-- the name of a side: its letter
abbrev pub side_text : Side → List ℕ
side_text side.N = codes "N"
side_text side.E = codes "E"
side_text side.S = codes "S"
side_text side.W = codes "W"

-- the name of a direction: its letter
abbrev pub dir_text : Dir → List ℕ
dir_text N = codes "N"
dir_text E = codes "E"
dir_text S = codes "S"
dir_text W = codes "W"
dir_text P = codes "P"

abbrev pub all_dirs : List Dir
all_dirs = N ∷ E ∷ S ∷ W ∷ P ∷ []

-- the number of a kind of ports
abbrev pub kind_number : PortKind → ℕ
kind_number Source = 0
kind_number Sink = 1

-- the name of a kind of ports
abbrev pub kind_text : PortKind → List ℕ
kind_text Source = codes "source"
kind_text Sink = codes "sink"

abbrev pub all_kinds : List PortKind
all_kinds = Source ∷ Sink ∷ []

-- the end in a direction on a network
abbrev pub end : Net → Dir → End
end net dir = record { net = net; dir = dir }

-- the name of an end: its network, ':' and its direction
abbrev pub end_text : End → List ℕ
end_text e = net_text e.net ++ codes ":" ++ dir_text e.dir

-- the ends by their indices
abbrev pub all_ends : List End
all_ends =
    end One N ∷ end One E ∷ end One S ∷ end One W ∷ end One P
    ∷ end Two N ∷ end Two E ∷ end Two S ∷ end Two W ∷ end Two P ∷ []

-- the network with a number, and that with a name
unfoldable pub net_with : ℕ → Option Net
net_with number = find (λ net. net_number net == number) all_nets

unfoldable pub net_named : List ℕ → Option Net
net_named name = find (λ net. bytes_eq (net_text net) name) all_nets

-- the side with a number, and that with a name
unfoldable pub side_with : ℕ → Option Side
side_with number = find (λ s. side_number s == number) all_sides

unfoldable pub side_named : List ℕ → Option Side
side_named name = find (λ s. bytes_eq (side_text s) name) all_sides

-- the direction with a name
unfoldable pub dir_named : List ℕ → Option Dir
dir_named name = find (λ dir. bytes_eq (dir_text dir) name) all_dirs

-- the kind of ports with a number, and that with a name
unfoldable pub kind_with : ℕ → Option PortKind
kind_with number = find (λ kind. kind_number kind == number) all_kinds

unfoldable pub kind_named : List ℕ → Option PortKind
kind_named name = find (λ kind. bytes_eq (kind_text kind) name) all_kinds

-- the end with a name
unfoldable pub end_named : List ℕ → Option End
end_named name = find (λ e. bytes_eq (end_text e) name) all_ends

abbrev pub same_net : Net → Net → Bool
same_net One One = true
same_net Two Two = true
same_net _ _ = false

abbrev pub same_side : Side → Side → Bool
same_side side.N side.N = true
same_side side.E side.E = true
same_side side.S side.S = true
same_side side.W side.W = true
same_side _ _ = false
