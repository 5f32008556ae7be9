-- Each name and each number in the tables of names is that of one part alone.
use Rattle.std.proofs.Common.{◌≡◌, Some, refl}
use Rattle.raw_grid.specs.declared.parts.Net.{Net}
use Rattle.raw_grid.specs.declared.parts.Net.TheVariants.{One, Two}
use Rattle.raw_grid.specs.declared.parts.Side.{Side}
use Rattle.raw_grid.specs.declared.parts.Side.TheVariants as side
use Rattle.raw_grid.specs.declared.parts.Dir.{Dir}
use Rattle.raw_grid.specs.declared.parts.Dir.TheVariants.{N, E, S, W, P}
use Rattle.raw_grid.specs.declared.parts.PortKind.{PortKind}
use Rattle.raw_grid.specs.declared.parts.PortKind.TheVariants.{Source, Sink}
use Rattle.raw_grid.specs.declared.parts.End.{End}
use Rattle.raw_grid.specs.Names.{net_number, net_text, net_with, net_named, side_number, side_text, side_with, side_named, dir_text, dir_named, kind_number, kind_text, kind_with, kind_named, end, end_text, end_named}

pub net_with_back : (net : Net) → net_with (net_number net) ≡ Some net
unfolding net_with
net_with_back One = refl
net_with_back Two = refl

pub net_back : (net : Net) → net_named (net_text net) ≡ Some net
unfolding net_named
net_back One = refl
net_back Two = refl

pub side_with_back : (s : Side) → side_with (side_number s) ≡ Some s
unfolding side_with
side_with_back side.N = refl
side_with_back _ = refl

pub side_back : (s : Side) → side_named (side_text s) ≡ Some s
unfolding side_named
side_back side.N = refl
side_back _ = refl

pub dir_back : (dir : Dir) → dir_named (dir_text dir) ≡ Some dir
unfolding dir_named
dir_back N = refl
dir_back _ = refl

pub kind_with_back : (kind : PortKind) → kind_with (kind_number kind) ≡ Some kind
unfolding kind_with
kind_with_back Source = refl
kind_with_back Sink = refl

pub kind_back : (kind : PortKind) → kind_named (kind_text kind) ≡ Some kind
unfolding kind_named
kind_back Source = refl
kind_back Sink = refl

end_of_parts : (net : Net) (dir : Dir) → end_named (end_text (end net dir)) ≡ Some (end net dir)
unfolding end_named
end_of_parts One N = refl
end_of_parts One E = refl
end_of_parts One S = refl
end_of_parts One W = refl
end_of_parts One P = refl
end_of_parts Two N = refl
end_of_parts Two E = refl
end_of_parts Two S = refl
end_of_parts Two W = refl
end_of_parts Two P = refl

pub end_back : (e : End) → end_named (end_text e) ≡ Some e
end_back e = end_of_parts e.net e.dir
