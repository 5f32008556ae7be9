use Rattle.std.proofs.Common.{◌≡◌, ◌++◌, length, take}
use Rattle.std.specs.List.{flat_map, zip}
use Rattle.raw_image.specs.Image.{number, port_bytes}
use Rattle.raw_image.proofs.writer.push_ports.Given as goal

abbrev pub invariant-loop-i : goal.invariant-loop-i
invariant-loop-i l = l.out.items ≡ (l.fn.out.items ++ number (length l.ports)) ++ flat_map port_bytes (zip (take l.i l.topo.places) (take l.i l.ports))
