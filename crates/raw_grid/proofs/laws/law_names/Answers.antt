use Rattle.raw_grid.proofs.NameTables.{net_with_back, net_back, side_with_back, side_back, dir_back, kind_with_back, kind_back, end_back}
use Rattle.raw_grid.proofs.laws.law_names.Goals as goal

pub returns : goal.returns
returns c = record {
  net_number = net_with_back;
  net = net_back;
  side_number = side_with_back;
  side = side_back;
  dir = dir_back;
  kind_number = kind_with_back;
  kind = kind_back;
  end = end_back;
}
