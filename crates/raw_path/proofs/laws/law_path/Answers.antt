use Rattle.raw_path.proofs.Longest.{is_its_path}
use Rattle.raw_path.proofs.laws.law_path.Goals as goal

pub returns : goal.returns
returns c = λ set k valid has. is_its_path set valid k has
