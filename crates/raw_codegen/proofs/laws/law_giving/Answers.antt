use Rattle.raw_codegen.proofs.Giving.{gives_both, gives_none}
use Rattle.raw_codegen.proofs.Halts.{overflows_more, overflows_later, longer, too_long}
use Rattle.raw_codegen.proofs.laws.law_giving.Goals as goal

pub returns : goal.returns
returns c = record { none = gives_none; both = gives_both; more = overflows_more; later = overflows_later; longer = longer; too_long = too_long }
