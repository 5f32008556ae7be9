use Rattle.raw_image.proofs.SetLaws.{one_answer, one_version, image_or_fault, image_reads, bytes_from_all}
use Rattle.raw_image.proofs.laws.law_one_answer.Goals as goal
use Rattle.raw_image.proofs.Promises.{Promises}

promised : goal.After-law_sizes → Promises
promised c = record {
  small = c.law_codes.ensures.word;
  decodes = c.law_codes.ensures.decodes;
  encodes = c.law_codes.ensures.encodes;
  tiles = c.law_sizes.ensures.tiles;
  ports = c.law_sizes.ensures.ports;
}

pub returns-clause-answer : goal.returns-clause-answer
returns-clause-answer c = λ bytes h. one_answer (promised c) bytes (bytes_from_all bytes h)

pub returns-clause-version : goal.returns-clause-version
returns-clause-version c = one_version

pub returns-clause-one_set : goal.returns-clause-one_set
returns-clause-one_set c = λ bytes a b is_a is_b. cc (image_reads (promised c) bytes a is_a, image_reads (promised c) bytes b is_b)

pub returns-clause-not_both : goal.returns-clause-not_both
returns-clause-not_both c = λ bytes set offset kind is_set fault. image_or_fault bytes set offset kind (image_reads (promised c) bytes set is_set) fault
