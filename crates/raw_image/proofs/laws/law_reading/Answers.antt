use Rattle.raw_image.proofs.Promises.{Promises}
use Rattle.raw_image.proofs.SetLaws.{reads_image, image_reads, fault_within, bytes_from_all}
use Rattle.raw_image.proofs.laws.law_reading.Goals as goal

promised : goal.After-law_sizes → Promises
promised c = record {
  small = c.law_codes.ensures.word;
  decodes = c.law_codes.ensures.decodes;
  encodes = c.law_codes.ensures.encodes;
  tiles = c.law_sizes.ensures.tiles;
  ports = c.law_sizes.ensures.ports;
}

pub returns : goal.returns
returns c = record {
  image = λ bytes set h e. reads_image (promised c) bytes set (bytes_from_all bytes h) e;
  read = λ bytes set i. image_reads (promised c) bytes set i;
  within = λ bytes fault h e. fault_within (promised c) bytes fault (bytes_from_all bytes h) e;
}
