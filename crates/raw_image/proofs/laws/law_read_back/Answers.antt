use Rattle.std.proofs.Common.{◌≡◌, ℕ, List, ◌++◌, take, codes, sym, ap, ◌∙◌, refl}
use Rattle.raw_model.specs.Program.{ProgramSet}
use Rattle.raw_image.specs.declared.version.Version.{Version}
use Rattle.raw_image.specs.Image.{IsImageIn, image, image_in, number}
use Rattle.raw_image.specs.declared.version.Version.TheVariants as version
use Rattle.raw_image.specs.Reading.{reading}
use Rattle.raw_image.proofs.SetLaws.{reading_again}
use Rattle.raw_image.proofs.Sizes.{image_size}
use Rattle.raw_image.proofs.laws.law_read_back.Goals as goal
use Rattle.raw_image.proofs.Promises.{Promises}

-- bytes that say version 2 are of no other version
second : (v : Version) (bytes : List ℕ) (set : ProgramSet) → IsImageIn v bytes set → take 8 bytes ≡ codes "RAWT" ++ number 2 → bytes ≡ image set
unfolding image_in
second version.One bytes set i says =
    let first : take 8 bytes ≡ codes "RAWT" ++ number 1 = ap (take 8) i.fields in
    absurd (cc (first, says))
second version.Two bytes set i says = i.fields

promised : goal.After-law_sizes → Promises
promised c = record {
  small = c.law_codes.ensures.word;
  decodes = c.law_codes.ensures.decodes;
  encodes = c.law_codes.ensures.encodes;
  tiles = c.law_sizes.ensures.tiles;
  ports = c.law_sizes.ensures.ports;
}

pub returns-clause-back : goal.returns-clause-back
returns-clause-back c = λ set lawful. (version.Two, record { lawful = lawful; held = tt; fields = refl })

pub returns-clause-short : goal.returns-clause-short
returns-clause-short c = image_size (promised c)

pub returns-clause-second : goal.returns-clause-second
returns-clause-second c = λ bytes set i says. second i.0 bytes set i.1 says

pub returns-clause-one : goal.returns-clause-one
returns-clause-one c = λ a b la lb e.
    let one = reading_again (promised c) version.Two a la tt in
    let other = reading_again (promised c) version.Two b lb tt in
    cc (sym one ∙ ap reading e ∙ other)
