-- The words of what can be wrong with the bytes of an image.
use Rattle.std.specs.Prelude.{ℕ, List, codes}
use Rattle.raw_image.specs.declared.kind.ImageKind.{ImageKind}
use Rattle.raw_image.specs.declared.kind.ImageKind.TheVariants.{BadMagic, BadVersion, Short, BadField, Extra}

abbrev pub image_kind_text : ImageKind → List ℕ
image_kind_text BadMagic = codes "bad-magic"
image_kind_text BadVersion = codes "bad-version"
image_kind_text Short = codes "short"
image_kind_text BadField = codes "bad-field"
image_kind_text Extra = codes "extra"
