-- What a statement gave.
use Rattle.std.specs.Prelude.{◌≡◌, List, [], ◌∷◌, Result, Ok, Err}
use Rattle.raw_asm.specs.declared.kind.AsmKind.{AsmKind}
use Rattle.raw_asm.specs.declared.language.Emitted.{Emitted}
use Rattle.raw_asm.specs.declared.language.Emitted.TheVariants as gave

-- the instructions that a statement gave
abbrev pub emitted : {I : Type 0} → Emitted I → List I
emitted gave.Nothing = []
emitted (gave.One first) = first ∷ []
emitted (gave.Two first second) = first ∷ second ∷ []

-- the result, seen by view, is what is meant
abbrev pub Gives : {X Y : Type 0} → (X → Y) → Result X AsmKind → Result Y AsmKind → Type 0
Gives view (Ok x) meant = meant ≡ Ok (view x)
Gives view (Err kind) meant = meant ≡ Err kind
