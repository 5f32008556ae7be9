-- Bytes that are stored in a memory: that part of it is overwritten.
use Rattle.std.proofs.Common.{◌≡◌, ℕ, ◌+◌, ◌-◌, ◌≤◌, List, [], ◌∷◌, ◌++◌, length, take, drop, refl, ◌∙◌, append_assoc, add-one, arith}
use Rattle.std.proofs.lemmas.List.{drop-drop}
use Rattle.std.proofs.lemmas.List.Edits.{sets, sets-eq}
use Rattle.raw_model.specs.TileTable.{stored}

-- bytes that are stored are set one after another
stored_is : (bytes memory : List ℕ) (address : ℕ) → stored memory address bytes ≡ sets memory address bytes
stored_is [] memory address = refl
stored_is (byte ∷ bytes) memory address = rw add-one (stored_is bytes _ _)

-- a memory in which bytes are stored: that part of it is overwritten
pub stored_part : (memory bytes : List ℕ) (address : ℕ) → address + length bytes ≤ length memory
    → stored memory address bytes ≡ take address memory ++ (bytes ++ drop (address + length bytes - address) (drop address memory))
stored_part memory bytes address inside =
    let size : address + length bytes - address ≡ length bytes = omega arith in
    rw (size, drop-drop)
    (stored_is bytes memory address
    ∙ sets-eq bytes memory address inside
    ∙ append_assoc (take address memory) bytes (drop (address + length bytes) memory))
