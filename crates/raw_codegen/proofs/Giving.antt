-- One part more.
use Rattle.std.proofs.Common.{◌≡◌, ℕ, ◌+◌, ◌<◌, List, [], ◌∷◌, ◌++◌, length, get_or, set, ◌≤◌, inl, inr, sym, ap, ◌∙◌, subst, ⊎_elim, arith, append_assoc, length-append}
use Rattle.std.specs.List.{range_with_len}
use Rattle.std.proofs.lemmas.Bool.{cases_eq}
use Rattle.std.proofs.lemmas.List.{append-nil, map-id, length-set, get_or-set_same, get_or-set_other, same_lists}
use Rattle.std.proofs.lemmas.List.FromFn.{length-map-range_with_len, get_or-map-range_with_len, map-range_with_len_more}
use Rattle.raw_switch_isa.specs.declared.limits.TheConstants.{MAX_SWITCH_CODE}
use Rattle.raw_tile_isa.specs.declared.limits.TheConstants.{MAX_TILE_CODE}
use Rattle.raw_tile_isa.specs.Instruction.{Instruction}
use Rattle.raw_switch_isa.specs.Instruction.{SwitchInstruction}
use Rattle.raw_model.specs.Program.{TileProgram}
use Rattle.raw_codegen.specs.Parts.{Part, ToTile, ToSwitch, tile_part, switch_part, program_of, programs_of, Gives}
use Rattle.raw_codegen.specs.Limits.{Overflows}
use Rattle.raw_codegen.proofs.Parts.{tile_part-append, switch_part-append, block_here, block_there, switch_here, switch_there}

pub program_at : (n : ℕ) (parts : List Part) (t : ℕ) (d : TileProgram) → t < n → get_or (programs_of n parts) t d ≡ program_of parts t
program_at n parts t d h = let first : 0 + t ≡ t = omega arith in get_or-map-range_with_len (program_of parts) 0 n t t d h first

-- where one program is changed to that with the chunk, and the chunk gives nothing to the others
pub programs_changed : (n t : ℕ) (parts chunk : List Part) (x : TileProgram) → t < n → x ≡ program_of (parts ++ chunk) t
    → ((u : ℕ) → (u ≡ t → ⊥) → program_of (parts ++ chunk) u ≡ program_of parts u)
    → set (programs_of n parts) t x ≡ programs_of n (parts ++ chunk)
programs_changed n t parts chunk x h is others =
    same_lists (set (programs_of n parts) t x) (programs_of n (parts ++ chunk))
    (length-set (programs_of n parts) t x ∙ length-map-range_with_len (program_of parts) 0 n ∙ sym (length-map-range_with_len (program_of (parts ++ chunk)) 0 n))
    (λ k d l. at k d (subst (λ m. k < m) (length-set (programs_of n parts) t x ∙ length-map-range_with_len (program_of parts) 0 n) l))
  where
    size : length (programs_of n parts) ≡ n
    size = length-map-range_with_len (program_of parts) 0 n

    at : (k : ℕ) (d : TileProgram) → k < n → get_or (set (programs_of n parts) t x) k d ≡ get_or (programs_of n (parts ++ chunk)) k d
    at k d l =
        ⊎_elim
        (λ (e : k ≡ t).
        ap (λ u. get_or (set (programs_of n parts) t x) u d) e
        ∙ get_or-set_same (programs_of n parts) t x d (omega (arith, size)) ∙ is ∙ ap (program_of (parts ++ chunk)) (sym e) ∙ sym (program_at n (parts ++ chunk) k d l))
        (λ (ne : k ≡ t → ⊥).
        get_or-set_other (programs_of n parts) t k x d ne ∙ program_at n parts k d l ∙ sym (others k ne) ∙ sym (program_at n (parts ++ chunk) k d l))
        (cases_eq k t)

-- where the chunk gives nothing to any of them
programs_same : (n : ℕ) (parts chunk : List Part) → ((u : ℕ) → u < n → program_of (parts ++ chunk) u ≡ program_of parts u)
    → programs_of n parts ≡ programs_of n (parts ++ chunk)
programs_same n parts chunk same =
    same_lists (programs_of n parts) (programs_of n (parts ++ chunk)) (size ∙ sym (length-map-range_with_len (program_of (parts ++ chunk)) 0 n))
    (λ k d l. at k d (subst (λ m. k < m) size l))
  where
    size : length (programs_of n parts) ≡ n
    size = length-map-range_with_len (program_of parts) 0 n

    at : (k : ℕ) (d : TileProgram) → k < n → get_or (programs_of n parts) k d ≡ get_or (programs_of n (parts ++ chunk)) k d
    at k d l = program_at n parts k d l ∙ sym (same k l) ∙ sym (program_at n (parts ++ chunk) k d l)

pub same_program : (c d : List Instruction) (s r : List SwitchInstruction) → c ≡ d → s ≡ r
    → ◌≡◌ {A = TileProgram} record { code = c; switch = s; cells = []; misses = [] } record { code = d; switch = r; cells = []; misses = [] }
same_program c d s r e f = λ i. record { code = e i; switch = f i; cells = []; misses = [] }

-- an instruction for a tile, or for its switch, changes nothing of the others
tile_elsewhere : (t : ℕ) (ins : Instruction) (parts : List Part) (u : ℕ) → (u ≡ t → ⊥) → program_of (parts ++ ToTile t ins ∷ []) u ≡ program_of parts u
tile_elsewhere t ins parts u ne =
    let chunk : List Part = ToTile t ins ∷ [] in
    same_program (tile_part u (parts ++ chunk)) (tile_part u parts) (switch_part u (parts ++ chunk)) (switch_part u parts)
    (tile_part-append u parts chunk ∙ ap (λ xs. tile_part u parts ++ xs) (block_there t u (ins ∷ []) ne) ∙ append-nil (tile_part u parts))
    (switch_part-append u parts chunk ∙ append-nil (switch_part u parts))

switch_elsewhere : (t : ℕ) (ins : SwitchInstruction) (parts : List Part) (u : ℕ) → (u ≡ t → ⊥) → program_of (parts ++ ToSwitch t ins ∷ []) u ≡ program_of parts u
switch_elsewhere t ins parts u ne =
    let chunk : List Part = ToSwitch t ins ∷ [] in
    same_program (tile_part u (parts ++ chunk)) (tile_part u parts) (switch_part u (parts ++ chunk)) (switch_part u parts)
    (tile_part-append u parts chunk ∙ append-nil (tile_part u parts))
    (switch_part-append u parts chunk ∙ ap (λ xs. switch_part u parts ++ xs) (switch_there t u ins ne) ∙ append-nil (switch_part u parts))

-- one for a tile that is not there changes nothing
pub tile_outside : (n t : ℕ) (ins : Instruction) (old : List TileProgram) → length old ≤ t → Gives n (ToTile t ins ∷ []) old old
tile_outside n t ins old out parts e =
    let size : length old ≡ n = ap length e ∙ length-map-range_with_len (program_of parts) 0 n in
    e ∙ programs_same n parts (ToTile t ins ∷ []) (λ u within. tile_elsewhere t ins parts u (λ (same : u ≡ t). omega arith))

pub switch_outside : (n t : ℕ) (ins : SwitchInstruction) (old : List TileProgram) → length old ≤ t → Gives n (ToSwitch t ins ∷ []) old old
switch_outside n t ins old out parts e =
    let size : length old ≡ n = ap length e ∙ length-map-range_with_len (program_of parts) 0 n in
    e ∙ programs_same n parts (ToSwitch t ins ∷ []) (λ u within. switch_elsewhere t ins parts u (λ (same : u ≡ t). omega arith))

-- a tile is given an instruction
pub tile_given : (n t : ℕ) (ins : Instruction) (old : List TileProgram) (y : TileProgram) (code : List Instruction) → t < length old → y ≡ get_or old t y → code ≡ y.code ++ ins ∷ []
    → Gives n (ToTile t ins ∷ []) old (set old t (record y { code = code }))
tile_given n t ins old y code h there pushed parts e =
    let size : length old ≡ n = ap length e ∙ length-map-range_with_len (program_of parts) 0 n in
    let within : t < n = omega arith in
    let chunk : List Part = ToTile t ins ∷ [] in
    let was : y ≡ program_of parts t = there ∙ ap (λ xs. get_or xs t y) e ∙ program_at n parts t y within in
    let code_is : code ≡ tile_part t (parts ++ chunk) =
    pushed ∙ ap (λ (z : TileProgram). z.code ++ ins ∷ []) was ∙ ap (λ xs. tile_part t parts ++ xs) (sym (block_here t (ins ∷ []))) ∙ sym (tile_part-append t parts chunk) in
    let switch_is : switch_part t parts ≡ switch_part t (parts ++ chunk) = sym (switch_part-append t parts chunk ∙ append-nil (switch_part t parts)) in
    let new : record y { code = code } ≡ program_of (parts ++ chunk) t =
    ap (λ (z : TileProgram). record z { code = code }) was ∙ same_program code (tile_part t (parts ++ chunk)) (switch_part t parts) (switch_part t (parts ++ chunk)) code_is switch_is in
    ap (λ xs. set xs t (record y { code = code })) e
    ∙ programs_changed n t parts chunk (record y { code = code }) within new (tile_elsewhere t ins parts)

-- a switch is given an instruction
pub switch_given : (n t : ℕ) (ins : SwitchInstruction) (old : List TileProgram) (y : TileProgram) (code : List SwitchInstruction) → t < length old → y ≡ get_or old t y → code ≡ y.switch ++ ins ∷ []
    → Gives n (ToSwitch t ins ∷ []) old (set old t (record y { switch = code }))
switch_given n t ins old y code h there pushed parts e =
    let size : length old ≡ n = ap length e ∙ length-map-range_with_len (program_of parts) 0 n in
    let within : t < n = omega arith in
    let chunk : List Part = ToSwitch t ins ∷ [] in
    let was : y ≡ program_of parts t = there ∙ ap (λ xs. get_or xs t y) e ∙ program_at n parts t y within in
    let code_is : code ≡ switch_part t (parts ++ chunk) =
    pushed ∙ ap (λ (z : TileProgram). z.switch ++ ins ∷ []) was ∙ ap (λ xs. switch_part t parts ++ xs) (sym (switch_here t ins)) ∙ sym (switch_part-append t parts chunk) in
    let tile_is : tile_part t parts ≡ tile_part t (parts ++ chunk) = sym (tile_part-append t parts chunk ∙ append-nil (tile_part t parts)) in
    let new : record y { switch = code } ≡ program_of (parts ++ chunk) t =
    ap (λ (z : TileProgram). record z { switch = code }) was ∙ same_program (tile_part t parts) (tile_part t (parts ++ chunk)) code (switch_part t (parts ++ chunk)) tile_is code_is in
    ap (λ xs. set xs t (record y { switch = code })) e
    ∙ programs_changed n t parts chunk (record y { switch = code }) within new (switch_elsewhere t ins parts)

-- one chunk after another
pub gives_both : (n : ℕ) (x y : List Part) (a b c : List TileProgram) → Gives n x a b → Gives n y b c → Gives n (x ++ y) a c
gives_both n x y a b c g h parts e = h (parts ++ x) (g parts e) ∙ ap (programs_of n) (append_assoc parts x y)

pub gives_none : (n : ℕ) (a : List TileProgram) → Gives n [] a a
gives_none n a parts e = e ∙ ap (programs_of n) (sym (append-nil parts))

-- one more blank tile
pub blank_more : (n : ℕ) (done added : List TileProgram) → added ≡ done ++ program_of [] n ∷ [] → done ≡ programs_of n [] → added ≡ programs_of (n + 1) []
blank_more n done added pushed before =
    let first : 0 + n ≡ n = omega arith in
    pushed ∙ ap (λ (ys : List TileProgram). ys ++ program_of [] n ∷ []) before ∙ sym (map-range_with_len_more (program_of []) 0 n n first)

-- there is no place left
pub full_tile : (n t : ℕ) (ins : Instruction) (old : List TileProgram) (y : TileProgram) → t < length old → y ≡ get_or old t y → MAX_TILE_CODE ≤ length y.code + 1
    → Overflows n (ToTile t ins ∷ []) old
full_tile n t ins old y h there full parts e =
    let size : length old ≡ n = ap length e ∙ length-map-range_with_len (program_of parts) 0 n in
    let within : t < n = omega arith in
    let was : y ≡ program_of parts t = there ∙ ap (λ xs. get_or xs t y) e ∙ program_at n parts t y within in
    let code_was : length y.code ≡ length (tile_part t parts) = ap (λ (z : TileProgram). length z.code) was in
    let longer : length (tile_part t (parts ++ ToTile t ins ∷ [])) ≡ length (tile_part t parts) + 1 =
    ap length (tile_part-append t parts (ToTile t ins ∷ []) ∙ ap (λ xs. tile_part t parts ++ xs) (block_here t (ins ∷ []))) ∙ length-append (tile_part t parts) (ins ∷ []) in
    (t, within, inl (omega arith))

pub full_switch : (n t : ℕ) (ins : SwitchInstruction) (old : List TileProgram) (y : TileProgram) → t < length old → y ≡ get_or old t y → MAX_SWITCH_CODE ≤ length y.switch + 1
    → Overflows n (ToSwitch t ins ∷ []) old
full_switch n t ins old y h there full parts e =
    let size : length old ≡ n = ap length e ∙ length-map-range_with_len (program_of parts) 0 n in
    let within : t < n = omega arith in
    let was : y ≡ program_of parts t = there ∙ ap (λ xs. get_or xs t y) e ∙ program_at n parts t y within in
    let code_was : length y.switch ≡ length (switch_part t parts) = ap (λ (z : TileProgram). length z.switch) was in
    let longer : length (switch_part t (parts ++ ToSwitch t ins ∷ [])) ≡ length (switch_part t parts) + 1 =
    ap length (switch_part-append t parts (ToSwitch t ins ∷ []) ∙ ap (λ xs. switch_part t parts ++ xs) (switch_here t ins)) ∙ length-append (switch_part t parts) (ins ∷ []) in
    (t, within, inr (omega arith))

pub range_more : (t : ℕ) → range_with_len 0 (t + 1) ≡ range_with_len 0 t ++ t ∷ []
range_more t =
    let first : 0 + t ≡ t = omega arith in
    sym (map-id (range_with_len 0 (t + 1))) ∙ map-range_with_len_more (λ (x : ℕ). x) 0 t t first ∙ ap (λ xs. xs ++ t ∷ []) (map-id (range_with_len 0 t))
