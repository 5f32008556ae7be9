-- 'halt' for all tiles and switches; programs that are too long.
use Rattle.std.proofs.Common.{◌≡◌, ℕ, zero, suc, ◌+◌, ◌<◌, ◌≤◌, ◌⊎◌, List, [], ◌∷◌, ◌++◌, length, get_or, inl, inr, refl, sym, ap, ◌∙◌, subst, ⊎_elim, arith, length-append, append_assoc}
use Rattle.std.specs.List.{flat_map, range_with_len}
use Rattle.std.proofs.lemmas.Bool.{cases_eq, eq-eqb, ne_eqb}
use Rattle.std.proofs.lemmas.Grind.{flat_map-append}
use Rattle.std.proofs.lemmas.List.{same_lists}
use Rattle.std.proofs.lemmas.List.FromFn.{length-map-range_with_len, get_or-map-range_with_len}
use Rattle.raw_switch_isa.specs.declared.limits.TheConstants.{MAX_SWITCH_CODE}
use Rattle.raw_tile_isa.specs.declared.limits.TheConstants.{MAX_TILE_CODE}
use Rattle.raw_tile_isa.specs.Instruction.{Instruction}
use Rattle.raw_tile_isa.specs.Made as tile
use Rattle.raw_switch_isa.specs.Instruction.{SwitchInstruction}
use Rattle.raw_switch_isa.specs.Made as switch
use Rattle.raw_model.specs.Program.{TileProgram}
use Rattle.raw_codegen.specs.Parts.{Part, ToTile, ToSwitch, tile_part, switch_part, program_of, programs_of, Gives, script_program, script_programs, halts_to}
use Rattle.raw_codegen.specs.Limits.{IsShort, AreShort, IsTooLong, Overflows}
use Rattle.raw_codegen.proofs.Giving.{range_more, gives_both, same_program}
use Rattle.raw_codegen.proofs.Parts.{tile_part-append, switch_part-append}

abbrev halts_at : ℕ → List Part
halts_at t = ToTile t tile.halt ∷ ToSwitch t switch.halt ∷ []

pub halts_more : (t : ℕ) → halts_to (t + 1) ≡ halts_to t ++ (ToTile t tile.halt ∷ ToSwitch t switch.halt ∷ [])
halts_more t = ap (flat_map halts_at) (range_more t) ∙ flat_map-append halts_at (range_with_len 0 t) (t ∷ [])

tile_at : (u : ℕ) → tile_part u (halts_at u) ≡ tile.halt ∷ []
tile_at u = rw (eq-eqb u u refl) refl

switch_at : (u : ℕ) → switch_part u (halts_at u) ≡ switch.halt ∷ []
switch_at u = rw (eq-eqb u u refl) refl

tile_off : (t u : ℕ) → (t ≡ u → ⊥) → tile_part u (halts_at t) ≡ []
tile_off t u ne = rw (ne_eqb t u ne) refl

switch_off : (t u : ℕ) → (t ≡ u → ⊥) → switch_part u (halts_at t) ≡ []
switch_off t u ne = rw (ne_eqb t u ne) refl

-- of what is given to each of a range of tiles, a part of their programs sees that of its own tile
module _ {X : Type 0} (part : ℕ → List Part → List X) (x : X) (none : (u : ℕ) → part u [] ≡ [])
    (append : (u : ℕ) (xs ys : List Part) → part u (xs ++ ys) ≡ part u xs ++ part u ys)
    (here : (u : ℕ) → part u (halts_at u) ≡ x ∷ []) (there : (t u : ℕ) → (t ≡ u → ⊥) → part u (halts_at t) ≡ []) where
  before_all : (u a n : ℕ) → u < a → part u (flat_map halts_at (range_with_len a n)) ≡ []
  before_all u a zero h = none u
  before_all u a (suc n) h =
      append u (halts_at a) (flat_map halts_at (range_with_len (a + 1) n))
      ∙ ap (λ xs. xs ++ part u (flat_map halts_at (range_with_len (a + 1) n))) (there a u (λ e. omega arith)) ∙ before_all u (a + 1) n (omega arith)

  within_all : (u a n : ℕ) → a ≤ u → u < a + n → part u (flat_map halts_at (range_with_len a n)) ≡ x ∷ []
  within_all u a zero h k = absurd (omega arith)
  within_all u a (suc n) h k =
      append u (halts_at a) (flat_map halts_at (range_with_len (a + 1) n))
      ∙ ⊎_elim
      (λ (e : u ≡ a).
      subst (λ (b : ℕ). part u (halts_at b) ++ part u (flat_map halts_at (range_with_len (b + 1) n)) ≡ x ∷ []) e
      (ap (λ xs. xs ++ part u (flat_map halts_at (range_with_len (u + 1) n))) (here u) ∙ ap (λ xs. x ∷ xs) (before_all u (u + 1) n (omega arith))))
      (λ (ne : u ≡ a → ⊥).
      ap (λ xs. xs ++ part u (flat_map halts_at (range_with_len (a + 1) n))) (there a u (λ e. ne (sym e))) ∙ within_all u (a + 1) n (more ne) (omega arith))
      (cases_eq u a)
    where
      more : (u ≡ a → ⊥) → a + 1 ≤ u
      more ne = omega arith

  pub halts_part : (u n : ℕ) → u < n → part u (halts_to n) ≡ x ∷ []
  halts_part u n h = within_all u 0 n (omega arith) (omega arith)

-- programs with 'halt' behind them are whole
pub halts_given : (n : ℕ) (parts : List Part) → programs_of n (parts ++ halts_to n) ≡ script_programs n parts
halts_given n parts =
    same_lists (programs_of n (parts ++ halts_to n)) (script_programs n parts)
    (length-map-range_with_len (program_of (parts ++ halts_to n)) 0 n ∙ sym (length-map-range_with_len (script_program parts) 0 n))
    (λ k d l. at k d (subst (λ m. k < m) (length-map-range_with_len (program_of (parts ++ halts_to n)) 0 n) l))
  where
    whole : (k : ℕ) → k < n → program_of (parts ++ halts_to n) k ≡ script_program parts k
    whole k l =
        same_program (tile_part k (parts ++ halts_to n)) (tile_part k parts ++ tile.halt ∷ []) (switch_part k (parts ++ halts_to n)) (switch_part k parts ++ switch.halt ∷ [])
        (tile_part-append k parts (halts_to n) ∙ ap (λ xs. tile_part k parts ++ xs) (halts_part {X = Instruction} tile_part tile.halt (λ u. refl) tile_part-append tile_at tile_off k n l))
        (switch_part-append k parts (halts_to n) ∙ ap (λ xs. switch_part k parts ++ xs) (halts_part {X = SwitchInstruction} switch_part switch.halt (λ u. refl) switch_part-append switch_at switch_off k n l))

    at : (k : ℕ) (d : TileProgram) → k < n → get_or (programs_of n (parts ++ halts_to n)) k d ≡ get_or (script_programs n parts) k d
    at k d l =
        let first : 0 + k ≡ k = omega arith in
        get_or-map-range_with_len (program_of (parts ++ halts_to n)) 0 n k k d l first ∙ whole k l ∙ sym (get_or-map-range_with_len (script_program parts) 0 n k k d l first)

-- tiles up to one have got their 'halt', and so has that one
pub halts_step : (n t : ℕ) (a b c d : List TileProgram) → Gives n (halts_to t) a b → Gives n (ToTile t tile.halt ∷ []) b c → Gives n (ToSwitch t switch.halt ∷ []) c d → Gives n (halts_to (t + 1)) a d
halts_step n t a b c d g h k =
    subst (λ (parts : List Part). Gives n parts a d) (sym (halts_more t))
    (gives_both n (halts_to t) (ToTile t tile.halt ∷ ToSwitch t switch.halt ∷ []) a b d g (gives_both n (ToTile t tile.halt ∷ []) (ToSwitch t switch.halt ∷ []) b c d h k))

pub finished : (n m : ℕ) (parts : List Part) (a b : List TileProgram) → m ≡ length a → Gives n (halts_to m) a b → a ≡ programs_of n parts → b ≡ script_programs n parts
finished n m parts a b size g is =
    let same : m ≡ n = size ∙ ap length is ∙ length-map-range_with_len (program_of parts) 0 n in
    g parts is ∙ ap (λ k. programs_of n (parts ++ halts_to k)) same ∙ halts_given n parts

-- what is too long stays so
pub longer : (n : ℕ) (parts more : List Part) → IsTooLong n parts → IsTooLong n (parts ++ more)
longer n parts more h = (h.0, h.1, by h.2)
  where
    by : (MAX_TILE_CODE ≤ length (tile_part h.0 parts)) ⊎ (MAX_SWITCH_CODE ≤ length (switch_part h.0 parts)) → (MAX_TILE_CODE ≤ length (tile_part h.0 (parts ++ more))) ⊎ (MAX_SWITCH_CODE ≤ length (switch_part h.0 (parts ++ more)))
    by (inl x) = inl (let a = ap length (tile_part-append h.0 parts more) ∙ length-append (tile_part h.0 parts) (tile_part h.0 more) in omega arith)
    by (inr x) = inr (let a = ap length (switch_part-append h.0 parts more) ∙ length-append (switch_part h.0 parts) (switch_part h.0 more) in omega arith)

pub overflows_more : (n : ℕ) (x y : List Part) (a : List TileProgram) → Overflows n x a → Overflows n (x ++ y) a
overflows_more n x y a h parts e = subst (λ (ps : List Part). IsTooLong n ps) (append_assoc parts x y) (longer n (parts ++ x) y (h parts e))

pub overflows_later : (n : ℕ) (x y : List Part) (a b : List TileProgram) → Gives n x a b → Overflows n y b → Overflows n (x ++ y) a
overflows_later n x y a b g h parts e = subst (λ (ps : List Part). IsTooLong n ps) (append_assoc parts x y) (h (parts ++ x) (g parts e))

pub too_long : (n : ℕ) (parts : List Part) → IsTooLong n parts → AreShort (script_programs n parts) → ⊥
too_long n parts h short = by h.2
  where
    first : 0 + h.0 ≡ h.0
    first = omega arith

    this : IsShort (script_program parts h.0)
    this =
        subst IsShort (get_or-map-range_with_len (script_program parts) 0 n h.0 h.0 (script_program parts h.0) h.1 first)
        (short.each h.0 (script_program parts h.0) (subst (λ m. h.0 < m) (sym (length-map-range_with_len (script_program parts) 0 n)) h.1))

    by : (MAX_TILE_CODE ≤ length (tile_part h.0 parts)) ⊎ (MAX_SWITCH_CODE ≤ length (switch_part h.0 parts)) → ⊥
    by (inl x) = let a = this.code in let b = length-append (tile_part h.0 parts) (tile.halt ∷ []) in omega arith
    by (inr x) = let a = this.switch in let b = length-append (switch_part h.0 parts) (switch.halt ∷ []) in omega arith
