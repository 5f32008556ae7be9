-- A loop that reads one part after another.
use Rattle.std.proofs.Common.{◌≡◌, ℕ, suc, ◌-◌, ◌+◌, ◌<◌, List, [], ◌∷◌, ◌++◌, length, Option, Some, None, Result, Ok, Err, refl, sym, ap, ◌∙◌, arith}
use Rattle.std.specs.Int.{Width, byte_len, from_be_bytes}
use Rattle.std.proofs.lemmas.List.{length-append}
use Rattle.std.proofs.lemmas.List.Sums.{sum_by_push}
use Rattle.raw_image.specs.declared.kind.ImageKind.TheVariants.{BadField}
use Rattle.raw_image.specs.declared.refused.Fault.{Fault}
use Rattle.raw_image.specs.declared.refused.Refusal.{Refusal}
use Rattle.raw_image.specs.declared.refused.Refusal.TheVariants as refusal
use Rattle.raw_model.specs.declared.program.DataWord.{DataWord}
use Rattle.raw_image.specs.Fields.{◌>>=◌, Fails, fault_at, front_at, said, said_at, repeated, one_more}
use Rattle.raw_model.specs.Program.{TileProgram}
use Rattle.raw_image.specs.Reading.{least_behind, room_behind, room_after}

abbrev pub Part : Type 0 → Type 0
Part S = S → List ℕ → Result (S × List ℕ) Fault

pub goes_on : {S : Type 0} (part : Part S) (count i : ℕ) (before : S) (bytes : List ℕ) (after : S) (rest : List ℕ) (total : Result (S × List ℕ) Fault) → i < count → part before bytes ≡ Ok (after, rest)
    → repeated part (count - i) before bytes ≡ total → repeated part (count - (i + 1)) after rest ≡ total
goes_on part count i before bytes after rest total lt h so_far =
    let k : count - i ≡ suc (count - (i + 1)) = omega arith in
    let one : repeated part (count - i) before bytes ≡ repeated part (count - (i + 1)) after rest = rw (k, h) refl in
    sym one ∙ so_far

pub ends : {S : Type 0} (part : Part S) (e : Refusal) (count i : ℕ) (before : S) (bytes : List ℕ) (total : Result (S × List ℕ) Fault) → i < count → Fails e (part before bytes)
    → repeated part (count - i) before bytes ≡ total → Fails e total
ends part refusal.Memory count i before bytes total lt h so_far = tt
ends part (refusal.At fault) count i before bytes total lt h so_far =
    let k : count - i ≡ suc (count - (i + 1)) = omega arith in
    let one : repeated part (count - i) before bytes ≡ Err fault = rw (k, h) refl in
    sym so_far ∙ one

-- the same for a part of a list
abbrev pub Item : Type 0 → Type 0
Item A = List A → List ℕ → Result (A × List ℕ) Fault

abbrev pub listed : {A : Type 0} → Item A → Part (List A)
listed item before rest = one_more before (item before rest)

pub one_read : {A : Type 0} (read : Result (A × List ℕ) Fault) (before : List A) (x : A) (after : List ℕ) → read ≡ Ok (x, after) → one_more before read ≡ Ok (before ++ x ∷ [], after)
one_read read before x after h = rw h refl

pub one_fails : {A : Type 0} (e : Refusal) (read : Result (A × List ℕ) Fault) (before : List A) → Fails e read → Fails e (one_more before read)
one_fails refusal.Memory read before h = tt
one_fails (refusal.At fault) read before h = rw h refl

-- the least address behind a list's last word
pub least_push : (cells : List DataWord) (cell : DataWord) → least_behind (cells ++ cell ∷ []) ≡ cell.address + 1
least_push (x ∷ y ∷ cells) cell = least_push (y ∷ cells) cell
least_push _ cell = refl

pub length-push : {A : Type 0} (xs : List A) (x : A) → length (xs ++ x ∷ []) ≡ length xs + 1
length-push xs x = omega (arith, length-append xs (x ∷ []))

-- a field whose number says nothing that fails, and what it says by another meaning
pub said_fails : {A : Type 0} (e : Refusal) (w : Width) (value : ℕ → Option A) (bytes : List ℕ) → Fails e (said_at w Some bytes) → Fails e (said_at w value bytes)
said_fails refusal.Memory w value bytes h = tt
said_fails (refusal.At fault) w value bytes h = by_front (front_at (byte_len w) bytes) h
  where
    by_front : (front : Result (List ℕ × List ℕ) Fault) → (front >>= λ field. said (fault_at BadField bytes) field.1 (Some (from_be_bytes w field.0))) ≡ Err fault → (front >>= λ field. said (fault_at BadField bytes) field.1 (value (from_be_bytes w field.0))) ≡ Err fault
    by_front (Ok x) e = absurd cc
    by_front (Err f) e = let same : f ≡ fault = cc in ap Err same

pub said_value : {A : Type 0} (w : Width) (value : ℕ → Option A) (bytes : List ℕ) (n : ℕ) (rest : List ℕ) → said_at w Some bytes ≡ Ok (n, rest) → said_at w value bytes ≡ said (fault_at BadField bytes) rest (value n)
said_value w value bytes n rest h = by_front (front_at (byte_len w) bytes) h
  where
    by_front : (front : Result (List ℕ × List ℕ) Fault) → (front >>= λ field. said (fault_at BadField bytes) field.1 (Some (from_be_bytes w field.0))) ≡ Ok (n, rest) → (front >>= λ field. said (fault_at BadField bytes) field.1 (value (from_be_bytes w field.0))) ≡ said (fault_at BadField bytes) rest (value n)
    by_front (Ok x) e =
        let pair : (from_be_bytes w x.0, x.1) ≡ (n, rest) = cc in
        ap (λ (p : ℕ × List ℕ). said (fault_at BadField bytes) p.1 (value p.0)) pair
    by_front (Err f) e = absurd cc

pub said_some : {A : Type 0} (w : Width) (value : ℕ → Option A) (bytes : List ℕ) (n : ℕ) (rest : List ℕ) (x : A) → said_at w Some bytes ≡ Ok (n, rest) → value n ≡ Some x → said_at w value bytes ≡ Ok (x, rest)
said_some w value bytes n rest x h e = said_value w value bytes n rest h ∙ ap (said (fault_at BadField bytes) rest) e

pub said_none : {A : Type 0} (w : Width) (value : ℕ → Option A) (bytes : List ℕ) (n : ℕ) (rest : List ℕ) → said_at w Some bytes ≡ Ok (n, rest) → value n ≡ None → said_at w value bytes ≡ Err (fault_at BadField bytes)
said_none w value bytes n rest h e = said_value w value bytes n rest h ∙ ap (said (fault_at BadField bytes) rest) e

-- the room behind one tile more
pub room_push : (tiles : List TileProgram) (tile : TileProgram) → room_after (room_behind tiles) tile ≡ room_behind (tiles ++ tile ∷ [])
room_push tiles tile = λ i. record {
  code = by_code i;
  switch = by_switch i;
  cells = by_cells i;
  misses = by_misses i;
}
  where
    by_code : (room_after (room_behind tiles) tile).code ≡ (room_behind (tiles ++ tile ∷ [])).code
    by_code = omega (arith, sum_by_push (λ (t : TileProgram). length t.code) tiles tile)

    by_switch : (room_after (room_behind tiles) tile).switch ≡ (room_behind (tiles ++ tile ∷ [])).switch
    by_switch = omega (arith, sum_by_push (λ (t : TileProgram). length t.switch) tiles tile)

    by_cells : (room_after (room_behind tiles) tile).cells ≡ (room_behind (tiles ++ tile ∷ [])).cells
    by_cells = omega (arith, sum_by_push (λ (t : TileProgram). length t.cells) tiles tile)

    by_misses : (room_after (room_behind tiles) tile).misses ≡ (room_behind (tiles ++ tile ∷ [])).misses
    by_misses = omega (arith, sum_by_push (λ (t : TileProgram). length t.misses) tiles tile)
