-- A field that begins the bytes which are left: what it says, and the bytes behind it, or its fault.
use Rattle.std.specs.Prelude.{◌≡◌, ℕ, zero, suc, ◌%◌, nat_lt, nat_le, ◌==◌, ◌&&◌, Bool, List, [], ◌∷◌, ◌++◌, length, take, drop, Option, Some, None, Result, Ok, Err, if◌then◌else◌}
use Rattle.std.specs.List.{list_all}
use Rattle.std.specs.Int.{Width, byte_len, from_be_bytes}
use Rattle.raw_model.specs.declared.limits.TheConstants.{MEMORY_SIZE}
use Rattle.raw_image.specs.declared.kind.ImageKind.{ImageKind}
use Rattle.raw_image.specs.declared.kind.ImageKind.TheVariants.{Short, BadField}
use Rattle.raw_image.specs.declared.refused.Fault.{Fault}
use Rattle.raw_image.specs.declared.refused.Refusal.{Refusal}
use Rattle.raw_image.specs.declared.refused.Refusal.TheVariants as refusal

-- what follows a field that has no fault
infixl 10 ◌>>=◌
abbrev pub ◌>>=◌ : {A B : Type 0} → Result A Fault → (A → Result B Fault) → Result B Fault
(Ok x) >>= f = f x
(Err fault) >>= f = Err fault

-- what a function refused is the fault, unless memory ran out
abbrev pub Fails : {Y : Type 0} → Refusal → Result Y Fault → Type 0
Fails refusal.Memory read = Unit {0}
Fails (refusal.At fault) read = read ≡ Err fault

-- what a function returned, seen by view, is what the fields say, unless memory ran out
abbrev pub Gives : {X Y : Type 0} → (X → Y) → Result X Refusal → Result Y Fault → Type 0
Gives view (Ok x) read = read ≡ Ok (view x)
Gives view (Err e) read = Fails e read

-- a field is cut off: the fault is told at the end of the input, where no byte is left
abbrev pub short : Fault
short = record { left = 0; kind = Short }

-- a fault of the field that begins these bytes
abbrev pub fault_at : ImageKind → List ℕ → Fault
fault_at kind bytes = record { left = length bytes; kind = kind }

-- the bytes of a field of this width, and the bytes behind it
abbrev pub front_at : ℕ → List ℕ → Result (List ℕ × List ℕ) Fault
front_at width bytes =
    if nat_lt (length bytes) width then Err short else Ok (take width bytes, drop width bytes)

-- what a field says, where it says something that may stand there
abbrev pub said : {A : Type 0} → Fault → List ℕ → Option A → Result (A × List ℕ) Fault
said fault rest None = Err fault
said fault rest (Some x) = Ok (x, rest)

-- a field with a number, by what its number says
abbrev pub said_at : {A : Type 0} → Width → (ℕ → Option A) → List ℕ → Result (A × List ℕ) Fault
said_at w value bytes =
    front_at (byte_len w) bytes >>= λ field. said (fault_at BadField bytes) field.1 (value (from_be_bytes w field.0))

-- a field of one byte, by what it says
abbrev pub byte_at : {A : Type 0} → (ℕ → Option A) → List ℕ → Result (A × List ℕ) Fault
byte_at value [] = Err short
byte_at value (byte ∷ rest) = said (fault_at BadField (byte ∷ rest)) rest (value byte)

-- a number from least to most
abbrev pub between : ℕ → ℕ → ℕ → Option ℕ
between least most n = if nat_le least n && nat_le n most then Some n else None

-- the address of a word in a tile's memory, from least on
abbrev pub address_from : ℕ → ℕ → Option ℕ
address_from least n = if n % 4 == 0 && nat_le least n && nat_lt n MEMORY_SIZE then Some n else None

abbrev pub are_zeros : List ℕ → Bool
are_zeros bytes = list_all (λ byte. byte == 0) bytes

-- so many bytes 0; the bytes behind them
abbrev pub zeros_at : ℕ → List ℕ → Result (List ℕ) Fault
zeros_at width bytes =
    front_at width bytes >>= λ field. if are_zeros field.0 then Ok field.1 else Err (fault_at BadField bytes)

-- so many parts, one behind the other: each is read knowing what stands before it, and adds itself to that
abbrev pub repeated : {S : Type 0} → (S → List ℕ → Result (S × List ℕ) Fault) → ℕ → S → List ℕ → Result (S × List ℕ) Fault
repeated part zero before bytes = Ok (before, bytes)
repeated part (suc n) before bytes = part before bytes >>= λ next. repeated part n next.0 next.1

-- a part behind those of a list
abbrev pub one_more : {A : Type 0} → List A → Result (A × List ℕ) Fault → Result (List A × List ℕ) Fault
one_more before read = read >>= λ next. Ok (before ++ next.0 ∷ [], next.1)

-- so many parts in a list, each read knowing those before it
abbrev pub list_at : {A : Type 0} → (List A → List ℕ → Result (A × List ℕ) Fault) → ℕ → List ℕ → Result (List A × List ℕ) Fault
list_at item count bytes = repeated (λ before rest. one_more before (item before rest)) count [] bytes
