-- What holds of the name of each row of the table.
use Rattle.std.proofs.Common.{◌≡◌, ℕ, ◌≤◌, Bool, true, false, not, ◌&&◌, List, length, Some, refl, ap, arith}
use Rattle.std.specs.Prelude.{codes, nat_lt, nat_le}
use Rattle.std.specs.Option.{option_map}
use Rattle.std.specs.List.{list_all}
use Rattle.std.specs.Str.{bytes_eq}
use Rattle.std.proofs.lemmas.Bool.Decides.{nat_tests}
use Rattle.raw_text.specs.Lines.{is_solid, IsToken}
use Rattle.raw_tile_isa.specs.declared.table.TileOp.{TileOp}
use Rattle.raw_tile_isa.specs.declared.table.TileOp.TheVariants.{Sll}
use Rattle.raw_tile_isa.specs.Table.{row_of}
use Rattle.raw_tile_isa.proofs.Encoding.{name_back}
use Rattle.raw_asm.specs.Names.{ends_with}
use Rattle.raw_tile_asm.specs.Form.{form_named, full_form}

-- a name is a short token, no label and none of the further names, and few operands follow it
abbrev is_row_name : List ℕ → Bool
is_row_name name =
    nat_lt 0 (length name) && (nat_le (length name) 6 && (list_all is_solid name && (not (ends_with (codes ":") name)
    && (not (bytes_eq name (codes "li")) && (not (bytes_eq name (codes ".word")) && (not (bytes_eq name (codes "nop"))
    && (not (bytes_eq name (codes "move")) && not (bytes_eq name (codes "b")))))))))

-- the table is computed, row by row
passes : (op : TileOp) → is_row_name (row_of op).name ≡ true
passes Sll = refl
passes _ = refl

few_operands : (op : TileOp) → nat_le (length (row_of op).operands) 3 ≡ true
few_operands Sll = refl
few_operands _ = refl

both : (a b : Bool) → (a && b) ≡ true → (a ≡ true) × (b ≡ true)
both true b e = (refl, e)
both false b e = absurd (cc e)

is_false : (b : Bool) → not b ≡ true → b ≡ false
is_false true e = absurd (cc e)
is_false false e = refl

-- what the reader of a line asks of a row's name
pub record IsRowName (op : TileOp) : Type 0 where
  pub token : IsToken (row_of op).name
  pub short : length (row_of op).name ≤ 6
  pub few : length (row_of op).operands ≤ 3
  pub no_label : ends_with (codes ":") (row_of op).name ≡ false
  pub no_load : bytes_eq (row_of op).name (codes "li") ≡ false
  pub no_word : bytes_eq (row_of op).name (codes ".word") ≡ false
  pub named : form_named (row_of op).name ≡ Some (full_form op)

named_by : (op : TileOp) → bytes_eq (row_of op).name (codes "nop") ≡ false → bytes_eq (row_of op).name (codes "move") ≡ false → bytes_eq (row_of op).name (codes "b") ≡ false
    → form_named (row_of op).name ≡ Some (full_form op)
unfolding form_named
named_by op nop move b = rw (nop, move, b) (ap (option_map full_form) (name_back op))

pub row_name : (op : TileOp) → IsRowName op
row_name op =
    let name = (row_of op).name in
    let some = both _ _ (passes op) in
    let short = both _ _ some.1 in
    let solid = both _ _ short.1 in
    let label = both _ _ solid.1 in
    let load = both _ _ label.1 in
    let word = both _ _ load.1 in
    let nop = both _ _ word.1 in
    let move = both _ _ nop.1 in
    let is_some = some.0 in
    let is_short = short.0 in
    let is_few = few_operands op in
    record {
      token = record { some = grind (arith, nat_tests); solid = solid.0 };
      short = grind (arith, nat_tests);
      few = grind (arith, nat_tests);
      no_label = is_false _ label.0;
      no_load = is_false _ load.0;
      no_word = is_false _ word.0;
      named = named_by op (is_false _ nop.0) (is_false _ move.0) (is_false _ move.1);
    }
