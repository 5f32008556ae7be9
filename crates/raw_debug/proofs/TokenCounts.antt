-- A line by the number of its tokens.
use Rattle.std.proofs.Common.{◌≡◌, ℕ, ◌+◌, ◌*◌, ◌<◌, ◌≤◌, Bool, true, false, ◌&&◌, List, [], ◌∷◌, length, get_or, drop, Option, Some, None, refl, sym, ap, subst, arith}
use Rattle.std.specs.Prelude.{◌%◌, ◌==◌, nat_lt, nat_le, codes, if◌then◌else◌}
use Rattle.std.specs.Str.{bytes_eq}
use Rattle.std.proofs.lemmas.Bool.{ltb-true, leb-true, and_parts}
use Rattle.raw_text.specs.Number.{number_of}
use Rattle.raw_grid.specs.declared.parts.ProcId.{ProcId}
use Rattle.raw_grid.specs.Topology.{IsTopology, tile_count, proc_count, tile_number, switch_at}
use Rattle.raw_grid.specs.Wires.{wires_of, producer_of}
use Rattle.raw_grid.proofs.Apart.{tile_below}
use Rattle.raw_grid.proofs.WireLaws.{producer_few}
use Rattle.raw_model.specs.Program.{ProgramSet, memory_size}
use Rattle.raw_debug.specs.declared.command.Aim.TheVariants.{Pc, Sends, SendsAny, Stores, StoresAny, Sets, SetsAny}
use Rattle.raw_debug.specs.declared.command.Goal.{Goal}
use Rattle.raw_debug.specs.declared.command.Command.{Command}
use Rattle.raw_debug.specs.declared.command.Command.TheVariants.{At, Count, Back, Forth, Until, Last, Finish, Rest, Where, All, Registers, Memory, Wires, Waits, Code, Passed}
use Rattle.raw_debug.specs.declared.command.Reading.{Reading}
use Rattle.raw_debug.specs.declared.command.Reading.TheVariants as reading
use Rattle.raw_debug.specs.Commands.{LabelPlaces, third_of, numbered, called, named, at_of, until_count_of, back_of, forth_of, has_code, code_of, passed_of, has_words, memory_of, until_pc_of, until_wire_of, until_memory_of, has_register, until_register_of, any_wire, any_word, any_value, any_of, until_goal, last_goal, word_of, word_with_one, word_with_two, word_with_three, word_with_four, word_with_five, command_of, said, is_echo, meaning_of, meant}
use Rattle.raw_debug.specs.Commands.Meaning.{Blank, Says, Echoes}
use Rattle.raw_debug.specs.Debugging.{IsPossibleAim, IsPossible, IsPossibleReading}

module _ (labels : LabelPlaces) (set : ProgramSet) (p : ℕ) where
  pub one_token : (line : List (List ℕ)) → length line ≡ 1
      → command_of labels set p line ≡ word_of (get_or line 0 [])
  unfolding command_of
  one_token (word ∷ []) is = refl
  one_token _ is = absurd (omega (arith, is))

  pub two_tokens : (line : List (List ℕ)) → length line ≡ 2
      → command_of labels set p line ≡ word_with_one set p (get_or line 0 []) (get_or line 1 [])
  unfolding command_of
  two_tokens (word ∷ a ∷ []) is = refl
  two_tokens _ is = absurd (omega (arith, is))

  pub three_tokens : (line : List (List ℕ)) → length line ≡ 3
      → command_of labels set p line ≡ word_with_two set p (get_or line 0 []) (get_or line 1 []) (third_of labels p (get_or line 0 []) (get_or line 1 []) (get_or line 2 []))
  unfolding command_of
  three_tokens (word ∷ a ∷ b ∷ []) is = refl
  three_tokens _ is = absurd (omega (arith, is))

  pub four_tokens : (line : List (List ℕ)) → length line ≡ 4
      → command_of labels set p line ≡ word_with_three set p (get_or line 0 []) (get_or line 1 []) (number_of (get_or line 2 [])) (number_of (get_or line 3 []))
  unfolding command_of
  four_tokens (word ∷ a ∷ b ∷ c ∷ []) is = refl
  four_tokens _ is = absurd (omega (arith, is))

  pub five_tokens : (line : List (List ℕ)) → length line ≡ 5
      → command_of labels set p line ≡ word_with_four set (get_or line 0 []) (get_or line 1 []) (number_of (get_or line 2 [])) (number_of (get_or line 3 [])) (number_of (get_or line 4 []))
  unfolding command_of
  five_tokens (word ∷ a ∷ b ∷ c ∷ d ∷ []) is = refl
  five_tokens _ is = absurd (omega (arith, is))

  pub six_tokens : (line : List (List ℕ)) → length line ≡ 6
      → command_of labels set p line ≡ word_with_five set (get_or line 0 []) (get_or line 1 []) (get_or line 2 []) (number_of (get_or line 3 [])) (number_of (get_or line 4 [])) (number_of (get_or line 5 []))
  unfolding command_of
  six_tokens (word ∷ a ∷ b ∷ c ∷ d ∷ e ∷ []) is = refl
  six_tokens _ is = absurd (omega (arith, is))

  pub other_tokens : (line : List (List ℕ)) → (length line ≡ 1 → ⊥) → (length line ≡ 2 → ⊥) → (length line ≡ 3 → ⊥) → (length line ≡ 4 → ⊥) → (length line ≡ 5 → ⊥) → (length line ≡ 6 → ⊥)
      → command_of labels set p line ≡ None
  unfolding command_of
  other_tokens (word ∷ []) not_1 not_2 not_3 not_4 not_5 not_6 = absurd (not_1 refl)
  other_tokens (word ∷ a ∷ []) not_1 not_2 not_3 not_4 not_5 not_6 = absurd (not_2 refl)
  other_tokens (word ∷ a ∷ b ∷ []) not_1 not_2 not_3 not_4 not_5 not_6 = absurd (not_3 refl)
  other_tokens (word ∷ a ∷ b ∷ c ∷ []) not_1 not_2 not_3 not_4 not_5 not_6 = absurd (not_4 refl)
  other_tokens (word ∷ a ∷ b ∷ c ∷ d ∷ []) not_1 not_2 not_3 not_4 not_5 not_6 = absurd (not_5 refl)
  other_tokens (word ∷ a ∷ b ∷ c ∷ d ∷ e ∷ []) not_1 not_2 not_3 not_4 not_5 not_6 = absurd (not_6 refl)
  other_tokens _ not_1 not_2 not_3 not_4 not_5 not_6 = refl

  -- a line without tokens, and one with some
  pub no_token : (line : List (List ℕ)) → length line ≡ 0 → meaning_of labels set p line ≡ Blank
  no_token [] is = refl
  no_token (token ∷ line) is = absurd (omega (arith, is))

  pub some_tokens : (line : List (List ℕ)) → (length line ≡ 0 → ⊥)
      → meaning_of labels set p line ≡ (if is_echo (get_or line 0 []) (drop 1 line) then Echoes (drop 1 line) else said (command_of labels set p line))
  some_tokens [] some = absurd (some refl)
  some_tokens (token ∷ line) some = refl

-- A command that was read can be done.
module _ (set : ProgramSet) (valid : IsTopology set.topo) (p : ℕ) where
  -- an answer that is there only where a test holds
  tested : (b : Bool) (own command : Command) → (b ≡ true → IsPossible set p own) → (if b then Some own else None) ≡ Some command → IsPossible set p command
  tested true own command there e = let same : own ≡ command = cc e in subst (IsPossible set p) same (there refl)
  tested false own command there e = absurd (cc e)

  plain : (own command : Command) → IsPossible set p own → Some own ≡ Some command → IsPossible set p command
  plain own command possible e = let same : own ≡ command = cc e in subst (IsPossible set p) same possible

  -- a processor of the set
  abbrev IsThere : Option ProcId → Type 0
  IsThere None = Unit {0}
  IsThere (Some q) = q.0 < proc_count set.topo

  numbered_there : (a : Option ℕ) → IsThere (numbered set a)
  numbered_there None = tt
  numbered_there (Some q) = by_test (nat_lt q (proc_count set.topo)) (ltb-true q (proc_count set.topo))
    where
      by_test : (b : Bool) → (b ≡ true → q < proc_count set.topo) → IsThere (if b then Some (record { 0 = q }) else None)
      by_test true there = there refl
      by_test false there = tt

  called_there : (word : List ℕ) (x y : ℕ) → x < set.topo.cols → y < set.topo.rows → IsThere (called set word x y)
  called_there word x y column row = by_test _ _
    where
      tile : tile_number set.topo x y < tile_count set.topo
      tile = tile_below set.topo x y column row

      by_test : (b c : Bool) → IsThere (if b then Some (record { 0 = tile_number set.topo x y }) else (if c then Some (record { 0 = switch_at set.topo x y }) else None))
      by_test true c = omega (arith, tile)
      by_test false true = omega (arith, tile)
      by_test false false = tt

  named_there : (word : List ℕ) (x y : Option ℕ) → IsThere (named set word x y)
  named_there word None y = tt
  named_there word (Some x) None = tt
  named_there word (Some x) (Some y) = by_test (nat_lt x set.topo.cols && nat_lt y set.topo.rows) (λ e. and_parts (nat_lt x set.topo.cols) (nat_lt y set.topo.rows) e)
    where
      by_test : (b : Bool) → (b ≡ true → (nat_lt x set.topo.cols ≡ true) × (nat_lt y set.topo.rows ≡ true)) → IsThere (if b then called set word x y else None)
      by_test true both = let on = both refl in called_there word x y (ltb-true x set.topo.cols on.0) (ltb-true y set.topo.rows on.1)
      by_test false both = tt

  at_possible : (q : Option ProcId) (b : Option ℕ) (command : Command) → IsThere q → at_of q b ≡ Some command → IsPossible set p command
  at_possible None b command there e = absurd (cc e)
  at_possible (Some q) None command there e = absurd (cc e)
  at_possible (Some q) (Some steps) command there e = plain (At q steps) command there e

  count_possible : (q : Option ProcId) (b : Option ℕ) (command : Command) → IsThere q → until_count_of q b ≡ Some command → IsPossible set p command
  count_possible None b command there e = absurd (cc e)
  count_possible (Some q) None command there e = absurd (cc e)
  count_possible (Some q) (Some steps) command there e = plain (Count q steps) command there e

  back_possible : (a : Option ℕ) (command : Command) → back_of a ≡ Some command → IsPossible set p command
  back_possible None command e = absurd (cc e)
  back_possible (Some steps) command e = plain (Back steps) command tt e

  forth_possible : (a : Option ℕ) (command : Command) → forth_of a ≡ Some command → IsPossible set p command
  forth_possible None command e = absurd (cc e)
  forth_possible (Some steps) command e = plain (Forth steps) command tt e

  code_possible : (a : Option ℕ) (command : Command) → code_of set p a ≡ Some command → IsPossible set p command
  code_possible None command e = absurd (cc e)
  code_possible (Some around) command e = tested (has_code set p) (Code around) command (λ on. tt) e

  passed_possible : (a : Option ℕ) (command : Command) → passed_of set a ≡ Some command → IsPossible set p command
  passed_possible None command e = absurd (cc e)
  passed_possible (Some w) command e = tested _ (Passed (record { 0 = w })) command (λ on. ltb-true w (length (wires_of set.topo)) on) e

  words_there : (address words : ℕ) → has_words set p address words ≡ true → (p < tile_count set.topo) × (address + 4 * words ≤ memory_size)
  words_there address words is =
      let (front, inside) = and_parts (nat_lt p (tile_count set.topo) && (address % 4 == 0) && nat_lt 0 words) (nat_le (address + 4 * words) memory_size) is in
      let (both, some) = and_parts (nat_lt p (tile_count set.topo) && (address % 4 == 0)) (nat_lt 0 words) front in
      let (tile, aligned) = and_parts (nat_lt p (tile_count set.topo)) (address % 4 == 0) both in
      (ltb-true p (tile_count set.topo) tile, leb-true (address + 4 * words) memory_size inside)

  memory_possible : (a b : Option ℕ) (command : Command) → memory_of set p a b ≡ Some command → IsPossible set p command
  memory_possible None b command e = absurd (cc e)
  memory_possible (Some address) None command e = absurd (cc e)
  memory_possible (Some address) (Some words) command e = tested _ (Memory address words) command (words_there address words) e

  until_pc_possible : (a : Option ℕ) (command : Command) → until_pc_of set p a ≡ Some command → IsPossible set p command
  until_pc_possible None command e = absurd (cc e)
  until_pc_possible (Some pc) command e =
      tested _ (Until (record { 0 = p }) (Pc pc)) command (λ on. let below = ltb-true p (2 * tile_count set.topo) on in (omega (arith, below), tt)) e

  until_wire_possible : (a b : Option ℕ) (command : Command) → until_wire_of set a b ≡ Some command → IsPossible set p command
  until_wire_possible None b command e = absurd (cc e)
  until_wire_possible (Some w) None command e = absurd (cc e)
  until_wire_possible (Some w) (Some value) command e =
      tested _ (Until (record { 0 = producer_of set.topo w }) (Sends (record { 0 = w }) value)) command
      (λ on. let there = ltb-true w (length (wires_of set.topo)) on in (producer_few set.topo w valid there, (there, refl))) e

  until_memory_possible : (a b : Option ℕ) (command : Command) → until_memory_of set p a b ≡ Some command → IsPossible set p command
  until_memory_possible None b command e = absurd (cc e)
  until_memory_possible (Some address) None command e = absurd (cc e)
  until_memory_possible (Some address) (Some word) command e =
      tested _ (Until (record { 0 = p }) (Stores address word)) command
      (λ on. let (tile, inside) = words_there address 1 on in (omega (arith, tile), (tile, omega (arith, inside)))) e

  register_there : (register : ℕ) → has_register set p register ≡ true → p < proc_count set.topo
  register_there register = by_test (nat_lt p (tile_count set.topo)) (ltb-true p (tile_count set.topo))
    where
      by_test : (b : Bool) → (b ≡ true → p < tile_count set.topo)
          → (if b then nat_lt register 32 else has_code set p && nat_lt register 4) ≡ true → p < proc_count set.topo
      by_test true below e = let tile = below refl in omega (arith, tile)
      by_test false below e =
          let (code, few) = and_parts (has_code set p) (nat_lt register 4) e in
          let under = ltb-true p (2 * tile_count set.topo) code in
          omega (arith, under)

  until_register_possible : (a b : Option ℕ) (command : Command) → until_register_of set p a b ≡ Some command → IsPossible set p command
  until_register_possible None b command e = absurd (cc e)
  until_register_possible (Some register) None command e = absurd (cc e)
  until_register_possible (Some register) (Some value) command e =
      tested _ (Until (record { 0 = p }) (Sets register value)) command (λ on. (register_there register on, tt)) e

  -- a step that can be looked for
  abbrev IsGoal : Option Goal → Type 0
  IsGoal None = Unit {0}
  IsGoal (Some goal) = (goal.proc.0 < proc_count set.topo) × IsPossibleAim set goal.proc.0 goal.aim

  any_wire_goal : (a : Option ℕ) → IsGoal (any_wire set a)
  any_wire_goal None = tt
  any_wire_goal (Some w) = by_test (nat_lt w (length (wires_of set.topo))) (ltb-true w (length (wires_of set.topo)))
    where
      by_test : (b : Bool) → (b ≡ true → w < length (wires_of set.topo))
          → IsGoal (if b then Some (record { proc = record { 0 = producer_of set.topo w }; aim = SendsAny (record { 0 = w }) }) else None)
      by_test true there = let inside = there refl in (producer_few set.topo w valid inside, (inside, refl))
      by_test false there = tt

  any_word_goal : (a : Option ℕ) → IsGoal (any_word set p a)
  any_word_goal None = tt
  any_word_goal (Some address) = by_test (has_words set p address 1) (words_there address 1)
    where
      by_test : (b : Bool) → (b ≡ true → (p < tile_count set.topo) × (address + 4 * 1 ≤ memory_size))
          → IsGoal (if b then Some (record { proc = record { 0 = p }; aim = StoresAny address }) else None)
      by_test true there = let (tile, inside) = there refl in (omega (arith, tile), (tile, omega (arith, inside)))
      by_test false there = tt

  any_value_goal : (a : Option ℕ) → IsGoal (any_value set p a)
  any_value_goal None = tt
  any_value_goal (Some register) = by_test (has_register set p register) (register_there register)
    where
      by_test : (b : Bool) → (b ≡ true → p < proc_count set.topo)
          → IsGoal (if b then Some (record { proc = record { 0 = p }; aim = SetsAny register }) else None)
      by_test true there = (there refl, tt)
      by_test false there = tt

  any_goal : (word : List ℕ) (a : Option ℕ) → IsGoal (any_of set p word a)
  any_goal word a = by_tests _ _ _
    where
      by_tests : (b c d : Bool) → IsGoal (if b then any_wire set a else (if c then any_word set p a else (if d then any_value set p a else None)))
      by_tests true c d = any_wire_goal a
      by_tests false true d = any_word_goal a
      by_tests false false true = any_value_goal a
      by_tests false false false = tt

  until_goal_possible : (goal : Option Goal) (command : Command) → IsGoal goal → until_goal goal ≡ Some command → IsPossible set p command
  until_goal_possible None command there e = absurd (cc e)
  until_goal_possible (Some goal) command there e = plain (Until goal.proc goal.aim) command there e

  last_goal_possible : (goal : Option Goal) (command : Command) → IsGoal goal → last_goal goal ≡ Some command → IsPossible set p command
  last_goal_possible None command there e = absurd (cc e)
  last_goal_possible (Some goal) command there e = plain (Last goal.proc goal.aim) command there e

  -- one of two
  choice : {A : Type 0} (P : A → Type 0) (b : Bool) (x y : Option A) (z : A) → (x ≡ Some z → P z) → (y ≡ Some z → P z) → (if b then x else y) ≡ Some z → P z
  choice P true x y z first second e = first e
  choice P false x y z first second e = second e

  none_possible : (command : Command) → None ≡ Some command → IsPossible set p command
  none_possible command e = absurd (cc e)

  possible : (labels : LabelPlaces) (line : List (List ℕ)) (command : Command) → command_of labels set p line ≡ Some command → IsPossible set p command
  unfolding command_of
  possible labels [] command e = absurd (cc e)
  possible labels (word ∷ []) command e =
      choice (IsPossible set p) _ _ _ command (plain Registers command tt)
      (choice (IsPossible set p) _ _ _ command (plain Wires command tt)
      (choice (IsPossible set p) _ _ _ command (plain Waits command tt)
      (choice (IsPossible set p) _ _ _ command (plain Rest command tt)
      (choice (IsPossible set p) _ _ _ command (plain Where command tt)
      (choice (IsPossible set p) _ _ _ command (plain All command tt) (none_possible command)))))) e
  possible labels (word ∷ a ∷ []) command e =
      choice (IsPossible set p) _ _ _ command (back_possible (number_of a) command)
      (choice (IsPossible set p) _ _ _ command (forth_possible (number_of a) command)
      (choice (IsPossible set p) _ _ _ command (code_possible (number_of a) command)
      (choice (IsPossible set p) _ _ _ command (passed_possible (number_of a) command)
      (choice (IsPossible set p) _ _ _ command (plain Finish command tt) (none_possible command))))) e
  possible labels (word ∷ a ∷ b ∷ []) command e =
      choice (IsPossible set p) (bytes_eq word (codes "at")) _ _ command
      (at_possible (numbered set (number_of a)) (third_of labels p word a b) command (numbered_there (number_of a)))
      (choice (IsPossible set p) (bytes_eq word (codes "mem")) _ _ command (memory_possible (number_of a) (third_of labels p word a b) command)
      (choice (IsPossible set p) (bytes_eq word (codes "until")) _ _ command
      (choice (IsPossible set p) (bytes_eq a (codes "pc")) _ _ command (until_pc_possible (third_of labels p word a b) command)
      (until_goal_possible (any_of set p a (third_of labels p word a b)) command (any_goal a (third_of labels p word a b))))
      (choice (IsPossible set p) (bytes_eq word (codes "last")) _ _ command
      (last_goal_possible (any_of set p a (third_of labels p word a b)) command (any_goal a (third_of labels p word a b))) (none_possible command)))) e
  possible labels (word ∷ a ∷ b ∷ c ∷ []) command e =
      choice (IsPossible set p) _ _ _ command
      (choice (IsPossible set p) _ _ _ command (until_wire_possible (number_of b) (number_of c) command)
      (choice (IsPossible set p) _ _ _ command (until_memory_possible (number_of b) (number_of c) command)
      (choice (IsPossible set p) _ _ _ command (until_register_possible (number_of b) (number_of c) command)
      (choice (IsPossible set p) _ _ _ command (count_possible (numbered set (number_of b)) (number_of c) command (numbered_there (number_of b))) (none_possible command)))))
      (none_possible command) e
  possible labels (word ∷ a ∷ b ∷ c ∷ d ∷ []) command e =
      choice (IsPossible set p) _ _ _ command
      (at_possible (named set a (number_of b) (number_of c)) (number_of d) command (named_there a (number_of b) (number_of c))) (none_possible command) e
  possible labels (word ∷ a ∷ b ∷ c ∷ d ∷ f ∷ []) command e =
      choice (IsPossible set p) _ _ _ command
      (count_possible (named set b (number_of c) (number_of d)) (number_of f) command (named_there b (number_of c) (number_of d))) (none_possible command) e
  possible labels (word ∷ a ∷ b ∷ c ∷ d ∷ f ∷ g ∷ line) command e = absurd (cc e)

  says_possible : (b : Bool) (tokens : List (List ℕ)) (o : Option Command) (command : Command)
      → ((c : Command) → o ≡ Some c → IsPossible set p c) → Says command ≡ (if b then Echoes tokens else said o) → IsPossible set p command
  says_possible true tokens o command each e = absurd (cc e)
  says_possible false tokens None command each e = absurd (cc e)
  says_possible false tokens (Some own) command each e = let same : own ≡ command = cc (sym e) in each command (ap Some same)

  pub reading_possible : (labels : LabelPlaces) (line : List (List ℕ)) (read : Reading) → meant read line ≡ meaning_of labels set p line → IsPossibleReading set p read
  reading_possible labels [] (reading.Says command) e = absurd (cc e)
  reading_possible labels (token ∷ line) (reading.Says command) e =
      says_possible (is_echo token line) line (command_of labels set p (token ∷ line)) command (possible labels (token ∷ line)) e
  reading_possible labels line _ e = tt
