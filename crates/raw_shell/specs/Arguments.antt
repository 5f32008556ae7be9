-- The words of a call that both programs know.
use Rattle.std.specs.Prelude.{ℕ, ◌&&◌, List, codes, Option, Some, None, nat_le, if◌then◌else◌}
use Rattle.std.specs.Str.{bytes_eq}
use Rattle.raw_fabric_rule.specs.declared.workers.TheConstants.{MAX_WORKERS}
use Rattle.raw_shell.specs.declared.arguments.FixedText.{FixedText}
use Rattle.raw_shell.specs.declared.arguments.FixedText.TheVariants.{Help, Version}

-- the fixed text that one word asks for
unfoldable pub fixed_text : List ℕ → Option FixedText
fixed_text word =
    if bytes_eq word (codes "--help") then Some Help
    else (if bytes_eq word (codes "--version") then Some Version
    else None)

-- a fixed text, of a program whose help and version these are
abbrev pub fixed_text_by : List ℕ → List ℕ → FixedText → List ℕ
fixed_text_by help version Help = help
fixed_text_by help version Version = version

-- how many workers a number says: 1 to 64
abbrev pub workers_of : ℕ → Option ℕ
workers_of n = if nat_le 1 n && nat_le n MAX_WORKERS then Some n else None
