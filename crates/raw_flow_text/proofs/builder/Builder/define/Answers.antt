use Rattle.std.proofs.Common.{◌≡◌, ℕ, List, length, cond, Some, None, refl, ap, ◌∙◌, arith}
use Rattle.std.specs.Option.{option_or, is_some}
use Rattle.std.specs.Str.{bytes_eq}
use Rattle.raw_asm.specs.NameTable.{value_in}
use Rattle.raw_asm.proofs.FirstNames.{added}
use Rattle.raw_flow_text.proofs.builder.Builder.define.Goals as goal

pub returns : goal.returns
returns c =
    let long : c.len-number.result ≡ length c.args.self.now.nodes.items = omega arith in
    record {
      size = refl;
      numbers = λ other.
          added c.args.self.now.numbers c.insert.new.self c.args.name.now c.len-number.result c.in_ok-insert.ensures.updates (ap is_some c.requires) other
          ∙ ap (λ n. option_or (value_in c.args.self.now.numbers other) (cond (bytes_eq c.args.name.now other) (Some n) None)) long;
      nodes = c.in_ok-push.ensures.items;
      outs = refl {A = List ℕ};
      inputs = refl {A = List ℕ};
    }
