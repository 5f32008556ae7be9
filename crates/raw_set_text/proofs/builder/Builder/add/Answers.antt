use Rattle.raw_set_text.specs.Entry.{entry_of}
use Rattle.raw_set_text.specs.declared.kind.SetKind.TheVariants.{Repeated}
use Rattle.raw_set_text.proofs.Building.Entries.{refused_adds, limit_fault}
use Rattle.raw_set_text.proofs.builder.Builder.add.Goals as goal

pub returns-in-Limit : goal.returns-in-Limit
returns-in-Limit c =
    refused_adds c.args.self.now c.args.self.now (entry_of c.args.declaration.now) Repeated
    (λ entries stands. rw c.in-Limit.is (limit_fault c.args.self.now entries _ stands))
