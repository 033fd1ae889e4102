use Rattle.draft.specs.Opening.{entries_of}
use Rattle.walk.proofs.Meanings.{each_reads}
use Rattle.walk.proofs.variables.variables_read.Goals as goal

pub returns : goal.returns
returns c =
    record { filled = c.walk.ensures; meaning = each_reads (entries_of c.args.draft.now) c.args.answers.now c.walk.new.answers c.walk.ensures }
