use Rattle.draft.proofs.Padding.{padded_is}
use Rattle.draft.proofs.opening.padded.Goals as goal

pub returns : goal.returns
returns c = padded_is c.args.entries.now c.copy_from_slice.new.self c.copy_from_slice.ensures.after
