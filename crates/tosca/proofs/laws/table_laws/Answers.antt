use Rattle.tosca.proofs.Entries.{faithful, written}
use Rattle.tosca.proofs.laws.table_laws.Goals as goal

pub returns : goal.returns
returns c = record { faithful = faithful; written = written }
