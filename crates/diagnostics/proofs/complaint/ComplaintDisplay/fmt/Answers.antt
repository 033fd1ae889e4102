use Rattle.diagnostics.proofs.complaint.ComplaintDisplay.fmt.Goals as goal

pub returns-in-NotSet-clause-writes : goal.returns-in-NotSet-clause-writes
returns-in-NotSet-clause-writes g c = λ p e.
    rw c.in-NotSet.is (rw (c.text-name-in-NotSet.ensures.0, c.text-name-in-NotSet.ensures.1) at c.write-in-NotSet.ensures.writes p e)
