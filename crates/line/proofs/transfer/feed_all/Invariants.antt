use Rattle.std.proofs.Common.{◌≡◌, ◌++◌, take}
use Rattle.line.proofs.transfer.feed_all.Given as goal

-- the numbers so far were all accepted
abbrev pub invariant-loop-i : goal.invariant-loop-i
invariant-loop-i g l =
    let line = g.L.Line in
    (line.readings l.line ≡ line.readings l.initial.line ++ take l.i l.numbers) × (line.sends l.line ≡ line.sends l.initial.line)
