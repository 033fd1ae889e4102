use Rattle.std.proofs.Common.{◌≡◌, ◌≤◌, ◌++◌, length, take, drop}
use Rattle.line.proofs.transfer.next_all.Given as goal

-- so many readings have gone from the line to the places
abbrev pub invariant-loop-count : goal.invariant-loop-count
invariant-loop-count g l =
    let line = g.L.Line in
    let all = line.readings l.initial.line in
    (l.count ≤ length all) × (line.readings l.line ≡ drop l.count all) × (l.places ≡ take l.count all ++ drop l.count l.initial.places) × (line.sends l.line ≡ line.sends l.initial.line)
