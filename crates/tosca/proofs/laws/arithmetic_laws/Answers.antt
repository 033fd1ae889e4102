use Rattle.tosca.proofs.Numbers.{divides, rounds, limits, kept, zeros, tested, worked}
use Rattle.tosca.proofs.laws.arithmetic_laws.Goals as goal

pub returns : goal.returns
returns c = record { divides = divides; rounds = rounds; limits = limits; kept = kept; zeros = zeros; tests = tested; worked = worked }
