-- Laws of the source run.
use Rattle.std.specs.Prelude.{◌≡◌, ℕ, ◌≤◌, length, Some, nat_lt}
use Rattle.tosca.specs.Trees.{Expr, Cmd, loop, Program}
use Rattle.tosca.specs.Types.{Types}
use Rattle.aida.specs.Source.{Given, State, pass, turn_if, exec, Ended, source_run}

-- a loop tests; on F it is done, on T it runs its body, then spends a turn or stops spent, and is a loop again
abbrev pub Loops : Type 0
Loops =
    (ty : Types) (g : Given) (n : ℕ) (e : Expr ℕ) (b : Cmd ℕ) (s : State)
    → exec ty g (loop n e b) s ≡ pass e (exec ty g b) (λ t. turn_if (nat_lt t.effects.turns g.turns) (exec ty g (loop n e b)) t) s

-- no more is used, spent or sent than is given
pub record Within (g : Given) (e : Ended) : Type 0 where
  pub used : e.state.effects.used ≤ length g.readings
  pub turns : e.state.effects.turns ≤ g.turns
  pub sent : length e.state.effects.sent ≤ g.sends

abbrev pub Bounded : Type 0
Bounded = (p : Program ℕ) (g : Given) (e : Ended) → source_run p g ≡ Some e → Within g e
