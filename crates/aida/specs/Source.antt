-- The source run: what a routine means, by its tree alone.
-- A run is given readings, and how many turns and sends it may make in all. It is finished, stops, or is stuck:
-- stuck on a variable that is unset or undeclared and on a value of the wrong type, which no checked routine is.
use Rattle.std.specs.Prelude.{ℕ, zero, suc, ◌-◌, Bool, true, false, cond, ◌&&◌, List, [], ◌∷◌, ◌++◌, length, drop, ℤ, Some, None, Ok, Err, Option, Result, ◌==◌, nat_lt}
use Rattle.tosca.specs.declared.operators.SimpleType.{SimpleType}
use Rattle.tosca.specs.declared.operators.Value.{Value}
use Rattle.tosca.specs.declared.operators.Value.TheVariants.{Number, Truth}
use Rattle.tosca.specs.declared.operators.Unary.{Unary}
use Rattle.tosca.specs.declared.operators.Binary.{Binary}
use Rattle.tosca.specs.declared.operators.Cause.{Cause}
use Rattle.tosca.specs.Arithmetic.{unary, binary}
use Rattle.tosca.specs.Trees.{Expr, const, var, uny, bin, Cmd, skip, assign, seq, choice, loop, input, output, Program}
use Rattle.aida.specs.declared.status.Status.{Status}
use Rattle.aida.specs.declared.status.Status.TheVariants.{Waiting, Held, Spent, Finished, Faulted}
use Rattle.tosca.specs.Types.{value_type, same_type, unary_type, binary_takes, binary_gives, Types, type_in}
use Rattle.aida.specs.Values.{number, value_of}

-- the readings, and the turns and sends allowed in all
pub record Given : Type 0 where
  pub readings : List ℤ
  pub turns : ℕ
  pub sends : ℕ

-- what a run has done so far: readings used, sends made, turns spent
pub record Effects : Type 0 where
  pub used : ℕ
  pub sent : List ℤ
  pub turns : ℕ

-- the value of each variable that is set
abbrev pub Variables : Type 0
Variables = ℕ → Option Value

unfoldable pub updated : Variables → ℕ → Value → Variables
updated s x v y = cond (x == y) (Some v) (s y)

-- Expressions

-- a value, a fault with its cause and node, or none: stuck
pub data Evaluated : Type 0 where
  value : Value → Evaluated
  fault : Cause → ℕ → Evaluated
  no_value : Evaluated

abbrev pub read : Option Value → Evaluated
read (Some v) = value v
read None = no_value

unfoldable pub on_value : Evaluated → (Value → Evaluated) → Evaluated
on_value (value v) k = k v
on_value (fault c n) k = fault c n
on_value no_value k = no_value

-- what the arithmetic gives at the node n, as a value of the type t
unfoldable pub computed : ℕ → SimpleType → Result ℤ Cause → Evaluated
computed n t (Ok z) = value (value_of t z)
computed n t (Err c) = fault c n

-- only for operands of the right type
unfoldable pub only_if : Bool → Evaluated → Evaluated
only_if true r = r
only_if false r = no_value

abbrev pub eval_unary : ℕ → Unary → Value → Evaluated
eval_unary n o v = only_if (same_type (value_type v) (unary_type o)) (computed n (unary_type o) (unary o (number v)))

abbrev pub eval_binary : ℕ → Binary → Value → Value → Evaluated
eval_binary n o v w =
    only_if (same_type (value_type v) (binary_takes o) && same_type (value_type w) (binary_takes o))
    (computed n (binary_gives o) (binary o (number v) (number w)))

-- the right operand first, and both always
unfoldable pub eval : Variables → Expr ℕ → Evaluated
eval s (const n v) = value v
eval s (var n x) = read (s x)
eval s (uny n o e) = on_value (eval s e) (eval_unary n o)
eval s (bin n l o r) = on_value (eval s r) (λ w. on_value (eval s l) (λ v. eval_binary n o v w))

-- Commands

pub record State : Type 0 where
  pub variables : Variables
  pub effects : Effects

-- a command goes on to the next one, stops the run, or is stuck
pub data Outcome : Type 0 where
  goes_on : State → Outcome
  stops : Status → State → Outcome
  stuck : Outcome

unfoldable pub and_then : Outcome → (State → Outcome) → Outcome
and_then (goes_on s) k = k s
and_then (stops t s) k = stops t s
and_then stuck k = stuck

unfoldable pub with_value : State → Evaluated → (Value → Outcome) → Outcome
with_value s (value v) k = k v
with_value s (fault c n) k = stops (Faulted c n) s
with_value s no_value k = stuck

abbrev pub set_variable : State → ℕ → Value → State
set_variable s x v = record { variables = updated s.variables x v; effects = s.effects }

abbrev pub spend_turn : Effects → Effects
spend_turn d = record { used = d.used; sent = d.sent; turns = suc d.turns }

abbrev pub use_reading : Effects → Effects
use_reading d = record { used = suc d.used; sent = d.sent; turns = d.turns }

abbrev pub add_send : Effects → ℤ → Effects
add_send d z = record { used = d.used; sent = d.sent ++ z ∷ []; turns = d.turns }

-- a value is assigned to a variable of its type
unfoldable pub assigned : State → ℕ → Value → Option SimpleType → Outcome
assigned s x v None = stuck
assigned s x v (Some t) = cond (same_type (value_type v) t) (goes_on (set_variable s x v)) stuck

-- the first reading that is not used, if there is one
unfoldable pub received : State → ℕ → Option SimpleType → List ℤ → Outcome
received s x None rs = stuck
received s x (Some t) [] = stops Waiting s
received s x (Some t) (z ∷ rs) = goes_on (record { variables = updated s.variables x (value_of t z); effects = use_reading s.effects })

unfoldable pub sent_if : Bool → Value → State → Outcome
sent_if true v s = goes_on (record { variables = s.variables; effects = add_send s.effects (number v) })
sent_if false v s = stops Held s

unfoldable pub branch : Value → (State → Outcome) → (State → Outcome) → State → Outcome
branch (Truth true) f g s = f s
branch (Truth false) f g s = g s
branch (Number z) f g s = stuck

-- a loop's turn after its body: one is spent, or there is none
unfoldable pub turn_if : Bool → (State → Outcome) → State → Outcome
turn_if true k s = k (record { variables = s.variables; effects = spend_turn s.effects })
turn_if false k s = stops Spent s

-- a loop tests; on T it runs its body, then what comes after it
unfoldable pub pass : Expr ℕ → (State → Outcome) → (State → Outcome) → State → Outcome
pass e body after s = with_value s (eval s.variables e) (λ v. branch v (λ t. and_then (body t) after) goes_on s)

-- a loop with at most k turns left
unfoldable pub iterate : ℕ → Given → Expr ℕ → (State → Outcome) → State → Outcome
iterate zero g e body = pass e body (stops Spent)
iterate (suc k) g e body = pass e body (λ t. turn_if (nat_lt t.effects.turns g.turns) (iterate k g e body) t)

unfoldable pub exec : Types → Given → Cmd ℕ → State → Outcome
exec ty g (skip n) s = goes_on s
exec ty g (assign n x e) s = with_value s (eval s.variables e) (λ v. assigned s x v (ty x))
exec ty g (seq n a b) s = and_then (exec ty g a s) (exec ty g b)
exec ty g (choice n e a b) s = with_value s (eval s.variables e) (λ v. branch v (exec ty g a) (exec ty g b) s)
exec ty g (loop n e c) s = iterate (g.turns - s.effects.turns) g e (exec ty g c) s
exec ty g (input n x) s = received s x (ty x) (drop s.effects.used g.readings)
exec ty g (output n e) s = with_value s (eval s.variables e) (λ v. sent_if (nat_lt (length s.effects.sent) g.sends) v s)

-- The whole run

abbrev pub no_effects : Effects
no_effects = record { used = 0; sent = []; turns = 0 }

-- every variable is unset, and nothing is done
abbrev pub initial : State
initial = record { variables = λ x. None; effects = no_effects }

-- how a run ended
pub record Ended : Type 0 where
  pub stop : Status
  pub state : State

unfoldable pub ended : Outcome → Option Ended
ended (goes_on s) = Some (record { stop = Finished; state = s })
ended (stops t s) = Some (record { stop = t; state = s })
ended stuck = None

-- the source run of a routine; none if it is stuck
abbrev pub source_run : Program ℕ → Given → Option Ended
source_run p g = ended (exec (type_in p.decls) g p.body initial)
